use Rattle.std.proofs.Common.{◌≡◌, ◌<◌, ◌==◌, ◌++◌, ◌∷◌, ℕ, true, List, [], length, Option, sym, ap, subst, ◌∙◌, arith, length-append, append_assoc}
use Rattle.std.proofs.lemmas.Bool.Decides.{nat_tests}
use Rattle.std.proofs.lemmas.List.{nil_from_length, append-nil}
use Rattle.occ_pages.specs.Entries.{Ascends, within}
use Rattle.occ_pages.specs.Pages.{flatten, zipped}
use Rattle.occ_pages.proofs.Laws.{within-append, ascends-first, ascends-last}
use Rattle.occ_pages.proofs.Shelves.{flatten-push}
use Rattle.occ_pages.proofs.Zipped.{zipped-append}
use Rattle.occ_pages.proofs.backward.BackwardIterator.next.Goals as goal

none : (n : ℕ) → (n == 0) ≡ true → n ≡ 0
none n e = grind (arith, nat_tests)

-- what is left once the rows of the last page are taken in
refilled : {T : Type 0} (lower upper : Option ℕ) (keys ks : List ℕ) (rows rs : List T) (page : List (ℕ × T)) (pages rest : List (List (ℕ × T))) (value : List (ℕ × T)) → keys ≡ [] → pages ≡ rest ++ page ∷ [] → zipped ks rs ≡ within lower upper page → within lower upper (flatten pages) ++ zipped keys rows ≡ value → within lower upper (flatten rest) ++ zipped ks rs ≡ value
refilled lower upper keys ks rows rs page pages rest value empty parts is all =
    ap (λ es. within lower upper (flatten rest) ++ es) is
    ∙ sym (within-append lower upper (flatten rest) page)
    ∙ ap (within lower upper) (sym (flatten-push rest page))
    ∙ ap (λ ps. within lower upper (flatten ps)) (sym parts)
    ∙ sym (append-nil (within lower upper (flatten pages)))
    ∙ ap (λ k. within lower upper (flatten pages) ++ zipped k rows) (sym empty)
    ∙ all

-- the pages before the last one are in order, and so is that one
ascends : {T : Type 0} (page : List (ℕ × T)) (pages rest : List (List (ℕ × T))) → pages ≡ rest ++ page ∷ [] → Ascends (flatten pages) → Ascends (flatten rest ++ page)
ascends page pages rest parts up = subst Ascends (ap flatten parts ∙ flatten-push rest page) up

-- the last row is taken off
taken : {T : Type 0} (front : List (ℕ × T)) (keys ks : List ℕ) (rows rs : List T) (key : ℕ) (row : T) (value : List (ℕ × T)) → front ++ zipped keys rows ≡ value → length keys ≡ length rows → keys ≡ ks ++ key ∷ [] → rows ≡ rs ++ row ∷ [] → value ≡ (front ++ zipped ks rs) ++ (key, row) ∷ []
taken front keys ks rows rs key row value all same ends others =
    let shorter : length ks ≡ length rs = omega (arith, ap length ends, ap length others, length-append ks (key ∷ []), length-append rs (row ∷ []), same) in
    sym all
    ∙ ap (λ es. front ++ es) ((λ i. zipped (ends i) (others i)) ∙ zipped-append ks (key ∷ []) rs (row ∷ []) shorter)
    ∙ sym (append_assoc front (zipped ks rs) ((key, row) ∷ []))

shorter : {X : Type 0} (all left : List X) (last : X) → all ≡ left ++ last ∷ [] → length left < length all
shorter all left last is = omega (arith, ap length is, length-append left (last ∷ []))

pub part-requires : goal.part-requires
part-requires g c = ascends-last (flatten c.in-Some.pages.now) c.in-Some.page.now (ascends c.in-Some.page.now c.loop-page.self-inside.pages.now c.in-Some.pages.now c.in-Some.ensures.cases.0 c.loop-page.invariant.ascends)

pub loop-page-preserved : goal.loop-page-preserved
loop-page-preserved g c =
    let keys = c.loop-page.self-inside.keys.now in
    let empty = nil_from_length keys (none (length keys) (sym c.is_empty.ensures ∙ c.loop-page-test.true)) in
    record {
      left = refilled c.loop-page.self-inside.lower c.loop-page.self-inside.upper keys c.part.result.0.now c.loop-page.self-inside.rows.now c.part.result.1.now c.in-Some.page.now c.loop-page.self-inside.pages.now c.in-Some.pages.now _ empty c.in-Some.ensures.cases.0 c.part.ensures.within c.loop-page.invariant.left;
      same = c.part.ensures.same;
      ascends = ascends-first (flatten c.in-Some.pages.now) c.in-Some.page.now (ascends c.in-Some.page.now c.loop-page.self-inside.pages.now c.in-Some.pages.now c.in-Some.ensures.cases.0 c.loop-page.invariant.ascends);
    }

pub returns-clause-steps : goal.returns-clause-steps
returns-clause-steps g c =
    let left = c.loop-page.self-inside in
    taken (within left.lower left.upper (flatten left.pages.now)) left.keys.now c.in-Some-split_last.keys.now left.rows.now c.in-Some-split_last-2.rows.now c.in-Some-split_last.key.now c.in-Some-split_last-2.row.now _ c.loop-page.invariant.left c.loop-page.invariant.same c.in-Some-split_last.ensures.cases.0 c.in-Some-split_last-2.ensures.cases.0

pub returns-clause-goes : goal.returns-clause-goes
returns-clause-goes g c =
    record { on = λ finite. (tt, tt, shorter _ _ _ (returns-clause-steps g c)); keeps = tt; rests = λ finite. tt }

pub loop-page-init : goal.loop-page-init
loop-page-init g c = record { left = c.self.view_is; same = c.self.invariant.same; ascends = c.self.invariant.ascends }
