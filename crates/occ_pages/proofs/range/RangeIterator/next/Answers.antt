use Rattle.std.proofs.Common.{◌≡◌, ◌==◌, ◌++◌, ◌∷◌, ℕ, true, List, [], length, Option, sym, ap, subst, ◌∙◌, arith}
use Rattle.std.proofs.lemmas.Bool.Decides.{nat_tests}
use Rattle.std.proofs.lemmas.List.{nil_from_length}
use Rattle.occ_pages.specs.Entries.{Ascends, within}
use Rattle.occ_pages.specs.Pages.{flatten, zipped}
use Rattle.occ_pages.proofs.Laws.{within-append, ascends-first, ascends-last}
use Rattle.occ_pages.proofs.range.RangeIterator.next.Goals as goal

none : (n : ℕ) → (n == 0) ≡ true → n ≡ 0
none n e = grind (arith, nat_tests)

-- what is left once the rows of the next page are taken in
refilled : {T : Type 0} (lower upper : Option ℕ) (keys ks : List ℕ) (rows rs : List T) (page : List (ℕ × T)) (pages rest : List (List (ℕ × T))) (value : List (ℕ × T)) → keys ≡ [] → pages ≡ page ∷ rest → zipped ks rs ≡ within lower upper page → zipped keys rows ++ within lower upper (flatten pages) ≡ value → zipped ks rs ++ within lower upper (flatten rest) ≡ value
refilled lower upper keys ks rows rs page pages rest value empty parts is all =
    ap (λ es. es ++ within lower upper (flatten rest)) is
    ∙ sym (within-append lower upper page (flatten rest))
    ∙ ap (λ ps. within lower upper (flatten ps)) (sym parts)
    ∙ ap (λ es. es ++ within lower upper (flatten pages)) (sym (ap (λ k. zipped k rows) empty))
    ∙ all

pub part-requires : goal.part-requires
part-requires g c = ascends-first c.in-Some.page.now (flatten c.in-Some.pages.now) (subst (λ ps. Ascends (flatten ps)) c.in-Some.ensures.cases.0 c.loop-page.invariant.ascends)

pub loop-page-init : goal.loop-page-init
loop-page-init g c = record { left = c.self.view_is; same = c.self.invariant.same; ascends = c.self.invariant.ascends }

pub loop-page-preserved : goal.loop-page-preserved
loop-page-preserved g c =
    let keys = c.loop-page.self-inside.keys.now in
    let empty = nil_from_length keys (none (length keys) (sym c.is_empty.ensures ∙ c.loop-page-test.true)) in
    record {
      left = refilled c.loop-page.self-inside.lower c.loop-page.self-inside.upper keys c.part.result.0.now c.loop-page.self-inside.rows.now c.part.result.1.now c.in-Some.page.now c.loop-page.self-inside.pages.now c.in-Some.pages.now _ empty c.in-Some.ensures.cases.0 c.part.ensures.within c.loop-page.invariant.left;
      same = c.part.ensures.same;
      ascends = ascends-last c.in-Some.page.now (flatten c.in-Some.pages.now) (subst (λ ps. Ascends (flatten ps)) c.in-Some.ensures.cases.0 c.loop-page.invariant.ascends);
    }

pub invariant_of-self : goal.invariant_of-self
invariant_of-self g c = record { same = c.loop-page.invariant.same; ascends = c.loop-page.invariant.ascends }
