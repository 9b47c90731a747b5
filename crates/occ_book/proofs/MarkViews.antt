-- Slots of sessions, seen as the marks by session.
use Rattle.std.proofs.Common.{◌≡◌, ℕ, zero, suc, ◌+◌, ◌-◌, ◌<◌, ◌≤◌, true, false, cond, ◌&&◌, T, List, [], ◌∷◌, ◌++◌, Option, None, Some, is_some, length, nat_eq, count_by, refl, sym, ap, subst, ◌∙◌, arith, slice_get, slice_set, replicate, take, length-append, Less, nat_cmp, is_lt}
use Rattle.occ_book.proofs.Views.{slice_get-slice_set, both_hold}
use Rattle.occ_book.proofs.Common.{unsigned_tied, nat_tests, length-set, nat_cmp_is, nat_cmp_total, FinMap, find, get, insert, empty, entries, from_entries, from_sorted, is_sorted, get-from_entries, get-from_sorted, get-insert, entries-from_sorted, len-entries, same_map, nat_cmp-IsAntisymmetric, below_all, Marked, mark_at, marks_from, marks_of, marked_of, marks_listed}
use Rattle.std.proofs.lemmas.List.{length-replicate, take_all}
use Rattle.std.proofs.lemmas.List.Recursion.{is_count_by}
use Rattle.std.specs.FinMap as finite

-- what a slot that may be there has
abbrev pub slot_of : Option (Option ℕ) → Option ℕ
slot_of None = None
slot_of (Some slot) = slot

-- a mark of a session is found under that session alone
find-mark : (q s : ℕ) (slot : Option ℕ) (rest : List (ℕ × ℕ)) → find nat_cmp q (mark_at s slot ++ rest) ≡ cond (is_some slot && nat_eq q s) slot (find nat_cmp q rest)
find-mark q s None rest = refl
find-mark q s (Some mark) rest = ap (λ b. cond b (Some mark) (find nat_cmp q rest)) (unsigned_tied q s)

-- no mark is found of a session before the first
find-before : (q s : ℕ) (slots : List (Option ℕ)) → q < s → find nat_cmp q (marks_from s slots) ≡ None
find-before q s [] less = refl
find-before q s (None ∷ slots) less = find-before q (suc s) slots (omega arith)
find-before q s (Some mark ∷ slots) less =
    let apart : nat_eq q s ≡ false = grind (arith, nat_tests) in
    find-mark q s (Some mark) (marks_from (suc s) slots) ∙ ap (λ b. cond b (Some mark) (find nat_cmp q (marks_from (suc s) slots))) apart ∙ find-before q (suc s) slots (omega arith)

-- the mark of a session is that of its slot
find-from : (q s n : ℕ) (slots : List (Option ℕ)) → q ≡ s + n → find nat_cmp q (marks_from s slots) ≡ slot_of (slice_get slots n)
find-from q s n [] e = refl
find-from q s zero (None ∷ slots) e = find-before q (suc s) slots (omega arith)
find-from q s zero (Some mark ∷ slots) e =
    let here : nat_eq q s ≡ true = grind (arith, nat_tests) in
    find-mark q s (Some mark) (marks_from (suc s) slots) ∙ ap (λ b. cond b (Some mark) (find nat_cmp q (marks_from (suc s) slots))) here
find-from q s (suc n) (None ∷ slots) e = find-from q (suc s) n slots (omega arith)
find-from q s (suc n) (Some mark ∷ slots) e =
    let apart : nat_eq q s ≡ false = grind (arith, nat_tests) in
    find-mark q s (Some mark) (marks_from (suc s) slots) ∙ ap (λ b. cond b (Some mark) (find nat_cmp q (marks_from (suc s) slots))) apart ∙ find-from q (suc s) n slots (omega arith)

pub get-marks_of : (slots : List (Option ℕ)) (n : ℕ) → get (marks_of slots) (suc n) ≡ slot_of (slice_get slots n)
unfolding marks_of
get-marks_of slots n = get-from_entries nat_cmp_total (marks_from 1 slots) (suc n) ∙ find-from (suc n) 1 n slots (omega arith)

-- sessions are numbered from 1
pub get-marks_of-zero : (slots : List (Option ℕ)) → get (marks_of slots) 0 ≡ None
unfolding marks_of
get-marks_of-zero slots = get-from_entries nat_cmp_total (marks_from 1 slots) 0 ∙ find-before 0 1 slots (omega arith)

-- what a look-up among the slots answers
pub mark-found : (slots : List (Option ℕ)) (old : Marked) → marked_of slots ≡ old → (session : ℕ) → 0 < session → (slot : Option (Option ℕ)) → slice_get slots (session - 1) ≡ slot → slot_of slot ≡ get old.marks session
mark-found slots old view session above slot at =
    let same : suc (session - 1) ≡ session = omega arith in
    ap slot_of (sym at) ∙ sym (get-marks_of slots (session - 1)) ∙ ap (get (marks_of slots)) same ∙ ap (λ (m : Marked). get m.marks session) view

-- no mark is that of a session 0
pub mark-none : (slots : List (Option ℕ)) (old : Marked) → marked_of slots ≡ old → (session : ℕ) → session ≡ 0 → None ≡ get old.marks session
mark-none slots old view session none =
    sym (ap (λ n. get old.marks n) none ∙ sym (ap (λ (m : Marked). get m.marks 0) view) ∙ get-marks_of-zero slots)

-- one more slot without a mark adds none
pub marks_from-push : (s : ℕ) (slots : List (Option ℕ)) → marks_from s (slots ++ None ∷ []) ≡ marks_from s slots
marks_from-push s [] = refl
marks_from-push s (slot ∷ slots) = ap (λ ms. mark_at s slot ++ ms) (marks_from-push (suc s) slots)

-- slots without marks
pub marked-none : (slots : List (Option ℕ)) (n : ℕ) → length slots ≡ n → marks_from 1 slots ≡ [] → marked_of slots ≡ record { sessions = n; marks = empty }
unfolding marks_of
marked-none slots n counted none = λ i. record { sessions = counted i; marks = from_entries (none i) }

-- slots that have no mark
replicated-none : (s n : ℕ) → marks_from s (replicate n None) ≡ []
replicated-none s zero = refl
replicated-none s (suc n) = replicated-none (suc s) n

-- slots that lose their marks
pub marked-cleared : (slots new : List (Option ℕ)) (n : ℕ) (old : Marked) → marked_of slots ≡ old → n ≡ length slots → new ≡ replicate n None → marked_of new ≡ record old { marks = empty }
marked-cleared slots new n old view counted is =
    let as_many : length new ≡ old.sessions = ap length is ∙ length-replicate n None ∙ counted ∙ ap (λ (m : Marked). m.sessions) view in
    marked-none new old.sessions as_many (ap (marks_from 1) is ∙ replicated-none 1 n)

-- slots without marks behind others add none
more-none : (s n : ℕ) (slots : List (Option ℕ)) → marks_from s (slots ++ replicate n None) ≡ marks_from s slots
more-none s n [] = replicated-none s n
more-none s n (slot ∷ slots) = ap (λ ms. mark_at s slot ++ ms) (more-none (suc s) n slots)

-- slots of more sessions
pub marked-more : (slots new : List (Option ℕ)) (n : ℕ) (old : Marked) → marked_of slots ≡ old → length slots ≤ n → new ≡ slots ++ replicate (n - length slots) None → marked_of new ≡ record old { sessions = n }
unfolding marks_of
marked-more slots new n old view fewer is =
    let more = n - length slots in
    let filled : length (replicate {A = Option ℕ} more None) ≡ more = length-replicate more None in
    let as_many : length new ≡ n = ap length is ∙ length-append slots (replicate more None) ∙ omega (arith, filled) in
    let marks : marks_of new ≡ marks_of slots = ap (λ ss. from_entries (marks_from 1 ss)) is ∙ ap from_entries (more-none 1 more slots) in
    let first : marked_of new ≡ record (marked_of slots) { sessions = n } = λ i. record { sessions = as_many i; marks = marks i } in
    first ∙ ap (λ (m : Marked). record m { sessions = n }) view

-- what is only a copy of nothing is nothing
pub only-none : {X : Type 0} (IsCopy : Option X → Type 0) → ((x : X) → IsCopy (Some x) → ⊥) → (y : Option X) → IsCopy y → y ≡ None
only-none IsCopy never None is = refl
only-none IsCopy never (Some x) is = absurd (never x is)

-- a list that took in some slots, and then was filled up
pub filled-up : (slots nothing grown new : List (Option ℕ)) (n len : ℕ) → nothing ≡ [] → grown ≡ nothing ++ slots → len ≡ length grown → length slots ≤ n → new ≡ take n grown ++ replicate (n - len) None → new ≡ slots ++ replicate (n - length slots) None
filled-up slots nothing grown new n len none is counted fewer filled =
    let all : grown ≡ slots = is ∙ ap (λ xs. xs ++ slots) none in
    let count : len ≡ length slots = counted ∙ ap length all in
    filled
    ∙ (λ i. take n (all i) ++ replicate (n - count i) None)
    ∙ ap (λ xs. xs ++ replicate (n - length slots) None) (take_all n slots fewer)

-- a slot that takes a mark
slot-set : (slots : List (Option ℕ)) (n k mark : ℕ) → n < length slots → slot_of (slice_get (slice_set slots n (Some mark)) k) ≡ cond (nat_eq k n) (Some mark) (slot_of (slice_get slots k))
slot-set slots n k mark less = ap slot_of (slice_get-slice_set slots n k (Some mark) less)
    ∙ (elim (nat_eq k n) as (λ b. slot_of (cond b (Some (Some mark)) (slice_get slots k)) ≡ cond b (Some mark) (slot_of (slice_get slots k))) [
      | true ↦ refl
      | false ↦ refl
    ])

marks-set : (slots : List (Option ℕ)) (n mark : ℕ) → n < length slots → marks_of (slice_set slots n (Some mark)) ≡ insert (marks_of slots) (suc n) mark
marks-set slots n mark less = same_map nat_cmp_total nat_cmp-IsAntisymmetric _ _ at
  where
    at : (q : ℕ) → get (marks_of (slice_set slots n (Some mark))) q ≡ get (insert (marks_of slots) (suc n) mark) q
    at zero =
        let apart : nat_eq zero (suc n) ≡ false = grind (arith, nat_tests) in
        get-marks_of-zero (slice_set slots n (Some mark))
        ∙ sym (get-insert nat_cmp_total (marks_of slots) (suc n) mark zero ∙ ap (λ b. cond b (Some mark) (get (marks_of slots) zero)) (unsigned_tied zero (suc n) ∙ apart) ∙ get-marks_of-zero slots)
    at (suc k) =
        let same_test : nat_eq (suc k) (suc n) ≡ nat_eq k n = grind (arith, nat_tests) in
        get-marks_of (slice_set slots n (Some mark)) k
        ∙ slot-set slots n k mark less
        ∙ sym (get-insert nat_cmp_total (marks_of slots) (suc n) mark (suc k)
        ∙ ap (λ b. cond b (Some mark) (get (marks_of slots) (suc k))) (unsigned_tied (suc k) (suc n) ∙ same_test)
        ∙ ap (λ r. cond (nat_eq k n) (Some mark) r) (get-marks_of slots k))

-- a session takes a mark
pub marked-set : (slots : List (Option ℕ)) (session mark : ℕ) (old : Marked) → marked_of slots ≡ old → 1 ≤ session → session ≤ old.sessions → marked_of (slice_set slots (session - 1) (Some mark)) ≡ record old { marks = insert old.marks session mark }
marked-set slots session mark old view above within =
    let n = session - 1 in
    let as_many : length slots ≡ old.sessions = ap (λ (m : Marked). m.sessions) view in
    let same : suc n ≡ session = omega arith in
    let kept = length-set slots n (Some mark) in
    let marks = marks-set slots n mark (omega arith) ∙ ap (λ s. insert (marks_of slots) s mark) same in
    let first : marked_of (slice_set slots n (Some mark)) ≡ record (marked_of slots) { marks = insert (marks_of slots) session mark } = λ i. record { sessions = kept i; marks = marks i } in
    first ∙ ap (λ (m : Marked). record m { marks = insert m.marks session mark }) view

below : (q s : ℕ) (slots : List (Option ℕ)) → q < s → T (below_all nat_cmp q (marks_from s slots))
below q s [] less = tt
below q s (None ∷ slots) less = below q (suc s) slots (omega arith)
below q s (Some mark ∷ slots) less = both_hold _ _ (subst (λ o. T (is_lt o)) (nat_cmp_is q s Less less) tt) (below q (suc s) slots (omega arith))

sorted : (s : ℕ) (slots : List (Option ℕ)) → T (is_sorted nat_cmp (marks_from s slots))
sorted s [] = tt
sorted s (None ∷ slots) = sorted (suc s) slots
sorted s (Some mark ∷ slots) = both_hold _ _ (below s (suc s) slots (omega arith)) (sorted (suc s) slots)

-- the marks in their order
pub entries-marks_of : (slots : List (Option ℕ)) → entries (marks_of slots) ≡ marks_from 1 slots
unfolding marks_of
entries-marks_of slots =
    ap entries (same_map nat_cmp_total nat_cmp-IsAntisymmetric (from_entries (marks_from 1 slots)) (from_sorted (marks_from 1 slots)) (λ q. get-from_entries nat_cmp_total (marks_from 1 slots) q ∙ sym (get-from_sorted nat_cmp (marks_from 1 slots) q (sorted 1 slots))))
    ∙ entries-from_sorted nat_cmp (marks_from 1 slots) (sorted 1 slots)

-- those of the sessions in theirs
listed : (marks : FinMap nat_cmp ℕ) (s : ℕ) (slots : List (Option ℕ)) → ((n q : ℕ) → q ≡ s + n → get marks q ≡ slot_of (slice_get slots n)) → marks_listed marks s (length slots) ≡ marks_from s slots
listed marks s [] at = refl
listed marks s (slot ∷ slots) at =
    let first = at 0 s (omega arith) in
    let rest = listed marks (suc s) slots (λ n q e. at (suc n) q (omega arith)) in
    λ i. mark_at s (first i) ++ rest i

pub marked-listed : (slots : List (Option ℕ)) (old : Marked) → marked_of slots ≡ old → entries old.marks ≡ marks_listed old.marks 1 old.sessions
marked-listed slots old view =
    sym (ap (λ (m : Marked). entries m.marks) view)
    ∙ entries-marks_of slots
    ∙ sym (listed (marks_of slots) 1 slots at)
    ∙ ap (λ (m : Marked). marks_listed m.marks 1 m.sessions) view
  where
    at : (n q : ℕ) → q ≡ 1 + n → get (marks_of slots) q ≡ slot_of (slice_get slots n)
    at n q e =
        let same : q ≡ suc n = omega arith in
        ap (get (marks_of slots)) same ∙ get-marks_of slots n

-- how many slots have a mark
abbrev count_of : List (Option ℕ) → ℕ
count_of [] = 0
count_of (slot ∷ slots) = cond (is_some slot) (1 + count_of slots) (count_of slots)

counted : (s : ℕ) (slots : List (Option ℕ)) → length (marks_from s slots) ≡ count_of slots
counted s [] = refl
counted s (None ∷ slots) = counted (suc s) slots
counted s (Some mark ∷ slots) = omega (arith, counted (suc s) slots)

-- as many marks as slots that have one
pub marked-counted : (slots : List (Option ℕ)) (old : Marked) → marked_of slots ≡ old → count_by is_some slots ≡ finite.len old.marks
marked-counted slots old view =
    sym (is_count_by count_of is_some refl (λ slot slots. refl) slots) ∙ sym (counted 1 slots) ∙ sym (ap length (entries-marks_of slots)) ∙ sym (len-entries (marks_of slots)) ∙ ap (λ (m : Marked). finite.len m.marks) view
