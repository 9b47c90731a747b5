-- The opponents of an entry, found without a scan of the log: the active ones through their sessions, the finished ones through the window.
use Rattle.std.proofs.Common.{◌≡◌, ℕ, zero, suc, ◌+◌, ◌≤◌, Bool, true, false, cond, ◌&&◌, ◌||◌, List, [], ◌∷◌, ◌++◌, map, Option, None, Some, refl, sym, ap, subst, ◌∙◌, arith, inl, inr, ◌⊎◌, slice_get, filter}
use Rattle.occ_log.proofs.Common.{ActiveAreHeld, AreSame, Done, FinSet, Hold, LogRow, NumberIsBelow, NumbersAreBelow, OneUnderWay, Slot, Standing, Write, active_from, active_of, active_opponents, and_true, both_ways, decided, finished_opponents, finished_within, held_from, is_active, latest, list_any, list_any-append, nat_cmp, nat_tests, standing_at}
use Rattle.std.proofs.lemmas.Map.Keys.{any_passes_from_place}
use Rattle.std.proofs.Math.Bool.{or-false}
use Rattle.std.specs.FinSet as sets
use Rattle.occ_log.proofs.Holding.{held_place}
use Rattle.occ_log.proofs.Places.{latest-first, latest-later}

-- Tests of what is chosen from a list.

any-chosen : {X Y : Type 0} (test : Y → Bool) (f : X → Y) (choose : X → Bool) (xs : List X) → list_any test (map f (filter choose xs)) ≡ list_any (λ x. choose x && test (f x)) xs
any-chosen test f choose [] = refl
any-chosen test f choose (x ∷ xs) = go (choose x) ∙ ap (λ b. (choose x && test (f x)) || b) (any-chosen test f choose xs)
  where
    go : (b : Bool) → list_any test (map f (cond b (x ∷ filter choose xs) (filter choose xs))) ≡ ((b && test (f x)) || list_any test (map f (filter choose xs)))
    go true = refl
    go false = refl

passes_at : {X : Type 0} (test : X → Bool) (xs : List X) → list_any test xs ≡ true → (k : ℕ) × (x : X) × (slice_get xs k ≡ Some x) × (test x ≡ true)
passes_at test [] some = cc
passes_at test (x ∷ xs) some = decided (test x)
    (λ here. (0, x, refl, here))
    (λ away. let r = passes_at test xs (sym (ap (λ b. b || list_any test xs) away) ∙ some) in (suc r.0, r.1, r.2, r.3))

-- The active ones.

-- the row of a session that is under way is active and passes
abbrev held_passes : (List Write → Bool) → (ℕ → Option LogRow) → Slot → Bool
held_passes test find slot = list_any test (active_of find slot)

through_sessions : (test : List Write → Bool) (find : ℕ → Option LogRow) (slots : List Slot) → list_any test (active_from find slots) ≡ list_any (held_passes test find) slots
through_sessions test find [] = refl
through_sessions test find (slot ∷ slots) =
    list_any-append test (active_of find slot) (active_from find slots) ∙ ap (λ b. held_passes test find slot || b) (through_sessions test find slots)

-- the writes of a row that is found, where it is active
abbrev found_writes : Option LogRow → List (List Write)
found_writes o = elim o [ None ↦ [] | Some row ↦ cond (is_active row.standing) (row.writes ∷ []) [] ]

one-passes : (test : List Write → Bool) (active : Bool) (writes : List Write) → list_any test (cond active (writes ∷ []) []) ≡ (active && test writes)
one-passes test true writes = or-false (test writes)
one-passes test false writes = refl

-- an active row is the latest of its session
latest_active : (log : List LogRow) (place : ℕ) (row : LogRow) → OneUnderWay log → slice_get log place ≡ Some row → is_active row.standing ≡ true → latest row.session log ≡ Some row
latest_active [] place row one there active = cc
latest_active (x ∷ xs) zero row one there active =
    let e : x ≡ row = cc in
    subst (λ r. latest r.session (x ∷ xs) ≡ Some r) e (latest-first x.session x xs (one.0 (ap (λ r. is_active r.standing) e ∙ active)) refl)
latest_active (x ∷ xs) (suc place) row one there active = latest-later row.session x row xs (latest_active xs place row one.1 there active)

-- and its session is held
held_active : (held : FinSet nat_cmp) (log : List LogRow) (place : ℕ) (row : LogRow) → ActiveAreHeld held log → slice_get log place ≡ Some row → is_active row.standing ≡ true → sets.contains held row.session ≡ true
held_active held [] place row are there active = cc
held_active held (x ∷ xs) zero row are there active = let e : x ≡ row = cc in ap (λ r. sets.contains held r.session) (sym e) ∙ are.0 (ap (λ r. is_active r.standing) e ∙ active)
held_active held (x ∷ xs) (suc place) row are there active = held_active held xs place row are.1 there active

-- each row that is found by its place stands in the log
abbrev pub FindsStanding : (ℕ → Option LogRow) → List LogRow → Type 0
FindsStanding find log = (place : ℕ) (row : LogRow) → find place ≡ Some row → (index : ℕ) × (slice_get log index ≡ Some row)

-- the row that a session has under way is found, or none of its rows stands in the log
abbrev pub IsFoundOrNone : (ℕ → Option LogRow) → List LogRow → ℕ → Hold → Type 0
IsFoundOrNone find log session hold = ((row : LogRow) × (find hold.place ≡ Some row) × (latest session log ≡ Some row)) ⊎ (latest session log ≡ None)

-- Where rows are found by their places, the active ones are those that are found through their sessions.
pub active_same : (log : List LogRow) (find : ℕ → Option LogRow) (slots : List Slot) → FindsStanding find log → OneUnderWay log → ActiveAreHeld (held_from 1 slots) log
    → ((place : ℕ) (slot : Slot) (hold : Hold) → slice_get slots place ≡ Some slot → slot.hold ≡ Some hold → IsFoundOrNone find log (suc place) hold)
    → AreSame (active_from find slots) (active_opponents log)
active_same log find slots stands one are rows test =
    through_sessions test find slots ∙ both_ways _ _ from_slots to_slots ∙ sym (any-chosen test (λ (row : LogRow). row.writes) (λ row. is_active row.standing) log)
  where
    passes : LogRow → Bool
    passes row = is_active row.standing && test row.writes

    from_slots : list_any (held_passes test find) slots ≡ true → list_any passes log ≡ true
    from_slots some = let s = passes_at (held_passes test find) slots some in held s.1.hold s.3
      where
        found : (place : ℕ) (o : Option LogRow) → find place ≡ o → list_any test (found_writes o) ≡ true → list_any passes log ≡ true
        found place None e some = cc
        found place (Some row) e some = let s = stands place row e in any_passes_from_place passes log s.0 row s.1 (sym (one-passes test (is_active row.standing) row.writes) ∙ some)

        held : (h : Option Hold) → list_any test (active_of find (record { last = 0; hold = h })) ≡ true → list_any passes log ≡ true
        held None some = cc
        held (Some hold) some = found hold.place (find hold.place) refl some

    to_slots : list_any passes log ≡ true → list_any (held_passes test find) slots ≡ true
    to_slots some =
        let r = passes_at passes log some in
        let active = (and_true (is_active r.1.standing) (test r.1.writes) r.3).0 in
        let slot = held_place slots r.1.session (held_active (held_from 1 slots) log r.0 r.1 are r.2 active) in
        any_passes_from_place (held_passes test find) slots slot.place slot.session slot.there
        (ap (λ h. list_any test (active_of find (record { last = 0; hold = h }))) slot.held
        ∙ go (suc slot.place) slot.at r.1 r.3 (ap (λ s. latest s log) (sym slot.is_number) ∙ latest_active log r.0 r.1 one r.2 active) (rows slot.place slot.session slot.at slot.there slot.held))
      where
        go : (session : ℕ) (hold : Hold) (row : LogRow) → passes row ≡ true → latest session log ≡ Some row → IsFoundOrNone find log session hold → list_any test (found_writes (find hold.place)) ≡ true
        go session hold row pass is (inl at) =
            let same : at.0 ≡ row = let e = sym at.2 ∙ is in cc in
            ap (λ o. list_any test (found_writes o)) (at.1 ∙ ap Some same) ∙ one-passes test (is_active row.standing) row.writes ∙ pass
        go session hold row pass is (inr none) = let e : None ≡ Some row = sym none ∙ is in cc

-- The finished ones.

-- some row that finished within both spans passes the test
abbrev pub some_finished : (List Write → Bool) → List LogRow → ℕ → ℕ → ℕ → Bool
some_finished test log finish low start = list_any test (finished_opponents log finish low start)

-- whether a row does
abbrev finishes : (List Write → Bool) → ℕ → ℕ → ℕ → LogRow → Bool
finishes test finish low start row = (finished_within low finish row.standing && finished_within start finish row.standing) && test row.writes

among : (test : List Write → Bool) (rows : List LogRow) (finish low start : ℕ) → some_finished test rows finish low start ≡ list_any (finishes test finish low start) rows
among test rows finish low start = any-chosen test (λ (row : LogRow). row.writes) (λ row. finished_within low finish row.standing && finished_within start finish row.standing) rows

pub any-finished : (test : List Write → Bool) (row : LogRow) (rows : List LogRow) (finish low start : ℕ) → some_finished test (row ∷ rows) finish low start
    ≡ (((finished_within low finish row.standing && finished_within start finish row.standing) && test row.writes) || some_finished test rows finish low start)
any-finished test row rows finish low start = among test (row ∷ rows) finish low start ∙ ap (λ b. finishes test finish low start row || b) (sym (among test rows finish low start))

-- a row that isn't finished adds nothing
pub finished-push : (test : List Write → Bool) (rows : List LogRow) (row : LogRow) (finish low start : ℕ) → finished_within low finish row.standing ≡ false → some_finished test (rows ++ row ∷ []) finish low start ≡ some_finished test rows finish low start
finished-push test rows row finish low start out =
    grind (arith, among test (rows ++ row ∷ []) finish low start, among test rows finish low start, list_any-append (finishes test finish low start) rows (row ∷ []), out)

-- a row that turns without finishing changes nothing
pub finished-turn : (test : List Write → Bool) (before later : List LogRow) (row : LogRow) (standing : Standing) (finish low start : ℕ)
    → finished_within low finish row.standing ≡ false → finished_within low finish standing ≡ false
    → some_finished test (before ++ standing_at row standing ∷ later) finish low start ≡ some_finished test (before ++ row ∷ later) finish low start
finished-turn test before later row standing finish low start was now =
    let own = finishes test finish low start in
    grind (arith, among test (before ++ standing_at row standing ∷ later) finish low start, among test (before ++ row ∷ later) finish low start, list_any-append own before (standing_at row standing ∷ later), list_any-append own before (row ∷ later), was, now)

-- One row more finishes: it takes the next number.
module _ (test : List Write → Bool) (counter low start : ℕ) where
  within_more : (s : Standing) → NumberIsBelow counter s → (bound : ℕ) → finished_within bound (counter + 1) s ≡ finished_within bound counter s
  within_more (Done number) below bound = grind (arith, nat_tests)
  within_more standing below bound = refl

  others_more : (rows : List LogRow) → NumbersAreBelow counter rows → some_finished test rows (counter + 1) low start ≡ some_finished test rows counter low start
  others_more [] below = refl
  others_more (x ∷ xs) below =
      grind (arith, any-finished test x xs (counter + 1) low start, any-finished test x xs counter low start, within_more x.standing below.0 low, within_more x.standing below.0 start, others_more xs below.1)

  new_within : (bound : ℕ) → bound ≤ counter → finished_within bound (counter + 1) (Done (counter + 1)) ≡ true
  new_within bound up = grind (arith, nat_tests)

  -- the row that finishes, among the others
  pub finished-more : (before later : List LogRow) (row : LogRow) → NumbersAreBelow counter (before ++ row ∷ later) → finished_within low counter row.standing ≡ false → low ≤ counter → start ≤ counter
      → some_finished test (before ++ standing_at row (Done (counter + 1)) ∷ later) (counter + 1) low start ≡ (some_finished test (before ++ row ∷ later) counter low start || test row.writes)
  finished-more [] later row below was up begun =
      grind (arith, any-finished test (standing_at row (Done (counter + 1))) later (counter + 1) low start, any-finished test row later counter low start, new_within low up, new_within start begun, others_more later below.1, was)
  finished-more (x ∷ xs) later row below was up begun =
      grind (
        arith,
        any-finished test x (xs ++ standing_at row (Done (counter + 1)) ∷ later) (counter + 1) low start,
        any-finished test x (xs ++ row ∷ later) counter low start,
        within_more x.standing below.0 low,
        within_more x.standing below.0 start,
        finished-more xs later row below.1 was up begun,
      )

-- above a start, the window's own lower end says nothing more
pub finished-low : (test : List Write → Bool) (rows : List LogRow) (finish low higher start : ℕ) → low ≤ start → higher ≤ start → some_finished test rows finish low start ≡ some_finished test rows finish higher start
finished-low test rows finish low higher start up more =
    among test rows finish low start ∙ (λ i. list_any (λ row. same row.standing i && test row.writes) rows) ∙ sym (among test rows finish higher start)
  where
    same : (s : Standing) → (finished_within low finish s && finished_within start finish s) ≡ (finished_within higher finish s && finished_within start finish s)
    same (Done number) = grind (arith, nat_tests)
    same standing = refl
