-- What a change of a vector is, to those who see it as plain data.
use Rattle.std.proofs.Common.{◌≡◌, ℕ, zero, suc, ◌+◌, ◌<◌, false, List, [], ◌∷◌, ◌++◌, get_or, length, map, Option, None, Some, refl, eqb-true, eq-eqb, sym, ap, ◌∙◌, arith, slice_get, slice_set, ◌==◌, is_some, true}
use Rattle.occ_log.proofs.Common.{ArePlaced, Case, Hold, HoldsArePlaced, LogRow, Slot, clash, decided, idle_slots, is_open, last_of, log_of, log_row_of, map-set, option_copied, option_map, slice_get-map, slice_get_read, slot_of, slots_of, standing_of, table-at}
use Rattle.std.specs.Borrow.{Bor}
use Rattle.std.specs.Slice.{IsItemAt}
use Rattle.std.proofs.lemmas.List as lists
use Rattle.occ_sets.specs.declared.log_rows.Standing as code_standing
use Rattle.occ_sets.specs.declared.log_rows.Standing.TheVariants as standings
use Rattle.occ_sets.specs.declared.log_rows.LogRow as code_row
use Rattle.occ_log.specs.declared.sessions.SessionState as code_session
use Rattle.occ_log.proofs.Places.{slice_get-other}

-- a view of each, after one was replaced
pub ruleset in_place = (map-set)

-- what is seen of what is lent
pub seen : {X Y : Type 0} (f : X → Y) (r : Option (Bor X)) → option_map (λ x. f x.now) r ≡ option_map f (option_copied r)
seen f None = refl
seen f (Some x) = refl

-- what a look-up by place in a vector answers
pub seen_at : {X Y : Type 0} (f : X → Y) (xs items : List X) (plain : List Y) (k : ℕ) (r : Option (Bor X)) → items ≡ xs → map f xs ≡ plain → IsItemAt items k r → option_map (λ x. f x.now) r ≡ slice_get plain k
seen_at {X} f xs items plain k r same view is =
    seen f r ∙ ap (option_map f) (sym (table-at xs items k r r same is refl)) ∙ sym (slice_get-map f xs k) ∙ ap (λ ys. slice_get ys k) view

-- a row that is read at a place stands there
pub row_there : {Z : Type 0} (rows : List (code_row.LogRow Z (ℕ × Case))) (k : ℕ) (row : code_row.LogRow Z (ℕ × Case)) → k < length (log_of rows) → row ≡ get_or rows k row → slice_get (log_of rows) k ≡ Some (log_row_of row)
row_there rows k row less at =
    let same = lists.length-map rows log_row_of in
    slice_get-map log_row_of rows k ∙ ap (option_map log_row_of) (slice_get_read rows (length rows) k row refl (omega arith) at)

-- a session is let go
pub let_go : {Z : Type 0} (states : List (code_session.SessionState Z)) (place : ℕ) (old : code_session.SessionState Z) (slots : List Slot) → slots_of states ≡ slots → place < length slots → old ≡ get_or states place old
    → slots_of (slice_set states place (record { last = old.last; held = None })) ≡ slice_set slots place (record { last = last_of slots place; hold = None })
let_go {Z} states place old slots view less is =
    let count = ap length view in
    let same = lists.length-map states slot_of in
    let last : last_of (slots_of states) place ≡ old.last = ap (λ o. elim o as (λ _. ℕ) [ None ↦ 0 | Some slot ↦ slot.last ]) (slice_get-map slot_of states place ∙ ap (option_map slot_of) (slice_get_read states (length states) place old refl (omega arith) is)) in
    map-set slot_of states place (record { last = old.last; held = None }) ∙ (λ i. slice_set (view i) place (record { last = sym last i; hold = None })) ∙ ap (λ l. slice_set slots place (record { last = last_of l place; hold = None })) view

-- one idle session more
pub idle-push : (count : ℕ) → idle_slots count ++ record { last = 0; hold = None } ∷ [] ≡ idle_slots (count + 1)
idle-push zero = refl
idle-push (suc count) = ap (λ l. record { last = 0; hold = None } ∷ l) (idle-push count) ∙ ap idle_slots (sym (let e : suc count + 1 ≡ suc (count + 1) = omega arith in e))

-- a standing that no case opens
pub not_open : (s : code_standing.Standing (ℕ × Case)) → ((open_case : ℕ × Case) → s ≡ standings.Open open_case → ⊥) → is_open (standing_of s) ≡ false
not_open (standings.Open open_case) not = absurd (not open_case refl)
not_open standing not = refl

pub length-map : {X Y : Type 0} (f : X → Y) (xs : List X) → length (map f xs) ≡ length xs
length-map f xs = lists.length-map xs f

-- no session is held where none has entered
pub idle-placed : (tables count : ℕ) → HoldsArePlaced tables (idle_slots count)
idle-placed tables zero k slot hold at holds = cc
idle-placed tables (suc count) zero slot hold at holds =
    let e : record { last = 0; hold = None } ≡ slot = cc in
    let n : None ≡ Some hold = ap (λ (s : Slot). s.hold) e ∙ holds in
    cc
idle-placed tables (suc count) (suc k) slot hold at holds = idle-placed tables count k slot hold at holds

-- a session that is let go, or takes a row whose writes are placed, leaves the writes of all placed
pub placed-set : (tables : ℕ) (slots : List Slot) (place : ℕ) (next : Slot) → HoldsArePlaced tables slots → ((hold : Hold) → next.hold ≡ Some hold → ArePlaced tables hold.writes) → HoldsArePlaced tables (slice_set slots place next)
placed-set tables slots place next placed own k slot hold at holds = decided (k == place)
    (λ e. let same : k ≡ place = eqb-true k place e in
    let is = at_own slots place slot (ap (slice_get (slice_set slots place next)) (sym same) ∙ at) in
    own hold (ap (λ (s : Slot). s.hold) is ∙ holds))
    (λ e. placed k slot hold (sym (slice_get-other slots place k next (λ is. clash (k == place) (eq-eqb k place is) e)) ∙ at) holds)
  where
    at_own : (xs : List Slot) (p : ℕ) (s : Slot) → slice_get (slice_set xs p next) p ≡ Some s → next ≡ s
    at_own [] p s e = cc
    at_own (x ∷ xs) zero s e = cc
    at_own (x ∷ xs) (suc p) s e = at_own xs p s e

pub placed-free : (tables : ℕ) (slots : List Slot) (place last : ℕ) → HoldsArePlaced tables slots → HoldsArePlaced tables (slice_set slots place (record { last = last; hold = None }))
placed-free tables slots place last placed = placed-set tables slots place (record { last = last; hold = None }) placed (λ hold is. cc)

-- a write that finds no memory puts a row
pub puts_some : {X : Type 0} (row : Option X) → (row ≡ None → false ≡ true) → is_some row ≡ true
puts_some None deletes = let clash : false ≡ true = deletes refl in cc
puts_some (Some x) deletes = refl
