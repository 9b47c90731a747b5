-- How many transactions are active: counted through the sessions, and in the log.
use Rattle.std.proofs.Common.{◌≡◌, ℕ, zero, suc, ◌+◌, ◌-◌, ◌<◌, ◌≤◌, Bool, true, false, cond, List, [], ◌∷◌, ◌++◌, drop, length, Option, None, Some, refl, sym, ap, subst, ◌∙◌, arith, length-append, append_assoc, eqb-true, eq-eqb, inl, inr, ◌==◌, ◌&&◌, nat_lt, nat_le, is_some, slice_get, if◌then◌else◌, filter, option_map}
use Rattle.std.specs.Ordering.{nat_cmp}
use Rattle.std.specs.FinSet as sets
use Rattle.std.specs.FinSet.{FinSet}
use Rattle.occ_model.specs.State.{Write}
use Rattle.occ_model.specs.Log.{LogRow, is_active}
use Rattle.occ_model.specs.World.{latest, active_count}
use Rattle.occ_model.specs.Invariant.{OneUnderWay, ActiveAreHeld}
use Rattle.occ_model.proofs.Tests as tests
use Rattle.occ_log.specs.SessionStates.{Slot, Hold, held_from, active_of, active_from}
use Rattle.std.proofs.lemmas.Bool.{lt-leb}
use Rattle.std.proofs.lemmas.Bool.Decides.{nat_tests}
use Rattle.occ_types.specs.declared.fault.Fault.TheVariants.{CounterExhausted}
use Rattle.occ_types.specs.declared.limits.TheConstants.{MAX_COUNTER}
use Rattle.occ_types.specs.Schema.{fault_if}
use Rattle.occ_core.specs.EntryFaults.{active_at, counter_fault}
use Rattle.occ_core.specs.CoreParts.{Parts, world_of, found_at, HasRow, AreSound}
use Rattle.occ_core.proofs.Placed.{from_index, before_first}
use Rattle.occ_log.proofs.Holding.{contains-held, held-is, held_place}
use Rattle.occ_log.proofs.Places.{held-get, held_latest, slice_get-below}

-- Through the sessions, one by one.

abbrev listed : Option (List Write) → List (List Write)
listed None = []
listed (Some writes) = writes ∷ []

of_row : (log : ℕ → Option LogRow) (o : Option LogRow) → (elim o as (λ _. List (List Write)) [ None ↦ [] | Some row ↦ cond (is_active row.standing) (row.writes ∷ []) [] ]) ≡ listed (elim o as (λ _. Option (List Write)) [ None ↦ None | Some row ↦ cond (is_active row.standing) (Some row.writes) None ])
of_row log None = refl
of_row log (Some row) = chosen (is_active row.standing)
  where
    chosen : (b : Bool) → cond b (row.writes ∷ []) [] ≡ listed (cond b (Some row.writes) None)
    chosen true = refl
    chosen false = refl

of_hold : (log : ℕ → Option LogRow) (h : Option Hold) → (elim h as (λ _. List (List Write)) [ None ↦ [] | Some hold ↦ elim (log hold.place) [ None ↦ [] | Some row ↦ cond (is_active row.standing) (row.writes ∷ []) [] ] ])
    ≡ listed (elim h as (λ _. Option (List Write)) [ None ↦ None | Some hold ↦ elim (log hold.place) [ None ↦ None | Some row ↦ cond (is_active row.standing) (Some row.writes) None ] ])
of_hold log None = refl
of_hold log (Some hold) = of_row log (log hold.place)

active_then : (log : ℕ → Option LogRow) (slots : List Slot) (k : ℕ) → k < length slots → active_from log (drop k slots) ≡ listed (active_at log (slice_get slots k)) ++ active_from log (drop (suc k) slots)
active_then log [] k less = absurd (omega arith)
active_then log (slot ∷ slots) zero less = ap (λ l. l ++ active_from log slots) (of_hold log slot.hold)
active_then log (slot ∷ slots) (suc k) less = active_then log slots k (omega arith)

active_next : (log : ℕ → Option LogRow) (slots : List Slot) (k : ℕ) → k < length slots → active_from log (drop k slots) ≡ listed (active_at log (slice_get slots k)) ++ active_from log (drop (k + 1) slots)
active_next log slots k less = active_then log slots k less ∙ ap (λ n. listed (active_at log (slice_get slots k)) ++ active_from log (drop n slots)) (let e : suc k ≡ k + 1 = omega arith in e)

pub active_found : (log : ℕ → Option LogRow) (slots : List Slot) (k : ℕ) (writes : List Write) → k < length slots → Some writes ≡ active_at log (slice_get slots k) → active_from log (drop k slots) ≡ writes ∷ active_from log (drop (k + 1) slots)
active_found log slots k writes less found = active_next log slots k less ∙ ap (λ o. listed o ++ active_from log (drop (k + 1) slots)) (sym found)

pub active_skipped : (log : ℕ → Option LogRow) (slots : List Slot) (k : ℕ) → k < length slots → None ≡ active_at log (slice_get slots k) → active_from log (drop k slots) ≡ active_from log (drop (k + 1) slots)
active_skipped log slots k less found = active_next log slots k less ∙ ap (λ o. listed o ++ active_from log (drop (k + 1) slots)) (sym found)

-- a session has one at most
one_at_most : (log : ℕ → Option LogRow) (slot : Slot) → length (active_of log slot) ≤ 1
one_at_most log slot = held slot.hold
  where
    chosen : (b : Bool) (writes : List Write) → length (cond b (writes ∷ []) []) ≤ 1
    chosen true writes = omega arith
    chosen false writes = omega arith

    found : (o : Option LogRow) → length (elim o as (λ _. List (List Write)) [ None ↦ [] | Some row ↦ cond (is_active row.standing) (row.writes ∷ []) [] ]) ≤ 1
    found None = omega arith
    found (Some row) = chosen (is_active row.standing) row.writes

    held : (h : Option Hold) → length (elim h as (λ _. List (List Write)) [ None ↦ [] | Some hold ↦ elim (log hold.place) [ None ↦ [] | Some row ↦ cond (is_active row.standing) (row.writes ∷ []) [] ] ]) ≤ 1
    held None = omega arith
    held (Some hold) = found (log hold.place)

-- no more are active than there are sessions
pub active_within : (log : ℕ → Option LogRow) (slots : List Slot) → length (active_from log slots) ≤ length slots
active_within log [] = omega arith
active_within log (slot ∷ slots) =
    let one = one_at_most log slot in
    let more = active_within log slots in
    let all = length-append (active_of log slot) (active_from log slots) in
    omega arith

-- where the counter has room for one of each session, it has room for those that are active
pub counter_free : (log : ℕ → Option LogRow) (slots : List Slot) (counter : ℕ) → length slots < MAX_COUNTER - counter → counter_fault counter (length (active_from log slots)) ≡ None
counter_free log slots counter room =
    let within = active_within log slots in
    ap (λ full. fault_if full CounterExhausted) (lt-leb (MAX_COUNTER - counter) (length (active_from log slots)) (omega arith))

-- In the log.

abbrev pub act : Option LogRow → ℕ
act None = 0
act (Some row) = cond (is_active row.standing) 1 0

-- the active ones among the latest rows of so many sessions from one on
abbrev tally : List LogRow → ℕ → ℕ → ℕ
tally log from zero = 0
tally log from (suc n) = act (latest from log) + tally log (suc from) n

-- a number, where a session is one of so many from one on
abbrev hit : ℕ → ℕ → ℕ → ℕ → ℕ
hit session from zero a = 0
hit session from (suc n) a = cond (session == from) a 0 + hit session (suc from) n a

plus_zero : (a b : ℕ) → b ≡ 0 → a ≡ a + b
plus_zero a b z = omega arith

act_next : (s : ℕ) (row : LogRow) (rows : List LogRow) → (is_active row.standing ≡ true → latest row.session rows ≡ None) → act (latest s (row ∷ rows)) ≡ act (latest s rows) + cond (row.session == s) (cond (is_active row.standing) 1 0) 0
act_next s row rows one = at (latest s rows) refl (row.session == s) refl
  where
    at : (o : Option LogRow) → latest s rows ≡ o → (b : Bool) → (row.session == s) ≡ b
        → act (elim o as (λ _. Option LogRow) [ None ↦ if b then Some row else None | Some later ↦ Some later ]) ≡ act o + cond b (cond (is_active row.standing) 1 0) 0
    at None e true f = omega arith
    at None e false f = omega arith
    at (Some later) e false f = omega arith
    at (Some later) e true f = tests.decided (is_active row.standing)
        (λ yes. let same : row.session ≡ s = eqb-true row.session s f in
        let none : None ≡ Some later = sym (one yes) ∙ ap (λ k. latest k rows) same ∙ e in
        cc)
        (λ no. plus_zero (act (Some later)) (cond (is_active row.standing) 1 0) (ap (λ b. cond b 1 0) no))

tally_next : (row : LogRow) (rows : List LogRow) → (is_active row.standing ≡ true → latest row.session rows ≡ None) → (from n : ℕ) → tally (row ∷ rows) from n ≡ tally rows from n + hit row.session from n (cond (is_active row.standing) 1 0)
tally_next row rows one from zero = refl
tally_next row rows one from (suc n) =
    let a = act_next from row rows one in
    let b = tally_next row rows one (suc from) n in
    sums (act (latest from (row ∷ rows))) (act (latest from rows)) (cond (row.session == from) (cond (is_active row.standing) 1 0) 0) (tally (row ∷ rows) (suc from) n) (tally rows (suc from) n) (hit row.session (suc from) n (cond (is_active row.standing) 1 0)) a b
  where
    sums : (a b c d e f : ℕ) → a ≡ b + c → d ≡ e + f → a + d ≡ (b + e) + (c + f)
    sums a b c d e f x y = omega arith

hit_is : (session from n a : ℕ) → hit session from n a ≡ cond (nat_le from session && nat_lt session (from + n)) a 0
hit_is session from zero a = grind (arith, nat_tests)
hit_is session from (suc n) a = let again = hit_is session (suc from) n a in grind (arith, nat_tests)

-- each active row is of one of so many sessions
abbrev InRange : ℕ → List LogRow → Type 0
InRange n [] = Unit {0}
InRange n (row ∷ rows) = (is_active row.standing ≡ true → (1 ≤ row.session) × (row.session ≤ n)) × InRange n rows

in_range : (slots : List Slot) (log : List LogRow) → ActiveAreHeld (held_from 1 slots) log → InRange (length slots) log
in_range slots [] held = tt
in_range slots (row ∷ rows) held = (
  λ active. let p = held_place slots row.session (held.0 active) in
      let less = slice_get-below slots p.place p.session p.there in
      let n = p.is_number in (omega arith, omega arith),
  in_range slots rows held.1,
)

abbrev pub count : List LogRow → ℕ
count log = length (filter (λ row. is_active row.standing) log)

pub count-cons : (row : LogRow) (rows : List LogRow) → count (row ∷ rows) ≡ cond (is_active row.standing) 1 0 + count rows
count-cons row rows = at (is_active row.standing)
  where
    at : (b : Bool) → length (if b then row ∷ filter (λ row. is_active row.standing) rows else filter (λ row. is_active row.standing) rows) ≡ cond b 1 0 + count rows
    at true = omega arith
    at false = omega arith

tally_empty : (from n : ℕ) → tally [] from n ≡ 0
tally_empty from zero = refl
tally_empty from (suc n) = let h = tally_empty (suc from) n in omega arith

counted : (n : ℕ) (log : List LogRow) → OneUnderWay log → InRange n log → tally log 1 n ≡ count log
counted n [] one range = tally_empty 1 n
counted n (row ∷ rows) one range =
    let t = tally_next row rows one.0 1 n in
    let r = counted n rows one.1 range.1 in
    let c = count-cons row rows in
    let h = hit_is row.session 1 n (cond (is_active row.standing) 1 0) in
    let within : hit row.session 1 n (cond (is_active row.standing) 1 0) ≡ cond (is_active row.standing) 1 0 = tests.decided (is_active row.standing)
    (λ yes. let bounds = range.0 yes in let low = bounds.0 in let high = bounds.1 in grind (arith, nat_tests))
    (λ no. grind (arith, nat_tests)) in
    omega arith

slots_tally : (log : List LogRow) (find : ℕ → Option LogRow) (slots : List Slot) (from : ℕ) → ((k : ℕ) (slot : Slot) → slice_get slots k ≡ Some slot → length (active_of find slot) ≡ act (latest (from + k) log)) → length (active_from find slots) ≡ tally log from (length slots)
slots_tally log find [] from each = refl
slots_tally log find (slot ∷ slots) from each =
    let l = length-append (active_of find slot) (active_from find slots) in
    let h = each 0 slot refl ∙ ap (λ s. act (latest s log)) (let e : from + 0 ≡ from = omega arith in e) in
    let t = slots_tally log find slots (suc from) (λ k s at. each (suc k) s at ∙ ap (λ q. act (latest q log)) (let e : from + suc k ≡ suc from + k = omega arith in e)) in
    omega arith

-- no active row is of a session that has none under way
pub idle : (slots : List Slot) (log : List LogRow) → ActiveAreHeld (held_from 1 slots) log → (s : ℕ) → sets.contains (held_from 1 slots) s ≡ false → act (latest s log) ≡ 0
idle slots [] held s out = refl
idle slots (row ∷ rows) held s out = at (idle slots rows held.1 s out) (latest s rows) refl (row.session == s) refl
  where
    at : act (latest s rows) ≡ 0 → (o : Option LogRow) → latest s rows ≡ o → (b : Bool) → (row.session == s) ≡ b → act (elim o as (λ _. Option LogRow) [ None ↦ if b then Some row else None | Some later ↦ Some later ]) ≡ 0
    at again None e false f = refl
    at again None e true f = tests.decided (is_active row.standing)
        (λ yes. let same : row.session ≡ s = eqb-true row.session s f in absurd (tests.clash (sets.contains (held_from 1 slots) s) (ap (sets.contains (held_from 1 slots)) (sym same) ∙ held.0 yes) out))
        (λ no. ap (λ b. cond b 1 0) no)
    at again (Some later) e b f = ap act (sym e) ∙ again

-- the active transactions are as many as are found through the sessions
pub active_counted : (parts : Parts) → AreSound parts → length (active_from (found_at parts) parts.slots) ≡ active_count (world_of parts)
active_counted parts sound =
    slots_tally parts.log (found_at parts) parts.slots 1 each
    ∙ counted (length parts.slots) parts.log sound.law.invariant.one_under_way (in_range parts.slots parts.log sound.law.invariant.active_held)
  where
    row_counts : (row : LogRow) → length (cond (is_active row.standing) (row.writes ∷ []) []) ≡ cond (is_active row.standing) 1 0
    row_counts row = at (is_active row.standing)
      where
        at : (b : Bool) → length (cond b (row.writes ∷ []) []) ≡ cond b 1 0
        at true = refl
        at false = refl

    each : (k : ℕ) (slot : Slot) → slice_get parts.slots k ≡ Some slot → length (active_of (found_at parts) slot) ≡ act (latest (1 + k) parts.log)
    each k slot at = of_hold' slot.hold refl
      where
        of_hold' : (h : Option Hold) → slot.hold ≡ h → length (elim h as (λ _. List (List Write)) [ None ↦ [] | Some hold ↦ elim (found_at parts hold.place) [ None ↦ [] | Some row ↦ cond (is_active row.standing) (row.writes ∷ []) [] ] ]) ≡ act (latest (1 + k) parts.log)
        of_hold' None e =
            let out : sets.contains (held_from 1 parts.slots) (1 + k) ≡ false = contains-held 1 parts.slots k ∙ held-is parts.slots k slot at ∙ ap is_some e in
            sym (idle parts.slots parts.log sound.law.invariant.active_held (1 + k) out)
        of_hold' (Some hold) e = of_row' hold ((sound.slots_true k slot at).row_is hold e)
          where
            here : (1 + k) ≡ suc k
            here = omega arith

            of_row' : (hold : Hold) → HasRow parts.base.place parts.log (suc k) hold → length (elim (found_at parts hold.place) as (λ _. List (List Write)) [ None ↦ [] | Some row ↦ cond (is_active row.standing) (row.writes ∷ []) [] ]) ≡ act (latest (1 + k) parts.log)
            of_row' hold (inl s) =
                ap (λ o. length (elim o as (λ _. List (List Write)) [ None ↦ [] | Some row ↦ cond (is_active row.standing) (row.writes ∷ []) [] ]))
                (ap (found_at parts) s.place_is ∙ from_index parts.base.place s.index parts.log ∙ held-get (suc k) s.index parts.log s.row s.there)
                ∙ row_counts s.row ∙ sym (ap act (ap (λ s. latest s parts.log) here ∙ held_latest (suc k) s.index parts.log s.row s.there))
            of_row' hold (inr g) =
                ap (λ o. length (elim o as (λ _. List (List Write)) [ None ↦ [] | Some row ↦ cond (is_active row.standing) (row.writes ∷ []) [] ])) (before_first parts.base.place hold.place parts.log g.before)
                ∙ sym (ap act (ap (λ s. latest s parts.log) here ∙ g.none))

-- What a loop over the sessions keeps.

pub some_of : {X : Type 0} (o : Option X) (f : X → List Write) (seen : Option (List Write)) → option_map f o ≡ seen → true ≡ is_some o → (writes : List Write) × (Some writes ≡ seen)
some_of None f seen e some = cc
some_of (Some x) f seen e some = (f x, e)

pub none_of : {X : Type 0} (o : Option X) (f : X → List Write) (seen : Option (List Write)) → option_map f o ≡ seen → false ≡ is_some o → None ≡ seen
none_of None f seen e none = e
none_of (Some x) f seen e none = cc

pub count_found : (log : ℕ → Option LogRow) (slots : List Slot) (k count next total : ℕ) (writes : List Write) → k < length slots → Some writes ≡ active_at log (slice_get slots k) → next ≡ count + 1
    → (count + length (active_from log (drop k slots)) ≡ total) × (count ≤ k) → (next + length (active_from log (drop (k + 1) slots)) ≡ total) × (next ≤ k + 1)
count_found log slots k count next total writes less found is was =
    let e = ap length (active_found log slots k writes less found) in
    let a = was.0 in
    let b = was.1 in
    (more count next (length (active_from log (drop k slots))) (length (active_from log (drop (k + 1) slots))) total e is a, omega arith)
  where
    more : (count next left after total : ℕ) → left ≡ suc after → next ≡ count + 1 → count + left ≡ total → next + after ≡ total
    more count next left after total e is a = omega arith

pub count_skipped : (log : ℕ → Option LogRow) (slots : List Slot) (k count next total : ℕ) → k < length slots → None ≡ active_at log (slice_get slots k) → next ≡ count
    → (count + length (active_from log (drop k slots)) ≡ total) × (count ≤ k) → (next + length (active_from log (drop (k + 1) slots)) ≡ total) × (next ≤ k + 1)
count_skipped log slots k count next total less found is was =
    let e = ap length (active_skipped log slots k less found) in
    let a = was.0 in
    let b = was.1 in
    (more count next (length (active_from log (drop k slots))) (length (active_from log (drop (k + 1) slots))) total e is a, omega arith)
  where
    more : (count next left after total : ℕ) → left ≡ after → next ≡ count → count + left ≡ total → next + after ≡ total
    more count next left after total e is a = omega arith

pub share_found : (log : ℕ → Option LogRow) (slots : List Slot) (k : ℕ) (before after : List (List Write)) (writes : List Write) → k < length slots → Some writes ≡ active_at log (slice_get slots k) → after ≡ before ++ writes ∷ []
    → (all : List (List Write)) → before ++ active_from log (drop k slots) ≡ all → after ++ active_from log (drop (k + 1) slots) ≡ all
share_found log slots k before after writes less found is all was =
    ap (λ l. l ++ active_from log (drop (k + 1) slots)) is ∙ append_assoc before (writes ∷ []) (active_from log (drop (k + 1) slots))
    ∙ ap (λ l. before ++ l) (sym (active_found log slots k writes less found)) ∙ was

pub share_skipped : (log : ℕ → Option LogRow) (slots : List Slot) (k : ℕ) (before after : List (List Write)) → k < length slots → None ≡ active_at log (slice_get slots k) → after ≡ before
    → (all : List (List Write)) → before ++ active_from log (drop k slots) ≡ all → after ++ active_from log (drop (k + 1) slots) ≡ all
share_skipped log slots k before after less found is all was =
    ap (λ l. l ++ active_from log (drop (k + 1) slots)) is ∙ ap (λ l. before ++ l) (sym (active_skipped log slots k less found)) ∙ was
