-- The transaction that a session has open: what it writes and reads, and when its calls are refused (our own choice).
use Rattle.std.specs.Prelude.{◌≡◌, ◌⊎◌, ℕ, true, not, List, [], ◌∷◌, Option, None, Some, is_some, IsSomeAnd, MatchOption}
use Rattle.occ_types.specs.declared.fault.Fault.{Fault}
use Rattle.occ_types.specs.declared.fault.Fault.TheVariants as faults
use Rattle.occ_types.specs.Key.{Key}
use Rattle.occ_types.specs.Object.{Object}
use Rattle.occ_types.specs.Question.{Question, One, Span}
use Rattle.occ_types.specs.Row.{Row}
use Rattle.occ_types.specs.Schema.{Schema, fault_if, first_fault, check_key, check_row, check_question}
use Rattle.occ_model.specs.State.{Write, Found}
use Rattle.occ_model.specs.Overlay.{set, own, overlay}
use Rattle.occ_model.specs.World.{World}
use Rattle.occ_model.specs.Refusal.{numbers_exhausted}
use Rattle.occ_model.specs.Event.{Event, Reply, Refused, Answered, Read, Forget}
use Rattle.occ_model.specs.Step.{Step}
use Rattle.occ_sets.specs.Sets.{Copied, is_full_for}

-- why a call is refused: by the first fault that applies, or for want of memory where none does and it wants some
abbrev pub IsRefusedBy : Option Fault → Type 0 → Fault → Type 0
IsRefusedBy known Wanting fault = (known ≡ Some fault) ⊎ ((known ≡ None) × (fault ≡ faults.Memory) × Wanting)

-- `begin`: a transaction without a write, where none is open and a number beside that of the closing mark is left
abbrev pub begin_fault : Option Copied → ℕ → Option Fault
begin_fault current number = first_fault (fault_if (is_some current) faults.ReadOpen ∷ numbers_exhausted number ∷ [])

abbrev pub begun : ℕ → ℕ → Copied
begun number start = record { number = number; start = start; writes = [] }

-- none is open
abbrev pub none_open : Option Copied → Option Fault
none_open current = fault_if (not (is_some current)) faults.NoReadOpen

-- whether the row of a write fits, where it has one
abbrev pub check_written : Schema → ℕ → Option Row → Option Fault
check_written schema table None = None
check_written schema table (Some row) = check_row schema table row

-- `put`, and `delete` where the row is none, to the private copy
abbrev pub copy_fault : Schema → Object → Option Row → Copied → Option Fault
copy_fault schema object row copy = first_fault (
    check_key schema object.0 object.1
    ∷ check_written schema object.0 row
    ∷ fault_if (is_full_for copy.writes object) faults.SetFull
    ∷ [])

-- and where a transaction has to be open for it
abbrev pub write_fault : Schema → Object → Option Row → Option Copied → Option Fault
write_fault schema object row current = elim current [ None ↦ Some faults.NoReadOpen | Some copy ↦ copy_fault schema object row copy ]

-- the private copy after it
abbrev pub written : Option Copied → Object → Option Row → Option Copied
written None object row = None
written (Some copy) object row = Some (record copy { writes = set copy.writes object row })

-- it wants room for an object that is not among the own writes
abbrev pub WantsRoom : Object → Option Copied → Type 0
WantsRoom object current = IsSomeAnd current (λ copy. own copy.writes object ≡ None)

-- a call goes on, unless a fault applies: then it is refused, and the store stays
abbrev pub UnlessBy : Option Fault → (Stays : Type 0) → Reply → (Goes : Type 0) → Type 0
UnlessBy None Stays reply Goes = Goes
UnlessBy (Some fault) Stays reply Goes = (reply ≡ Refused fault) × Stays

abbrev pub Unless : Option Fault → World → Reply → World → Type 0 → Type 0
Unless known old reply new Goes = UnlessBy known (new ≡ old) reply Goes

-- a call goes on with the transaction that is open, where one is
abbrev pub WithOpenBy : Option Copied → (Stays : Type 0) → Reply → (Goes : Copied → Type 0) → Type 0
WithOpenBy None Stays reply Goes = (reply ≡ Refused faults.NoReadOpen) × Stays
WithOpenBy (Some copy) Stays reply Goes = Goes copy

abbrev pub WithOpen : Option Copied → World → Reply → World → (Copied → Type 0) → Type 0
WithOpen current old reply new Goes = WithOpenBy current (new ≡ old) reply Goes

-- `get_in`: the own write, or else what the store answers, which notes the question in the transaction's read phase; by what it means
-- that the store stays, and that an event moves it, with this reply
abbrev pub CopyGetsBy : Schema → (Stays : Type 0) → (Moves : Event → Reply → Type 0) → ℕ → Object → Copied → Reply → Type 0
CopyGetsBy schema Stays Moves session object copy reply = UnlessBy (check_key schema object.0 object.1) Stays reply (
    MatchOption (own copy.writes object)
    (Moves (Read session copy.number copy.start (One object.0 object.1)) reply)
    (λ row. (reply ≡ Answered (Found row)) × Stays))

abbrev pub GetsBy : Schema → (Stays : Type 0) → (Moves : Event → Reply → Type 0) → ℕ → Object → Option Copied → Reply → Type 0
GetsBy schema Stays Moves session object current reply = WithOpenBy current Stays reply (λ copy. CopyGetsBy schema Stays Moves session object copy reply)

-- the same in the model, whose worlds move by its steps
abbrev pub CopyGets : World → ℕ → Object → Copied → Reply → World → Type 0
CopyGets old session object copy reply new = CopyGetsBy old.settings.schema (new ≡ old) (λ event reply. Step old event reply new) session object copy reply

abbrev pub Gets : World → ℕ → Object → Option Copied → Reply → World → Type 0
Gets old session object current reply new = GetsBy old.settings.schema (new ≡ old) (λ event reply. Step old event reply new) session object current reply

-- it wants memory for a copy of its own row
abbrev pub CopyWantsOwn : Schema → Object → Copied → Type 0
CopyWantsOwn schema object copy = (check_key schema object.0 object.1 ≡ None) × IsSomeAnd (own copy.writes object) (λ row. is_some row ≡ true)

abbrev pub WantsOwn : Schema → Object → Option Copied → Type 0
WantsOwn schema object current = IsSomeAnd current (CopyWantsOwn schema object)

-- what the store replies to a question, with the own writes over it
abbrev pub overlaid : Question → List Write → Reply → Reply
overlaid question writes (Answered given) = Answered (overlay question writes given)
overlaid question writes reply = reply

-- `scan_in`: what the store answers to the whole range, with the own writes over it
abbrev pub CopyScansBy : Schema → (Stays : Type 0) → (Moves : Event → Reply → Type 0) → ℕ → Question → Copied → Reply → Type 0
CopyScansBy schema Stays Moves session question copy reply = UnlessBy (check_question schema question) Stays reply (
    (given : Reply) × Moves (Read session copy.number copy.start question) given × (reply ≡ overlaid question copy.writes given))

abbrev pub ScansBy : Schema → (Stays : Type 0) → (Moves : Event → Reply → Type 0) → ℕ → Question → Option Copied → Reply → Type 0
ScansBy schema Stays Moves session question current reply = WithOpenBy current Stays reply (λ copy. CopyScansBy schema Stays Moves session question copy reply)

abbrev pub CopyScans : World → ℕ → Question → Copied → Reply → World → Type 0
CopyScans old session question copy reply new = CopyScansBy old.settings.schema (new ≡ old) (λ event reply. Step old event reply new) session question copy reply

abbrev pub Scans : World → ℕ → Question → Option Copied → Reply → World → Type 0
Scans old session question current reply new = ScansBy old.settings.schema (new ≡ old) (λ event reply. Step old event reply new) session question current reply

-- it wants room for the whole answer, which is taken before the store is asked
abbrev pub CopyWantsRange : Schema → Question → Type 0
CopyWantsRange schema question = check_question schema question ≡ None

abbrev pub WantsRange : Schema → Question → Option Copied → Type 0
WantsRange schema question current = IsSomeAnd current (λ copy. CopyWantsRange schema question)

-- a question is for a range
abbrev pub IsSpan : Question → Type 0
IsSpan question = (table : ℕ) × (lower : Option Key) × (upper : Option Key) × (question ≡ Span table lower upper)

-- `abandon_in`: the store forgets what the transaction read
abbrev pub AbandonsBy : (Stays : Type 0) → (Moves : Event → Reply → Type 0) → ℕ → Option Copied → Reply → Type 0
AbandonsBy Stays Moves session current reply = WithOpenBy current Stays reply (λ copy. Moves (Forget session copy.number) reply)

abbrev pub Abandons : World → ℕ → Option Copied → Reply → World → Type 0
Abandons old session current reply new = AbandonsBy (new ≡ old) (λ event reply. Step old event reply new) session current reply

-- the transaction that is open then: none, unless that was refused
abbrev pub open_after : Option Copied → Reply → Option Copied
open_after current (Refused fault) = current
open_after current reply = None

-- the reply of a call; or it wanted memory, and the store stays
abbrev pub OrStarvesBy : (Wanting : Type 0) → (Stays : Type 0) → Reply → (Is : Type 0) → Type 0
OrStarvesBy Wanting Stays reply Is = ((reply ≡ Refused faults.Memory) × Wanting × Stays) ⊎ Is

abbrev pub OrStarves : Type 0 → World → Reply → World → Type 0 → Type 0
OrStarves Wanting old reply new Is = OrStarvesBy Wanting (new ≡ old) reply Is
