-- What the body of a transaction makes of it (our own choice).
use Rattle.std.specs.Prelude.{◌≡◌, ◌⊎◌, List, [], ◌∷◌, Option, None, Some, Result, Ok, Err, MatchResult}
use Rattle.occ_types.specs.declared.fault.Fault.{Fault}
use Rattle.occ_types.specs.declared.fault.Fault.TheVariants.{Memory}
use Rattle.occ_types.specs.Object.{Object}
use Rattle.occ_types.specs.Question.{Question, One, Span}
use Rattle.occ_types.specs.Row.{Row, Int}
use Rattle.occ_model.specs.State.{Answer}
use Rattle.occ_model.specs.Operations.{Operation, Get, Scan, Put, Delete, Add, number_in, held_sum}
use Rattle.occ_model.specs.Event.{Answered, Refused}
use Rattle.occ_open.specs.Transactions.{written, write_fault}
use Rattle.occ_store.specs.Names.{Named}
use Rattle.occ_store.specs.Transactions.{TransactionView, Asks}

-- what a run in a transaction may answer, and what it may make of the transaction then
abbrev pub Making : Type 0 → Type 0 → Type 1
Making Value Error = TransactionView → Result Value Error → TransactionView → Type 0

-- what is made in the one way is made in the other
abbrev pub Goes : {Value Error : Type 0} → Making Value Error → Making Value Error → Type 0
Goes {Value} {Error} Made Other = (before : TransactionView) (ran : Result Value Error) (after : TransactionView) → Made before ran after → Other before ran after

-- which errors of a body a fault of the store may become, by the `From` between the two
abbrev pub Becoming : Type 0 → Type 1
Becoming Error = Fault → Error → Type 0

-- an error is what became of a fault of which this holds
abbrev pub ComesOf : {Error : Type 0} → Becoming Error → (Fault → Type 0) → Error → Type 0
ComesOf Becomes Is error = (fault : Fault) × Is fault × Becomes fault error

-- a fault stays what it is, where the body's error is one
abbrev pub stays_fault : Becoming Fault
stays_fault fault error = error ≡ fault

-- What it sees then: its own write of the key, or what the state answers with its own writes over it.
abbrev pub Sees : Named → TransactionView → Question → Answer → TransactionView → Type 0
Sees named before question given after = Asks named before question (Answered given) after

-- a question is refused, or memory was refused to it, which moves nothing
abbrev pub AsksInVain : Named → TransactionView → Question → Fault → TransactionView → Type 0
AsksInVain named before question fault after = ((fault ≡ Memory) × (after ≡ before)) ⊎ Asks named before question (Refused fault) after

-- it sees so, or asks in vain
abbrev pub Asked : {X : Type 0} → (X → Answer) → Named → TransactionView → Question → Result X Fault → TransactionView → Type 0
Asked told named before question result after =
    MatchResult result (λ given. Sees named before question (told given) after) (λ fault. AsksInVain named before question fault after)

-- with one more write of its own
abbrev pub with_write : TransactionView → Object → Option Row → TransactionView
with_write transaction object row = record transaction { draft = written transaction.draft object row }

-- one operation
abbrev pub Performs : Named → Operation → TransactionView → TransactionView → Type 0
Performs named (Get table key) before after = (given : Answer) × Sees named before (One table key) given after
Performs named (Scan table lower upper) before after = (given : Answer) × Sees named before (Span table lower upper) given after
Performs named (Put table key row) before after = after ≡ with_write before (table, key) (Some row)
Performs named (Delete table key) before after = after ≡ with_write before (table, key) None
Performs named (Add table key amount) before after = (given : Answer) × (between : TransactionView) × Sees named before (One table key) given between
    × (after ≡ with_write between (table, key) (Some (Int (held_sum (number_in given) amount) ∷ [])))

-- why a write of a transaction is refused
abbrev pub write_refusal : Named → TransactionView → Object → Option Row → Option Fault
write_refusal named transaction object row = write_fault named.settings.schema object row transaction.draft

-- it is refused, or memory was refused to it, and nothing changes
abbrev pub WritesInVain : Named → TransactionView → Object → Option Row → Fault → TransactionView → Type 0
WritesInVain named before object row fault after = (after ≡ before) × ((fault ≡ Memory) ⊎ (write_refusal named before object row ≡ Some fault))

-- it is made, or in vain
abbrev pub Written : Named → TransactionView → Object → Option Row → Result (Unit {0}) Fault → TransactionView → Type 0
Written named before object row result after =
    MatchResult result (λ _. after ≡ with_write before object row) (λ fault. WritesInVain named before object row fault after)

-- an operation is refused with a fault, by its question or by its write, or memory was refused to it
abbrev pub PerformsInVain : Named → Operation → TransactionView → Fault → TransactionView → Type 0
PerformsInVain named (Get table key) before fault after = AsksInVain named before (One table key) fault after
PerformsInVain named (Scan table lower upper) before fault after = AsksInVain named before (Span table lower upper) fault after
PerformsInVain named (Put table key row) before fault after = WritesInVain named before (table, key) (Some row) fault after
PerformsInVain named (Delete table key) before fault after = WritesInVain named before (table, key) None fault after
PerformsInVain named (Add table key amount) before fault after = AsksInVain named before (One table key) fault after
    ⊎ ((given : Answer) × (between : TransactionView) × Sees named before (One table key) given between
    × WritesInVain named between (table, key) (Some (Int (held_sum (number_in given) amount) ∷ [])) fault after)

-- a run performs an operation, or it is refused
abbrev pub PerformingOne : Named → Operation → Making (Unit {0}) Fault
PerformingOne named operation before ran after =
    MatchResult ran (λ _. Performs named operation before after) (λ fault. PerformsInVain named operation before fault after)

-- a run performs all of them, or ends at the first that is refused, with its fault
abbrev pub Performing : Named → List Operation → Making (Unit {0}) Fault
Performing named [] before ran after = (ran ≡ Ok tt) × (after ≡ before)
Performing named (operation ∷ operations) before ran after =
    ((fault : Fault) × (ran ≡ Err fault) × PerformsInVain named operation before fault after)
    ⊎ ((between : TransactionView) × Performs named operation before between × Performing named operations between ran after)
