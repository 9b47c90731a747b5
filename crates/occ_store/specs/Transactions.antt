-- What clauses see of the transaction that a body runs in, and what it is answered (our own choice).
use Rattle.std.specs.Prelude.{◌≡◌, ◌⊎◌, ℕ, Option, Result}
use Rattle.occ_types.specs.declared.fault.Fault.{Fault}
use Rattle.occ_types.specs.Question.{Question, One, Span}
use Rattle.occ_types.specs.Schema.{Schema}
use Rattle.occ_model.specs.Event.{Event, Reply}
use Rattle.occ_sets.specs.Sets.{Copied}
use Rattle.occ_open.specs.declared.pages.Page as code_page
use Rattle.occ_open.specs.Pages.{PageForm, ScansPageBy}
use Rattle.occ_open.specs.Transactions.{GetsBy, ScansBy, AbandonsBy, OrStarvesBy, WantsOwn, WantsRange}
use Rattle.occ_history.specs.History.{Party, Session, Client, FrontView}
use Rattle.occ_store.specs.Locked.{Locked, world_of, IsSameBeside, Tells}
use Rattle.occ_store.specs.Names.{Named}
use Rattle.occ_store.specs.Standing.{StandsIn, StandsInWhere}

-- Its session, the private copy where it is open, and what the session has seen of the history.
pub record TransactionView : Type 0 where
  pub session : ℕ
  pub draft : Option Copied
  pub front : FrontView

-- whose reads are those of a session: its own, or its client's
abbrev pub IsReader : Party → ℕ → Type 0
IsReader party session = (party ≡ Session session) ⊎ (party ≡ Client session)

-- a party may read for a session: for none, or its own
abbrev pub MayRead : Party → ℕ → Type 0
MayRead party session = (session ≡ 0) ⊎ IsReader party session

-- nothing of it changes but what its session has seen
abbrev pub IsSeeing : TransactionView → TransactionView → Type 0
IsSeeing before after = after ≡ record before { front = after.front }

-- what a question of it is replied, by what "nothing moves" and "this event is replied so" mean
abbrev pub AsksBy : Schema → Type 0 → (Event → Reply → Type 0) → TransactionView → Question → Reply → Type 0
AsksBy schema Stays Moves transaction (One table key) reply = GetsBy schema Stays Moves transaction.session (table, key) transaction.draft reply
AsksBy schema Stays Moves transaction (Span table lower upper) reply = ScansBy schema Stays Moves transaction.session (Span table lower upper) transaction.draft reply

-- a question of it wants memory of its own
abbrev pub WantsMemory : Schema → TransactionView → Question → Type 0
WantsMemory schema transaction (One table key) = WantsOwn schema (table, key) transaction.draft
WantsMemory schema transaction (Span table lower upper) = WantsRange schema (Span table lower upper) transaction.draft

-- it is replied so, or there is no memory for that, which moves nothing
abbrev pub AsksOrStarvesBy : Schema → Type 0 → (Event → Reply → Type 0) → TransactionView → Question → Reply → Type 0
AsksOrStarvesBy schema Stays Moves transaction question reply =
    OrStarvesBy (WantsMemory schema transaction question) Stays reply (AsksBy schema Stays Moves transaction question reply)

-- on the locked state nothing moves, or an event of a read phase happens
abbrev pub StaysOn : FrontView → Locked → FrontView → Locked → Type 0
StaysOn me old now new = (now ≡ me) × (new ≡ old)

abbrev pub ReadsOn : FrontView → Locked → FrontView → Locked → Event → Reply → Type 0
ReadsOn me old now new event reply = IsSameBeside old new × Tells me old event reply now new

-- what a question is replied on the locked state, or that there is no memory for it
abbrev pub AsksOn : TransactionView → Locked → Question → Reply → TransactionView → Locked → Type 0
AsksOn before old question reply after new = IsSeeing before after
    × AsksOrStarvesBy (world_of old).settings.schema (StaysOn before.front old after.front new) (ReadsOn before.front old after.front new) before question reply

-- What a question is replied: its own write of the key; or what stands in the history, with its own writes over it.
abbrev pub Asks : Named → TransactionView → Question → Reply → TransactionView → Type 0
Asks named before question reply after = IsSeeing before after
    × AsksBy named.settings.schema (after.front ≡ before.front) (λ event given. StandsIn named before.front event given after.front) before question reply

-- or there is no memory for that, which moves nothing
abbrev pub AsksOrStarves : Named → TransactionView → Question → Reply → TransactionView → Type 0
AsksOrStarves named before question reply after = IsSeeing before after
    × AsksOrStarvesBy named.settings.schema (after.front ≡ before.front) (λ event given. StandsIn named before.front event given after.front) before question reply

module _ {Z : Type 0} where
  -- A page on the locked state. Its question is asked in the world that the page is read in.
  abbrev pub AsksPageOn : TransactionView → Locked → PageForm → Result (code_page.Page Z) Fault → TransactionView → Locked → Type 0
  AsksPageOn before old form result after new = IsSeeing before after
      × ScansPageBy (world_of old).settings.schema (StaysOn before.front old after.front new) (ReadsOn before.front old after.front new) before.session form (form.asks (world_of old)) before.draft result

  -- A page. Its question is asked in the very world in which it stands in the history.
  abbrev pub AsksPage : Named → TransactionView → PageForm → Result (code_page.Page Z) Fault → TransactionView → Type 0
  AsksPage named before form result after = IsSeeing before after × ((asked : Question)
      × ScansPageBy named.settings.schema (after.front ≡ before.front) (λ event given. StandsInWhere named (λ old. form.asks old ≡ asked) before.front event given after.front) before.session form asked before.draft result)

-- the state forgets what it read on the locked state, if it is open
abbrev pub AbandonsOn : TransactionView → Locked → Reply → FrontView → Locked → Type 0
AbandonsOn before old reply front new = AbandonsBy (StaysOn before.front old front new) (ReadsOn before.front old front new) before.session before.draft reply

-- The state forgets what it read, if it is open.
abbrev pub AbandonsIn : Named → TransactionView → Reply → FrontView → Type 0
AbandonsIn named before reply front =
    AbandonsBy (front ≡ before.front) (λ event given. StandsIn named before.front event given front) before.session before.draft reply
