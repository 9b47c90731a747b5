-- What a replay does with one step of a schedule (our own choice).
use Rattle.std.specs.Prelude.{◌≡◌, ℕ, true, zero, suc, ◌-◌, ◌^◌, ◌⊎◌, nat_lt, min, List, [], ◌∷◌, length, map, replicate, drop, Option, None, Some, is_some, IsSomeAnd, Result, Ok, Err, IsOkAnd, MatchOption, slice_get, slice_set}
use Rattle.std.specs.List.{position}
use Rattle.std.specs.Option.{ok_or}
use Rattle.std.specs.FinMap as finite
use Rattle.occ_types.specs.Key.{Key}
use Rattle.occ_types.specs.Object.{Object}
use Rattle.occ_types.specs.Question.{Question, One, Span}
use Rattle.occ_types.specs.Row.{Row}
use Rattle.occ_types.specs.Schema.{Schema, fault_if, first_fault, check_key, has_name}
use Rattle.occ_types.specs.declared.fault.Fault.{Fault}
use Rattle.occ_types.specs.declared.limits.TheConstants.{MAX_NUMBER, MAX_OPERATIONS}
use Rattle.occ_types.specs.declared.fault.Fault.TheVariants as faults
use Rattle.occ_model.specs.Overlay.{own}
use Rattle.occ_model.specs.World.{World, Settings, opened, resumed, low, active_count}
use Rattle.occ_model.specs.Log.{Base}
use Rattle.occ_model.specs.Refusal.{numbers_exhausted, refusal, takes_memory, has_writes_left, check_operations}
use Rattle.occ_model.specs.Operations.{Operation}
use Rattle.occ_model.specs.Operations as operations
use Rattle.occ_model.specs.Event.{Event, Item, Reply}
use Rattle.occ_model.specs.Event as events
use Rattle.occ_model.specs.Step as model
use Rattle.occ_queue.specs.Numbering.{Numbered, unused, next, with_item, is_full, refusal_of_request}
use Rattle.occ_sets.specs.Sets.{Copied}
use Rattle.occ_open.specs.Transactions.{begin_fault, begun, write_fault, written, WantsRoom, WantsRange, open_after}
use Rattle.occ_open.specs.Transactions as transactions
use Rattle.occ_text.specs.declared.steps.Act.TheVariants as acts
use Rattle.occ_core.specs.declared.steps.Step as code_step
use Rattle.occ_core.specs.declared.steps.Step.TheVariants as calls
use Rattle.occ_cli.specs.declared.answers.Answer as code_answer
use Rattle.occ_text.specs.Operations as texts
use Rattle.occ_text.specs.Steps.{Step, Does, Get, Scan, Put, Delete, Forge, RawRead, Alone, Show, Checkpoint}
use Rattle.occ_cli.specs.Answers.{Answer, answer_of}
use Rattle.occ_cli.specs.Answers as says
use Rattle.occ_cli.specs.declared.answers.Counts.{Counts}

-- One client: its open transaction, the queue of its session, and an item that was taken from it to be entered and refused.
pub record Client : Type 0 where
  pub copy : Option Copied
  pub queue : Numbered
  pub kept : Option Item

-- the store, and its clients by session
pub record Replayed : Type 0 where
  pub world : World
  pub clients : List Client

-- a client that did nothing yet
abbrev pub fresh : ℕ → Client
fresh limit = record { copy = None; queue = unused limit; kept = None }

-- a replay that begins
abbrev pub started : Settings → ℕ → Replayed
started settings limit = record { world = opened settings; clients = replicate settings.sessions (fresh limit) }

-- a replay that goes on from a base, in which no session has a number
abbrev pub going_on : Settings → Base → ℕ → Replayed
going_on settings base limit = record { world = resumed settings base 0; clients = replicate settings.sessions (fresh limit) }

-- what goes on with a value; or a fault stands in its place, is answered, and nothing changes
abbrev pub Given : {X Y : Type 0} → Result X Fault → Y → Answer → Y → (X → Type 0) → Type 0
Given (Ok x) old answer new P = P x
Given (Err fault) old answer new P = (answer ≡ says.refused fault) × (new ≡ old)

-- a value, unless there is a fault
abbrev pub unless : {X : Type 0} → Option Fault → X → Result X Fault
unless None x = Ok x
unless (Some fault) x = Err fault

-- one value after another, up to the first fault
abbrev pub and_then : {X Y : Type 0} → Result X Fault → (X → Result Y Fault) → Result Y Fault
and_then (Ok x) f = f x
and_then (Err fault) f = Err fault

-- the client of a session; sessions are numbered from 1
abbrev pub client_of : List Client → ℕ → Result Client Fault
client_of clients zero = Err faults.NoSession
client_of clients (suc place) = ok_or (slice_get clients place) faults.NoSession

-- the open transaction
abbrev pub copy_of : Client → Result Copied Fault
copy_of client = ok_or client.copy faults.NoReadOpen

-- the place of the table with a name, or the one behind the last table where none has it
abbrev pub place_named : Schema → List ℕ → ℕ
place_named schema name = elim (position (has_name name) schema) [ None ↦ length schema | Some place ↦ place ]

-- a key of the table with a name
abbrev pub object_named : Schema → List ℕ → Key → Object
object_named schema name key = (place_named schema name, key)

-- a range of the table with a name
abbrev pub span_named : Schema → List ℕ → Option Key → Option Key → Question
span_named schema name lower upper = Span (place_named schema name) lower upper

-- `begin`: the number of the next transaction
abbrev pub next_number : Client → Result ℕ Fault
next_number client = unless (first_fault (
    fault_if client.queue.closed faults.Closed
    ∷ begin_fault client.copy (next client.queue)
    ∷ [])) (next client.queue)

abbrev pub Begins : ℕ → Client → Answer → Client → Type 0
Begins counter old answer new = Given (next_number old) old answer new (λ number.
    (answer ≡ says.Begun number counter)
    × (new ≡ record old { copy = Some (begun number counter) }))

-- `put`, and `delete` where the row is none
abbrev pub Writes : Schema → Object → Option Row → Client → Answer → Client → Type 0
Writes schema object row old answer new = Given (unless (write_fault schema object row old.copy) (written old.copy object row)) old answer new (λ next.
    (answer ≡ says.Done) × (new ≡ record old { copy = next }))

-- the answer is what the open transaction is replied
abbrev pub Told : Answer → (Reply → Type 0) → Type 0
Told answer Replies = (reply : Reply) × Replies reply × (answer ≡ says.Replied reply)

-- `abandon`
abbrev pub Abandons : World → ℕ → Client → Answer → Client → World → Type 0
Abandons old session client answer next new = Told answer (λ reply.
    transactions.Abandons old session client.copy reply new × (next ≡ record client { copy = open_after client.copy reply }))

-- what a transaction is handed in as
abbrev pub request : Copied → Item
request copy = events.Request copy.number copy.start copy.writes

-- `submit`: the transaction to wait
abbrev pub submitted : Client → Result Copied Fault
submitted client = and_then (unless (fault_if client.queue.closed faults.Closed) client) (λ c.
    and_then (copy_of c) (λ copy. unless (refusal_of_request client.queue copy.number) copy))

abbrev pub Submits : Client → Answer → Client → Type 0
Submits old answer new = Given (submitted old) old answer new (λ copy.
    (answer ≡ says.Queued copy.number)
    × (new ≡ record old { copy = None; queue = with_item old.queue (request copy) }))

-- `close`: why it is refused even where there is room, and the number of the closing mark
abbrev pub close_fault : Client → Option Fault
close_fault client = first_fault (
    fault_if client.queue.closed faults.Closed
    ∷ fault_if (is_some client.copy) faults.ReadOpen
    ∷ fault_if (nat_lt MAX_NUMBER (next client.queue)) faults.NumbersExhausted
    ∷ [])

abbrev pub mark_of : Client → Result ℕ Fault
mark_of client = unless (first_fault (close_fault client ∷ fault_if (is_full client.queue) faults.QueueFull ∷ [])) (next client.queue)

abbrev pub Closes : Client → Answer → Client → Type 0
Closes old answer new = Given (mark_of old) old answer new (λ number.
    (answer ≡ says.Closing number)
    × (new ≡ record old { queue = with_item old.queue (events.Close number) }))

-- an operation, with the place of the table that it names
abbrev pub operation_named : Schema → texts.Operation → Operation
operation_named schema (texts.Get name key) = operations.Get (place_named schema name) key
operation_named schema (texts.Scan name lower upper) = operations.Scan (place_named schema name) lower upper
operation_named schema (texts.Put name key row) = operations.Put (place_named schema name) key row
operation_named schema (texts.Delete name key) = operations.Delete (place_named schema name) key
operation_named schema (texts.Add name key amount) = operations.Add (place_named schema name) key amount

-- the operations, in their order
abbrev pub operations_named : Schema → List texts.Operation → List Operation
operations_named schema = map (operation_named schema)

-- why operations have no list: the first one that doesn't fit, or that there is no memory for the list
abbrev pub IsUnlisted : Schema → List Operation → Fault → Type 0
IsUnlisted schema list fault = (check_operations schema list ≡ Some fault) ⊎ ((check_operations schema list ≡ None) × (fault ≡ faults.Memory))

-- why operations can't be handed in even where there is room, where there is a reason
abbrev pub unfit : Schema → List Operation → Client → Option Fault
unfit schema list client = first_fault (
    fault_if client.queue.closed faults.Closed
    ∷ fault_if (is_some client.copy) faults.ReadOpen
    ∷ numbers_exhausted (next client.queue)
    ∷ fault_if (nat_lt MAX_OPERATIONS (length list)) faults.SetFull
    ∷ check_operations schema list
    ∷ [])

-- `alone`: the number of the transaction that runs alone
abbrev pub handed_in : Schema → List Operation → Client → Result ℕ Fault
handed_in schema list client = and_then (unless (unfit schema list client) client) (λ c.
    unless (fault_if (is_full c.queue) faults.QueueFull) (next c.queue))

abbrev pub HandsIn : Schema → List Operation → Client → Answer → Client → Type 0
HandsIn schema list old answer new = Given (handed_in schema list old) old answer new (λ number.
    (answer ≡ says.Queued number)
    × (new ≡ record old { queue = with_item old.queue (events.Alone number list) }))

-- the answer is what the store replies to an event
abbrev pub Tells : World → Event → Answer → World → Type 0
Tells old event answer new = (reply : Reply) × model.Step old event reply new × (answer ≡ says.Replied reply)

-- `get`
abbrev pub Gets : World → ℕ → Object → Client → Answer → World → Type 0
Gets old session object client answer new = Told answer (λ reply. transactions.Gets old session object client.copy reply new)

-- `scan`
abbrev pub Scans : World → ℕ → Question → Client → Answer → World → Type 0
Scans old session question client answer new = Told answer (λ reply. transactions.Scans old session question client.copy reply new)

-- the item to be entered next: the one that was refused, or else the first one that waits
abbrev pub next_item : Client → Option Item
next_item client = elim client.kept [ None ↦ slice_get client.queue.items 0 | Some item ↦ Some item ]

-- the queue when it is taken
abbrev pub still_waiting : Client → Numbered
still_waiting client = elim client.kept [ None ↦ record client.queue { items = drop 1 client.queue.items } | Some item ↦ client.queue ]

-- a refused item is kept
abbrev pub kept_after : Item → Reply → Option Item
kept_after item (events.Refused fault) = Some item
kept_after item reply = None

-- `enter` and `serial`, by what the store is asked for an item
abbrev pub Enters : (Item → Event) → World → Client → Answer → Client → World → Type 0
Enters asks old client answer next new = MatchOption (next_item client)
    ((answer ≡ says.Empty) × (next ≡ client) × (new ≡ old))
    (λ item. (reply : Reply) × model.Step old (asks item) reply new
    × (answer ≡ says.Replied reply)
    × (next ≡ record client { queue = still_waiting client; kept = kept_after item reply }))

-- a step of one client alone
abbrev pub ByClient : Replayed → ℕ → Answer → Replayed → (Client → Client → Type 0) → Type 0
ByClient old session answer new Moves = Given (client_of old.clients session) old answer new (λ client.
    (next : Client) × Moves client next × (new ≡ record old { clients = slice_set old.clients (session - 1) next }))

-- a step of one client with the store
abbrev pub ByBoth : Replayed → ℕ → Answer → Replayed → (Client → Client → Type 0) → Type 0
ByBoth old session answer new Moves = Given (client_of old.clients session) old answer new (λ client.
    (next : Client) × Moves client next × (new.clients ≡ slice_set old.clients (session - 1) next))

-- a step of the store alone
abbrev pub ByStore : Replayed → Event → Answer → Replayed → Type 0
ByStore old event answer new = Tells old.world event answer new.world × (new.clients ≡ old.clients)

-- a step of a client that asks the store
abbrev pub ByAsking : Replayed → ℕ → Answer → Replayed → (Client → Type 0) → Type 0
ByAsking old session answer new Asks = Given (client_of old.clients session) old answer new (λ client.
    Asks client × (new.clients ≡ old.clients))

-- `show`
abbrev pub counts_of : World → Counts
counts_of world = record {
  counter = world.counter;
  low = low world;
  log = length world.log;
  state = min (finite.len world.table) (2 ^ 64 - 1);
  active = active_count world;
}

-- the store stands as it was, or has done one step
abbrev pub AtMostOneStep : World → World → Type 0
AtMostOneStep old new = (new ≡ old) ⊎ ((event : Event) × (reply : Reply) × model.Step old event reply new)

-- what a replay answers to a step, and what it then is
abbrev pub Plays : Replayed → Step → Answer → Replayed → Type 0
Plays old (Does acts.Begin session) answer new = ByClient old session answer new (λ client next. Begins old.world.counter client answer next)
Plays old (Does acts.Abandon session) answer new = ByBoth old session answer new (λ client next. Abandons old.world session client answer next new.world)
Plays old (Does acts.Submit session) answer new = ByClient old session answer new (λ client next. Submits client answer next)
Plays old (Does acts.Close session) answer new = ByClient old session answer new (λ client next. Closes client answer next)
Plays old (Does acts.Enter session) answer new = ByBoth old session answer new (λ client next. Enters (events.Enter session) old.world client answer next new.world)
Plays old (Does acts.Serial session) answer new = ByBoth old session answer new (λ client next. Enters (events.SerialEnd session) old.world client answer next new.world)
Plays old (Does acts.Decide session) answer new = ByStore old (events.Decide session) answer new
Plays old (Does acts.Write session) answer new = ByStore old (events.WriteOne session) answer new
Plays old (Does acts.Finish session) answer new = ByStore old (events.Finish session) answer new
Plays old (Does acts.BackUp session) answer new = ByStore old (events.BackUp session) answer new
Plays old (Get session name key) answer new =
    ByAsking old session answer new (λ client. Gets old.world session (object_named old.world.settings.schema name key) client answer new.world)
Plays old (Scan session name lower upper) answer new =
    ByAsking old session answer new (λ client. Scans old.world session (span_named old.world.settings.schema name lower upper) client answer new.world)
Plays old (Put session name key row) answer new =
    ByClient old session answer new (λ client next. Writes old.world.settings.schema (object_named old.world.settings.schema name key) (Some row) client answer next)
Plays old (Delete session name key) answer new =
    ByClient old session answer new (λ client next. Writes old.world.settings.schema (object_named old.world.settings.schema name key) None client answer next)
Plays old (Forge session number start) answer new = ByStore old (events.Enter session (events.Request number start [])) answer new
Plays old (RawRead session number start name key) answer new = ByStore old (events.Read session number start (One (place_named old.world.settings.schema name) key)) answer new
Plays old (Alone session list) answer new =
    ByClient old session answer new (λ client next. HandsIn old.world.settings.schema (operations_named old.world.settings.schema list) client answer next)
Plays old Show answer new = (answer ≡ says.Counted (counts_of old.world)) × (new ≡ old)
Plays old Checkpoint answer new = ByStore old events.Checkpoint answer new

-- an event that nothing refuses and that takes memory
abbrev pub Wants : World → Event → Type 0
Wants world event = (refusal world event ≡ None) × (takes_memory world event ≡ true)

-- The open transaction wants memory for `get`: for a copy of its own row, or the store does for what it answers.
abbrev pub CopyWantsGet : World → ℕ → Object → Copied → Type 0
CopyWantsGet world session object copy = (check_key world.settings.schema object.0 object.1 ≡ None) × MatchOption (own copy.writes object)
    (Wants world (events.Read session copy.number copy.start (One object.0 object.1)))
    (λ row. is_some row ≡ true)

abbrev pub WantsGet : World → ℕ → Object → Client → Type 0
WantsGet world session object client = IsSomeAnd client.copy (CopyWantsGet world session object)

-- For `scan` it wants room for the whole answer, which is taken before the store is asked.
abbrev pub WantsScan : World → Question → Client → Type 0
WantsScan world question client = WantsRange world.settings.schema question client.copy

-- For `put` and `delete` it wants room for an object that is not written yet, where there may be one more.
abbrev pub WantsWrite : Schema → Object → Option Row → Client → Type 0
WantsWrite schema object row client = (write_fault schema object row client.copy ≡ None) × WantsRoom object client.copy

-- The item to be entered next wants memory. It is kept.
abbrev pub StarvesItem : (Item → Event) → World → Client → Client → Type 0
StarvesItem asks world old new = IsSomeAnd (next_item old) (λ item.
    Wants world (asks item)
    × (new ≡ record old { queue = still_waiting old; kept = Some item }))

-- A single write wants memory to name its object, or for the row to be put; one is left.
abbrev pub WantsSingle : World → ℕ → Type 0
WantsSingle world session = (refusal world (events.WriteOne session) ≡ None) × (has_writes_left world session ≡ true)

-- For `alone` it wants room for the operations, whether or not the queue has room for them.
abbrev pub WantsList : Schema → List Operation → Client → Type 0
WantsList schema list client = unfit schema list client ≡ None

-- When a step may want memory, and what it leaves then: no refusal applies that is tried before, and nothing changed, but that an item that was to enter is kept. Only a `scan` takes memory before the store is asked. The other steps take none.
abbrev pub Starved : Replayed → Step → Replayed → Type 0
Starved old (Does acts.Enter session) new = IsOkAnd (client_of old.clients session) (λ client.
    (next : Client) × StarvesItem (events.Enter session) old.world client next × (new ≡ record old { clients = slice_set old.clients (session - 1) next }))
Starved old (Does acts.Serial session) new = IsOkAnd (client_of old.clients session) (λ client.
    (next : Client) × StarvesItem (events.SerialEnd session) old.world client next × (new ≡ record old { clients = slice_set old.clients (session - 1) next }))
Starved old (Does acts.Write session) new = WantsSingle old.world session × (new ≡ old)
Starved old (Get session name key) new = IsOkAnd (client_of old.clients session) (WantsGet old.world session (object_named old.world.settings.schema name key)) × (new ≡ old)
Starved old (Scan session name lower upper) new = IsOkAnd (client_of old.clients session) (WantsScan old.world (span_named old.world.settings.schema name lower upper)) × (new ≡ old)
Starved old (Put session name key row) new =
    IsOkAnd (client_of old.clients session) (WantsWrite old.world.settings.schema (object_named old.world.settings.schema name key) (Some row)) × (new ≡ old)
Starved old (Delete session name key) new =
    IsOkAnd (client_of old.clients session) (WantsWrite old.world.settings.schema (object_named old.world.settings.schema name key) None) × (new ≡ old)
Starved old (Forge session number start) new = Wants old.world (events.Enter session (events.Request number start [])) × (new ≡ old)
Starved old (RawRead session number start name key) new =
    Wants old.world (events.Read session number start (One (place_named old.world.settings.schema name) key)) × (new ≡ old)
Starved old (Alone session list) new =
    IsOkAnd (client_of old.clients session) (WantsList old.world.settings.schema (operations_named old.world.settings.schema list)) × (new ≡ old)
Starved old Checkpoint new = Wants old.world events.Checkpoint × (new ≡ old)
Starved old step new = ⊥

module _ {Z : Type 0} where
  -- the answer of a call; a fault is answered as a refusal
  abbrev pub played : Result (code_answer.Answer Z) Fault → Answer
  played (Ok answer) = answer_of answer
  played (Err fault) = says.refused fault

  -- a call is played so, or it wanted memory, which leaves that
  abbrev pub Played : Result (code_answer.Answer Z) Fault → Type 0 → (Answer → Type 0) → Type 0
  Played result Starves Is = ((played result ≡ says.refused faults.Memory) × Starves) ⊎ Is (played result)

  -- the same of a call that changes nothing where it wants memory
  abbrev pub PlayedIn : {S : Type 0} → S → S → Result (code_answer.Answer Z) Fault → Type 0 → (Answer → Type 0) → Type 0
  PlayedIn old new result Wanting Is = Played result (Wanting × (new ≡ old)) Is

  -- what a step of the store leaves that is put off for want of memory, before it is done
  abbrev pub PutOff : code_step.Step Z → Replayed → Replayed → Type 0
  PutOff (calls.WriteOne session) old new = WantsSingle old.world session × (new ≡ old)
  PutOff step old new = ⊥
