-- What became of the sessions of a store and of all that they handed in (our own choice).
use Rattle.std.specs.Prelude.{◌≡◌, ℕ, suc, ◌+◌, ◌-◌, ◌≤◌, ◌==◌, ◌&&◌, Bool, true, false, List, [], ◌∷◌, ◌++◌, length, sum_by, vec_len, vec_capacity, Option, None, Some, is_some, Vec, if◌then◌else◌, ⊤}
use Rattle.std.specs.List.{AllByRecursion}
use mathlib.Core.List.{IsPrefix}
use Rattle.occ_types.specs.declared.fault.Fault.{Fault}
use Rattle.occ_types.specs.declared.fault.Fault.TheVariants as faults
use Rattle.occ_model.specs.Event.{Item}
use Rattle.occ_model.specs.World.{World}
use Rattle.occ_model.specs.Step.{Run}
use Rattle.occ_history.specs.History.{Happened, FrontView, IsWhole}
use Rattle.occ_queue.specs.declared.items.Item as code_item
use Rattle.occ_queue.specs.Items.{item_of, items_of}
use Rattle.occ_store.specs.Lanes.{LaneView, Left, Nothing, Kept, Open, Decided, is_closed, count_if}
use Rattle.occ_store.specs.Locked.{rows_in}
use Rattle.occ_store.specs.Names.{Named, opened_as}
use Rattle.occ_store.specs.Sessions.{SessionView}
use Rattle.occ_store.specs.Workers.{WorkerView}
use Rattle.occ_store.specs.declared.accounts.AccountLine as code_line

-- How many items were pushed and how many taken, the closing mark too, and how many rows were entered; the item that was taken and has not entered; and the items that were not taken, the first one first.
pub record LineView : Type 0 where
  pub pushed : ℕ
  pub taken : ℕ
  pub rows : ℕ
  pub kept : Option Item
  pub left : List Item

module _ {Z : Type 0} where
  abbrev pub kept_in : Option (code_item.Item Z) → Option Item
  kept_in None = None
  kept_in (Some item) = Some (item_of item)

  abbrev pub line_of : code_line.AccountLine Z → LineView
  line_of line = record { pushed = line.pushed; taken = line.taken; rows = line.rows; kept = kept_in line.kept; left = items_of line.left.items }

-- the item that was taken and has not entered
abbrev pub kept_of : Left → Option Item
kept_of Nothing = None
kept_of (Kept item) = Some item
kept_of (Open number token) = None
kept_of (Decided number verdict) = None

-- The line of a session and its lane. What was taken is the rows that entered, the closing mark once it entered, and the item that is kept; and what was pushed is what was taken, followed by what is left.
pub record IsLine (lane : LaneView) (session : SessionView) (line : LineView) : Type 0 where
  pub pushed : line.pushed ≡ length session.sender.pushed
  pub taken : line.taken ≡ length lane.receiver.taken
  pub rows : line.rows ≡ lane.entered
  pub kept : line.kept ≡ kept_of lane.left
  pub adds_up : line.taken ≡ line.rows + count_if (is_closed lane) + count_if (is_some line.kept)
  pub whole : session.sender.pushed ≡ lane.receiver.taken ++ line.left

-- a line for each lane and its session, in their order
abbrev pub AreLines : List LaneView → List SessionView → List LineView → Type 0
AreLines [] [] [] = ⊤
AreLines (lane ∷ lanes) (session ∷ sessions) (line ∷ lines) = IsLine lane session line × AreLines lanes sessions lines
AreLines lanes sessions lines = ⊥

-- The line of a worker. What it handed in is the rows that it entered, and the item that it keeps; and it leaves nothing that was not taken.
pub record IsWorkerLine (worker : WorkerView) (line : LineView) : Type 0 where
  pub pushed : line.pushed ≡ worker.last - worker.first
  pub taken : line.taken ≡ line.pushed
  pub rows : line.rows ≡ worker.entered
  pub kept : line.kept ≡ kept_of worker.left
  pub adds_up : line.pushed ≡ line.rows + count_if (is_some line.kept)
  pub whole : line.left ≡ []

-- a line for each worker, and then for each lane and its session
abbrev pub AreAllLines : List WorkerView → List LaneView → List SessionView → List LineView → Type 0
AreAllLines [] lanes sessions lines = AreLines lanes sessions lines
AreAllLines (worker ∷ workers) lanes sessions [] = ⊥
AreAllLines (worker ∷ workers) lanes sessions (line ∷ lines) = IsWorkerLine worker line × AreAllLines workers lanes sessions lines

-- whether workers have the numbers from this one on
abbrev pub are_hired : ℕ → List WorkerView → Bool
are_hired from [] = true
are_hired from (worker ∷ workers) = worker.session == from && are_hired (suc from) workers

-- whether lanes and sessions have the numbers from this one on, in their order
abbrev pub are_numbered : ℕ → List LaneView → List SessionView → Bool
are_numbered from [] [] = true
are_numbered from (lane ∷ lanes) (session ∷ sessions) = lane.session == from && (session.session == from && are_numbered (suc from) lanes sessions)
are_numbered from lanes sessions = false

-- whether these are all workers, lanes and sessions of a store, in the order of their numbers
abbrev pub is_complete : Named → List WorkerView → List LaneView → List SessionView → Bool
is_complete named workers lanes sessions = length workers + length lanes == named.settings.sessions
    && (length sessions == length lanes && (are_hired 1 workers && are_numbered (suc (length workers)) lanes sessions))

-- why there is no account
abbrev pub end_fault : Named → List WorkerView → List LaneView → List SessionView → Fault
end_fault named workers lanes sessions = if is_complete named workers lanes sessions then faults.Memory else faults.NoSession

-- how many rows were entered
abbrev pub rows_of : List WorkerView → List LaneView → ℕ
rows_of workers lanes = sum_by (λ worker. worker.entered) workers + sum_by (λ lane. lane.entered) lanes

-- what was seen is a beginning of the history, with all that is the party's own
abbrev pub HasSeen : List Happened → FrontView → Type 0
HasSeen story front = IsPrefix front.seen story × IsWhole front story

abbrev pub HaveSeen : {X : Type 0} → List Happened → (X → FrontView) → List X → Type 0
HaveSeen story front parties = AllByRecursion (λ party. HasSeen story (front party)) parties

-- So many rows entered: those that the history of the store brought, of which each worker and each lane has seen a beginning, with all of its own events.
pub record IsOfHistory (named : Named) (workers : List WorkerView) (lanes : List LaneView) (entered : ℕ) : Type 0 where
  pub story : List Happened
  pub world : World
  pub ran : Run (opened_as named) story world
  pub rows : entered ≡ rows_in story
  pub workers_saw : HaveSeen story (λ worker. worker.front) workers
  pub lanes_saw : HaveSeen story (λ lane. lane.front) lanes

-- a measure of what is there, and 0 of nothing
abbrev pub held : {X : Type 0} → (X → ℕ) → Option X → ℕ
held measure None = 0
held measure (Some x) = measure x

module _ {Z : Type 0} where
  -- an empty list with room for what the queue of a session has left, and one for each
  abbrev pub IsRoom : LaneView → SessionView → Vec (code_item.Item Z) Z → Type 0
  IsRoom lane session room = (room.items ≡ []) × (vec_len room ≡ 0) × (length session.sender.pushed ≤ length lane.receiver.taken + vec_capacity room)

  abbrev pub AreRooms : List LaneView → List SessionView → List (Vec (code_item.Item Z) Z) → Type 0
  AreRooms [] [] [] = ⊤
  AreRooms (lane ∷ lanes) (session ∷ sessions) (room ∷ rooms) = IsRoom lane session room × AreRooms lanes sessions rooms
  AreRooms lanes sessions rooms = ⊥
