-- What clauses see of a store that has no name yet, and of what becomes of its sessions and lanes (our own choice).
use Rattle.std.specs.Prelude.{◌≡◌, ℕ, suc, ◌+◌, ◌-◌, ◌<◌, ◌≤◌, max, List, [], ◌∷◌, map, length, None}
use Rattle.std.specs.List.{All, range_with_len}
use Rattle.atomic_table.specs.Seated.{TableId}
use Rattle.boxcar.specs.Table.{Shelves}
use Rattle.occ_types.specs.Schema.{Schema}
use Rattle.occ_types.specs.declared.limits.TheConstants.{MAX_NUMBER}
use Rattle.occ_model.specs.Log.{Base, last_folded}
use Rattle.occ_model.specs.World.{resumed}
use Rattle.occ_board.specs.Rule.{Seated, Posted, fresh, unseen}
use Rattle.occ_board.specs.Words.{continued}
use Rattle.occ_queue.specs.Lanes.{Known}
use Rattle.occ_filed.specs.Filed.{Filed}
use Rattle.occ_history.specs.History.{Party, Session, Client, Lane, FrontView, StoryView}
use Rattle.occ_store.specs.Names.{Named, lane_of}
use Rattle.occ_store.specs.Sessions.{SessionView}
use Rattle.occ_store.specs.Lanes.{LaneView, unused}
use Rattle.occ_store.specs.Workers.{WorkerView, unused_worker}

-- what its name has to stand for, and the name and the parts of its ledger
pub record Framed : Type 0 where
  pub named : Named
  pub ledger : ℕ
  pub parts : ℕ

-- what becomes of a session and its lane: its number, the seat, the two ends of the queue, and the tables
pub record PartView : Type 0 where
  pub session : ℕ
  pub seat : Seated
  pub sender : Known
  pub receiver : Known
  pub schema : Schema

-- what becomes of a worker: its number, the seat, the tables, and the number that it begins behind
pub record PlaceView : Type 0 where
  pub session : ℕ
  pub seat : Seated
  pub schema : Schema
  pub last : ℕ

-- a lane that begins behind a number, and into which nothing was pushed
abbrev pub untouched : TableId → ℕ → Known
untouched lane last = record { lane = lane; before = last; pushed = []; taken = [] }

-- the seats of a board for the sessions from a number on
abbrev pub AreSeats : TableId → ℕ → List Seated → Type 0
AreSeats board from seats = seats ≡ map (fresh board) (range_with_len from (length seats))

-- what becomes of a session of this board and of these tables, behind its last number, before anything was begun or handed in
pub record IsPart (board : TableId) (schema : Schema) (session last : ℕ) (part : PartView) : Type 0 where
  pub number : part.session ≡ session
  pub seat : part.seat ≡ fresh board session
  pub sender : part.sender ≡ untouched part.receiver.lane last
  pub receiver : part.receiver ≡ untouched part.receiver.lane last
  pub tables : part.schema ≡ schema

-- what becomes of a worker of this board and of these tables, behind its last number
pub record IsPlace (board : TableId) (schema : Schema) (session last : ℕ) (place : PlaceView) : Type 0 where
  pub number : place.session ≡ session
  pub seat : place.seat ≡ fresh board session
  pub tables : place.schema ≡ schema
  pub behind : place.last ≡ last

-- what becomes of the workers from a number on
abbrev pub ArePlaces : TableId → Schema → Base → ℕ → List PlaceView → Type 0
ArePlaces board schema base from [] = Unit {0}
ArePlaces board schema base from (place ∷ places) = IsPlace board schema from (last_folded base from) place × ArePlaces board schema base (suc from) places

-- what becomes of the sessions from a number on, each behind the last number that a base has of it
abbrev pub AreParts : TableId → Schema → Base → ℕ → List PartView → Type 0
AreParts board schema base from [] = Unit {0}
AreParts board schema base from (part ∷ parts) = IsPart board schema from (last_folded base from) part × AreParts board schema base (suc from) parts

-- a lane has room for so many items, or for one where that is 0
abbrev pub HasRoomFor : ℕ → TableId → Type 0
HasRoomFor capacity lane = lane.slots ≡ max 1 capacity

-- and so do the lanes of all these parts
abbrev pub HaveRoomFor : ℕ → List PartView → Type 0
HaveRoomFor capacity = All (λ part. HasRoomFor capacity part.receiver.lane)

-- no session of so many has a last number past its limit
abbrev pub NumbersHaveRoom : Base → ℕ → Type 0
NumbersHaveRoom base sessions = (session : ℕ) → 0 < session → session ≤ sessions → last_folded base session ≤ MAX_NUMBER

-- what a name for it has to stand for
abbrev pub named_by : Filed → Posted → TableId → List PlaceView → List PartView → Named
named_by filed posted story places parts = record {
  settings = filed.world.settings;
  base = filed.world.base;
  counter = filed.world.counter;
  workers = length places;
  story = story;
  file = filed.file;
  board = posted.board;
  lanes = map (λ (p : PartView). p.receiver.lane) parts;
}

-- A frame is of a store that goes on from its base, with the counter where it stood, and its board shows that. The first sessions are workers; it has a place for each of these and a part for each other one, behind its last number, and a ledger of as many parts as there are sessions.
pub record IsFrame (filed : Filed) (handle : Shelves) (posted : Posted) (hired : List PlaceView) (made : List PartView) (cut : ℕ) : Type 0 where
  pub begun : filed.world ≡ resumed filed.world.settings filed.world.base filed.world.counter
  pub shared : handle ≡ filed.file
  pub words : posted.words ≡ continued filed.world.counter (last_folded filed.world.base) filed.world.settings.sessions
  pub count : length hired + length made ≡ filed.world.settings.sessions
  pub places : ArePlaces posted.board filed.world.settings.schema filed.world.base 1 hired
  pub parts : AreParts posted.board filed.world.settings.schema filed.world.base (suc (length hired)) made
  pub ledger : cut ≡ filed.world.settings.sessions

-- the front of a party that has seen nothing of the history
abbrev pub unseeing : Party → FrontView
unseeing party = record { party = party; seen = [] }

-- the story of a store to which nothing has happened, in which so many sessions have a front
abbrev pub seating : ℕ → StoryView
seating sessions = record { log = []; sessions = sessions }

-- a session that has done nothing yet, behind its last number, and its lane
abbrev pub fresh_session : Named → ℕ → ℕ → SessionView
fresh_session named session last = record {
  session = session;
  schema = named.settings.schema;
  seat = unseen session;
  sender = untouched (lane_of named session) last;
  draft = None;
  front = unseeing (Client session);
}

abbrev pub fresh_lane : Named → ℕ → ℕ → LaneView
fresh_lane named session last = unused session (untouched (lane_of named session) last) (unseeing (Lane session))

abbrev pub fresh_worker : Named → ℕ → ℕ → WorkerView
fresh_worker named session last = unused_worker session named.settings.schema (unseen session) last (unseeing (Session session))

-- so many workers, 1 and so on, the sessions behind the workers, and their lanes, each behind the last number that the store's base has of it
abbrev pub workers_from : Named → ℕ → List WorkerView
workers_from named count = map (λ session. fresh_worker named session (last_folded named.base session)) (range_with_len 1 count)

abbrev pub sessions_from : Named → ℕ → List SessionView
sessions_from named count = map (λ session. fresh_session named session (last_folded named.base session)) (range_with_len (suc named.workers) count)

abbrev pub lanes_from : Named → ℕ → List LaneView
lanes_from named count = map (λ session. fresh_lane named session (last_folded named.base session)) (range_with_len (suc named.workers) count)

-- the workers of a store, and its other sessions with their lanes
abbrev pub fresh_workers : Named → List WorkerView
fresh_workers named = workers_from named named.workers

abbrev pub fresh_sessions : Named → List SessionView
fresh_sessions named = sessions_from named (named.settings.sessions - named.workers)

abbrev pub fresh_lanes : Named → List LaneView
fresh_lanes named = lanes_from named (named.settings.sessions - named.workers)
