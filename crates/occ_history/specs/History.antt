-- The history of a store, and who has seen how much of it (our own choice).
use Rattle.std.specs.Prelude.{◌≡◌, ℕ, Bool, true, false, not, ◌&&◌, ◌==◌, ◌⊎◌, List, [], ◌∷◌, ◌++◌, filter}
use mathlib.Core.List.{IsPrefix}
use Rattle.atomic_table.specs.Seated.{TableId}
use Rattle.occ_model.specs.Event.{Event, Read, Forget, Enter, Decide, WriteOne, Finish, BackUp, SerialEnd, RunAlone, Checkpoint, Reply}

-- an event, with what it replied
abbrev pub Happened : Type 0
Happened = Event × Reply

-- whose events one has all seen: nobody's, a session's, or of these its client's or its lane's. Absent is who was lent out.
pub data Party : Type 0 where
  Absent : Party
  Nobody : Party
  Session : ℕ → Party
  Client : ℕ → Party
  Lane : ℕ → Party

-- the session of an event; 0 where it has none
abbrev pub session_of : Event → ℕ
session_of (Read session number start question) = session
session_of (Forget session number) = session
session_of (Enter session item) = session
session_of (Decide session) = session
session_of (WriteOne session) = session
session_of (Finish session) = session
session_of (BackUp session) = session
session_of (SerialEnd session item) = session
session_of (RunAlone session number operations) = session
session_of Checkpoint = 0

-- whether it is an event of a read phase, which a client does; all others are a lane's
abbrev pub is_clients : Event → Bool
is_clients (Read session number start question) = true
is_clients (Forget session number) = true
is_clients (Enter session item) = false
is_clients (Decide session) = false
is_clients (WriteOne session) = false
is_clients (Finish session) = false
is_clients (BackUp session) = false
is_clients (SerialEnd session item) = false
is_clients (RunAlone session number operations) = false
is_clients Checkpoint = false

-- whether an event is a party's own
abbrev pub is_of : Party → Event → Bool
is_of Absent event = false
is_of Nobody event = false
is_of (Session session) event = session_of event == session
is_of (Client session) event = is_clients event && (session_of event == session)
is_of (Lane session) event = not (is_clients event) && (session_of event == session)

-- the party's own events, in their order
abbrev pub mine : Party → List Happened → List Happened
mine party log = filter (λ happened. is_of party happened.0) log

-- the party was not lent out
abbrev pub IsHere : Party → Type 0
IsHere Absent = ⊥
IsHere Nobody = Unit {0}
IsHere (Session session) = Unit {0}
IsHere (Client session) = Unit {0}
IsHere (Lane session) = Unit {0}

-- What clauses see of a front: whose it is, and the beginning of the history that was seen.
pub record FrontView : Type 0 where
  pub party : Party
  pub seen : List Happened

-- What clauses see of a story: the whole history, and how many sessions have a front.
pub record StoryView : Type 0 where
  pub log : List Happened
  pub sessions : ℕ

-- what stands in the place of a front that was lent out
abbrev pub absent : FrontView
absent = record { party = Absent; seen = [] }

-- the party of a session's client, and that of its lane
abbrev pub client_of : Party → Party
client_of Absent = Absent
client_of Nobody = Nobody
client_of (Session session) = Client session
client_of (Client session) = Client session
client_of (Lane session) = Nobody

abbrev pub lane_of : Party → Party
lane_of Absent = Absent
lane_of Nobody = Nobody
lane_of (Session session) = Lane session
lane_of (Client session) = Nobody
lane_of (Lane session) = Lane session

abbrev pub clients : FrontView → FrontView
clients front = record front { party = client_of front.party }

abbrev pub lanes : FrontView → FrontView
lanes front = record front { party = lane_of front.party }

-- of all that happened, nothing is the party's own that it has not seen
abbrev pub IsWhole : FrontView → List Happened → Type 0
IsWhole front log = mine front.party front.seen ≡ mine front.party log

-- what one has seen is a beginning of what the other has, with all that was the first one's own
abbrev pub Begins : FrontView → FrontView → Type 0
Begins one two = IsPrefix one.seen two.seen × IsWhole one two.seen

-- the event belongs to no session, or is the party's own
abbrev pub MayAdd : Happened → Party → Type 0
MayAdd happened party = IsHere party × ((session_of happened.0 ≡ 0) ⊎ (is_of party happened.0 ≡ true))

-- the front once it has added an event to the whole history
abbrev pub adding : FrontView → List Happened → Happened → FrontView
adding front log happened = record front { seen = log ++ happened ∷ [] }

-- a story that no store has
abbrev pub nowhere : TableId
nowhere = record { words = 0; slots = 0; views_name = 0; atom = 0; block = 0; offset = 0; slot_names = [] }
