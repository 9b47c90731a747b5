-- What serving a lane does (our own choice).
use Rattle.std.specs.Prelude.{◌≡◌, ◌<◌, ◌⊎◌, ℕ, Bool, true, false, List, [], ◌∷◌, length, Option, None, Some, Result, Ok, Err, get_or}
use Rattle.std.specs.List.{list_any}
use mathlib.Core.List.{IsPrefix}
use Rattle.boxcar.specs.Table.{Where}
use Rattle.occ_types.specs.declared.fault.Fault.{Fault}
use Rattle.occ_types.specs.declared.fault.Fault.TheVariants.{Memory, StoreBusy}
use Rattle.occ_model.specs.Log.{Case}
use Rattle.occ_model.specs.Event.{Item}
use Rattle.occ_model.specs.Invariant.{Invariant}
use Rattle.occ_model.specs.Step.{Run}
use Rattle.occ_model.specs.declared.verdict.Verdict.{Verdict}
use Rattle.occ_model.specs.declared.verdict.Verdict.TheVariants as verdicts
use Rattle.occ_queue.specs.Items.{number_of, is_mark}
use Rattle.occ_queue.specs.Lanes.{taking}
use Rattle.occ_store.specs.declared.serving.Point.{Point}
use Rattle.occ_store.specs.declared.serving.Point.TheVariants as points
use Rattle.occ_store.specs.declared.serving.Served.{Served}
use Rattle.occ_store.specs.declared.serving.Served.TheVariants as served
use Rattle.occ_store.specs.declared.validators.Group as code_group
use Rattle.occ_store.specs.Names.{Named, opened_as}
use Rattle.occ_store.specs.Standing.{GoesOnTo}
use Rattle.occ_store.specs.Locked.{Locked, world_of}
use Rattle.occ_store.specs.Lanes.{LaneView, Left, Nothing, Kept, Open, Decided, number_left, is_open, is_closed, keeps_alone, Advances}

-- at which points of which session and number a gate may stop a lane
abbrev pub Stops : Type 1
Stops = Point → ℕ → ℕ → Type 0

-- What a lane has left at a point: an item that has not entered, a row that is not decided, one that is, or nothing.
abbrev pub StandsAt : Point → ℕ → Left → Type 0
StandsAt points.Took number left = (item : Item) × (left ≡ Kept item) × (number_of item ≡ number)
StandsAt points.Entered number left = (token : Option (Where Case)) × (left ≡ Open number token)
StandsAt points.Judged number left = (token : Option (Where Case)) × (left ≡ Open number token)
StandsAt points.Decided number left = (verdict : Verdict) × (left ≡ Decided number verdict)
StandsAt points.Wrote number left = left ≡ Decided number verdicts.Commit
StandsAt points.Settled number left = left ≡ Nothing

-- what a lane has left after an event that reached a point: nothing any more, or what it has there
abbrev pub IsAt : Point → ℕ → Left → Type 0
IsAt point number left = (left ≡ Nothing) ⊎ ((number_left left ≡ Some number) × StandsAt point number left)

-- what comes of serving what has this number, and what the lane has left then
abbrev pub ComesOf : Stops → ℕ → Result Served Fault → LaneView → Type 0
ComesOf stops number (Ok (served.Settled settled)) lane = (settled ≡ number) × (lane.left ≡ Nothing)
ComesOf stops number (Ok served.Idle) lane = ⊥
ComesOf stops number (Ok served.Busy) lane = (number_left lane.left ≡ Some number) × (keeps_alone lane.left ≡ true)
ComesOf stops number (Ok (served.Stopped point)) lane = StandsAt point number lane.left × stops point lane.session number
ComesOf stops number (Ok served.LaneClosed) lane = is_closed lane ≡ true
ComesOf stops number (Err fault) lane = number_left lane.left ≡ Some number

-- One event of a lane: what it makes of the lane and of the state of the store, to which the story led.
abbrev pub Happened : Named → LaneView → Result Point Fault → LaneView → Type 0
Happened named lane reached after = (judged : Option (Where Case)) × (old : Locked) × (new : Locked) × Invariant (world_of old) × ((world_of old).settings ≡ named.settings)
    × Run (opened_as named) old.story.log (world_of old) × Advances lane judged old reached after new

-- The lane came to this by an event of what has this number, which reached a point, or was refused, in a history that goes on from what it had seen.
abbrev pub CameBy : Named → LaneView → ℕ → Result Point Fault → LaneView → Type 0
CameBy named old number reached new = (before : LaneView) × GoesOnTo old.front before.front × (number_left before.left ≡ Some number) × Happened named before reached new

-- by one that was not refused
abbrev pub HasMoved : Named → LaneView → ℕ → LaneView → Type 0
HasMoved named old number new = (point : Point) × CameBy named old number (Ok point) new

-- or it is as it was
abbrev pub MayHaveMoved : Named → LaneView → ℕ → LaneView → Type 0
MayHaveMoved named old number new = (new ≡ old) ⊎ HasMoved named old number new

-- what is kept waits until no row is active
abbrev pub IsBusy : Fault → Left → Type 0
IsBusy fault left = (fault ≡ StoreBusy) × (keeps_alone left ≡ true)

-- On which event of what has this number an answer rests: a transaction is told as over by an event that ended it, and what is refused was refused by the store. Where an item was taken, and before a decision, there may have been none.
abbrev pub RestsOn : Named → LaneView → ℕ → Result Served Fault → LaneView → Type 0
RestsOn named old number (Ok (served.Settled settled)) new = HasMoved named old number new
RestsOn named old number (Ok served.Idle) new = ⊥
RestsOn named old number (Ok served.Busy) new = CameBy named old number (Err StoreBusy) new
RestsOn named old number (Ok (served.Stopped points.Took)) new = MayHaveMoved named old number new
RestsOn named old number (Ok (served.Stopped points.Entered)) new = HasMoved named old number new
RestsOn named old number (Ok (served.Stopped points.Judged)) new = MayHaveMoved named old number new
RestsOn named old number (Ok (served.Stopped points.Decided)) new = HasMoved named old number new
RestsOn named old number (Ok (served.Stopped points.Wrote)) new = HasMoved named old number new
RestsOn named old number (Ok (served.Stopped points.Settled)) new = HasMoved named old number new
RestsOn named old number (Ok served.LaneClosed) new = HasMoved named old number new
RestsOn named old number (Err fault) new = CameBy named old number (Err fault) new × (IsBusy fault new.left → ⊥)

-- how it may be told that an event was not refused
abbrev pub TellsOfMove : Served → Type 0
TellsOfMove (served.Settled number) = Unit {0}
TellsOfMove served.Idle = ⊥
TellsOfMove served.Busy = ⊥
TellsOfMove (served.Stopped point) = Unit {0}
TellsOfMove served.LaneClosed = Unit {0}

-- the same lane, which took nothing
abbrev pub IsSame : LaneView → LaneView → Type 0
IsSame old new = (new.session ≡ old.session) × (new.receiver ≡ old.receiver) × (new.files ≡ old.files) × (new.serial ≡ old.serial)

-- so it is with what was left: nothing is taken, and what is answered rests on an event
abbrev pub CarriesOn : Named → Stops → LaneView → ℕ → Result Served Fault → LaneView → Type 0
CarriesOn named stops old number result new = (IsSame old new × RestsOn named old number result new) × ComesOf stops number result new

-- what an event makes of a lane: it takes nothing, and where it is refused what is left stays
abbrev pub Moves : LaneView → ℕ → Result Point Fault → LaneView → Type 0
Moves old number (Ok point) new = IsSame old new × IsAt point number new.left
Moves old number (Err fault) new = IsSame old new × (new.left ≡ old.left)

-- one event and the gate after it, and whether more is to be done
abbrev pub Turns : Named → Stops → LaneView → ℕ → Result (Option Served) Fault → LaneView → Type 0
Turns named stops old number (Ok None) new = (IsSame old new × HasMoved named old number new) × (number_left new.left ≡ Some number)
Turns named stops old number (Ok (Some served)) new = CarriesOn named stops old number (Ok served) new
Turns named stops old number (Err fault) new = CarriesOn named stops old number (Err fault) new

-- the lane with one more item, which it keeps
abbrev pub keeping : LaneView → Item → LaneView
keeping lane item = record lane { receiver = taking lane.receiver item; left = Kept item }

-- A gate that has to stop a lane is heeded: a transaction is told as settled, and a lane goes on after an event or to a decision, only where it need not stop.
abbrev pub Heeds : Stops → ℕ → Served → Type 0
Heeds must session (served.Settled number) = must points.Settled session number → ⊥
Heeds must session served.Idle = Unit {0}
Heeds must session served.Busy = Unit {0}
Heeds must session (served.Stopped point) = Unit {0}
Heeds must session served.LaneClosed = Unit {0}

abbrev pub HeedsAll : Stops → ℕ → Result Served Fault → Type 0
HeedsAll must session (Ok served) = Heeds must session served
HeedsAll must session (Err fault) = Unit {0}

abbrev pub HeedsTurn : Named → Stops → LaneView → ℕ → Result (Option Served) Fault → LaneView → Type 0
HeedsTurn named must old number (Ok None) new = (is_open old.left ≡ true → must points.Judged old.session number → ⊥)
    × ((point : Point) × CameBy named old number (Ok point) new × (must point new.session number → ⊥))
HeedsTurn named must old number (Ok (Some served)) new = Heeds must new.session served
HeedsTurn named must old number (Err fault) new = Unit {0}

-- What a call finds: what was left; or, where nothing was, an item that it takes; or nothing to do, and all stays.
abbrev pub Resumes : Named → Stops → LaneView → Result Served Fault → LaneView → Type 0
Resumes named stops old result new = (number : ℕ) × (number_left old.left ≡ Some number) × CarriesOn named stops old number result new

abbrev pub TakesUp : Named → Stops → LaneView → Result Served Fault → LaneView → Type 0
TakesUp named stops old result new = (item : Item) × (old.left ≡ Nothing) × CarriesOn named stops (keeping old item) (number_of item) result new

abbrev pub FindsNothing : LaneView → Result Served Fault → Served → LaneView → Type 0
FindsNothing old result answer new = (old.left ≡ Nothing) × (new ≡ old) × (result ≡ Ok answer)

-- Where nothing is left: it takes the next item; or none waits, as far as was heard; or the mark was taken before.
abbrev pub TakesNext : Named → Stops → LaneView → Result Served Fault → LaneView → Type 0
TakesNext named stops old result new = TakesUp named stops old result new
    ⊎ (FindsNothing old result served.Idle new × (list_any is_mark old.receiver.taken ≡ false) × IsPrefix old.receiver.pushed old.receiver.taken
    ⊎ FindsNothing old result served.LaneClosed new × (list_any is_mark old.receiver.taken ≡ true))

-- one serving, from what it finds to what comes of it
abbrev pub Serves : Named → Stops → LaneView → Result Served Fault → LaneView → Type 0
Serves named stops old result new = Resumes named stops old result new ⊎ TakesNext named stops old result new

-- a lane that was served, however often: it is of the same session, what it took comes after what it had taken, and what it has seen goes on
abbrev pub IsServed : LaneView → LaneView → Type 0
IsServed old new = (new.session ≡ old.session) × IsPrefix old.receiver.taken new.receiver.taken × GoesOnTo old.front new.front

-- so is each of these lanes
pub record AreServed (old new : List LaneView) : Type 0 where
  pub count : length new ≡ length old
  pub each : (place : ℕ) (none : LaneView) → IsServed (get_or old place none) (get_or new place none)

-- a lane that is closed, or that a gate may have stopped
abbrev pub IsOver : Stops → LaneView → Type 0
IsOver stops lane = (is_closed lane ≡ true) ⊎ ((point : Point) × (number : ℕ) × StandsAt point number lane.left × stops point lane.session number)

-- so are those lanes that are marked, and so are all
abbrev pub AreOver : Stops → List Bool → List LaneView → Type 0
AreOver stops marked lanes = (place : ℕ) (none : LaneView) → get_or marked place false ≡ true → IsOver stops (get_or lanes place none)

abbrev pub AllAreOver : Stops → List LaneView → Type 0
AllAreOver stops lanes = (place : ℕ) (none : LaneView) → place < length lanes → IsOver stops (get_or lanes place none)

-- a lane that met this fault when it was served last, and keeps what it had
abbrev pub HasMet : Named → Stops → Fault → LaneView → Type 0
HasMet named stops fault lane = (before : LaneView) × Serves named stops before (Err fault) lane

-- a lane that is over, or met some fault
abbrev pub HasEnded : Named → Stops → LaneView → Type 0
HasEnded named stops lane = IsOver stops lane ⊎ ((fault : Fault) × HasMet named stops fault lane)

-- so have those lanes that are marked, and so have all
abbrev pub HaveEnded : Named → Stops → List Bool → List LaneView → Type 0
HaveEnded named stops marked lanes = (place : ℕ) (none : LaneView) → get_or marked place false ≡ true → HasEnded named stops (get_or lanes place none)

abbrev pub AllHaveEnded : Named → Stops → List LaneView → Type 0
AllHaveEnded named stops lanes = (place : ℕ) (none : LaneView) → place < length lanes → HasEnded named stops (get_or lanes place none)

-- the fault that is told was met by one of those lanes that are marked, and by one of all
abbrev pub IsMetMarked : Named → Stops → Option Fault → List Bool → List LaneView → Type 0
IsMetMarked named stops None marked lanes = Unit {0}
IsMetMarked named stops (Some fault) marked lanes = (place : ℕ) × (get_or marked place false ≡ true) × ((none : LaneView) → HasMet named stops fault (get_or lanes place none))

abbrev pub IsMet : Named → Stops → Option Fault → List LaneView → Type 0
IsMet named stops None lanes = Unit {0}
IsMet named stops (Some fault) lanes = (place : ℕ) × (place < length lanes) × ((none : LaneView) → HasMet named stops fault (get_or lanes place none))

-- What comes of serving lanes until each has ended, or the store is stopped: all have, where it wasn't stopped, and the fault that is told was met by one of them; or there is no memory for it, and all stay.
abbrev pub Ends : Named → Stops → List LaneView → Option Fault → Bool → List LaneView → Type 0
Ends named stops old fault stopped new = ((stopped ≡ false → AllHaveEnded named stops new) × IsMet named stops fault new) ⊎ ((fault ≡ Some Memory) × (new ≡ old))

-- What a turn of a lane tells of faults: none that is new; or the first one, which the lane met in this turn.
abbrev pub TellsFault : Named → Stops → LaneView → Option Fault → Option Fault → LaneView → Type 0
TellsFault named stops old before after new = (after ≡ before) ⊎ ((before ≡ None) × ((fault : Fault) × (after ≡ Some fault) × Serves named stops old (Err fault) new))

module _ {N Z : Type 0} where
  -- What running a group makes of it: each lane was served, until it had ended; or the store was stopped, which may be; or there was no memory for it.
  pub record IsRun (named : Named) (stops : Stops) (MayStop : Type 0) (old new : code_group.Group N Z) : Type 0 where
    pub served : AreServed old.lanes.items new.lanes.items
    pub over : new.fault ≡ None → new.stopped ≡ false → AllAreOver stops new.lanes.items
    pub ended : Ends named stops old.lanes.items new.fault new.stopped new.lanes.items
    pub stopped : new.stopped ≡ true → MayStop

  -- so is each of these
  abbrev pub AreRun : Named → Stops → Type 0 → List (code_group.Group N Z) → List (code_group.Group N Z) → Type 0
  AreRun named stops MayStop [] news = news ≡ []
  AreRun named stops MayStop (old ∷ olds) news = (new : code_group.Group N Z) × (others : List (code_group.Group N Z))
      × (news ≡ new ∷ others) × IsRun named stops MayStop old new × AreRun named stops MayStop olds others
