-- The laws: what follows of clauses on the history. Each is the contract of a function of this crate.
use Rattle.std.specs.Prelude.{◌≡◌, ℕ, ◌⊎◌, true, List, ◌∷◌, ◌++◌}
use Rattle.occ_model.specs.State.{State, Write}
use Rattle.occ_model.specs.Log.{LogRow, Base, is_committed, serial, AreAnswers}
use Rattle.occ_model.specs.World.{Settings, World, resumed}
use Rattle.occ_model.specs.Event.{Request, Event, Enter, SerialEnd, Reply}
use Rattle.occ_model.specs.Step.{Run}
use Rattle.occ_history.specs.History.{Happened, FrontView, is_of, Begins}
use Rattle.occ_history.specs.Clauses.{Lent, Happens, Stands, IsHistory, DidThen}
use Rattle.occ_history.specs.Orders.{given, is_entry, IsRequested, IsOrder}

-- What happens behind the lock, in a world that the story led to, stands in the history, and the story leads to the new world.
abbrev pub HappeningStands : Type 0
HappeningStands = (begun : World) (old new : Lent) (event : Event) (reply : Reply)
    → Run begun old.story.log old.world → Happens old event reply new
    → Run begun new.story.log new.world × Stands begun old.visitor event reply new.visitor

-- What a front has seen once its event stands is a history of the store.
abbrev pub SeenIsHistory : Type 0
SeenIsHistory = (begun : World) (me now : FrontView) (event : Event) (reply : Reply) → Stands begun me event reply now → IsHistory begun now.seen

-- Every history has a serial order of all its transactions, in which each committed one read what its client was given.
abbrev pub HistoriesAreSerial : Type 0
HistoriesAreSerial = (settings : Settings) (base : Base) (counter : ℕ) (log : List Happened) (world : World)
    → Run (resumed settings base counter) log world
    → (order : List LogRow) × IsOrder base.state log world order

-- In that order a request stands at the place of its entry; and where it committed, what its client was given before is what serial replay of the transactions before it answers (Kung and Robinson, section 3).
abbrev pub AnswersAreOfTheirPlace : Type 0
AnswersAreOfTheirPlace = (state : State) (log earlier later : List Happened) (world : World) (order : List LogRow)
    (session number start : ℕ) (writes : List Write) (event : Event) (reply : Reply)
    → IsOrder state log world order
    → log ≡ earlier ++ (event, reply) ∷ later
    → (event ≡ Enter session (Request number start writes)) ⊎ (event ≡ SerialEnd session (Request number start writes))
    → is_entry reply ≡ true
    → (before : List LogRow) × (row : LogRow) × (others : List LogRow)
    × (order ≡ before ++ row ∷ others)
    × IsRequested earlier session number start writes row
    × (is_committed row.standing ≡ true → AreAnswers (serial state before) (given session number earlier))

-- Whatever two parties were answered, each by a call of its own: where one has seen a beginning of what the other has, there is one history in which each did its event next, and one serial order for it.
abbrev pub AnswersStandInOneHistory : Type 0
AnswersStandInOneHistory = (settings : Settings) (base : Base) (counter : ℕ) (one one_now two two_now : FrontView) (first second : Happened)
    → is_of one.party first.0 ≡ true → is_of two.party second.0 ≡ true
    → Stands (resumed settings base counter) one first.0 first.1 one_now
    → Stands (resumed settings base counter) two second.0 second.1 two_now
    → Begins one_now two_now ⊎ Begins two_now one_now
    → (log : List Happened) × (world : World) × (order : List LogRow)
    × Run (resumed settings base counter) log world
    × DidThen one first log × DidThen two second log
    × IsOrder base.state log world order
