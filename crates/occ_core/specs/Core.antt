-- What clauses see of a core, what a call does to it, and what holds of its parts.
use Rattle.std.specs.Prelude.{◌≡◌, ◌⊎◌, ℕ, None, Some, length}
use Rattle.occ_types.specs.declared.fault.Fault.{Fault}
use Rattle.occ_types.specs.declared.fault.Fault.TheVariants.{Memory}
use Rattle.occ_model.specs.World.{World}
use Rattle.occ_model.specs.Event.{Event, Reply}
use Rattle.occ_model.specs.Refusal.{refusal}
use Rattle.occ_model.specs.Step.{Step}
use Rattle.occ_book.specs.Base.{BaseContent}
use Rattle.occ_log.specs.SessionStates.{HoldsArePlaced}
use Rattle.occ_log.specs.Logs.{IsLogOf}
use Rattle.occ_core.specs.CoreParts.{Parts, world_of, AreSound}
use Rattle.occ_core.specs.Totals.{AddUp}
use Rattle.occ_core.specs.declared.totals.Totals.{Totals}
use Rattle.occ_core.specs.declared.core_state.Core.TheInside.{Inside}

-- what clauses see of a core: its world, and the totals of what ended in it
pub record Seen : Type 0 where
  pub world : World
  pub totals : Totals

-- What each call that moves a core does to it: an event happens and gets this reply, and the world makes that step of the model.
abbrev pub Transition : Seen → Event → Reply → Seen → Type 0
Transition old event reply new = Step old.world event reply new.world

-- why an event is refused: for its first fault, or for want of memory where it has none
abbrev pub IsRefusal : World → Event → Fault → Type 0
IsRefusal world event fault = (refusal world event ≡ Some fault) ⊎ ((fault ≡ Memory) × (refusal world event ≡ None))

-- the base has room for so many tables and sessions
pub record IsBaseOf (content : BaseContent) (tables sessions : ℕ) : Type 0 where
  pub holds : content.tables ≡ tables
  pub knows : content.sessions ≡ sessions

module _ {Z : Type 0} where
  -- the parts of a core, as plain data
  abbrev pub parts_of : Inside Z → Parts
  parts_of c = record {
    settings = record { schema = c.schema; sessions = length c.sessions; keep = c.window.keep };
    base = c.base.base;
    log = c.log.rows;
    table = c.tables.state;
    counter = c.counter;
    marks = c.marks.marks;
    phases = c.phases;
    slots = c.sessions;
    window = c.window.sets;
  }

  abbrev pub seen_of : Inside Z → Seen
  seen_of c = record { world = world_of (parts_of c); totals = c.totals }

  -- what holds of the fields of every core
  pub record IsCore (c : Inside Z) : Type 0 where
    pub sound : AreSound (parts_of c)
    pub tables_match : c.tables.tables ≡ length c.schema
    pub marks_match : c.marks.sessions ≡ length c.sessions
    pub log_match : IsLogOf c.log c.base.base.place (length c.sessions)
    pub base_match : IsBaseOf c.base (length c.schema) (length c.sessions)
    pub placed : HoldsArePlaced c.tables.tables c.sessions
    pub counted : AddUp c.totals (world_of (parts_of c))
