-- What a store leaves for one that goes on from it (our own choice).
use Rattle.std.specs.Prelude.{◌≡◌, ℕ, ◌<◌, List, length}
use Rattle.occ_model.specs.World.{World, active_count}
use Rattle.occ_model.specs.Step.{Run, folded}
use Rattle.occ_model.specs.Invariant.{Invariant}
use Rattle.occ_model.specs.Content.{IsInSchema}
use Rattle.occ_model.specs.Log.{Audited}
use Rattle.occ_book.specs.Base.{BaseContent}
use Rattle.occ_history.specs.History.{Happened}
use Rattle.occ_store.specs.Names.{Named, opened_as}

-- the base of a state, with all rows of its log folded into it
abbrev pub left_by : World → BaseContent
left_by world = record {
  tables = length world.settings.schema;
  sessions = world.settings.sessions;
  base = folded world.base world.log;
}

-- A store leaves this base: it is that of a state to which a history led from what the store was opened with, and in which no transaction was active. Its rows are those of the tables, all of them committed. No clause can name the state, since other threads moved it before.
pub record IsLeft (named : Named) (base : BaseContent) : Type 0 where
  pub story : List Happened
  pub world : World
  pub ran : Run (opened_as named) story world
  pub invariant : Invariant world
  pub content : IsInSchema world
  pub audited : Audited world.base world.marks world.table world.log
  pub settings_are : world.settings ≡ named.settings
  pub quiet : active_count world ≡ 0
  pub all : base ≡ left_by world
  pub rows : base.base.state ≡ world.table

-- a transaction was active in a state to which a history led
abbrev pub WasActive : Named → Type 0
WasActive named = (story : List Happened) × (world : World) × Run (opened_as named) story world × Invariant world × (world.settings ≡ named.settings) × (0 < active_count world)
