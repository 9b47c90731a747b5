-- What a name stands for: one store that was opened (our own choice).
use Rattle.std.specs.Prelude.{ℕ, suc, ◌-◌, List, [], get_or}
use Rattle.atomic_table.specs.Seated.{TableId}
use Rattle.boxcar.specs.Table.{Shelves}
use Rattle.occ_model.specs.Log.{Base}
use Rattle.occ_model.specs.World.{Settings, World, resumed, empty_base}
use Rattle.occ_history.specs.History.{nowhere}

-- With what the store was opened, and the base and the counter that it goes on from; how many of its sessions are workers; its story, its file of cases and its board; and the lane of each other session, the first one's first.
pub record Named : Type 0 where
  pub settings : Settings
  pub base : Base
  pub counter : ℕ
  pub workers : ℕ
  pub story : TableId
  pub file : Shelves
  pub board : TableId
  pub lanes : List TableId

-- the world that the store was opened in, where its history begins
abbrev pub opened_as : Named → World
opened_as named = resumed named.settings named.base named.counter

-- the lane of a session, which are numbered from 1; the first ones are workers, and have none
abbrev pub lane_of : Named → ℕ → TableId
lane_of named session = get_or named.lanes (session - suc named.workers) nowhere

-- what the name stands for that no caller has picked
abbrev pub unnamed : Named
unnamed = record {
  settings = record { schema = []; sessions = 0; keep = 0 };
  base = empty_base;
  counter = 0;
  workers = 0;
  story = nowhere;
  file = record { tag = []; buckets = [] };
  board = nowhere;
  lanes = [];
}
