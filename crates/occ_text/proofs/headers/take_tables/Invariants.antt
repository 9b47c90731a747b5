use Rattle.std.proofs.Common.{◌-◌, length}
use Rattle.std.specs.Io.KnownBytes.{prepend_known}
use Rattle.occ_types.specs.PlainData.{tables_of}
use Rattle.occ_text.specs.HeaderTaking.{TablesSoFar}
use Rattle.occ_text.specs.TableTaking.{TablesRead}
use Rattle.occ_text.proofs.headers.take_tables.Given as goal

-- the lines of the tables were taken
abbrev pub invariant-loop-tables : goal.invariant-loop-tables
invariant-loop-tables g l = record {
  so_far : TablesSoFar l.version (tables_of l.tables.items);
  read : TablesRead l.version (tables_of l.tables.items) (prepend_known l.fn.input.unread (g.R.Read.remaining l.fn.reader)) (prepend_known l.input.unread (g.R.Read.remaining l.reader)) l.fn.input.number l.input.number;
}

abbrev pub decreases-loop-tables : goal.decreases-loop-tables
decreases-loop-tables g l = 32 - length l.tables.items
