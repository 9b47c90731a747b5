use Rattle.std.proofs.Common.{◌≡◌, List, ◌++◌, vec_len}
use Rattle.occ_types.specs.declared.keys.Key.{Key}
use Rattle.occ_types.specs.Row.{Row}
use Rattle.occ_types.specs.PlainData.{question_of, table_asked}
use Rattle.occ_model.specs.Overlay as model
use Rattle.occ_sets.specs.Overlays.{Agrees}
use Rattle.occ_sets.specs.PlainSets.{rows_of}
use Rattle.occ_sets.proofs.overlays.rows_asked.Given as goal

-- the rows that are taken agree with those that are laid
abbrev pub invariant-loop-key : goal.invariant-loop-key
invariant-loop-key g l = (done : List (Key g.row.A.Denot × Row)) × (l.fn.rows.items ≡ l.rows.items ++ done) × Agrees (question_of l.question) l.seen.entries (model.rows_of (table_asked (question_of l.question)) (rows_of done))

-- the rows that are left
abbrev pub decreases-loop-key : goal.decreases-loop-key
decreases-loop-key g l = vec_len l.rows
