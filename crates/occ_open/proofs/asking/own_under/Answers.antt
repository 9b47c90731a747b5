use Rattle.std.proofs.Common.{sym, ◌∙◌}
use Rattle.occ_open.proofs.Answering.{nothing_own}
use Rattle.occ_open.proofs.asking.own_under.Goals as goal

-- nothing is written
pub returns-then-is_empty : goal.returns-then-is_empty
returns-then-is_empty g c = nothing_own c.args.copy.now.writes _ (sym c.is_empty.ensures ∙ c.if-is_empty.true)
