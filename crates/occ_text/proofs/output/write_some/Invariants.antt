use Rattle.std.specs.Io.KnownBytes.{Keeps}
use Rattle.occ_text.proofs.output.write_some.Given as goal

-- what an interrupted write took is nothing
abbrev pub invariant-loop-tries : goal.invariant-loop-tries
invariant-loop-tries g l = Keeps (g.W.Write.contents l.fn.writer) (g.W.Write.contents l.writer)

abbrev pub decreases-loop-tries : goal.decreases-loop-tries
decreases-loop-tries g l = l.tries
