use Rattle.std.specs.Io.KnownBytes.{Keeps}
use Rattle.occ_text.proofs.input.read_some.Given as goal

-- what an interrupted read took is nothing
abbrev pub invariant-loop-tries : goal.invariant-loop-tries
invariant-loop-tries g l = Keeps (g.R.Read.remaining l.fn.reader) (g.R.Read.remaining l.reader)

abbrev pub decreases-loop-tries : goal.decreases-loop-tries
decreases-loop-tries g l = l.tries
