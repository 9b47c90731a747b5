use Rattle.std.proofs.Common.{◌≡◌, ◌-◌, length}
use Rattle.std.specs.Io.KnownBytes.{Consumes, prepend_known}
use Rattle.occ_text.specs.Line.{IsLine}
use Rattle.occ_text.proofs.input.Input.gather.Given as goal

-- the line is what was taken so far
abbrev pub invariant-loop-last : goal.invariant-loop-last
invariant-loop-last g l = record {
  taken : Consumes (prepend_known l.fn.self.unread (g.R.Read.remaining l.fn.reader)) (prepend_known l.self.unread (g.R.Read.remaining l.reader)) l.self.line;
  line : IsLine l.self.line;
  number : l.self.number ≡ l.fn.self.number;
  failed : l.self.failed ≡ l.fn.self.failed;
}

abbrev pub decreases-loop-last : goal.decreases-loop-last
decreases-loop-last g l = 8192 - length l.self.line
