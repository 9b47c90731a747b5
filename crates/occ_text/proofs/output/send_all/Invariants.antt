use Rattle.std.proofs.Common.{◌≤◌, ◌-◌, length, drop}
use Rattle.occ_text.specs.Sending.{Sends}
use Rattle.occ_text.proofs.output.send_all.Given as goal

-- the bytes below `sent` are sent
abbrev pub invariant-loop-sent : goal.invariant-loop-sent
invariant-loop-sent g l = record {
  within : l.sent ≤ length l.bytes;
  written : Sends (g.W.Write.contents l.fn.writer) (g.W.Write.contents l.writer) (drop l.fn.sent l.bytes) (drop l.sent l.bytes);
}

abbrev pub decreases-loop-sent : goal.decreases-loop-sent
decreases-loop-sent g l = length l.bytes - l.sent
