use Rattle.std.proofs.Common.{sym, ap, ◌∙◌}
use Rattle.occ_text.specs.Fields.{whole}
use Rattle.occ_text.proofs.Fields.{untested_field}
use Rattle.occ_reading.proofs.Common.{head_line, head_of_line}
use Rattle.occ_reading.proofs.NumberLines.{head_field}
use Rattle.occ_reading.proofs.number_lines.head_of_line.Goals as goal

pub returns : goal.returns
unfolding head_of_line
returns c = c.head_of_parts.ensures ∙ ap (whole (head_line c.args.sessions)) c.new.ensures ∙ sym (untested_field c.args.line.now (head_field c.args.sessions c.ranges.sessions.fits))
