use Rattle.std.proofs.Common.{sym, ◌∙◌}
use Rattle.occ_reading.proofs.Common.{at_of, at_of_line}
use Rattle.occ_reading.proofs.LineParts.{all_read, some_left, unread_gives, unread_takes}
use Rattle.occ_reading.proofs.RowLines.{at_is_field}
use Rattle.occ_reading.specs.RowLines.{at_takes}
use Rattle.occ_reading.proofs.row_lines.at_value.Goals as goal

pub returns-in-Err-clause-exact : goal.returns-in-Err-clause-exact
unfolding at_of_line
returns-in-Err-clause-exact g c =
    unread_gives (at_of {Z = g.row.A.Denot}) c.args.line.now c.new-parts.result c.next_at.new.parts c.in-Err.unread c.of_tokens.result c.new-parts.ensures (at_is_field c.args.version c.args.section c.args.schema.now c.requires.fits) c.in-Err.ensures.exact c.of_tokens.ensures.malformed

pub returns-in-Err-clause-memory : goal.returns-in-Err-clause-memory
returns-in-Err-clause-memory g c =
    unread_takes (at_takes c.args.section) c.args.line.now c.new-parts.result c.in-Err.unread c.of_tokens.result c.new-parts.ensures c.of_tokens.ensures.memory c.in-Err.ensures.memory

pub returns-in-Some-clause-exact : goal.returns-in-Some-clause-exact
unfolding at_of_line
returns-in-Some-clause-exact g c =
    all_read c.args.line.now c.new-parts.result (at_of {Z = g.row.A.Denot} c.in-Ok.entry) c.next_at.new.parts c.new-parts.ensures (at_is_field c.args.version c.args.section c.args.schema.now c.requires.fits) c.in-Ok.ensures.exact (sym c.at_end.ensures ∙ c.in-Some.is)

pub returns-in-None-clause-exact : goal.returns-in-None-clause-exact
unfolding at_of_line
returns-in-None-clause-exact g c =
    some_left c.args.line.now c.new-parts.result (at_of {Z = g.row.A.Denot} c.in-Ok.entry) c.next_at.new.parts c.new-parts.ensures (at_is_field c.args.version c.args.section c.args.schema.now c.requires.fits) c.in-Ok.ensures.exact (sym c.at_end.ensures ∙ c.in-None.is)
