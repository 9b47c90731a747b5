use Rattle.std.proofs.Common.{map, take}
use Rattle.occ_sets.specs.PlainSets.{rows_of}
use Rattle.occ_text.specs.Line.{lines_text}
use Rattle.occ_text.specs.Printing.{Pushed}
use Rattle.occ_print.specs.Books.{pair_line}
use Rattle.occ_print.proofs.log_printing.print_pairs.Given as goal

abbrev pub invariant-loop-key : goal.invariant-loop-key
invariant-loop-key g l = Pushed (g.W.Write.contents l.fn.writer) (g.W.Write.contents l.writer) l.fn.output.held l.output.held
    (lines_text (map pair_line (rows_of (take l.key-index l.pairs))))
