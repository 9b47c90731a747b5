use Rattle.std.proofs.Common.{codes}
use Rattle.std.proofs.lemmas.Result.{on_ok_weaker}
use Rattle.occ_text.specs.Headers.{kind_word, key_kind_word}
use Rattle.occ_print.proofs.Printing.{joined_more}
use Rattle.occ_print.proofs.lines.table_line.Goals as goal

pub returns : goal.returns
returns g c = on_ok_weaker c.write_kinds.result
    (λ is. joined_more kind_word _ _ (codes "table") c.args.table.now.name (key_kind_word c.args.table.now.key) c.args.table.now.columns.items _ is c.as_slice.ensures.value c.in_ok-write_table_head.ensures)
    c.write_kinds.ensures
