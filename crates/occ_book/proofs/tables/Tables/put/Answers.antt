use Rattle.std.proofs.Common.{Option, Some, sym, ap, ◌∙◌, Bor, option_copied}
use Rattle.occ_book.proofs.Common.{on_ok_weaker, on_err_weaker, Row, key_of, put, Content}
use Rattle.occ_book.proofs.Views.{content-put, content-unchanged}
use Rattle.occ_book.proofs.tables.Tables.put.Goals as goal

pub returns-in_default-clause-ok : goal.returns-in_default-clause-ok
returns-in_default-clause-ok g c =
    let after : Option (Bor Row) → Content = λ row. record { tables = c.args.self.now.tables; state = put c.args.self.now.state ((c.args.table, key_of c.args.key.now), option_copied row) } in
    c.delete.ensures ∙ ap after (sym c.in_default.is)

pub returns-clause-ok : goal.returns-clause-ok
returns-clause-ok g c =
    let after : Option (Bor Row) → Content = λ row. record { tables = c.args.self.now.tables; state = put c.args.self.now.state ((c.args.table, key_of c.args.key.now), option_copied row) } in
    on_ok_weaker c.put.result (λ is.
    content-put c.self.inside.tables.items c.args.table c.index_mut.result.now c.put.new.self (key_of c.args.key.now) (Some c.in-Some.row.now) c.args.self.now c.self.view_is c.requires c.index_mut.ensures.value is ∙ ap after (sym c.in-Some.is)) c.put.ensures.ok

pub returns-clause-err : goal.returns-clause-err
returns-clause-err g c =
    on_err_weaker c.put.result (content-unchanged c.self.inside.tables.items c.args.table c.index_mut.result.now c.put.new.self c.args.self.now c.self.view_is c.requires c.index_mut.ensures.value) c.put.ensures.err
