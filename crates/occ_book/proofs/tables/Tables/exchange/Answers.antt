use Rattle.std.proofs.Common.{◌≡◌, ◌∙◌, Some}
use Rattle.occ_book.proofs.Common.{IfOk-weaker, on_ok_weaker, on_err_weaker, key_of}
use Rattle.occ_book.specs.Table.{row_under}
use Rattle.std.specs.FinMap as finite
use Rattle.occ_book.proofs.Views.{content-put, content-unchanged}
use Rattle.occ_book.proofs.Undoing.{table-has}
use Rattle.occ_book.proofs.tables.Tables.exchange.Goals as goal

pub returns-clause-was : goal.returns-clause-was
returns-clause-was g c =
    let is = table-has c.self.inside.tables.items c.args.table c.index_mut.result.now (key_of c.args.key.now) c.args.self.now c.self.view_is c.requires c.index_mut.ensures.value in
    IfOk-weaker c.exchange.result (λ was. was ≡ row_under c.index_mut.result.now (key_of c.args.key.now)) (λ was. was ≡ finite.get c.args.self.now.state (c.args.table, key_of c.args.key.now)) (λ was e. e ∙ is) c.exchange.ensures.was

pub returns-clause-ok : goal.returns-clause-ok
returns-clause-ok g c =
    on_ok_weaker c.exchange.result (content-put c.self.inside.tables.items c.args.table c.index_mut.result.now c.exchange.new.self (key_of c.args.key.now) (Some c.args.row) c.args.self.now c.self.view_is c.requires c.index_mut.ensures.value) c.exchange.ensures.ok

pub returns-clause-err : goal.returns-clause-err
returns-clause-err g c =
    on_err_weaker c.exchange.result (content-unchanged c.self.inside.tables.items c.args.table c.index_mut.result.now c.exchange.new.self c.args.self.now c.self.view_is c.requires c.index_mut.ensures.value) c.exchange.ensures.err
