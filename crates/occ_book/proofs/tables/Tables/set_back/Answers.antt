use Rattle.std.proofs.Common.{◌<◌, ◌≤◌, length, sym, ap, subst, arith, IsSome}
use Rattle.occ_book.proofs.Common.{key_of, Content}
use Rattle.occ_book.proofs.Views.{content-put, absent}
use Rattle.occ_book.proofs.Undoing.{table-has, none_there}
use Rattle.occ_book.proofs.tables.Tables.set_back.Goals as goal

pub returns-then-table-len-clause-state : goal.returns-then-table-len-clause-state
returns-then-table-len-clause-state g c = λ there.
    let tables = c.self.inside.tables.items in
    let within : c.args.table < length tables = omega arith in
    let inside : c.args.table < c.args.self.now.tables = subst (λ (d : Content). c.args.table < d.tables) c.self.view_is within in
    let has = table-has tables c.args.table c.index_mut.result.now (key_of c.args.key.now) c.args.self.now c.self.view_is inside c.index_mut.ensures.value in
    ap (λ (d : Content). d.state) (content-put tables c.args.table c.index_mut.result.now c.set_back.new.self (key_of c.args.key.now) c.args.row c.args.self.now c.self.view_is inside c.index_mut.ensures.value (c.set_back.ensures (subst IsSome (sym has) there)))

pub returns-else-table-len-clause-state : goal.returns-else-table-len-clause-state
returns-else-table-len-clause-state g c = λ there.
    let tables = c.self.inside.tables.items in
    let past : length tables ≤ c.args.table = omega arith in
    let beyond : c.args.self.now.tables ≤ c.args.table = subst (λ (d : Content). d.tables ≤ c.args.table) c.self.view_is past in
    none_there _ _ (absent tables c.args.self.now c.self.view_is (c.args.table, key_of c.args.key.now) beyond) there
