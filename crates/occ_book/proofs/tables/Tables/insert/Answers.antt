use Rattle.std.proofs.Common.{Some}
use Rattle.occ_book.proofs.Common.{key_of}
use Rattle.occ_book.proofs.Views.{content-put, ok-as}
use Rattle.occ_book.proofs.tables.Tables.insert.Goals as goal
use Rattle.occ_book.proofs.tables.Tables.insert.Goals.{in-Ok, in-Err}

pub returns-clause-ok : goal.returns-clause-ok
returns-clause-ok g c =
    elim c.match-insert.branch [
      | in-Ok w ↦
          ok-as _ c.match-insert.result _ w.result-is
          (content-put c.self.inside.tables.items c.args.object.table c.index_mut.result.now c.insert.new.self (key_of c.args.object.key) (Some c.args.row) c.args.self.now c.self.view_is c.requires c.index_mut.ensures.value w.in-Ok.ensures.ok)
      | in-Err w ↦ ok-as _ c.match-insert.result _ w.result-is tt
    ]
