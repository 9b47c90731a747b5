use Rattle.std.proofs.Common.{None}
use Rattle.occ_book.proofs.Common.{key_of}
use Rattle.occ_book.proofs.Views.{content-put}
use Rattle.occ_book.proofs.tables.Tables.delete.Goals as goal

pub returns : goal.returns
returns g c = content-put c.self.inside.tables.items c.args.table c.index_mut.result.now c.delete.new.self (key_of c.args.key.now) None c.args.self.now c.self.view_is c.requires c.index_mut.ensures.value c.delete.ensures
