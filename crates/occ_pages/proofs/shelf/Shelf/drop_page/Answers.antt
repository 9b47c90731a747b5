use Rattle.std.proofs.Common.{arith}
use Rattle.occ_pages.proofs.shelf.Shelf.drop_page.Goals as goal

pub remove-first-requires : goal.remove-first-requires
remove-first-requires g c = omega (arith, c.args.self.now.firsts.ok.0, c.requires.first)

pub remove-page-requires : goal.remove-page-requires
remove-page-requires g c = omega (arith, c.args.self.now.pages.ok.0, c.requires.page)
