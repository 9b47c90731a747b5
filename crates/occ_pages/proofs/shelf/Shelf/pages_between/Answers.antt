use Rattle.std.proofs.Common.{arith}
use Rattle.occ_pages.proofs.shelf.Shelf.pages_between.Goals as goal

pub returns-clause-there : goal.returns-clause-there
returns-clause-there g c = omega (arith, c.max.ensures, c.start_page-start.ensures.there, c.end_page.ensures.there)

pub returns-clause-first : goal.returns-clause-first
returns-clause-first g c = c.start_page-start.ensures.first c.args.upper

pub returns-clause-last : goal.returns-clause-last
returns-clause-last g c = c.end_page.ensures.last c.args.lower c.max.result (omega (arith, c.max.ensures))
