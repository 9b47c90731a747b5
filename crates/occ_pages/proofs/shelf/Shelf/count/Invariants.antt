use Rattle.std.proofs.Common.{◌≡◌, length, take}
use Rattle.occ_pages.specs.Entries.{within}
use Rattle.occ_pages.specs.Pages.{flatten}
use Rattle.occ_pages.proofs.shelf.Shelf.count.Given as goal

-- the rows in the pages so far are counted
abbrev pub invariant-loop-page : goal.invariant-loop-page
invariant-loop-page g l = l.count ≡ length (within l.lower l.upper (flatten (take l.page l.self.pages.items)))
