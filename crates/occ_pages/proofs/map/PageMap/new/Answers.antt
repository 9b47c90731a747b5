use Rattle.std.proofs.Common.{[], length, sym, ap, arith}
use Rattle.occ_pages.specs.Pages.{flatten}
use Rattle.occ_pages.proofs.Shelves.{same-shelf}
use Rattle.occ_pages.proofs.map.PageMap.new.Goals as goal

pub returns : goal.returns
returns g c = ap flatten c.new-pages.ensures.items

pub invariant_of-result : goal.invariant_of-result
invariant_of-result g c = record {
  shelf = same-shelf [] _ [] _ c.new-firsts.ensures.items c.new-pages.ensures.items (record { under = tt; ascends = tt });
  counted = sym (ap (λ pages. length (flatten pages)) c.new-pages.ensures.items);
  few = omega arith;
}
