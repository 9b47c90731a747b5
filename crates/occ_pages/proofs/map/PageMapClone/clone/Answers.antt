use Rattle.std.proofs.Common.{subst, sym, ◌∙◌}
use Rattle.occ_pages.specs.Copies.{AreCopies}
use Rattle.occ_pages.specs.Pages.{flatten, IsShelf}
use Rattle.occ_pages.proofs.Copied.{copies-flatten, copies-shelf, copies-long}
use Rattle.occ_pages.proofs.map.PageMapClone.clone.Goals as goal

pub returns : goal.returns
returns g c = record {
  cases = subst (λ es. AreCopies g.T.Clone.is_clone es (flatten c.in_ok-pages.pages.items)) c.self.view_is
      (copies-flatten g.T.Clone.is_clone c.self.inside.shelf.pages.items c.in_ok-pages.pages.items c.in_ok-pages.ensures.cases.0);
}

pub invariant_of-result : goal.invariant_of-result
invariant_of-result g c =
    let R = g.T.Clone.is_clone in
    let pages = c.self.inside.shelf.pages.items in
    let others = c.in_ok-pages.pages.items in
    let are = c.in_ok-pages.ensures.cases.0 in
    let firsts = c.in_ok-firsts.ensures.items ∙ c.deref.ensures.value in
    record {
      shelf = subst (λ ks. IsShelf ks others) (sym firsts) (copies-shelf R c.self.inside.shelf.firsts.items pages others are c.self.invariant.shelf);
      counted = c.self.invariant.counted ∙ sym (copies-long R (flatten pages) (flatten others) (copies-flatten R pages others are));
      few = c.self.invariant.few;
    }
