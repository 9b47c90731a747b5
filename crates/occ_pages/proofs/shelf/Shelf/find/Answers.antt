use Rattle.std.proofs.Common.{◌≡◌, ◌<◌, ◌==◌, ℕ, false, sym, ap, ◌∙◌, arith}
use Rattle.std.proofs.lemmas.List.{nil_from_length}
use Rattle.std.proofs.lemmas.Bool.Decides.{nat_tests}
use Rattle.occ_pages.specs.Entries.{get}
use Rattle.occ_pages.specs.Pages.{flatten}
use Rattle.occ_pages.proofs.Changes.{missing}
use Rattle.occ_pages.proofs.shelf.Shelf.find.Goals as goal

pub returns-then-is_empty : goal.returns-then-is_empty
returns-then-is_empty g c =
    let empty : c.args.self.now.pages.len ≡ 0 = grind (arith, nat_tests) in
    let none = nil_from_length c.args.self.now.pages.items (omega (arith, c.args.self.now.pages.ok.0, empty)) in
    ap (λ pages. get (flatten pages) c.args.key) none

pub seek-page-requires-clause-some : goal.seek-page-requires-clause-some
seek-page-requires-clause-some g c =
    let some = not-none c.args.self.now.pages.len (sym c.is_empty.ensures ∙ c.if-is_empty.false) in
    omega (arith, c.args.self.now.pages.ok.0, some)
  where
    not-none : (n : ℕ) → (n == 0) ≡ false → 0 < n
    not-none n e = grind (arith, nat_tests)

pub returns-then-has : goal.returns-then-has
returns-then-has g c = (c.seek-page.ensures, sym c.has.ensures ∙ c.if-has.true)

pub returns-else-has : goal.returns-else-has
returns-else-has g c =
    sym (missing c.args.key c.args.self.now.pages.items c.seek-page.result.0 c.seek-page.result.1 c.seek-page.ensures (sym c.has.ensures ∙ c.if-has.false))
