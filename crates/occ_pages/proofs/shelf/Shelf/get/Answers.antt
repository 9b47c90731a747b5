use Rattle.std.proofs.Common.{◌≡◌, ◌<◌, ◌==◌, ℕ, false, drop, sym, ap, subst, ◌∙◌, arith}
use Rattle.std.proofs.lemmas.List.{nil_from_length}
use Rattle.std.proofs.lemmas.Bool.Decides.{nat_tests}
use Rattle.occ_pages.specs.Entries.{get}
use Rattle.occ_pages.specs.Page.{StandsAt}
use Rattle.occ_pages.specs.Pages.{flatten, begins_with}
use Rattle.occ_pages.proofs.ReadPages.{read, begins-inside}
use Rattle.occ_pages.proofs.Changes.{found, missing}
use Rattle.occ_pages.proofs.shelf.Shelf.get.Goals as goal

pub returns-then-is_empty : goal.returns-then-is_empty
returns-then-is_empty g c =
    let empty : c.args.self.now.pages.len ≡ 0 = grind (arith, nat_tests) in
    let none = nil_from_length c.args.self.now.pages.items (omega (arith, c.args.self.now.pages.ok.0, empty)) in
    sym (ap (λ pages. get (flatten pages) c.args.key) none)

pub seek-page-requires-clause-some : goal.seek-page-requires-clause-some
seek-page-requires-clause-some g c =
    let some = not-none c.args.self.now.pages.len (sym c.is_empty.ensures ∙ c.if-is_empty.false) in
    omega (arith, c.args.self.now.pages.ok.0, some)
  where
    not-none : (n : ℕ) → (n == 0) ≡ false → 0 < n
    not-none n e = grind (arith, nat_tests)

pub index-entries-requires : goal.index-entries-requires
index-entries-requires g c = omega (arith, c.args.self.now.pages.ok.0, c.seek-page.ensures.there)

pub row-requires : goal.row-requires
row-requires g c = begins-inside c.args.key c.index-entries.result.now c.seek-page.result.1 (sym c.has.ensures ∙ c.if-has.true)

pub returns-then-has : goal.returns-then-has
returns-then-has g c =
    let pages = c.args.self.now.pages.items in
    let page = c.seek-page.result.0 in
    let place = c.seek-page.result.1 in
    let same = read pages page c.index-entries.result.now c.seek-page.ensures.there c.index-entries.ensures in
    found c.args.key pages page place c.row.result.now c.seek-page.ensures (subst (λ es. StandsAt es place c.args.key c.row.result.now) same (c.row.ensures c.args.key (sym c.has.ensures ∙ c.if-has.true)))

pub returns-else-has : goal.returns-else-has
returns-else-has g c =
    let pages = c.args.self.now.pages.items in
    let page = c.seek-page.result.0 in
    let place = c.seek-page.result.1 in
    let same = read pages page c.index-entries.result.now c.seek-page.ensures.there c.index-entries.ensures in
    missing c.args.key pages page place c.seek-page.ensures (subst (λ es. begins_with c.args.key (drop place es) ≡ false) same (sym c.has.ensures ∙ c.if-has.false))
