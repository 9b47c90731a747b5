use Rattle.std.proofs.Common.{◌≡◌, ◌<◌, ◌==◌, ℕ, false, [], length, take, sym, ap, subst, ◌∙◌, arith}
use Rattle.std.proofs.lemmas.Bool.Decides.{nat_tests}
use Rattle.occ_pages.specs.Entries.{within}
use Rattle.occ_pages.specs.Pages.{Rises, IsPageFor, flatten}
use Rattle.occ_pages.proofs.Shelves.{under-long, firsts-rise}
use Rattle.occ_pages.proofs.RangePages.{none-before}
use Rattle.occ_pages.proofs.shelf.Shelf.start_page.Goals as goal

pub page_of-requires-clause-rises : goal.page_of-requires-clause-rises
page_of-requires-clause-rises g c = subst Rises (sym c.deref.ensures.value) (firsts-rise _ _ c.requires.under c.requires.ascends)

pub page_of-requires-clause-some : goal.page_of-requires-clause-some
page_of-requires-clause-some g c =
    let some = not-none c.args.self.now.firsts.len (sym c.is_empty.ensures ∙ c.if-is_empty.false) in
    omega (arith, ap length c.deref.ensures.value, c.args.self.now.firsts.ok.0, some)
  where
    not-none : (n : ℕ) → (n == 0) ≡ false → 0 < n
    not-none n e = grind (arith, nat_tests)

pub returns-in-Some-clause-there : goal.returns-in-Some-clause-there
returns-in-Some-clause-there g c =
    let for = subst (λ firsts. IsPageFor firsts c.in-Some.lower c.page_of.result) c.deref.ensures.value c.page_of.ensures in
    omega (arith, for.there, under-long _ _ c.requires.under)

pub returns-in-Some-clause-first : goal.returns-in-Some-clause-first
returns-in-Some-clause-first g c = λ upper.
    let for = subst (λ firsts. IsPageFor firsts c.in-Some.lower c.page_of.result) c.deref.ensures.value c.page_of.ensures in
    subst (λ lower. within lower upper (flatten (take c.page_of.result c.args.self.now.pages.items)) ≡ []) (sym c.in-Some.is) (none-before c.in-Some.lower upper c.args.self.now.firsts.items c.args.self.now.pages.items c.page_of.result c.requires for)
