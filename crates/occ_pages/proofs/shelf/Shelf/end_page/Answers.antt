use Rattle.std.proofs.Common.{◌≡◌, [], drop, sym, ap, subst, arith}
use Rattle.std.proofs.lemmas.List.{drop_all}
use Rattle.occ_pages.specs.Entries.{within}
use Rattle.occ_pages.specs.Pages.{Rises, IsRank, flatten}
use Rattle.occ_pages.proofs.Shelves.{under-long, firsts-rise}
use Rattle.occ_pages.proofs.RangePages.{none-behind}
use Rattle.occ_pages.proofs.shelf.Shelf.end_page.Goals as goal

pub rank-requires : goal.rank-requires
rank-requires g c = subst Rises (sym c.deref.ensures.value) (firsts-rise _ _ c.requires.under c.requires.ascends)

pub returns-in-Some-clause-there : goal.returns-in-Some-clause-there
returns-in-Some-clause-there g c =
    let is = subst (λ firsts. IsRank firsts c.in-Some.upper c.rank.result) c.deref.ensures.value c.rank.ensures in
    omega (arith, is.there, under-long _ _ c.requires.under)

pub returns-in-Some-clause-last : goal.returns-in-Some-clause-last
returns-in-Some-clause-last g c = λ lower page h.
    let is = subst (λ firsts. IsRank firsts c.in-Some.upper c.rank.result) c.deref.ensures.value c.rank.ensures in
    subst (λ upper. within lower upper (flatten (drop page c.args.self.now.pages.items)) ≡ []) (sym c.in-Some.is) (none-behind lower c.in-Some.upper c.args.self.now.firsts.items c.args.self.now.pages.items c.rank.result page c.requires is h)

pub returns-in-None-clause-there : goal.returns-in-None-clause-there
returns-in-None-clause-there g c = omega (arith, c.len.ensures, c.args.self.now.pages.ok.0)

pub returns-in-None-clause-last : goal.returns-in-None-clause-last
returns-in-None-clause-last g c = λ lower page h.
    ap (λ pages. within lower c.args.upper (flatten pages)) (drop_all page c.args.self.now.pages.items (omega (arith, c.len.ensures, c.args.self.now.pages.ok.0, h)))
