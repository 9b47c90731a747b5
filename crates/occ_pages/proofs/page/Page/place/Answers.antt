use Rattle.std.proofs.Common.{length, take, drop, sym, ap, subst, ◌∙◌, arith}
use Rattle.occ_pages.specs.Entries.{Ascends}
use Rattle.occ_pages.specs.Pages.{Rises, IsRank, IsSplit}
use Rattle.occ_pages.proofs.Zipped.{length-zipped, split-rank, rises}
use Rattle.occ_pages.proofs.page.Page.place.Goals as goal

pub rank-requires : goal.rank-requires
rank-requires g c =
    subst Rises (sym c.deref.ensures.value) (rises c.self.inside.keys.items c.self.inside.rows.items c.self.invariant.same (subst Ascends (sym c.self.view_is) c.requires))

pub returns-clause-there : goal.returns-clause-there
returns-clause-there g c =
    let is = subst (λ keys. IsRank keys c.args.key c.rank.result) c.deref.ensures.value c.rank.ensures in
    let long = sym (ap length c.self.view_is) ∙ length-zipped c.self.inside.keys.items c.self.inside.rows.items c.self.invariant.same in
    omega (arith, long, is.there)

pub returns-clause-split : goal.returns-clause-split
returns-clause-split g c =
    let is = subst (λ keys. IsRank keys c.args.key c.rank.result) c.deref.ensures.value c.rank.ensures in
    subst (λ es. IsSplit c.args.key (take c.rank.result es) (drop c.rank.result es)) c.self.view_is (split-rank c.args.key c.self.inside.keys.items c.self.inside.rows.items c.rank.result is)
