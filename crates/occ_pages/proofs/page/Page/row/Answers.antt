use Rattle.std.proofs.Common.{◌≡◌, ◌<◌, true, length, drop, sym, ap, subst, ◌∙◌, arith}
use Rattle.occ_pages.specs.Page.{StandsAt}
use Rattle.occ_pages.specs.Pages.{begins_with}
use Rattle.occ_pages.proofs.Zipped.{length-zipped, stands-at}
use Rattle.occ_pages.proofs.page.Page.row.Goals as goal

pub returns : goal.returns
returns g c = λ key is.
    let keys = c.self.inside.keys.items in
    let rows = c.self.inside.rows.items in
    let long = sym (ap length c.self.view_is) ∙ length-zipped keys rows c.self.invariant.same in
    let there : c.args.place < length keys = omega (arith, long, c.requires) in
    subst (λ es. StandsAt es c.args.place key c.index.result.now) c.self.view_is
    (stands-at keys rows c.args.place key c.self.invariant.same there c.index.result.now c.index.ensures (subst (λ es. begins_with key (drop c.args.place es) ≡ true) (sym c.self.view_is) is))

pub index-requires : goal.index-requires
index-requires g c =
    let long = sym (ap length c.self.view_is) ∙ length-zipped c.self.inside.keys.items c.self.inside.rows.items c.self.invariant.same in
    omega (arith, long, c.self.invariant.same, c.self.inside.rows.ok.0, c.requires)
