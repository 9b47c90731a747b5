use Rattle.std.proofs.Common.{length, sym, ap, ◌∙◌, arith}
use Rattle.occ_pages.proofs.Zipped.{length-zipped}
use Rattle.occ_pages.proofs.page.Page.len.Goals as goal

pub returns-clause-len : goal.returns-clause-len
returns-clause-len g c =
    let long = length-zipped c.self.inside.keys.items c.self.inside.rows.items c.self.invariant.same in
    c.len.ensures ∙ c.self.inside.keys.ok.0 ∙ sym long ∙ ap length c.self.view_is

pub returns-clause-few : goal.returns-clause-few
returns-clause-few g c =
    let long = sym (ap length c.self.view_is) ∙ length-zipped c.self.inside.keys.items c.self.inside.rows.items c.self.invariant.same in
    omega (arith, long, c.self.invariant.few)
