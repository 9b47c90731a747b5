use Rattle.std.proofs.Common.{◌∙◌, ◌<◌, ◌≤◌, sym, ap, subst, length, slice_index_or}
use Rattle.std.proofs.lemmas.Bool.{ltb-true}
use Rattle.std.specs.FinMap.{get}
use Rattle.occ_log.proofs.PhaseLists.{phases-part, phases-beyond}
use Rattle.occ_log.proofs.phases.ReadPhases.get.Goals as goal

pub returns-in-Some : goal.returns-in-Some
returns-in-Some g c =
    let at = c.in-Some.ensures.lookup in
    let there = subst (λ ms. c.args.session < length ms) c.deref.ensures.value (ltb-true _ _ (sym at.0)) in
    c.get-in-Some.ensures
    ∙ ap (λ m. get m c.args.number) (at.1 ∙ ap (λ ms. slice_index_or ms c.args.session c.in-Some.phases.now) c.deref.ensures.value)
    ∙ phases-part c.self.inside.sessions.items c.args.session c.in-Some.phases.now c.args.self.now there c.self.view_is c.args.number

pub returns-in-None : goal.returns-in-None
returns-in-None g c =
    let beyond = subst (λ ms. length ms ≤ c.args.session) c.deref.ensures.value c.in-None.ensures.lookup.3 in
    phases-beyond c.self.inside.sessions.items c.args.session c.args.self.now beyond c.self.view_is c.args.number
