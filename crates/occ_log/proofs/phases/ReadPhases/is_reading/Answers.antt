use Rattle.std.proofs.Common.{◌∙◌, ◌==◌, ◌<◌, ◌≤◌, not, sym, ap, subst, length, slice_index_or}
use Rattle.std.proofs.lemmas.Bool.{ltb-true}
use Rattle.std.specs.FinMap.{len}
use Rattle.occ_log.proofs.Readers.{reads-here, reads-beyond}
use Rattle.occ_log.proofs.phases.ReadPhases.is_reading.Goals as goal

pub returns : goal.returns
returns g c =
    let at = c.in-Some.ensures.lookup in
    let there = subst (λ ms. c.args.session < length ms) c.deref.ensures.value (ltb-true _ _ (sym at.0)) in
    ap not (c.is_empty.ensures ∙ ap (λ m. len m == 0) (at.1 ∙ ap (λ ms. slice_index_or ms c.args.session c.in-Some.phases.now) c.deref.ensures.value))
    ∙ reads-here c.self.inside.sessions.items c.args.session c.in-Some.phases.now c.args.self.now there c.self.view_is

pub returns-in_default : goal.returns-in_default
returns-in_default g c =
    let beyond = subst (λ ms. length ms ≤ c.args.session) c.deref.ensures.value c.in_default.ensures.lookup.3 in
    reads-beyond c.self.inside.sessions.items c.args.session c.args.self.now beyond c.self.view_is
