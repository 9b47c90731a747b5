use Rattle.std.proofs.Common.{◌≡◌, ◌∙◌, ◌<◌, ◌≤◌, sym, ap, subst, arith, length, slice_index_or}
use Rattle.std.specs.FinMap as finite
use Rattle.occ_log.proofs.PhaseLists.{phases-part, phases-beyond, phases-removed, none-removed}
use Rattle.occ_log.proofs.phases.ReadPhases.take.Goals as goal

pub returns-then-session-len-clause-phase : goal.returns-then-session-len-clause-phase
returns-then-session-len-clause-phase g c =
    let sessions = c.self.inside.sessions in
    phases-beyond sessions.items c.args.session c.args.self.now (omega (arith, c.len.ensures, sessions.ok.0, c.if-session-len.true)) c.self.view_is c.args.number

pub returns-then-session-len-clause-gone : goal.returns-then-session-len-clause-gone
returns-then-session-len-clause-gone g c =
    let sessions = c.self.inside.sessions in
    none-removed sessions.items c.args.session c.args.self.now (omega (arith, c.len.ensures, sessions.ok.0, c.if-session-len.true)) c.self.view_is c.args.number

pub returns-clause-phase : goal.returns-clause-phase
returns-clause-phase g c =
    let sessions = c.self.inside.sessions in
    c.take.ensures.phase
    ∙ ap (λ m. finite.get m c.args.number) c.index_mut.ensures.value
    ∙ phases-part sessions.items c.args.session c.index_mut.result.now c.args.self.now (omega (arith, c.len.ensures, sessions.ok.0, c.if-session-len.false)) c.self.view_is c.args.number

pub returns-clause-gone : goal.returns-clause-gone
returns-clause-gone g c =
    let sessions = c.self.inside.sessions in
    phases-removed sessions.items c.args.session c.index_mut.result.now c.args.self.now (omega (arith, c.len.ensures, sessions.ok.0, c.if-session-len.false)) c.self.view_is c.args.number c.take.new.self
    (c.take.ensures.gone ∙ ap (λ m. finite.remove m c.args.number) c.index_mut.ensures.value)
