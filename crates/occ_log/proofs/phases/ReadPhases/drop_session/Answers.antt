use Rattle.std.proofs.Common.{arith}
use Rattle.occ_log.proofs.PhaseLists.{phases-cleared, none-cleared}
use Rattle.occ_log.proofs.phases.ReadPhases.drop_session.Goals as goal

pub returns-then-session-len : goal.returns-then-session-len
returns-then-session-len g c =
    let sessions = c.self.inside.sessions in
    phases-cleared sessions.items c.args.session c.index_mut.result.now c.args.self.now (omega (arith, c.len.ensures, sessions.ok.0, c.if-session-len.true)) c.self.view_is c.clear.new.self c.clear.ensures

pub returns-else-session-len : goal.returns-else-session-len
returns-else-session-len g c =
    let sessions = c.self.inside.sessions in
    none-cleared sessions.items c.args.session c.args.self.now (omega (arith, c.len.ensures, sessions.ok.0, c.if-session-len.false)) c.self.view_is
