use Rattle.std.proofs.Common.{ap, sym, ◌∙◌}
use Rattle.occ_core.specs.Core.{parts_of}
use Rattle.occ_core.specs.OpenCases.{case_of}
use Rattle.occ_log.specs.Rows.{log_row_of, standing_of}
use Rattle.occ_log.proofs.Changes.{not_open}
use Rattle.occ_core.proofs.OpenCases.{case_none, case_found, case_closed, case_free}
use Rattle.occ_core.proofs.Placed.{fault_in, in_log}
use Rattle.occ_core.proofs.core_state.Core.open_case.Goals as goal

pub returns-in-Err-clause-case : goal.returns-in-Err-clause-case
returns-in-Err-clause-case g c =
    sym (case_none (parts_of c.self.inside) c.args.self.now.world (ap (λ s. s.world) c.self.view_is) c.self.invariant.sound c.args.session c.in-Err._fault (fault_in c.self.inside.log c.self.inside.sessions c.args.session c.self.invariant.log_match.begins c.in-Err.ensures.err))

pub returns-in-Open-clause-case : goal.returns-in-Open-clause-case
returns-in-Open-clause-case g c =
    sym (case_found (parts_of c.self.inside) c.args.self.now.world (ap (λ s. s.world) c.self.view_is) c.self.invariant.sound c.args.session c.in-Ok._place (log_row_of c.in-Ok.row.now)
    c.in-Ok.ensures.place (in_log c.self.inside.log c.in-Ok._place (log_row_of c.in-Ok.row.now) c.self.invariant.log_match.begins c.in-Ok.ensures.row) ∙ ap (λ s. case_of (standing_of s)) c.in-Open.is)

pub returns-in_default-clause-case : goal.returns-in_default-clause-case
returns-in_default-clause-case g c =
    sym (case_closed (parts_of c.self.inside) c.args.self.now.world (ap (λ s. s.world) c.self.view_is) c.self.invariant.sound c.args.session c.in-Ok._place (log_row_of c.in-Ok.row.now)
    c.in-Ok.ensures.place (in_log c.self.inside.log c.in-Ok._place (log_row_of c.in-Ok.row.now) c.self.invariant.log_match.begins c.in-Ok.ensures.row) (not_open c.in-Ok.row.now.standing c.in_default.not-Open))

pub returns-in-Open-clause-free : goal.returns-in-Open-clause-free
returns-in-Open-clause-free g c = λ _.
    case_free (parts_of c.self.inside) c.args.self.now.world (ap (λ s. s.world) c.self.view_is) c.self.invariant.sound c.args.session c.in-Ok._place (log_row_of c.in-Ok.row.now) c.in-Open.open.0 c.in-Open.open.1
    c.in-Ok.ensures.place (in_log c.self.inside.log c.in-Ok._place (log_row_of c.in-Ok.row.now) c.self.invariant.log_match.begins c.in-Ok.ensures.row) (ap standing_of c.in-Open.is)
