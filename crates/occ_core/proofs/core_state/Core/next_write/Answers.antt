use Rattle.std.proofs.Common.{ap, sym, ◌∙◌, option_map}
use Rattle.occ_core.specs.Core.{parts_of}
use Rattle.occ_log.specs.Rows.{log_row_of}
use Rattle.occ_core.proofs.Nexts.{next_none, next_idle, next_at, next_free}
use Rattle.occ_core.proofs.Placed.{fault_in, in_log}
use Rattle.occ_core.proofs.core_state.Core.next_write.Goals as goal

pub returns-in-Err-clause-object : goal.returns-in-Err-clause-object
returns-in-Err-clause-object g c =
    sym (next_none (parts_of c.self.inside) c.args.self.now.world (ap (λ s. s.world) c.self.view_is) c.self.invariant.sound c.args.session c.in-Err._fault (fault_in c.self.inside.log c.self.inside.sessions c.args.session c.self.invariant.log_match.begins c.in-Err.ensures.err))

pub returns-in-Err-writes_done-clause-object : goal.returns-in-Err-writes_done-clause-object
returns-in-Err-writes_done-clause-object g c =
    sym (next_idle (parts_of c.self.inside) c.args.self.now.world (ap (λ s. s.world) c.self.view_is) c.self.invariant.sound c.args.session c.in-Ok._place (log_row_of c.in-Ok.row.now) c.in-Err-writes_done._fault
    c.in-Ok.ensures.place (in_log c.self.inside.log c.in-Ok._place (log_row_of c.in-Ok.row.now) c.self.invariant.log_match.begins c.in-Ok.ensures.row) (sym c.in-Err-writes_done.ensures))

pub returns-in-Some-clause-object : goal.returns-in-Some-clause-object
returns-in-Some-clause-object g c =
    ap (option_map (λ w. w.0)) c.in-Some.ensures.value
    ∙ sym (next_at (parts_of c.self.inside) c.args.self.now.world (ap (λ s. s.world) c.self.view_is) c.self.invariant.sound c.args.session c.in-Ok._place (log_row_of c.in-Ok.row.now) c.in-Ok-writes_done.done
    c.in-Ok.ensures.place (in_log c.self.inside.log c.in-Ok._place (log_row_of c.in-Ok.row.now) c.self.invariant.log_match.begins c.in-Ok.ensures.row) (sym c.in-Ok-writes_done.ensures))

pub returns-in-Some-clause-free : goal.returns-in-Some-clause-free
returns-in-Some-clause-free g c = λ _.
    next_free (parts_of c.self.inside) c.args.self.now.world (ap (λ s. s.world) c.self.view_is) c.self.invariant.sound c.args.session c.in-Ok._place (log_row_of c.in-Ok.row.now) c.in-Ok-writes_done.done
    c.in-Ok.ensures.place (in_log c.self.inside.log c.in-Ok._place (log_row_of c.in-Ok.row.now) c.self.invariant.log_match.begins c.in-Ok.ensures.row) (sym c.in-Ok-writes_done.ensures)

pub returns-in-None-clause-object : goal.returns-in-None-clause-object
returns-in-None-clause-object g c =
    ap (option_map (λ w. w.0)) c.in-None.ensures.value
    ∙ sym (next_at (parts_of c.self.inside) c.args.self.now.world (ap (λ s. s.world) c.self.view_is) c.self.invariant.sound c.args.session c.in-Ok._place (log_row_of c.in-Ok.row.now) c.in-Ok-writes_done.done
    c.in-Ok.ensures.place (in_log c.self.inside.log c.in-Ok._place (log_row_of c.in-Ok.row.now) c.self.invariant.log_match.begins c.in-Ok.ensures.row) (sym c.in-Ok-writes_done.ensures))
