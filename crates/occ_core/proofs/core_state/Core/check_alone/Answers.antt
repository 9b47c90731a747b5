use Rattle.std.proofs.Common.{ap, sym, ◌∙◌, Some, length}
use Rattle.std.specs.Result.{result_err}
use Rattle.std.proofs.lemmas.Result.{err_from_is_err_and}
use Rattle.occ_sets.specs.Operations.{ops_of}
use Rattle.occ_core.specs.RunningAlone.{turn_to_run, room_to_run}
use Rattle.occ_core.specs.Core.{parts_of}
use Rattle.occ_core.proofs.Placed.{rows_found}
use Rattle.occ_core.proofs.RunsAlone.{alone_turned, alone_roomed}
use Rattle.occ_core.proofs.core_state.Core.check_alone.Goals as goal

pub returns-in_err-check_turn_to_run : goal.returns-in_err-check_turn_to_run
returns-in_err-check_turn_to_run g c =
    let p = err_from_is_err_and c.from_residual.result c.from_residual.ensures.1 in
    let found = rows_found c.self.inside.log c.self.invariant.log_match.begins in
    ap result_err p.1 ∙ sym (alone_turned (parts_of c.self.inside) c.args.self.now.world (ap (λ s. s.world) c.self.view_is) c.args.session c.args.number (ops_of c.args.operations.now) c.self.invariant.sound p.0
    (sym (ap (λ at. turn_to_run c.self.inside.sessions c.self.inside.marks.marks at c.self.inside.phases c.args.session c.args.number) found) ∙ sym c.in_err-check_turn_to_run.ensures ∙ ap Some (sym p.2)))

pub returns : goal.returns
returns g c =
    let found = rows_found c.self.inside.log c.self.invariant.log_match.begins in
    c.check_room_to_run.ensures ∙ ap (λ at. room_to_run c.self.inside.schema c.self.inside.sessions (length c.self.inside.log.rows) at c.self.inside.counter (ops_of c.args.operations.now)) found
    ∙ sym (alone_roomed (parts_of c.self.inside) c.args.self.now.world (ap (λ s. s.world) c.self.view_is) c.args.session c.args.number (ops_of c.args.operations.now) c.self.invariant.sound
    (sym (ap (λ at. turn_to_run c.self.inside.sessions c.self.inside.marks.marks at c.self.inside.phases c.args.session c.args.number) found) ∙ sym c.in_ok-check_turn_to_run.ensures))
