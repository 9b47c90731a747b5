use Rattle.std.proofs.Common.{ap, sym, ◌∙◌, Some, length}
use Rattle.std.specs.Result.{result_err}
use Rattle.std.proofs.lemmas.Result.{err_from_is_err_and}
use Rattle.occ_core.specs.EntryFaults.{room_to_enter}
use Rattle.occ_core.specs.Core.{parts_of}
use Rattle.occ_core.proofs.Entries.{entry_turned, entry_roomed}
use Rattle.occ_core.proofs.Placed.{rows_found}
use Rattle.occ_core.proofs.core_state.Core.check_entry.Goals as goal

pub returns-in_err-check_turn_to_enter : goal.returns-in_err-check_turn_to_enter
returns-in_err-check_turn_to_enter g c =
    let p = err_from_is_err_and c.from_residual.result c.from_residual.ensures.1 in
    ap result_err p.1 ∙ sym (entry_turned (parts_of c.self.inside) c.args.self.now.world (ap (λ s. s.world) c.self.view_is) c.args.transaction.session c.args.transaction.number c.args.transaction.start c.args.writes.now c.self.invariant.sound p.0 (sym c.in_err-check_turn_to_enter.ensures ∙ ap Some (sym p.2)))

pub returns : goal.returns
returns g c =
    c.check_room_to_enter.ensures ∙ ap (λ at. room_to_enter c.self.inside.schema c.self.inside.sessions (length c.self.inside.log.rows) at c.self.inside.counter c.args.writes.now) (rows_found c.self.inside.log c.self.invariant.log_match.begins) ∙ sym (entry_roomed (parts_of c.self.inside) c.args.self.now.world (ap (λ s. s.world) c.self.view_is) c.args.transaction.session c.args.transaction.number c.args.transaction.start c.args.writes.now c.self.invariant.sound (sym c.in_ok-check_turn_to_enter.ensures))
