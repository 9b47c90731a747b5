use Rattle.std.proofs.Common.{ap, sym, ◌∙◌, Some, option_copied}
use Rattle.std.specs.Result.{result_err}
use Rattle.std.proofs.lemmas.Result.{err_from_is_err_and}
use Rattle.occ_types.specs.Question.{Span}
use Rattle.occ_types.specs.PlainData.{end_of}
use Rattle.occ_core.specs.Core.{parts_of}
use Rattle.occ_core.proofs.ReadPhases.{read_refused, refused_turn, refused_question, refused_size, last_decides}
use Rattle.occ_core.proofs.core_state.Core.check_scan.Goals as goal

pub returns-in_err-check_turn_to_read : goal.returns-in_err-check_turn_to_read
returns-in_err-check_turn_to_read g c =
    let p = err_from_is_err_and c.from_residual.result c.from_residual.ensures.1 in
    ap result_err p.1 ∙ sym (read_refused (parts_of c.self.inside) c.args.self.now.world (ap (λ s. s.world) c.self.view_is) c.self.invariant.sound c.args.transaction.session c.args.transaction.number c.args.transaction.start (Span c.args.table (end_of (option_copied c.args.lower)) (end_of (option_copied c.args.upper))) _ c.get-begun.ensures
    ∙ refused_turn _ _ _ _ _ (sym c.in_err-check_turn_to_read.ensures ∙ ap Some (sym p.2)))

pub returns-in_err-check_range : goal.returns-in_err-check_range
returns-in_err-check_range g c =
    let p = err_from_is_err_and c.from_residual-in_err-check_range.result c.from_residual-in_err-check_range.ensures.1 in
    ap result_err p.1 ∙ sym (read_refused (parts_of c.self.inside) c.args.self.now.world (ap (λ s. s.world) c.self.view_is) c.self.invariant.sound c.args.transaction.session c.args.transaction.number c.args.transaction.start (Span c.args.table (end_of (option_copied c.args.lower)) (end_of (option_copied c.args.upper))) _ c.get-begun.ensures
    ∙ refused_question _ _ _ _ _ (sym c.in_ok-check_turn_to_read.ensures) (sym c.in_err-check_range.ensures ∙ ap Some (sym p.2)))

pub returns-in_err-check_size : goal.returns-in_err-check_size
returns-in_err-check_size g c =
    let p = err_from_is_err_and c.from_residual-in_err-check_size.result c.from_residual-in_err-check_size.ensures.1 in
    ap result_err p.1 ∙ sym (read_refused (parts_of c.self.inside) c.args.self.now.world (ap (λ s. s.world) c.self.view_is) c.self.invariant.sound c.args.transaction.session c.args.transaction.number c.args.transaction.start (Span c.args.table (end_of (option_copied c.args.lower)) (end_of (option_copied c.args.upper))) _ c.get-begun.ensures
    ∙ refused_size _ _ _ _ _ (sym c.in_ok-check_turn_to_read.ensures) (sym c.in_ok-check_range.ensures) (sym c.in_err-check_size.ensures ∙ ap Some (sym p.2)))

pub returns : goal.returns
returns g c =
    c.check_room_to_read.ensures
    ∙ sym (read_refused (parts_of c.self.inside) c.args.self.now.world (ap (λ s. s.world) c.self.view_is) c.self.invariant.sound c.args.transaction.session c.args.transaction.number c.args.transaction.start (Span c.args.table (end_of (option_copied c.args.lower)) (end_of (option_copied c.args.upper))) _ c.get-begun.ensures
    ∙ last_decides _ _ _ _ (sym c.in_ok-check_turn_to_read.ensures) (sym c.in_ok-check_range.ensures) (sym c.in_ok-check_size.ensures))
