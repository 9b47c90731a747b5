use Rattle.std.proofs.Common.{ap, option_copied}
use Rattle.occ_types.specs.declared.limits.TheConstants.{MAX_ANSWER_ROWS}
use Rattle.occ_types.specs.Question.{Span}
use Rattle.occ_types.specs.PlainData.{end_of}
use Rattle.occ_model.specs.State.{answer}
use Rattle.occ_core.specs.Core.{parts_of}
use Rattle.occ_core.proofs.ReadPhases.{found_whole, read_passed, test_passed}
use Rattle.occ_core.proofs.core_state.Core.rows_at_once.Goals as goal

-- all tests are passed
pub returns-in-Ok : goal.returns-in-Ok
returns-in-Ok g c =
    let question = Span c.args.table (end_of (option_copied c.args.lower)) (end_of (option_copied c.args.upper)) in
    let parts = parts_of c.self.inside in
    found_whole MAX_ANSWER_ROWS (answer question parts.table) (answer question c.args.self.now.world.table) c.in-Ok.rows c.in-Ok.ensures.answered (ap (λ s. answer question s.world.table) c.self.view_is) (λ few.
    read_passed parts c.args.self.now.world (ap (λ s. s.world) c.self.view_is) c.self.invariant.sound c.args.transaction.session c.args.transaction.number c.args.transaction.start question _ c.get-begun.ensures
    (test_passed c.check_turn_to_read.result _ c.if-is_err.ensures.value c.check_turn_to_read.ensures)
    (test_passed c.check_range.result _ c.if-is_err-2.ensures.value c.check_range.ensures)
    few
    (test_passed c.check_room_to_read.result _ c.if-is_err-3.ensures.value c.check_room_to_read.ensures))
