use Rattle.std.proofs.Common.{◌≡◌, true, [], Ok, Err, ◌∙◌, ap}
use Rattle.occ_cli.proofs.Common.{err_from_is_err_and, front_none}
use Rattle.occ_text.specs.HeaderTaking.{header_of}
use Rattle.occ_text.specs.Line.{HasFailed}
use Rattle.occ_text.specs.declared.trouble.Trouble.TheVariants as troubles
use Rattle.occ_cli.proofs.WholeReplay.{cut_before, head_taken, header_stopped, turns_stopped, all_closed, all_cut, no_read, told_on, wrote_for_cause}
use Rattle.occ_cli.proofs.text_replay.replay_lines.Goals as goal

pub returns-in_err-header-clause-gives : goal.returns-in_err-header-clause-gives
returns-in_err-header-clause-gives g c = header_stopped (header_of {Z = g.row.A.Denot}) c.in_err-header.field-0.0 c.from_residual.result c.args.quiet _ _ _ _ _ c.read_header.new.input.number c.from_residual.ensures.1 c.requires c.in_err-header.ensures.gives

pub returns-in_err-take_turns-clause-gives : goal.returns-in_err-take_turns-clause-gives
returns-in_err-take_turns-clause-gives g c =
    let h = err_from_is_err_and c.from_residual-in_err-take_turns.result c.from_residual-in_err-take_turns.ensures.1 in
    let taken = c.in_ok-header.ensures.gives in
    let head = head_taken (header_of c.in_ok-header.header) _ _ _ _ c.requires taken in
    turns_stopped c.from_residual-in_err-take_turns.result c.in_err-take_turns.field-0.0 c.args.quiet (header_of c.in_ok-header.header) c.in-Ok.replay _ _ _ _ _ _ _ _ c.take_turns.new.replay c.in-Ok.ensures.started (h.1 ∙ ap Err h.2)
    head taken.1 c.in_err-take_turns.ensures.gives

pub returns-in_err-take_turns-clause-unread : goal.returns-in_err-take_turns-clause-unread
returns-in_err-take_turns-clause-unread g c =
    told_on (λ trouble. trouble ≡ troubles.Read → HasFailed c.take_turns.new.input) c.in_err-take_turns.field-0.0 c.from_residual-in_err-take_turns.result c.from_residual-in_err-take_turns.ensures.1 c.in_err-take_turns.ensures.unread

pub returns-in_err-take_turns-clause-unwritten : goal.returns-in_err-take_turns-clause-unwritten
returns-in_err-take_turns-clause-unwritten g c =
    told_on (λ trouble. trouble ≡ troubles.Write → c.take_turns.new.output.failed ≡ true) c.in_err-take_turns.field-0.0 c.from_residual-in_err-take_turns.result c.from_residual-in_err-take_turns.ensures.1 c.in_err-take_turns.ensures.unwritten

pub returns-in_err-close-clause-gives : goal.returns-in_err-close-clause-gives
returns-in_err-close-clause-gives g c =
    let taken = c.in_ok-header.ensures.gives in
    let head = head_taken (header_of c.in_ok-header.header) _ _ _ _ c.requires taken in
    all_cut c.in_err-close.field-0.0 c.from_residual-in_err-close.result c.args.quiet (header_of c.in_ok-header.header) c.in-Ok.replay c.take_turns.new.replay _ _ _ _ _ _ _ _ _ _ c.from_residual-in_err-close.ensures.1 c.in-Ok.ensures.started head taken.1
    c.in_ok-take_turns.ensures.gives c.in_err-close.ensures.gives

pub returns-in_err-close-clause-unread : goal.returns-in_err-close-clause-unread
returns-in_err-close-clause-unread g c = no_read _ c.in_err-close.field-0.0 c.from_residual-in_err-close.result c.from_residual-in_err-close.ensures.1

pub returns-in_err-close-clause-unwritten : goal.returns-in_err-close-clause-unwritten
returns-in_err-close-clause-unwritten g c = wrote_for_cause _ c.in_err-close.field-0.0 c.from_residual-in_err-close.result c.from_residual-in_err-close.ensures.1 c.in_err-close.ensures.cause

pub returns-clause-gives : goal.returns-clause-gives
returns-clause-gives g c =
    let taken = c.in_ok-header.ensures.gives in
    let head = head_taken (header_of c.in_ok-header.header) _ _ _ _ c.requires taken in
    all_closed {T = Unit {0}} (Ok tt) c.args.quiet (header_of c.in_ok-header.header) c.in-Ok.replay c.take_turns.new.replay _ _ _ _ _ _ _ _ _ _ c.in-Ok.ensures.started head taken.1 c.in_ok-take_turns.ensures.gives c.in_ok-close.ensures.gives

pub returns-in_default-clause-gives : goal.returns-in_default-clause-gives
returns-in_default-clause-gives g c = cut_before c.args.quiet _ _ _ (front_none _ c.args.output.now.held [])
