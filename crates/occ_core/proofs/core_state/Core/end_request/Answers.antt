use Rattle.std.proofs.Common.{ap, sym, ◌∙◌, Some, refl}
use Rattle.std.proofs.lemmas.Result.{err_from_is_err_and}
use Rattle.occ_model.specs.Step.{refused}
use Rattle.occ_core.proofs.Replied.{replied_err}
use Rattle.occ_core.specs.Replies.{outcome_of}
use Rattle.occ_core.proofs.SerialEnding.{quiet_kept, room_kept, placed_kept, commit_lawful, commit_returns, back_lawful, back_returns}
use Rattle.occ_core.proofs.Tallies.{uncounted}
use Rattle.occ_core.proofs.core_state.Core.end_request.Goals as goal

pub returns-in_err-check_serial-clause-step : goal.returns-in_err-check_serial-clause-step
returns-in_err-check_serial-clause-step g c =
    let p = err_from_is_err_and c.from_residual.result c.from_residual.ensures.1 in
    replied_err outcome_of _ _ _ _ p.0 p.1 (refused p.0 (sym c.in_err-check_serial.ensures ∙ ap Some (sym p.2)) refl refl)

pub tested-requires-clause-quiet : goal.tested-requires-clause-quiet
tested-requires-clause-quiet g c =
    let t = c.args.transaction in
    quiet_kept c.args.self.now.world t.session t.number t.start c.args.writes.now (sym c.in_ok-check_serial.ensures) c.args.self.now.world refl c.in_ok-reads.reads c.in_ok-reads.ensures.reads c.share.new.self c.in_ok-share.ensures.kept

pub commit_at_once-requires-clause-lawful : goal.commit_at_once-requires-clause-lawful
commit_at_once-requires-clause-lawful g c =
    let t = c.args.transaction in
    commit_lawful c.args.self.now.world t.session t.number t.start c.args.writes.now (sym c.in_ok-check_serial.ensures) c.args.self.now.world refl c.in_ok-reads.reads c.in_ok-reads.ensures.reads c.in_ok-kept-in-Commit.kept (c.in_ok-kept-in-Commit.ensures.cases ∙ c.in_ok-share.ensures.kept) (record { invariant = c.law.ensures.invariant; content = c.law.ensures.content }) (c.in-Commit.ensures c.args.writes.now)

pub commit_at_once-requires-clause-room : goal.commit_at_once-requires-clause-room
commit_at_once-requires-clause-room g c =
    let t = c.args.transaction in
    room_kept c.args.self.now.world t.session t.number t.start c.args.writes.now (sym c.in_ok-check_serial.ensures) c.args.self.now.world refl c.in_ok-reads.reads c.in_ok-reads.ensures.reads c.in_ok-kept-in-Commit.kept (c.in_ok-kept-in-Commit.ensures.cases ∙ c.in_ok-share.ensures.kept)

pub commit_at_once-requires-clause-placed : goal.commit_at_once-requires-clause-placed
commit_at_once-requires-clause-placed g c =
    let t = c.args.transaction in
    placed_kept c.args.self.now.world t.session t.number t.start c.args.writes.now (sym c.in_ok-check_serial.ensures) c.args.self.now.world refl c.in_ok-reads.reads c.in_ok-reads.ensures.reads c.in_ok-kept-in-Commit.kept (c.in_ok-kept-in-Commit.ensures.cases ∙ c.in_ok-share.ensures.kept)

pub back_up_at_once-requires-clause-lawful : goal.back_up_at_once-requires-clause-lawful
back_up_at_once-requires-clause-lawful g c =
    let t = c.args.transaction in
    back_lawful c.args.self.now.world t.session t.number t.start c.args.writes.now (sym c.in_ok-check_serial.ensures) c.args.self.now.world refl c.in_ok-reads.reads c.in_ok-reads.ensures.reads c.share.new.self c.in_ok-share.ensures.kept c.in-BackUp.cause (record { invariant = c.law.ensures.invariant; content = c.law.ensures.content }) (c.in-BackUp.ensures c.args.writes.now)

pub back_up_at_once-requires-clause-room : goal.back_up_at_once-requires-clause-room
back_up_at_once-requires-clause-room g c =
    let t = c.args.transaction in
    room_kept c.args.self.now.world t.session t.number t.start c.args.writes.now (sym c.in_ok-check_serial.ensures) c.args.self.now.world refl c.in_ok-reads.reads c.in_ok-reads.ensures.reads c.share.new.self c.in_ok-share.ensures.kept

pub returns-in_ok-tn-in-Commit-clause-step : goal.returns-in_ok-tn-in-Commit-clause-step
returns-in_ok-tn-in-Commit-clause-step g c =
    let t = c.args.transaction in
    commit_returns c.args.self.now.world t.session t.number t.start c.args.writes.now (sym c.in_ok-check_serial.ensures) c.args.self.now.world refl c.in_ok-reads.reads c.in_ok-reads.ensures.reads c.in_ok-kept-in-Commit.kept (c.in_ok-kept-in-Commit.ensures.cases ∙ c.in_ok-share.ensures.kept) (c.in-Commit.ensures c.args.writes.now) c.in_ok-tn-in-Commit.tn c.in_ok-tn-in-Commit.ensures.number c.commit_at_once.new.self.world c.in_ok-tn-in-Commit.ensures.ok

pub returns-in_ok-back_up_at_once-in-BackUp-clause-step : goal.returns-in_ok-back_up_at_once-in-BackUp-clause-step
returns-in_ok-back_up_at_once-in-BackUp-clause-step g c =
    let t = c.args.transaction in
    back_returns c.args.self.now.world t.session t.number t.start c.args.writes.now (sym c.in_ok-check_serial.ensures) c.args.self.now.world refl c.in_ok-reads.reads c.in_ok-reads.ensures.reads c.share.new.self c.in_ok-share.ensures.kept c.in-BackUp.cause (c.in-BackUp.ensures c.args.writes.now) c.back_up_at_once.new.self.world c.in_ok-back_up_at_once-in-BackUp.ensures.ok

pub returns-in_err-check_serial-clause-totals : goal.returns-in_err-check_serial-clause-totals
returns-in_err-check_serial-clause-totals g c =
    let p = err_from_is_err_and c.from_residual.result c.from_residual.ensures.1 in
    uncounted outcome_of _ c.from_residual.result p.0 p.1

pub returns-in_err-share-clause-totals : goal.returns-in_err-share-clause-totals
returns-in_err-share-clause-totals g c =
    let p = err_from_is_err_and c.from_residual-in_err-share.result c.from_residual-in_err-share.ensures.1 in
    uncounted outcome_of _ c.from_residual-in_err-share.result p.0 p.1

pub returns-in_err-reads-clause-totals : goal.returns-in_err-reads-clause-totals
returns-in_err-reads-clause-totals g c =
    let p = err_from_is_err_and c.from_residual-in_err-reads.result c.from_residual-in_err-reads.ensures.1 in
    uncounted outcome_of _ c.from_residual-in_err-reads.result p.0 p.1

pub returns-in_err-kept-in-Commit-clause-totals : goal.returns-in_err-kept-in-Commit-clause-totals
returns-in_err-kept-in-Commit-clause-totals g c =
    let p = err_from_is_err_and c.from_residual-in_err-kept-in-Commit.result c.from_residual-in_err-kept-in-Commit.ensures.1 in
    uncounted outcome_of _ c.from_residual-in_err-kept-in-Commit.result p.0 p.1

pub returns-in_err-tn-in-Commit-clause-totals : goal.returns-in_err-tn-in-Commit-clause-totals
returns-in_err-tn-in-Commit-clause-totals g c =
    let p = err_from_is_err_and c.from_residual-in_err-tn-in-Commit.result c.from_residual-in_err-tn-in-Commit.ensures.1 in
    ap (λ s. s.totals) c.in_err-tn-in-Commit.ensures.err
    ∙ uncounted outcome_of _ c.from_residual-in_err-tn-in-Commit.result p.0 p.1

pub returns-in_err-back_up_at_once-in-BackUp-clause-totals : goal.returns-in_err-back_up_at_once-in-BackUp-clause-totals
returns-in_err-back_up_at_once-in-BackUp-clause-totals g c =
    let p = err_from_is_err_and c.from_residual-in_err-back_up_at_once-in-BackUp.result c.from_residual-in_err-back_up_at_once-in-BackUp.ensures.1 in
    ap (λ s. s.totals) c.in_err-back_up_at_once-in-BackUp.ensures.err
    ∙ uncounted outcome_of _ c.from_residual-in_err-back_up_at_once-in-BackUp.result p.0 p.1
