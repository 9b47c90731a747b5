use Rattle.std.proofs.Common.{◌≡◌, Err, ap, sym, ◌∙◌, inr}
use Rattle.std.proofs.lemmas.Result.{err_from_is_err_and}
use Rattle.occ_types.specs.PlainData.{question_of}
use Rattle.occ_model.specs.State.{Rows}
use Rattle.occ_model.specs.Event.{Answered, Refused}
use Rattle.occ_model.specs.Step.{Step}
use Rattle.occ_open.specs.Replies.{scanning}
use Rattle.occ_open.proofs.Answering.{answered, scanned, shown}
use Rattle.occ_open.proofs.asking.scan_asked.Goals as goal

-- the store refused it
pub returns-in_err-rows-clause-step : goal.returns-in_err-rows-clause-step
returns-in_err-rows-clause-step g c =
    let p = err_from_is_err_and c.from_residual.result c.from_residual.ensures.1 in
    inr (scanned (g.S.Readable.world c.args.store.now).settings.schema (g.S.Readable.world c.ask.new.store ≡ g.S.Readable.world c.args.store.now) (λ event reply. Step (g.S.Readable.world c.args.store.now) event reply (g.S.Readable.world c.ask.new.store))
    (g.S.Readable.reader c.args.store.now c.args.session) (question_of c.args.question.now) c.args.copy.now (Refused c.in_err-rows.field-0.0) (scanning c.from_residual.result)
    c.requires.fits c.in_err-rows.ensures.step (ap scanning (p.1 ∙ ap Err p.2)))

pub returns-in_err-rows-clause-moves : goal.returns-in_err-rows-clause-moves
returns-in_err-rows-clause-moves g c =
    let p = err_from_is_err_and c.from_residual.result c.from_residual.ensures.1 in
    inr (scanned (g.S.Readable.world c.args.store.now).settings.schema (c.ask.new.store ≡ c.args.store.now) (λ event reply. g.S.Readable.moves c.args.store.now event reply c.ask.new.store)
    (g.S.Readable.reader c.args.store.now c.args.session) (question_of c.args.question.now) c.args.copy.now (Refused c.in_err-rows.field-0.0) (scanning c.from_residual.result)
    c.requires.fits c.in_err-rows.ensures.moves (ap scanning (p.1 ∙ ap Err p.2)))

-- nothing of it is written, so it is seen as it is
pub returns-clause-step : goal.returns-clause-step
returns-clause-step g c =
    let rows = c.in_ok-rows.rows in
    let a = answered (g.S.Readable.world c.args.store.now) (g.S.Readable.reader c.args.store.now c.args.session) _ _ _ _ _ c.in_ok-rows.ensures.step in
    inr (scanned (g.S.Readable.world c.args.store.now).settings.schema (g.S.Readable.world c.ask.new.store ≡ g.S.Readable.world c.args.store.now) (λ event reply. Step (g.S.Readable.world c.args.store.now) event reply (g.S.Readable.world c.ask.new.store))
    (g.S.Readable.reader c.args.store.now c.args.session) (question_of c.args.question.now) c.args.copy.now (Answered (Rows rows)) _
    c.requires.fits c.in_ok-rows.ensures.step
    (shown (question_of c.args.question.now) c.requires.range c.args.copy.now.writes rows rows (sym (c.meets.ensures.untouched c.if-meets.false a.state rows a.answers))))

pub returns-clause-moves : goal.returns-clause-moves
returns-clause-moves g c =
    let rows = c.in_ok-rows.rows in
    let a = answered (g.S.Readable.world c.args.store.now) (g.S.Readable.reader c.args.store.now c.args.session) _ _ _ _ _ c.in_ok-rows.ensures.step in
    inr (scanned (g.S.Readable.world c.args.store.now).settings.schema (c.ask.new.store ≡ c.args.store.now) (λ event reply. g.S.Readable.moves c.args.store.now event reply c.ask.new.store)
    (g.S.Readable.reader c.args.store.now c.args.session) (question_of c.args.question.now) c.args.copy.now (Answered (Rows rows)) _
    c.requires.fits c.in_ok-rows.ensures.moves
    (shown (question_of c.args.question.now) c.requires.range c.args.copy.now.writes rows rows (sym (c.meets.ensures.untouched c.if-meets.false a.state rows a.answers))))
