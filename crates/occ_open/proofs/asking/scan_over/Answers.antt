use Rattle.std.proofs.Common.{◌≡◌, ℕ, ◌≤◌, Err, ap, subst, ◌∙◌, inr}
use Rattle.std.proofs.lemmas.List.{length-map}
use Rattle.std.proofs.lemmas.Result.{err_from_is_err_and}
use Rattle.occ_types.specs.PlainData.{question_of}
use Rattle.occ_types.specs.declared.limits.TheConstants.{MAX_ANSWER_ROWS}
use Rattle.occ_model.specs.State.{Rows}
unfoldable use Rattle.occ_model.specs.State.{answer}
use Rattle.occ_model.specs.Event.{Answered, Refused}
use Rattle.occ_model.specs.Step.{Step}
use Rattle.occ_sets.specs.Overlays.{rows_over}
use Rattle.occ_sets.specs.PlainSets.{rows_of}
use Rattle.occ_open.specs.Replies.{scanning}
use Rattle.occ_open.proofs.Answering.{answered, scanned, shown}
use Rattle.occ_open.proofs.asking.scan_over.Goals as goal

-- the store refused it
pub returns-in_err-rows-clause-step : goal.returns-in_err-rows-clause-step
returns-in_err-rows-clause-step g c =
    let p = err_from_is_err_and c.from_residual-in_err-rows.result c.from_residual-in_err-rows.ensures.1 in
    inr (scanned (g.S.Readable.world c.args.store.now).settings.schema (g.S.Readable.world c.ask_apart.new.store ≡ g.S.Readable.world c.args.store.now) (λ event reply. Step (g.S.Readable.world c.args.store.now) event reply (g.S.Readable.world c.ask_apart.new.store))
    (g.S.Readable.reader c.args.store.now c.args.session) (question_of c.args.question.now) c.args.copy.now (Refused c.in_err-rows.field-0.0) (scanning c.from_residual-in_err-rows.result)
    c.requires.fits c.in_err-rows.ensures.step (ap scanning (p.1 ∙ ap Err p.2)))

pub returns-in_err-rows-clause-moves : goal.returns-in_err-rows-clause-moves
returns-in_err-rows-clause-moves g c =
    let p = err_from_is_err_and c.from_residual-in_err-rows.result c.from_residual-in_err-rows.ensures.1 in
    inr (scanned (g.S.Readable.world c.args.store.now).settings.schema (c.ask_apart.new.store ≡ c.args.store.now) (λ event reply. g.S.Readable.moves c.args.store.now event reply c.ask_apart.new.store)
    (g.S.Readable.reader c.args.store.now c.args.session) (question_of c.args.question.now) c.args.copy.now (Refused c.in_err-rows.field-0.0) (scanning c.from_residual-in_err-rows.result)
    c.requires.fits c.in_err-rows.ensures.moves (ap scanning (p.1 ∙ ap Err p.2)))

-- what it answers may go under the own writes
pub over-requires-clause-answered : goal.over-requires-clause-answered
over-requires-clause-answered g c =
    let a = answered (g.S.Readable.world c.args.store.now) (g.S.Readable.reader c.args.store.now c.args.session) _ _ _ _ _ c.in_ok-rows.ensures.step in
    (a.state, ap (λ p. answer p.question a.state) c.in_ok-prepared.ensures.prepared ∙ a.answers)

pub over-requires-clause-few : goal.over-requires-clause-few
over-requires-clause-few g c =
    let a = answered (g.S.Readable.world c.args.store.now) (g.S.Readable.reader c.args.store.now c.args.session) _ _ _ _ _ c.in_ok-rows.ensures.step in
    subst (λ (n : ℕ). n ≤ MAX_ANSWER_ROWS) (length-map c.in_ok-rows.rows.items _) a.few

-- and they go over it
pub returns-clause-step : goal.returns-clause-step
returns-clause-step g c =
    let rows = rows_of c.in_ok-rows.rows.items in
    inr (scanned (g.S.Readable.world c.args.store.now).settings.schema (g.S.Readable.world c.ask_apart.new.store ≡ g.S.Readable.world c.args.store.now) (λ event reply. Step (g.S.Readable.world c.args.store.now) event reply (g.S.Readable.world c.ask_apart.new.store))
    (g.S.Readable.reader c.args.store.now c.args.session) (question_of c.args.question.now) c.args.copy.now (Answered (Rows rows)) _
    c.requires.fits c.in_ok-rows.ensures.step
    (shown (question_of c.args.question.now) c.requires.range c.args.copy.now.writes rows _
    (c.over.ensures ∙ ap (λ p. rows_over p.question p.writes rows) c.in_ok-prepared.ensures.prepared)))

pub returns-clause-moves : goal.returns-clause-moves
returns-clause-moves g c =
    let rows = rows_of c.in_ok-rows.rows.items in
    inr (scanned (g.S.Readable.world c.args.store.now).settings.schema (c.ask_apart.new.store ≡ c.args.store.now) (λ event reply. g.S.Readable.moves c.args.store.now event reply c.ask_apart.new.store)
    (g.S.Readable.reader c.args.store.now c.args.session) (question_of c.args.question.now) c.args.copy.now (Answered (Rows rows)) _
    c.requires.fits c.in_ok-rows.ensures.moves
    (shown (question_of c.args.question.now) c.requires.range c.args.copy.now.writes rows _
    (c.over.ensures ∙ ap (λ p. rows_over p.question p.writes rows) c.in_ok-prepared.ensures.prepared)))
