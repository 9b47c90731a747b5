use Rattle.std.proofs.Common.{ap, sym, ◌∙◌}
use Rattle.occ_types.specs.PlainData.{question_of, end_of}
use Rattle.occ_types.specs.Question.{Span}
use Rattle.occ_model.specs.Step.{Step}
use Rattle.occ_open.specs.Replies.{copying}
use Rattle.occ_open.proofs.Answering.{asked_so}
use Rattle.occ_open.proofs.asking.ask_apart.Goals as goal

pub returns-clause-step : goal.returns-clause-step
returns-clause-step g c =
    asked_so (λ event. Step (g.S.Readable.world c.args.store.now) event (copying c.scan_apart.result) (g.S.Readable.world c.scan_apart.new.self))
    (g.S.Readable.reader c.args.store.now c.args.session) c.number.result c.start.result c.args.copy.now.number c.args.copy.now.start _ (question_of c.args.question.now)
    c.number.ensures c.start.ensures (ap question_of c.in-Span.is ∙ (λ i. Span c.in-Span.table (end_of (sym c.as_ref-lower.ensures.value i)) (end_of (sym c.as_ref-upper.ensures.value i)))) c.scan_apart.ensures.step

pub returns-clause-moves : goal.returns-clause-moves
returns-clause-moves g c =
    asked_so (λ event. g.S.Readable.moves c.args.store.now event (copying c.scan_apart.result) c.scan_apart.new.self)
    (g.S.Readable.reader c.args.store.now c.args.session) c.number.result c.start.result c.args.copy.now.number c.args.copy.now.start _ (question_of c.args.question.now)
    c.number.ensures c.start.ensures (ap question_of c.in-Span.is ∙ (λ i. Span c.in-Span.table (end_of (sym c.as_ref-lower.ensures.value i)) (end_of (sym c.as_ref-upper.ensures.value i)))) c.scan_apart.ensures.moves
