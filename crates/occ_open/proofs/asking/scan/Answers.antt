use Rattle.std.proofs.Common.{◌≡◌, ap, sym, subst, ◌∙◌}
use Rattle.std.specs.Option.{option_copied}
use Rattle.occ_types.specs.PlainData.{end_of}
use Rattle.occ_types.specs.Question.{Question, Span}
use Rattle.occ_types.specs.Schema.{check_question}
use Rattle.occ_model.specs.Step.{Step}
use Rattle.occ_open.specs.Replies.{scanning}
use Rattle.occ_open.specs.Transactions.{CopyScansBy, CopyWantsRange, OrStarvesBy}
use Rattle.occ_open.proofs.asking.scan.Goals as goal

-- the question is for this range
pub scan_asked-requires-clause-range : goal.scan_asked-requires-clause-range
scan_asked-requires-clause-range g c = (c.args.table, end_of (option_copied c.args.lower), end_of (option_copied c.args.upper), c.in_ok-question.ensures.value)

-- which fits the schema
pub scan_asked-requires-clause-fits : goal.scan_asked-requires-clause-fits
scan_asked-requires-clause-fits g c =
    ap (check_question (g.S.Readable.world c.args.store.now).settings.schema) c.in_ok-question.ensures.value
    ∙ sym (c.in_ok-check_range.ensures ∙ ap (λ s. check_question s (Span c.args.table (end_of (option_copied c.args.lower)) (end_of (option_copied c.args.upper)))) c.schema.ensures)

pub returns-clause-step : goal.returns-clause-step
returns-clause-step g c =
    let schema = (g.S.Readable.world c.args.store.now).settings.schema in
    let reply = scanning c.scan_asked.result in
    subst (λ (q : Question). OrStarvesBy (CopyWantsRange schema q) (g.S.Readable.world c.scan_asked.new.store ≡ g.S.Readable.world c.args.store.now) reply
    (CopyScansBy schema (g.S.Readable.world c.scan_asked.new.store ≡ g.S.Readable.world c.args.store.now) (λ event reply. Step (g.S.Readable.world c.args.store.now) event reply (g.S.Readable.world c.scan_asked.new.store)) (g.S.Readable.reader c.args.store.now c.args.session) q c.args.copy.now reply))
    c.in_ok-question.ensures.value c.scan_asked.ensures.step

pub returns-clause-moves : goal.returns-clause-moves
returns-clause-moves g c =
    let schema = (g.S.Readable.world c.args.store.now).settings.schema in
    let reply = scanning c.scan_asked.result in
    subst (λ (q : Question). OrStarvesBy (CopyWantsRange schema q) (c.scan_asked.new.store ≡ c.args.store.now) reply
    (CopyScansBy schema (c.scan_asked.new.store ≡ c.args.store.now) (λ event reply. g.S.Readable.moves c.args.store.now event reply c.scan_asked.new.store) (g.S.Readable.reader c.args.store.now c.args.session) q c.args.copy.now reply))
    c.in_ok-question.ensures.value c.scan_asked.ensures.moves
