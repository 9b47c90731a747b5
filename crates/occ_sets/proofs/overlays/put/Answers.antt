use Rattle.std.proofs.Common.{◌≡◌, true, false, Some, sym, ap, ◌∙◌}
use Rattle.occ_types.specs.Question.{asks}
use Rattle.occ_types.specs.PlainData.{key_of, question_of, table_asked}
use Rattle.occ_sets.proofs.Agreement.{follows-asked, follows-unasked}
use Rattle.occ_sets.proofs.overlays.put.Goals as goal

-- a row that is asked for is laid
pub returns-in_ok-insert : goal.returns-in_ok-insert
returns-in_ok-insert g c =
    let q = question_of c.args.question.now in
    let within : asks q (table_asked q, key_of c.args.key) ≡ true = ap (λ t. asks q (t, key_of c.args.key)) (sym c.table.ensures) ∙ sym c.asks.ensures ∙ c.if-asks.true in
    follows-asked q c.args.seen.now.entries c.insert.new.self.entries (table_asked q) c.args.key (Some c.args.row) within c.in_ok-insert.ensures.updates.0

-- and another one changes no answer
pub returns-else-asks : goal.returns-else-asks
returns-else-asks g c =
    let q = question_of c.args.question.now in
    let out_of_it : asks q (table_asked q, key_of c.args.key) ≡ false = ap (λ t. asks q (t, key_of c.args.key)) (sym c.table.ensures) ∙ sym c.asks.ensures ∙ c.if-asks.false in
    follows-unasked q c.args.seen.now.entries (table_asked q, key_of c.args.key) (Some c.args.row) out_of_it
