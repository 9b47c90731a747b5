use Rattle.std.proofs.Common.{sym, ap, ◌∙◌}
use Rattle.occ_types.specs.PlainData.{question_of, table_asked}
use Rattle.occ_model.specs.State.{apply}
use Rattle.occ_model.specs.Overlay as model
use Rattle.occ_sets.specs.Handles.{kept}
use Rattle.occ_sets.specs.PlainSets.{rows_of}
use Rattle.occ_sets.specs.Overlays.{rows_over}
use Rattle.occ_sets.proofs.Agreement.{answer_of_entries}
use Rattle.occ_sets.proofs.overlays.over_rows.Goals as goal

-- the entries agree with the state after the writes
pub returns : goal.returns
returns g c =
    let q = question_of c.args.question.now in
    let copied = rows_of c.in_ok-to_vec.field-0.items in
    let given = model.rows_of (table_asked q) copied in
    c.in_ok-rows.ensures
    ∙ ap rows_of c.in_ok-laid.ensures.rows
    ∙ sym (answer_of_entries q _ (apply given (kept c.args.writes.now)) (c.in_ok-write_all.ensures given c.in_ok-seen.ensures) c.in_ok-laid.ensures.sorted)
    ∙ ap (λ rows. rows_over q (kept c.args.writes.now) rows) c.in_ok-to_vec.ensures
