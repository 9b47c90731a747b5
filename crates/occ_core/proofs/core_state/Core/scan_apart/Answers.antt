use Rattle.std.proofs.Common.{ap, sym, refl, ◌∙◌, Err, subst, option_copied}
use Rattle.std.proofs.lemmas.Result.{err_from_is_err_and}
use Rattle.occ_types.specs.Question.{Span}
use Rattle.occ_types.specs.PlainData.{end_of}
use Rattle.occ_model.specs.State.{Rows, answer}
use Rattle.occ_model.specs.Event.{Answered, Read}
use Rattle.occ_model.specs.Step.{starved}
use Rattle.occ_sets.specs.PlainSets.{observation_of, rows_of}
use Rattle.occ_core.specs.Core.{parts_of, IsRefusal}
use Rattle.occ_core.proofs.ReadPhases.{not_read, read_roomy, read_starved, read_whole, phases_core}
use Rattle.occ_core.proofs.Replied.{replied_err}
use Rattle.occ_core.proofs.core_state.Core.scan_apart.Goals as goal

pub returns-in_err-rows-clause-step : goal.returns-in_err-rows-clause-step
returns-in_err-rows-clause-step g c =
    let p = err_from_is_err_and c.from_residual.result c.from_residual.ensures.1 in
    let question = Span c.args.table (end_of (option_copied c.args.lower)) (end_of (option_copied c.args.upper)) in
    replied_err (λ rows. Answered (Rows (rows_of rows.items))) _ _ _ _ _ p.1 (not_read c.args.self.now.world c.args.session c.args.number c.args.start question p.0
    (subst (IsRefusal c.args.self.now.world (Read c.args.session c.args.number c.args.start question)) (sym p.2) c.in_err-rows.ensures.refused))

pub returns-in_err-seen-clause-step : goal.returns-in_err-seen-clause-step
returns-in_err-seen-clause-step g c =
    let p = err_from_is_err_and c.from_residual-in_err-seen.result c.from_residual-in_err-seen.ensures.1 in
    replied_err (λ rows. Answered (Rows (rows_of rows.items))) _ _ _ _ _ (p.1 ∙ ap Err (p.2 ∙ c.in_err-seen.ensures.memory)) (starved c.in_ok-rows.ensures.answered.0 refl refl refl)

pub note-requires : goal.note-requires
note-requires g c = record {
  few = read_roomy (parts_of c.self.inside) c.args.self.now.world (ap (λ s. s.world) c.self.view_is) c.self.invariant.sound c.args.session c.args.number c.args.start
      (Span c.args.table (end_of (option_copied c.args.lower)) (end_of (option_copied c.args.upper))) c.in_ok-rows.ensures.answered.0;
}

pub returns-in_err-note-clause-step : goal.returns-in_err-note-clause-step
returns-in_err-note-clause-step g c =
    let p = err_from_is_err_and c.from_residual-in_err-note.result c.from_residual-in_err-note.ensures.1 in
    replied_err (λ rows. Answered (Rows (rows_of rows.items))) _ _ _ _ _ (p.1 ∙ ap Err (p.2 ∙ c.in_err-note.ensures.memory)) (read_starved (parts_of c.self.inside) c.args.self.now.world (ap (λ s. s.world) c.self.view_is) c.self.invariant.sound c.args.session c.args.number c.args.start
    (Span c.args.table (end_of (option_copied c.args.lower)) (end_of (option_copied c.args.upper))) c.in_ok-rows.ensures.answered.0 c.note.new.phases c.in_err-note.ensures.err).0

pub invariant_of-self : goal.invariant_of-self
invariant_of-self g c =
    phases_core c.self.inside c.self.invariant _ (read_starved (parts_of c.self.inside) c.args.self.now.world (ap (λ s. s.world) c.self.view_is) c.self.invariant.sound c.args.session c.args.number c.args.start
    (Span c.args.table (end_of (option_copied c.args.lower)) (end_of (option_copied c.args.upper))) c.in_ok-rows.ensures.answered.0 c.note.new.phases c.in_err-note.ensures.err).1

pub invariant_of-self-2 : goal.invariant_of-self-2
invariant_of-self-2 g c =
    let question = Span c.args.table (end_of (option_copied c.args.lower)) (end_of (option_copied c.args.upper)) in
    let told = c.in_ok-rows.ensures.answered.1 ∙ sym (ap (λ s. answer question s.world.table) c.self.view_is) in
    phases_core c.self.inside c.self.invariant _ (read_whole (parts_of c.self.inside) c.args.self.now.world (ap (λ s. s.world) c.self.view_is) c.self.invariant.sound c.args.session c.args.number c.args.start question
    c.in_ok-rows.ensures.answered.0 (observation_of c.in_ok-seen.seen) (c.in_ok-seen.ensures.seen.0 ∙ ap (λ given. (question, given)) told) c.note.new.phases c.in_ok-note.ensures.ok (Rows (rows_of c.in_ok-seen.rows.items)) (ap (λ v. Rows (rows_of v.items)) c.in_ok-seen.ensures.seen.1 ∙ told)).1

pub returns-clause-step : goal.returns-clause-step
returns-clause-step g c =
    let question = Span c.args.table (end_of (option_copied c.args.lower)) (end_of (option_copied c.args.upper)) in
    let told = c.in_ok-rows.ensures.answered.1 ∙ sym (ap (λ s. answer question s.world.table) c.self.view_is) in
    (read_whole (parts_of c.self.inside) c.args.self.now.world (ap (λ s. s.world) c.self.view_is) c.self.invariant.sound c.args.session c.args.number c.args.start question
    c.in_ok-rows.ensures.answered.0 (observation_of c.in_ok-seen.seen) (c.in_ok-seen.ensures.seen.0 ∙ ap (λ given. (question, given)) told) c.note.new.phases c.in_ok-note.ensures.ok (Rows (rows_of c.in_ok-seen.rows.items)) (ap (λ v. Rows (rows_of v.items)) c.in_ok-seen.ensures.seen.1 ∙ told)).0
