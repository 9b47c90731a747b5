use Rattle.std.proofs.Common.{ap, sym, refl, ◌∙◌, Some, Err}
use Rattle.std.proofs.lemmas.Result.{err_from_is_err_and}
use Rattle.occ_types.specs.Question.{One}
use Rattle.occ_types.specs.PlainData.{key_of}
use Rattle.occ_model.specs.State.{Found}
use Rattle.occ_model.specs.Step.{refused, starved}
use Rattle.occ_sets.specs.PlainSets.{observation_of}
use Rattle.occ_core.specs.Core.{parts_of}
use Rattle.occ_core.proofs.ReadPhases.{read_roomy, read_starved, read_whole, phases_core}
use Rattle.occ_core.proofs.Replied.{replied_err}
use Rattle.occ_model.specs.Event.{Answered}
use Rattle.occ_core.proofs.core_state.Core.read.Goals as goal

pub returns-in_err-check_read-clause-step : goal.returns-in_err-check_read-clause-step
returns-in_err-check_read-clause-step g c =
    let p = err_from_is_err_and c.from_residual.result c.from_residual.ensures.1 in
    replied_err (λ row. Answered (Found row)) _ _ _ _ _ p.1 (refused p.0 (sym c.in_err-check_read.ensures ∙ ap Some (sym p.2)) refl refl)

pub returns-in_err-seen-clause-step : goal.returns-in_err-seen-clause-step
returns-in_err-seen-clause-step g c =
    let p = err_from_is_err_and c.from_residual-in_err-seen.result c.from_residual-in_err-seen.ensures.1 in
    replied_err (λ row. Answered (Found row)) _ _ _ _ _ (p.1 ∙ ap Err (p.2 ∙ c.in_err-seen.ensures.memory)) (starved (sym c.in_ok-check_read.ensures) refl refl refl)

pub note-requires : goal.note-requires
note-requires g c = record {
  few = read_roomy (parts_of c.self.inside) c.args.self.now.world (ap (λ s. s.world) c.self.view_is) c.self.invariant.sound c.args.session c.args.number c.args.start
      (One c.args.table (key_of c.args.key.now)) (sym c.in_ok-check_read.ensures);
}

pub returns-in_err-note-clause-step : goal.returns-in_err-note-clause-step
returns-in_err-note-clause-step g c =
    let p = err_from_is_err_and c.from_residual-in_err-note.result c.from_residual-in_err-note.ensures.1 in
    replied_err (λ row. Answered (Found row)) _ _ _ _ _ (p.1 ∙ ap Err (p.2 ∙ c.in_err-note.ensures.memory)) (read_starved (parts_of c.self.inside) c.args.self.now.world (ap (λ s. s.world) c.self.view_is) c.self.invariant.sound c.args.session c.args.number c.args.start
    (One c.args.table (key_of c.args.key.now)) (sym c.in_ok-check_read.ensures) c.note.new.phases c.in_err-note.ensures.err).0

pub invariant_of-self : goal.invariant_of-self
invariant_of-self g c =
    phases_core c.self.inside c.self.invariant _ (read_starved (parts_of c.self.inside) c.args.self.now.world (ap (λ s. s.world) c.self.view_is) c.self.invariant.sound c.args.session c.args.number c.args.start
    (One c.args.table (key_of c.args.key.now)) (sym c.in_ok-check_read.ensures) c.note.new.phases c.in_err-note.ensures.err).1

pub invariant_of-self-2 : goal.invariant_of-self-2
invariant_of-self-2 g c =
    phases_core c.self.inside c.self.invariant _ (read_whole (parts_of c.self.inside) c.args.self.now.world (ap (λ s. s.world) c.self.view_is) c.self.invariant.sound c.args.session c.args.number c.args.start
    (One c.args.table (key_of c.args.key.now)) (sym c.in_ok-check_read.ensures) (observation_of c.in_ok-seen.seen) c.in_ok-seen.ensures.answered.0 c.note.new.phases c.in_ok-note.ensures.ok (Found c.in_ok-seen.row) c.in_ok-seen.ensures.answered.1).1

pub returns-clause-step : goal.returns-clause-step
returns-clause-step g c =
    (read_whole (parts_of c.self.inside) c.args.self.now.world (ap (λ s. s.world) c.self.view_is) c.self.invariant.sound c.args.session c.args.number c.args.start
    (One c.args.table (key_of c.args.key.now)) (sym c.in_ok-check_read.ensures) (observation_of c.in_ok-seen.seen) c.in_ok-seen.ensures.answered.0 c.note.new.phases c.in_ok-note.ensures.ok (Found c.in_ok-seen.row) c.in_ok-seen.ensures.answered.1).0
