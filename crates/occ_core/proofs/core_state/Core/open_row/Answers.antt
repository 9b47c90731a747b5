use Rattle.std.proofs.Common.{◌≡◌, ℕ, ap, sym, ◌∙◌, ◌-◌, map, take, drop, length, arith}
use Rattle.std.proofs.Math.Seq.{take-append_seam, drop-append_seam}
use Rattle.occ_log.specs.Logs.{row_at}
use Rattle.occ_model.specs.State.{Observation}
use Rattle.occ_model.specs.Log.{Case, Open}
use Rattle.occ_model.specs.World.{reads_under}
use Rattle.std.specs.FinMap as finite
use Rattle.occ_log.specs.SessionStates.{active_from}
use Rattle.occ_core.specs.Core.{parts_of}
use Rattle.occ_core.proofs.ReadPhases.{reads_are}
use Rattle.occ_core.proofs.Entries.{open_case, open_row}
use Rattle.occ_core.proofs.Placed.{rows_found, next_is}
use Rattle.occ_core.proofs.core_state.Core.open_row.Goals as goal

pub returns : goal.returns
returns g c =
    let seen = ap (λ s. s.world) c.self.view_is in
    let reads_is = c.requires ∙ ap (λ w. reads_under w c.args.transaction.session c.args.transaction.number) (sym seen) ∙ reads_are (finite.get c.self.inside.phases (c.args.transaction.session, c.args.transaction.number)) in
    let all = c.in_ok-opponents.opponents.items in
    let finished = c.in_ok-finished.finished.items in
    let active = active_from (row_at c.self.inside.log) c.self.inside.sessions in
    let count = length c.as_slice-count.result.now in
    let counted : count ≡ length finished = ap length c.as_slice-count.ensures.value in
    let taken : take count all ≡ finished = ap (λ n. take n all) counted ∙ ap (take (length finished)) c.in_ok-opponents.ensures ∙ take-append_seam finished active in
    let left : drop count all ≡ active = ap (λ n. drop n all) counted ∙ ap (drop (length finished)) c.in_ok-opponents.ensures ∙ drop-append_seam finished active in (
      c.new-case.result,
      open_case (parts_of c.self.inside) c.args.self.now.world seen c.self.invariant.sound c.args.transaction.session c.args.transaction.number c.args.transaction.start c.args.writes.now c.new-case.result
          (ap (λ (k : Case). k.start) c.new-case.ensures)
          (ap (λ (k : Case). k.low) c.new-case.ensures ∙ c.low-low.ensures)
          (ap (λ (k : Case). k.reads) c.new-case.ensures ∙ ap (map (λ (o : Observation). o.0)) (c.in_ok-clone.ensures.cases ∙ reads_is))
          (ap (λ (k : Case). k.writes) c.new-case.ensures ∙ c.in_ok-clone-2.ensures.cases)
          (ap (λ (k : Case). k.finished) c.new-case.ensures ∙ taken ∙ c.in_ok-finished.ensures ∙ ap (λ n. drop n c.self.inside.window.sets) (c.saturating_sub-skip.ensures ∙ ap (λ before. c.args.transaction.start - before) c.before_first.ensures))
          (ap (λ (k : Case). k.active) c.new-case.ensures ∙ left ∙ ap (λ at. active_from at c.self.inside.sessions) (rows_found c.self.inside.log c.self.invariant.log_match.begins)),
      open_row (parts_of c.self.inside) c.args.self.now.world seen c.args.transaction.session c.args.transaction.number c.args.transaction.start _ (c.reads.view_is ∙ reads_is) c.args.writes.now _ c.in_ok-clone-3.ensures.cases c.next_place-place.result (c.next_place-place.ensures ∙ next_is c.self.inside.log c.self.invariant.log_match.begins) c.new-case.result (Open c.in-Ok.open_case.0 c.in-Ok.open_case.1) (ap (λ (o : ℕ × Case). Open o.0 o.1) c.in-Ok.ensures),
    )

pub next_place-place-requires : goal.next_place-place-requires
next_place-place-requires g c =
    let begins = c.self.invariant.log_match.begins in
    let room = c.self.invariant.sound.log_room in
    let place = c.self.invariant.sound.place_room in
    omega arith
