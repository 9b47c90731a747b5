use Rattle.std.proofs.Common.{◌≡◌, ap, sym, subst, ◌∙◌, ◌+◌, Err, Some, refl, is_some}
use Rattle.std.specs.Option.{option_copied}
use Rattle.std.proofs.lemmas.Result.{err_from_is_err_and}
use Rattle.occ_types.specs.PlainData.{object_of}
use Rattle.occ_model.specs.State.{Write}
use Rattle.occ_core.specs.Core.{parts_of}
use Rattle.occ_core.specs.CoreParts.{AreSound}
use Rattle.occ_log.specs.SessionStates.{HoldsArePlaced}
use Rattle.occ_core.specs.CoreParts.{world_of}
use Rattle.occ_model.specs.Log.{Writing}
use Rattle.occ_log.proofs.Changes.{puts_some}
use Rattle.occ_core.specs.Replies.{written_in, IsNextWrite}
use Rattle.occ_log.specs.Rows.{log_row_of}
use Rattle.occ_core.proofs.Finishes.{write_exit, write_kept, write_none, write_starved, write_placed, write_named, write_whole, write_err}
use Rattle.occ_core.proofs.Placed.{fault_in, in_log, stood_in}
use Rattle.occ_core.proofs.Nexts.{next_placed}
use Rattle.occ_core.specs.declared.writing.SingleWrite.TheVariants as writes
use Rattle.occ_core.proofs.Tallies.{counted_over, wrote_uncounted}
use Rattle.occ_core.proofs.core_state.Core.write_one.Goals as goal

pub returns-in_err-place-clause-step : goal.returns-in_err-place-clause-step
returns-in_err-place-clause-step g c =
    let p = err_from_is_err_and c.from_residual.result c.from_residual.ensures.1 in
    write_exit (parts_of c.self.inside) c.args.self.now.world (ap (λ s. s.world) c.self.view_is) c.self.invariant.sound c.args.session c.from_residual.result p.0 p.1 (fault_in c.self.inside.log c.self.inside.sessions c.args.session c.self.invariant.log_match.begins c.in_err-place.ensures.err ∙ ap Some (sym p.2))

pub returns-in_err-done-clause-step : goal.returns-in_err-done-clause-step
returns-in_err-done-clause-step g c =
    let p = err_from_is_err_and c.from_residual-in_err-done.result c.from_residual-in_err-done.ensures.1 in
    write_kept (parts_of c.self.inside) c.args.self.now.world (ap (λ s. s.world) c.self.view_is) c.self.invariant.sound c.args.session c.in_ok-place.place (log_row_of c.in_ok-place.row.now) c.from_residual-in_err-done.result p.0 p.1
    c.in_ok-place.ensures.place (in_log c.self.inside.log c.in_ok-place.place (log_row_of c.in_ok-place.row.now) c.self.invariant.log_match.begins c.in_ok-place.ensures.row) (sym c.in_err-done.ensures ∙ ap Err (sym p.2))

pub returns-in_default-clause-step : goal.returns-in_default-clause-step
returns-in_default-clause-step g c =
    write_none (parts_of c.self.inside) c.args.self.now.world (ap (λ s. s.world) c.self.view_is) c.self.invariant.sound c.args.session c.in_ok-place.place (log_row_of c.in_ok-place.row.now) c.in_ok-done.done
    c.in_ok-place.ensures.place (in_log c.self.inside.log c.in_ok-place.place (log_row_of c.in_ok-place.row.now) c.self.invariant.log_match.begins c.in_ok-place.ensures.row) (sym c.in_ok-done.ensures)
    (sym c.in_default.ensures.value)

pub put-requires : goal.put-requires
put-requires g c =
    write_placed (parts_of c.self.inside) c.self.invariant.sound c.args.session c.in_ok-place.place (log_row_of c.in_ok-place.row.now) c.self.inside.tables.tables c.self.invariant.placed
    c.in_ok-place.ensures.place (in_log c.self.inside.log c.in_ok-place.place (log_row_of c.in_ok-place.row.now) c.self.invariant.log_match.begins c.in_ok-place.ensures.row) c.in_ok-done.done (object_of c.in-Some.object.now, option_copied c.in-Some.write)
    (sym c.in-Some.ensures.value)

pub returns-in_err-put-clause-step : goal.returns-in_err-put-clause-step
returns-in_err-put-clause-step g c =
    let p = err_from_is_err_and c.from_residual-in_err-put.result c.from_residual-in_err-put.ensures.1 in
    let write : Write = (object_of c.in-Some.object.now, option_copied c.in-Some.write) in
    write_err c.args.self.now.world _ (world_of (record (parts_of c.self.inside) { table = c.put.new.self.state })) c.args.session c.from_residual-in_err-put.result (p.1 ∙ ap Err (p.2 ∙ c.in_err-put.ensures.memory))
    (write_starved (parts_of c.self.inside) c.args.self.now.world (ap (λ s. s.world) c.self.view_is) c.self.invariant.sound c.args.session c.in_ok-place.place (log_row_of c.in_ok-place.row.now) c.in_ok-done.done write
    c.in_ok-place.ensures.place (in_log c.self.inside.log c.in_ok-place.place (log_row_of c.in_ok-place.row.now) c.self.invariant.log_match.begins c.in_ok-place.ensures.row) (sym c.in_ok-done.ensures) (sym c.in-Some.ensures.value)
    (puts_some write.1 c.in_err-put.ensures.deletes)
    c.put.new.self.state (ap (λ t. t.state) c.in_err-put.ensures.err))

pub invariant_of-self : goal.invariant_of-self
invariant_of-self g c = record {
  sound = subst (λ t. AreSound (record (parts_of c.self.inside) { table = t })) (sym (ap (λ t. t.state) c.in_err-put.ensures.err)) c.self.invariant.sound;
  tables_match = ap (λ t. t.tables) c.in_err-put.ensures.err ∙ c.self.invariant.tables_match;
  marks_match = c.self.invariant.marks_match;
  log_match = c.self.invariant.log_match;
  base_match = c.self.invariant.base_match;
  placed = subst (λ n. HoldsArePlaced n c.self.inside.sessions) (sym (ap (λ t. t.tables) c.in_err-put.ensures.err)) c.self.invariant.placed;
  counted = c.self.invariant.counted;
}

pub stand-requires : goal.stand-requires
stand-requires g c = ap is_some c.in_ok-place.ensures.row

pub invariant_of-self-2 : goal.invariant_of-self-2
invariant_of-self-2 g c =
    let done = c.in_ok-put.ensures.ok in
    let whole = write_whole (parts_of c.self.inside) c.args.self.now.world (ap (λ s. s.world) c.self.view_is) c.self.invariant.sound c.args.session c.in_ok-place.place (log_row_of c.in_ok-place.row.now) c.in_ok-done.done
    (object_of c.in-Some.object.now, option_copied c.in-Some.write)
    c.in_ok-place.ensures.place (in_log c.self.inside.log c.in_ok-place.place (log_row_of c.in_ok-place.row.now) c.self.invariant.log_match.begins c.in_ok-place.ensures.row) (sym c.in_ok-done.ensures)
    (sym c.in-Some.ensures.value)
    c.stand.new.self.rows (stood_in c.self.inside.log c.in_ok-place.place _ c.stand.new.self.rows c.self.invariant.log_match.begins (c.stand.ensures.rows (log_row_of c.in_ok-place.row.now) c.in_ok-place.ensures.row)) c.put.new.self.state (ap (λ t. t.state) done) in
    record {
      sound = whole.1;
      tables_match = ap (λ t. t.tables) done ∙ c.self.invariant.tables_match;
      marks_match = c.self.invariant.marks_match;
      log_match = record { begins = c.stand.ensures.first ∙ c.self.invariant.log_match.begins; knows = c.stand.ensures.sessions ∙ c.self.invariant.log_match.knows };
      base_match = c.self.invariant.base_match;
      placed = subst (λ n. HoldsArePlaced n c.self.inside.sessions) (sym (ap (λ t. t.tables) done)) c.self.invariant.placed;
      counted = counted_over c.self.inside.totals c.self.inside.totals (world_of (parts_of c.self.inside)) c.args.self.now.world _ _ _ (ap (λ s. s.world) c.self.view_is)
          whole.0
          (wrote_uncounted c.self.inside.totals (world_of (record (parts_of c.self.inside) { log = c.stand.new.self.rows; table = c.put.new.self.state })) (writes.Wrote c.in_ok-place.place c.in_ok-done.done)) c.self.invariant.counted;
    }

pub returns-clause-step : goal.returns-clause-step
returns-clause-step g c =
    let done = c.in_ok-put.ensures.ok in
    (write_whole (parts_of c.self.inside) c.args.self.now.world (ap (λ s. s.world) c.self.view_is) c.self.invariant.sound c.args.session c.in_ok-place.place (log_row_of c.in_ok-place.row.now) c.in_ok-done.done
    (object_of c.in-Some.object.now, option_copied c.in-Some.write)
    c.in_ok-place.ensures.place (in_log c.self.inside.log c.in_ok-place.place (log_row_of c.in_ok-place.row.now) c.self.invariant.log_match.begins c.in_ok-place.ensures.row) (sym c.in_ok-done.ensures)
    (sym c.in-Some.ensures.value)
    c.stand.new.self.rows (stood_in c.self.inside.log c.in_ok-place.place _ c.stand.new.self.rows c.self.invariant.log_match.begins (c.stand.ensures.rows (log_row_of c.in_ok-place.row.now) c.in_ok-place.ensures.row)) c.put.new.self.state (ap (λ t. t.state) done)).0

pub returns-clause-named : goal.returns-clause-named
returns-clause-named g c = λ row write is.
    let row_is : c.in_ok-place.place ≡ row = cc in
    let write_is : c.in_ok-done.done ≡ write = cc in
    let parts = parts_of c.self.inside in
    let world = world_of (record parts { log = c.stand.new.self.rows; table = c.put.new.self.state }) in
    ap (λ p. is_some (written_in world p write)) (sym row_is) ∙ ap (λ p. is_some (written_in world c.in_ok-place.place p)) (sym write_is)
    ∙ ap is_some (write_named world parts refl c.in_ok-place.place (log_row_of c.in_ok-place.row.now) (Writing (c.in_ok-done.done + 1)) c.in_ok-done.done
    (object_of c.in-Some.object.now, option_copied c.in-Some.write) (in_log c.self.inside.log c.in_ok-place.place (log_row_of c.in_ok-place.row.now) c.self.invariant.log_match.begins c.in_ok-place.ensures.row) (stood_in c.self.inside.log c.in_ok-place.place _ c.stand.new.self.rows c.self.invariant.log_match.begins (c.stand.ensures.rows (log_row_of c.in_ok-place.row.now) c.in_ok-place.ensures.row))
    (sym c.in-Some.ensures.value))

pub returns-clause-own : goal.returns-clause-own
returns-clause-own g c = λ row write is.
    let row_is : c.in_ok-place.place ≡ row = cc in
    let write_is : c.in_ok-done.done ≡ write = cc in
    subst (λ p. IsNextWrite c.args.self.now.world c.args.session p write) row_is
    (subst (λ p. IsNextWrite c.args.self.now.world c.args.session c.in_ok-place.place p) write_is
    (next_placed (parts_of c.self.inside) c.args.self.now.world (ap (λ s. s.world) c.self.view_is) c.self.invariant.sound c.args.session c.in_ok-place.place (log_row_of c.in_ok-place.row.now) c.in_ok-done.done
    (object_of c.in-Some.object.now, option_copied c.in-Some.write)
    c.in_ok-place.ensures.place (in_log c.self.inside.log c.in_ok-place.place (log_row_of c.in_ok-place.row.now) c.self.invariant.log_match.begins c.in_ok-place.ensures.row) (sym c.in_ok-done.ensures) (sym c.in-Some.ensures.value)))
