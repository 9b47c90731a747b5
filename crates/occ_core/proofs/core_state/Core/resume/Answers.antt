use Rattle.std.proofs.Common.{◌≡◌, ap, sym, subst, refl, ◌∙◌, length, cond, inr, nat_lt}
use Rattle.std.proofs.lemmas.Bool.{le-ltb}
use Rattle.occ_types.specs.declared.fault.Fault.TheVariants.{NoSession, Memory}
use Rattle.occ_types.specs.PlainData.{table_of}
use Rattle.occ_model.proofs.Admitted.{passed}
use Rattle.occ_core.specs.CoreParts.{world_of, AreSound}
use Rattle.occ_core.specs.Resuming.{front_fault}
use Rattle.occ_core.proofs.Resumptions.{resumed_parts, base_fits, resumed_is, resumed_sound, resumed_world, unfolded_placed}
use Rattle.occ_core.specs.Totals.{no_totals, AddUp}
use Rattle.occ_core.proofs.Tallies.{none_add}
use Rattle.occ_core.proofs.core_state.Core.resume.Goals as goal

pub returns-in-Err-for_sessions-clause-fault : goal.returns-in-Err-for_sessions-clause-fault
returns-in-Err-for_sessions-clause-fault g c =
    let none = c.in-Ok.ensures.none in
    let fits = base_fits c.args.schema c.args.sessions c.args.base c.args.counter none c.in-Ok.ensures.placed c.in-Ok.ensures.sessions_known in
    inr (c.in-Err-for_sessions.ensures.fault ∙ ap (λ b. cond b NoSession Memory) (le-ltb c.args.sessions c.args.base.sessions fits.2), (passed (front_fault c.args.schema c.args.sessions c.args.base c.args.counter) _ none).0)

pub invariant_of-result : goal.invariant_of-result
invariant_of-result g c =
    let room = c.in-Ok.room in
    let told = c.in-Ok.ensures in
    let kept = c.in-Ok-for_sessions.ensures.ok in
    let fits = base_fits c.args.schema c.args.sessions c.args.base c.args.counter told.none told.placed told.sessions_known in
    record {
      sound = subst AreSound
          (sym (resumed_is c.args.schema c.args.keep c.args.base.base c.args.counter room.1 room.0 c.args.base.tables told.tables room.2 told.window room.4.rows told.log.rows c.new.result c.new.ensures room.3.marks (ap (λ m. m.marks) told.marks)
          c.in-Ok-for_sessions.base.base (ap (λ b. b.base) kept)))
          (resumed_sound c.args.schema c.args.sessions c.args.keep c.args.base.base c.args.counter room.1 told.sessions fits.0);
      tables_match = ap (λ t. t.tables) told.tables ∙ fits.1;
      marks_match = ap (λ m. m.sessions) told.marks ∙ sym told.sessions.each;
      log_match = record { begins = told.log.first ∙ sym (ap (λ b. b.base.place) kept); knows = told.log.sessions ∙ sym told.sessions.each };
      base_match = record { holds = ap (λ b. b.tables) kept ∙ fits.1; knows = ap (λ b. b.sessions) kept ∙ sym told.sessions.each };
      placed = unfolded_placed room.0.tables c.args.base.base c.args.sessions room.1 told.sessions;
      counted = subst (λ p. AddUp c.none-totals.result (world_of p)) (sym (resumed_is c.args.schema c.args.keep c.args.base.base c.args.counter room.1 room.0 c.args.base.tables told.tables room.2 told.window room.4.rows told.log.rows c.new.result c.new.ensures room.3.marks (ap (λ m. m.marks) told.marks) c.in-Ok-for_sessions.base.base (ap (λ b. b.base) kept)))
          (subst (λ t. AddUp t (world_of (resumed_parts c.args.schema c.args.keep c.args.base.base c.args.counter room.1))) (sym (c.none-totals.ensures ∙ ap no_totals (c.place.ensures ∙ ap (λ b. b.base.place) kept)))
          (none_add (world_of (resumed_parts c.args.schema c.args.keep c.args.base.base c.args.counter room.1)) refl));
    }

pub returns-clause-resumed : goal.returns-clause-resumed
returns-clause-resumed g c =
    let room = c.in-Ok.room in
    let told = c.in-Ok.ensures in
    let kept = c.in-Ok-for_sessions.ensures.ok in
    ap world_of
    (resumed_is c.args.schema c.args.keep c.args.base.base c.args.counter room.1 room.0 c.args.base.tables told.tables room.2 told.window room.4.rows told.log.rows c.new.result c.new.ensures room.3.marks (ap (λ m. m.marks) told.marks)
    c.in-Ok-for_sessions.base.base (ap (λ b. b.base) kept))
    ∙ resumed_world c.args.schema c.args.sessions c.args.keep c.args.base.base c.args.counter room.1 told.sessions

pub returns-clause-totals : goal.returns-clause-totals
returns-clause-totals g c = c.none-totals.ensures ∙ ap no_totals (c.place.ensures ∙ ap (λ b. b.base.place) c.in-Ok-for_sessions.ensures.ok)
