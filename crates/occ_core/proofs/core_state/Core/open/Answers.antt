use Rattle.std.proofs.Common.{ap, sym, subst, refl, ◌∙◌, length}
use Rattle.occ_core.specs.CoreParts.{world_of, AreSound}
use Rattle.occ_core.proofs.Openings.{opened_parts, opened_world, opened_sound, opened_is, idle_length}
use Rattle.occ_types.specs.PlainData.{table_of}
use Rattle.occ_log.specs.SessionStates.{HoldsArePlaced}
use Rattle.occ_log.proofs.Changes.{length-map, idle-placed}
use Rattle.occ_core.specs.Totals.{AddUp}
use Rattle.occ_core.proofs.Tallies.{none_add}
use Rattle.occ_core.proofs.core_state.Core.open.Goals as goal

pub invariant_of-result : goal.invariant_of-result
invariant_of-result g c = record {
  sound = subst AreSound (sym (opened_is c.args.schema c.args.sessions c.args.keep c.in-Ok.parts.0 _ c.in-Ok.ensures.tables c.in-Ok.parts.1 c.in-Ok.ensures.sessions c.in-Ok.parts.2 c.in-Ok.ensures.window c.in-Ok.parts.4.rows c.in-Ok.ensures.log.rows c.new.result c.new.ensures c.in-Ok.parts.3.marks (ap (λ m. m.marks) c.in-Ok.ensures.marks) c.in-Ok.parts.5 c.in-Ok.ensures.base))
      (opened_sound c.args.schema c.args.sessions c.args.keep);
  tables_match = ap (λ t. t.tables) c.in-Ok.ensures.tables ∙ sym (length-map table_of c.tables-count.result.now) ∙ ap length c.tables-count.ensures.value;
  marks_match = ap (λ m. m.sessions) c.in-Ok.ensures.marks ∙ sym (ap length c.in-Ok.ensures.sessions ∙ idle_length c.args.sessions);
  log_match = record { begins = c.in-Ok.ensures.log.first ∙ sym (ap (λ b. b.base.place) c.in-Ok.ensures.base); knows = c.in-Ok.ensures.log.sessions ∙ sym (ap length c.in-Ok.ensures.sessions ∙ idle_length c.args.sessions) };
  base_match = record {
    holds = ap (λ b. b.tables) c.in-Ok.ensures.base ∙ sym (length-map table_of c.tables-count.result.now) ∙ ap length c.tables-count.ensures.value;
    knows = ap (λ b. b.sessions) c.in-Ok.ensures.base ∙ sym (ap length c.in-Ok.ensures.sessions ∙ idle_length c.args.sessions);
  };
  placed = subst (HoldsArePlaced c.in-Ok.parts.0.tables) (sym c.in-Ok.ensures.sessions) (idle-placed c.in-Ok.parts.0.tables c.args.sessions);
  counted = subst (λ p. AddUp c.none.result (world_of p)) (sym (opened_is c.args.schema c.args.sessions c.args.keep c.in-Ok.parts.0 _ c.in-Ok.ensures.tables c.in-Ok.parts.1 c.in-Ok.ensures.sessions c.in-Ok.parts.2 c.in-Ok.ensures.window c.in-Ok.parts.4.rows c.in-Ok.ensures.log.rows c.new.result c.new.ensures c.in-Ok.parts.3.marks (ap (λ m. m.marks) c.in-Ok.ensures.marks) c.in-Ok.parts.5 c.in-Ok.ensures.base))
      (subst (λ t. AddUp t (world_of (opened_parts c.args.schema c.args.sessions c.args.keep))) (sym c.none.ensures) (none_add (world_of (opened_parts c.args.schema c.args.sessions c.args.keep)) refl));
}

pub returns : goal.returns
returns g c = record {
  opened = ap world_of (opened_is c.args.schema c.args.sessions c.args.keep c.in-Ok.parts.0 _ c.in-Ok.ensures.tables c.in-Ok.parts.1 c.in-Ok.ensures.sessions c.in-Ok.parts.2 c.in-Ok.ensures.window c.in-Ok.parts.4.rows c.in-Ok.ensures.log.rows c.new.result c.new.ensures c.in-Ok.parts.3.marks (ap (λ m. m.marks) c.in-Ok.ensures.marks) c.in-Ok.parts.5 c.in-Ok.ensures.base)
      ∙ opened_world c.args.schema c.args.sessions c.args.keep;
  totals = c.none.ensures;
  handed_back = tt;
}
