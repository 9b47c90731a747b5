use Rattle.std.proofs.Common.{rules, Ok, Some, List, ℕ, ap, refl, ◌∙◌, length}
use Rattle.occ_bytes.specs.Bytes.{put_at}
use Rattle.occ_c.specs.Texts.{part_from}
use Rattle.occ_c.proofs.Holdings.{replayed}
use Rattle.occ_c.proofs.texts.replay.Goals as goal

pub returns-in-Ok : goal.returns-in-Ok
returns-in-Ok c = record {
  came = Ok tt;
  after = Some c.replay_text-outcome.new.reader.now;
  said = c.replay_text-outcome.new.writer.items;
  is = replayed c.args.quiet c.args.text.now c.replay_text-outcome.new.writer.items c.new-said.result.items (Some c.replay_text-outcome.new.reader.now) c.new-said.ensures.items c.in-Ok.ensures;
  part = c.write_part-count.ensures.part ∙ ap (λ (l : List ℕ). put_at c.args.room.now 0 (part_from l 0 (length c.args.room.now))) c.as_slice.ensures.value;
  whole = search rules;
  told = refl;
}
