use Rattle.std.proofs.Common.{[], ◌∷◌, sym, append-nil}
use Rattle.occ_types.specs.PlainData.{question_of, table_asked}
use Rattle.occ_model.specs.Overlay as model
use Rattle.occ_sets.specs.PlainSets.{rows_of}
use Rattle.occ_sets.proofs.Agreement.{agrees-empty, agrees-row, taken}
use Rattle.occ_sets.proofs.overlays.rows_asked.Goals as goal

-- no row is taken yet
pub loop-key-init : goal.loop-key-init
loop-key-init g c = ([], sym (append-nil c.args.rows.items), agrees-empty (question_of c.args.question.now) c.new-seen.result.entries c.new-seen.ensures.empty)

-- one more row is taken and laid
pub loop-key-preserved : goal.loop-key-preserved
loop-key-preserved g c =
    let q = question_of c.args.question.now in
    let done = c.loop-key.invariant.0 in (
      (c.in-Some.key, c.in-Some.row) ∷ done,
      taken c.args.rows.items c.loop-key.rows.items c.pop.new.self.items done (c.in-Some.key, c.in-Some.row) c.loop-key.invariant.1 c.in-Some.ensures.items,
      agrees-row q c.put.new.seen.entries c.in-Some.key c.in-Some.row done (c.in_ok-put.ensures (model.rows_of (table_asked q) (rows_of done)) c.loop-key.invariant.2),
    )
