use Rattle.std.proofs.Common.{arith, ap, ◌∙◌, ◌≡◌, ◌≤◌, ◌+◌, List, ℕ, length, sym}
use Rattle.occ_bytes.specs.Bytes.{put_at}
use Rattle.occ_c.specs.Kept.{entries_bytes}
use Rattle.occ_c.proofs.Parts.{going_none, going_more, went_short, went_all}
use Rattle.occ_c.proofs.operations.write_rows.Goals as goal

pub loop-place-init : goal.loop-place-init
loop-place-init c = going_none c.args.rows.now c.args.first c.args.room.now

pub put_whole-requires : goal.put_whole-requires
put_whole-requires c = omega (arith, c.loop-place.invariant.fits, c.loop-place.invariant.same)

pub loop-place-preserved : goal.loop-place-preserved
loop-place-preserved c = going_more c.args.rows.now c.args.first c.loop-place.place c.loop-place.at _ c.args.room.now _ _ (omega (arith, c.loop-place-test.true, c.len-place-end.ensures.count)) c.in-Ok.ensures.puts c.in-Ok.ensures.length
    c.loop-place.invariant

pub cut_short-requires : goal.cut_short-requires
cut_short-requires c = omega (arith, c.loop-place.invariant.count)

pub returns-in-Err : goal.returns-in-Err
returns-in-Err c = went_short c.args.rows.now c.args.first c.loop-place.place c.loop-place.at c.in-Err.size _ _ c.args.room.now _ _ (omega (arith, c.loop-place-test.true, c.len-place-end.ensures.count)) c.in-Err.ensures.puts
    c.loop-place.invariant c.cut_short.ensures.rows c.cut_short.ensures.alone c.cut_short.ensures.behind

pub returns : goal.returns
returns c = went_all c.args.rows.now c.args.first c.loop-place.place c.loop-place.at _ c.args.room.now _ (omega (arith, c.loop-place-test.false, c.len-place-end.ensures.count)) c.loop-place.invariant
    (c.saturating_sub.ensures ∙ ap (λ (n : ℕ). n) (omega (arith, c.len.ensures.count)))
