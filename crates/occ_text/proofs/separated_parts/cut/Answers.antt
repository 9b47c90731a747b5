use Rattle.std.proofs.Common.{arith}
use Rattle.occ_text.proofs.Cuts.{cut_none, cut_some}
use Rattle.occ_text.proofs.separated_parts.cut.Goals as goal

pub returns-in-empty : goal.returns-in-empty
returns-in-empty c =
    cut_none c.args.separator c.args.bytes.now _ c.split_at.result.1.now c.find_near-at.result c.split_at.ensures.front c.split_at.ensures.back c.in-empty.len_below c.find_near-at.ensures.before

pub returns-in-len1-up : goal.returns-in-len1-up
returns-in-len1-up c =
    cut_some c.args.separator c.args.bytes.now _ c.split_at.result.1.now c.find_near-at.result c.split_at.ensures.front c.split_at.ensures.back (omega arith) (c.find_near-at.ensures.found (omega arith)) c.find_near-at.ensures.before
