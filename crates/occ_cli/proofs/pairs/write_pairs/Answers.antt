use Rattle.occ_cli.proofs.Common.{key_of, pair_text}
use Rattle.occ_cli.proofs.Lists.{one_more}
use Rattle.occ_cli.proofs.pairs.write_pairs.Goals as goal

-- the next pair is written behind the others
pub loop-key-preserved : goal.loop-key-preserved
loop-key-preserved g c =
    one_more (pair_text c.args.before.now) (λ e. (key_of e.0, e.1)) _ _ _ c.args.rows.now c.loop-key.key-index c.loop-key-item.result c.loop-key-test.true c.loop-key-item.is c.loop-key.invariant c.in_ok-write_pair.ensures
