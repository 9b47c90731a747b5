use Rattle.std.proofs.Common.{◌∙◌, ap, not, subst, sym}
use Rattle.occ_audit.proofs.Common.{clash, not_false}
use Rattle.occ_audit.proofs.Ranges.{option-decides}
use Rattle.occ_book.specs.KeyRefs.{key_lent}
use Rattle.occ_audit.proofs.Differences.{KeysWalked, keys-agree, keys-first, keys-more, keys-none}
use Rattle.occ_audit.proofs.first_difference.first_key_apart.Goals as goal

pub loop-key-init : goal.loop-key-init
loop-key-init g c =
    keys-none c.args.table c.args.other.now c.args.rows.now c.into_iter-key-iterator.result (c.into_iter-key-iterator.ensures.into_iter_gives ∙ c.iter-key-items.ensures.rows) c.iter-key-items.ensures.ordered

pub returns-then-ne : goal.returns-then-ne
returns-then-ne g c =
    keys-first c.args.table c.args.other.now c.args.rows.now c.next.new.self c.in-Some.key c.in-Some.row.now (subst (KeysWalked c.args.table c.args.other.now c.args.rows.now) c.in-Some.ensures.steps c.loop-key.invariant)
    (λ e. clash c.ne.result c.if-ne.true (c.ne.ensures ∙ ap not ((option-decides c.row_at.result _).1 (c.row_at.ensures ∙ e))))

pub loop-key-preserved : goal.loop-key-preserved
loop-key-preserved g c =
    keys-more c.args.table c.args.other.now c.args.rows.now c.next.new.self (key_lent c.in-Some.key, c.in-Some.row.now) (subst (KeysWalked c.args.table c.args.other.now c.args.rows.now) c.in-Some.ensures.steps c.loop-key.invariant)
    (sym c.row_at.ensures ∙ (option-decides c.row_at.result _).0 (not_false _ (sym c.ne.ensures ∙ c.if-ne.false)))

pub returns : goal.returns
returns g c =
    keys-agree c.args.table c.args.other.now c.args.rows.now c.loop-key.key-iterator c.in-None.ensures.steps.0 c.loop-key.invariant
