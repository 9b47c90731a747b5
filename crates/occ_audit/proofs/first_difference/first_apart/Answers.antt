use Rattle.std.proofs.Common.{◌∙◌, ap, nat_cmp, refl, subst, sym}
use Rattle.occ_audit.proofs.Common.{IsStrictlySortedBy, keys_of, state_of}
use Rattle.occ_audit.proofs.Differences.{TablesWalked, tables-agree, tables-first, tables-more, tables-none}
use Rattle.occ_audit.proofs.first_difference.first_apart.Goals as goal

pub loop-table-init : goal.loop-table-init
loop-table-init g c =
    let all = c.into_iter-table-iterator.result in
    tables-none c.args.state.now c.args.other.now all all refl
    (subst (λ es. IsStrictlySortedBy nat_cmp (keys_of es)) (sym c.into_iter-table-iterator.ensures.into_iter_gives.0) c.len-count.ensures.ordered)

pub returns-in-Some-first_key_apart : goal.returns-in-Some-first_key_apart
returns-in-Some-first_key_apart g c =
    let all = c.into_iter-table-iterator.result in
    let view = ap state_of c.into_iter-table-iterator.ensures.into_iter_gives.0 ∙ c.tables-tables.ensures in
    tables-first c.args.state.now c.args.other.now all c.next.new.self (c.in-Some.table.now, c.in-Some.rows.now) (record { table = c.in-Some.table.now; key = c.in-Some-first_key_apart.key }) view
    (subst (TablesWalked c.args.state.now c.args.other.now all) c.in-Some.ensures.steps c.loop-table.invariant)
    refl
    c.in-Some-first_key_apart.ensures

pub loop-table-preserved : goal.loop-table-preserved
loop-table-preserved g c =
    let all = c.into_iter-table-iterator.result in
    tables-more c.args.state.now c.args.other.now all c.next.new.self (c.in-Some.table.now, c.in-Some.rows.now)
    (subst (TablesWalked c.args.state.now c.args.other.now all) c.in-Some.ensures.steps c.loop-table.invariant)
    c.in_default.ensures

pub returns : goal.returns
returns g c =
    let all = c.into_iter-table-iterator.result in
    let view = ap state_of c.into_iter-table-iterator.ensures.into_iter_gives.0 ∙ c.tables-tables.ensures in
    tables-agree c.args.state.now c.args.other.now all c.loop-table.table-iterator view c.in-None.ensures.steps.0 c.loop-table.invariant
