use Rattle.std.proofs.Common.{◌≡◌, ◌+◌, drop, refl, sym, ap, subst, ◌∙◌, None, Err}
use Rattle.std.specs.Prelude.{MatchResult}
use Rattle.std.proofs.lemmas.Result.{err_from_is_err_and}
use Rattle.occ_types.specs.PlainData.{object_of}
use Rattle.occ_book.specs.Loaded.{plain_rows, rows_fault, IsToldAs}
use Rattle.occ_book.proofs.Common.{drop_at, at_drop_all, Content}
use Rattle.occ_book.proofs.LoadedRows.{IsLeft, all-left, left-more, left-told}
use Rattle.occ_book.proofs.loading.load_rows.Goals as goal

pub loop-row-init : goal.loop-row-init
loop-row-init g c = record {
  tables = refl;
  left = all-left c.args.tables.now.tables c.args.tables.now.state (plain_rows c.args.rows.now) c.requires;
}

pub loop-row-preserved : goal.loop-row-preserved
loop-row-preserved g c =
    let rows = c.args.rows.now in
    let i = c.loop-row.row-index in
    let tables = c.args.tables.now.tables in
    let row = c.row-item.result in
    let here = drop_at rows i row row c.loop-row-test.true c.row-item.is in
    let left = subst (λ rs. IsLeft tables c.loop-row.tables.state (plain_rows rs) (plain_rows rows)) here c.loop-row.invariant.left in
    let old = c.loop-row.tables in
    let new = c.load_row.new.tables in
    let is = c.in_ok-load_row.ensures.ok in
    record {
      tables = ap (λ (t : Content). t.tables) is ∙ c.loop-row.invariant.tables;
      left =
          left-more tables old.tables old.state new.state (object_of row.0, row.1) (plain_rows (drop (i + 1) rows)) (plain_rows rows) c.loop-row.invariant.tables left c.in_ok-load_row.ensures.fault (ap (λ (t : Content). t.state) is);
    }

pub returns-in_err-load_row-clause-fault : goal.returns-in_err-load_row-clause-fault
returns-in_err-load_row-clause-fault g c =
    let rows = c.args.rows.now in
    let i = c.loop-row.row-index in
    let tables = c.args.tables.now.tables in
    let row = c.row-item.result in
    let here = drop_at rows i row row c.loop-row-test.true c.row-item.is in
    let left = subst (λ rs. IsLeft tables c.loop-row.tables.state (plain_rows rs) (plain_rows rows)) here c.loop-row.invariant.left in
    let due = rows_fault tables (plain_rows rows) in
    let p = err_from_is_err_and c.from_residual.result c.from_residual.ensures.1 in
    let old = c.loop-row.tables in
    subst (λ r. MatchResult r (λ _. due ≡ None) (IsToldAs due)) (sym (p.1 ∙ ap Err p.2))
    (left-told tables old.tables old.state (object_of row.0, row.1) (plain_rows (drop (i + 1) rows)) (plain_rows rows) c.in_err-load_row.field-0.0 c.loop-row.invariant.tables left c.in_err-load_row.ensures.fault)

pub returns-clause-ok : goal.returns-clause-ok
returns-clause-ok g c =
    let rows = c.args.rows.now in
    let done = at_drop_all (λ rs. rs) rows c.loop-row.row-index c.loop-row-test.false in
    let left = subst (λ rs. IsLeft c.args.tables.now.tables c.loop-row.tables.state (plain_rows rs) (plain_rows rows)) done c.loop-row.invariant.left in
    λ i. record { tables = c.loop-row.invariant.tables i; state = left.leads i }

pub returns-clause-fault : goal.returns-clause-fault
returns-clause-fault g c =
    let rows = c.args.rows.now in
    let done = at_drop_all (λ rs. rs) rows c.loop-row.row-index c.loop-row-test.false in
    let left = subst (λ rs. IsLeft c.args.tables.now.tables c.loop-row.tables.state (plain_rows rs) (plain_rows rows)) done c.loop-row.invariant.left in
    sym left.fault
