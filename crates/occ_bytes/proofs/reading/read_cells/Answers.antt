use Rattle.std.proofs.Common.{◌∙◌, arith, refl, sym, ℕ, List, Bor}
use Rattle.occ_types.specs.declared.kind.Kind.TheVariants as kinds
use Rattle.occ_types.specs.PlainData.{row_of}
use Rattle.occ_bytes.proofs.Back.{left_more, left_stops, left_none, pushed_fits, row_read, not_empty, with_rest}
use Rattle.occ_bytes.proofs.reading.read_cells.Goals as goal

pub loop-kind-preserved : goal.loop-kind-preserved
loop-kind-preserved g c = (
  sym c.in_ok-rest.ensures.taken ∙ c.loop-kind.invariant.0,
  pushed_fits c.args.kinds.now (row_of c.loop-kind.cells.items) (row_of c.take_next.new.cells.items) c.loop-kind.kind-index kinds.Int _ c.loop-kind-test.true refl c.loop-kind.invariant.1 c.in_ok-rest.ensures.kind,
  λ row fits written.
      left_more c.args.kinds.now (row_of c.loop-kind.cells.items) (row_of c.take_next.new.cells.items) row c.loop-kind.rest.now c.in_ok-rest.rest.now c.loop-kind.kind-index kinds.Int _
      c.loop-kind-test.true refl c.in_ok-rest.ensures.back (c.loop-kind.invariant.2 row fits written),
)

pub returns-in_err-rest-clause-back : goal.returns-in_err-rest-clause-back
returns-in_err-rest-clause-back g c = λ row fits written.
    left_stops (λ (left : Bor (List ℕ)). with_rest (row_of c.take_next.new.cells.items) left.now) _ c.args.kinds.now (row_of c.loop-kind.cells.items) row c.loop-kind.rest.now c.loop-kind.kind-index kinds.Int _ _ c.from_residual.result
    c.loop-kind-test.true refl c.in_err-rest.ensures.back c.from_residual.ensures.1 (c.loop-kind.invariant.2 row fits written)

pub returns-then-not-is_empty-clause-back : goal.returns-then-not-is_empty-clause-back
returns-then-not-is_empty-clause-back g c = λ row fits written.
    not_empty c.loop-kind.rest.now _ c.is_empty.ensures c.if-not-is_empty.true
    (left_none c.args.kinds.now (row_of c.loop-kind.cells.items) row c.loop-kind.rest.now c.loop-kind.kind-index (omega arith) (c.loop-kind.invariant.2 row fits written)).1

pub returns-clause-read : goal.returns-clause-read
returns-clause-read g c =
    row_read c.args.kinds.now (row_of c.loop-kind.cells.items) c.args.bytes.now c.loop-kind.rest.now c.loop-kind.kind-index _ (omega arith) c.loop-kind.invariant.0 c.loop-kind.invariant.1
    c.is_empty.ensures c.if-not-is_empty.false

pub returns-clause-back : goal.returns-clause-back
returns-clause-back g c = λ row fits written.
    (left_none c.args.kinds.now (row_of c.loop-kind.cells.items) row c.loop-kind.rest.now c.loop-kind.kind-index (omega arith) (c.loop-kind.invariant.2 row fits written)).0
