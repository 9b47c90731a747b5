use Rattle.std.proofs.Common.{◌≡◌, ◌∷◌, length, vec_capacity, None, sym, ap, subst, arith, []}
use Rattle.occ_reading.proofs.Common.{IsAbove, PairFits, RisesFrom, books, caused, count_more, failed, framed, gathered_all, gathered_none, key_of, last_key, pair_line, pair_of, pairs_to_come, rows_of, single_lines, spelled, viewed_more}
use Rattle.occ_text.specs.declared.faults.ReadFault.TheVariants as read_faults
use Rattle.occ_reading.proofs.RowTaking.{rises-more, room-more}
use Rattle.occ_reading.proofs.RowPlaces.{pairs_more, pairs_fail}
use Rattle.occ_reading.proofs.transactions.take_pairs.Goals as goal

pub loop-init : goal.loop-init
loop-init g c =
    let none : rows_of c.new-rows.result.items ≡ [] = ap rows_of c.new-rows.ensures.items in
    record {
      count = ap length none;
      room = λ none. c.new-rows.ensures.capacity;
      rises = subst (RisesFrom None) (sym none) tt;
      taken = λ row reads.
          let here = framed c.args.version c.args.schema.now row in
          gathered_none books (λ pair. pair_line pair ∷ []) (PairFits c.args.version c.args.schema.now c.args.table) (λ rows k. pairs_to_come here reads c.args.table k (last_key rows)) (rows_of c.new-rows.result.items) c.args.count none;
    }

pub loop-preserved : goal.loop-preserved
loop-preserved g c =
    let more = viewed_more (pair_of {Z = g.row.A.Denot}) c.loop.rows.items c.keep.new.kept.items c.in_ok-pair.pair c.in_ok-keep.ensures in
    record {
      count = count_more (rows_of c.loop.rows.items) (rows_of c.keep.new.kept.items) (pair_of {Z = g.row.A.Denot} c.in_ok-pair.pair) c.loop.counter more c.loop.invariant.count;
      room = room-more c.loop.rows.items c.keep.new.kept.items c.in_ok-pair.pair (vec_capacity c.keep.new.kept) c.in_ok-keep.ensures;
      rises = rises-more (rows_of c.loop.rows.items) (rows_of c.keep.new.kept.items) (pair_of {Z = g.row.A.Denot} c.in_ok-pair.pair) more
          (subst (λ l. IsAbove (last_key (rows_of l)) (key_of c.in_ok-pair.pair.0)) c.as_slice.ensures.value c.in_ok-pair.ensures.taken.1.1) c.loop.invariant.rises;
      taken = λ row reads.
          pairs_more (pair_of {Z = g.row.A.Denot}) c.loop.rows.items c.as_slice.result.now c.keep.new.kept.items c.in_ok-pair.pair (framed c.args.version c.args.schema.now row) reads c.args.table c.args.count c.loop.counter _ _ _ _
          c.loop-test.true c.in_ok-keep.ensures c.as_slice.ensures.value (c.loop.invariant.taken row reads) c.in_ok-pair.ensures.taken;
    }

pub returns-in_err-pair-clause-taken : goal.returns-in_err-pair-clause-taken
returns-in_err-pair-clause-taken g c = λ row reads.
    failed books c.in_err-pair.field-0.0 c.from_residual.result _ _ _ _ _ _ c.from_residual.ensures.1
    (pairs_fail (pair_of {Z = g.row.A.Denot}) c.loop.rows.items c.as_slice.result.now c.in_err-pair.field-0.0 (framed c.args.version c.args.schema.now row) reads c.args.table c.args.count c.loop.counter _ _ _
    c.loop-test.true c.as_slice.ensures.value (c.loop.invariant.taken row reads) c.in_err-pair.ensures.taken)

pub returns-clause-taken : goal.returns-clause-taken
returns-clause-taken g c = λ row reads.
    let all = gathered_all books (λ k. pairs_to_come (framed c.args.version c.args.schema.now row) reads c.args.table k (last_key (rows_of c.loop.rows.items))) c.args.count c.loop.counter (omega arith) c.loop.invariant.count (c.loop.invariant.taken row reads) in
    (spelled (single_lines pair_line (rows_of c.loop.rows.items)) all.0, (all.1, c.loop.invariant.rises))

pub returns-in_err-pair-clause-cause : goal.returns-in_err-pair-clause-cause
returns-in_err-pair-clause-cause g c = caused c.in_err-pair.field-0.0 read_faults.Read c.from_residual.result _ c.from_residual.ensures.1 c.in_err-pair.ensures.cause

pub keep-requires : goal.keep-requires
keep-requires g c = c.loop.invariant.room
