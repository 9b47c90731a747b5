use Rattle.std.proofs.Common.{ℕ, ◌+◌, ◌-◌, ◌∙◌, ◌∷◌, None, option_map, ap, sym, length, arith, []}
use Rattle.occ_reading.proofs.Common.{AtFits, Content, EntryOf, Place, at_of, books, entries, entries_to_come, entry_line, failed, frame_of, gathered_all, gathered_fails, gathered_more, gathered_none, key_of, length-map, next_fails, next_taken, object_of, single_lines, spelled, table_of}
use Rattle.occ_reading.proofs.Rising.{no_entries, none_yet}
use Rattle.occ_reading.proofs.Sections.{row_added, place_there}
use Rattle.occ_reading.proofs.whole_books.take_entries.Goals as goal

pub loop-init : goal.loop-init
loop-init g c =
    let made = rw c.in_ok-tables.ensures.given at c.new.ensures.empty in
    let empty = ap (λ (t : Content). t.state) made in
    record {
      so_far = none_yet c.in_ok-tables.tables.state empty;
      all = ap (λ (t : Content). t.tables) made ∙ sym (length-map c.tables.result.now table_of) ∙ ap length c.tables.ensures.value;
      taken = λ sessions.
          gathered_none books (λ entry. entry_line c.args.section c.args.schema.now entry ∷ []) (AtFits c.args.version c.args.schema.now) (λ _ left. entries_to_come c.args.section (frame_of c.args.version c.args.schema.now sessions) left None)
          (entries c.in_ok-tables.tables.state) c.args.count (no_entries c.in_ok-tables.tables.state empty);
    }

pub put-requires : goal.put-requires
put-requires g c = place_there c.args.schema.now c.loop.tables.tables c.in_ok-object.object.table (key_of c.in_ok-object.object.key) c.loop.invariant.all c.in_ok-object.ensures.taken.1.0.0.checked

pub loop-preserved : goal.loop-preserved
loop-preserved g c =
    let done = rw c.in_ok-unless_refused.ensures.given at c.put.ensures.ok in
    let put = ap (λ (t : Content). t.state) done in
    let last = option_map object_of c.loop.last in
    let entry = at_of (c.in_ok-object.object, c.in_ok-object.row) in
    let next = c.in_ok-object.ensures.taken in
    let added = row_added last c.loop.counter c.loop.tables.state c.put.new.self.state entry c.loop.invariant.so_far next.1.1 put in
    record {
      so_far = added.so_far;
      all = ap (λ (t : Content). t.tables) done ∙ c.loop.invariant.all;
      taken = λ sessions.
          let frame = frame_of c.args.version c.args.schema.now sessions in
          let one = next_taken books (EntryOf c.args.section frame (c.args.count - (c.loop.counter + 1)) last) entry next in
          gathered_more books (λ left. entries_to_come c.args.section frame left last) (entries c.loop.tables.state) (entries c.put.new.self.state) entry c.args.count c.loop.counter c.loop-test.true added.more (c.loop.invariant.taken sessions) (one.0, one.1.0);
    }

pub returns-clause-taken : goal.returns-clause-taken
returns-clause-taken g c = λ sessions.
    let at : ℕ → Place = λ left. entries_to_come c.args.section (frame_of c.args.version c.args.schema.now sessions) left (option_map object_of c.loop.last) in
    let all = gathered_all books at c.args.count c.loop.counter (omega arith) c.loop.invariant.so_far.number (c.loop.invariant.taken sessions) in
    (spelled (single_lines (entry_line c.args.section c.args.schema.now) (entries c.loop.tables.state)) all.0, all.1)

pub returns-in_err-object-clause-taken : goal.returns-in_err-object-clause-taken
returns-in_err-object-clause-taken g c = λ sessions.
    let frame = frame_of c.args.version c.args.schema.now sessions in
    let last = option_map object_of c.loop.last in
    failed books c.in_err-object.field-0.0 c.from_residual-in_err-object.result _ _ _ _ _ _ c.from_residual-in_err-object.ensures.1
    (gathered_fails books c.in_err-object.field-0.0 _ (λ left. entries_to_come c.args.section frame left last) c.args.count c.loop.counter c.loop-test.true (c.loop.invariant.taken sessions)
    (next_fails books (EntryOf c.args.section frame (c.args.count - (c.loop.counter + 1)) last) c.in_err-object.field-0.0 _ _ _ (λ may. may) c.in_err-object.ensures.taken))

pub returns-clause-tables : goal.returns-clause-tables
returns-clause-tables g c = c.loop.invariant.all
