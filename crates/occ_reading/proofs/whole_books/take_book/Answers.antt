use Rattle.std.proofs.Common.{◌≤◌, ◌^◌, ◌-◌, refl, arith}
use Rattle.occ_reading.proofs.Common.{Counter, books, ended, length-map, log_of, log_row_of, next_fails, next_taken, none, part_failed, read_fault, ◌and◌}
use Rattle.occ_reading.specs.Places.{Version}
use Rattle.occ_reading.proofs.Sections.{whole_book, book_text_is}
use Rattle.occ_reading.proofs.PartPlaces.{limits_taken, limits_fail}
use Rattle.occ_reading.proofs.whole_books.take_book.Goals as goal

pub take_front-requires : goal.take_front-requires
take_front-requires g c = (c.in_ok-opening.ensures.taken c.in_ok-limits.limits.sessions).1.2

pub returns-clause-taken : goal.returns-clause-taken
returns-clause-taken g c =
    let rows = c.in_ok-log.log in
    let counted = rows.ok.0 in
    let within = rows.ok.1 in
    let small = rows.small in
    let all = c.in_ok-log.ensures.taken.1.1 in
    let few : c.in_ok-front.front.rows ≤ 2 ^ 64 - 1 = omega (arith, length-map rows.items log_row_of) in
    let s = c.in_ok-limits.limits in
    let book = whole_book s c.in_ok-opening.opening.schema c.in_ok-opening.opening.began c.in_ok-front.front.base.base c.in_ok-front.front.rows (log_of rows.items) c.in_ok-marks.marks.marks c.in_ok-table.table.state c.in_ok-counts.counts
    (limits_taken s c.in_ok-limits.ensures.gives) c.in_ok-limits.ensures.gives.1 (c.in_ok-opening.ensures.taken s.sessions) c.in_ok-front.ensures.taken c.in_ok-log.ensures.taken few
    (c.in_ok-marks.ensures.taken s.version c.in_ok-opening.opening.schema) (c.in_ok-table.ensures.taken s.sessions) (next_taken books Counter c.in_ok-counts.counts c.in_ok-counts.ensures.taken) _ refl in
    book_text_is _ book c.in_ok-take_end.ensures.taken

pub returns-in_err-limits-clause-led : goal.returns-in_err-limits-clause-led
returns-in_err-limits-clause-led g c =
    part_failed (read_fault c.in_err-limits.field-0.0) c.from_residual.result _ c.from_residual.ensures.1 (none {language = books} {p = Version}) (limits_fail c.in_err-limits.field-0.0 _ _ _ c.take_limits.new.input.number c.in_err-limits.ensures.gives)

pub returns-in_err-opening-clause-led : goal.returns-in_err-opening-clause-led
returns-in_err-opening-clause-led g c =
    let s = c.in_ok-limits.limits in
    let so_far = limits_taken s c.in_ok-limits.ensures.gives in
    part_failed c.in_err-opening.field-0.0 c.from_residual-in_err-opening.result _ c.from_residual-in_err-opening.ensures.1 so_far (c.in_err-opening.ensures.taken s.sessions)

pub returns-in_err-front-clause-led : goal.returns-in_err-front-clause-led
returns-in_err-front-clause-led g c =
    let s = c.in_ok-limits.limits in
    let so_far = limits_taken s c.in_ok-limits.ensures.gives and (c.in_ok-opening.ensures.taken s.sessions).0 in
    part_failed c.in_err-front.field-0.0 c.from_residual-in_err-front.result _ c.from_residual-in_err-front.ensures.1 so_far c.in_err-front.ensures.taken

pub returns-in_err-log-clause-led : goal.returns-in_err-log-clause-led
returns-in_err-log-clause-led g c =
    let s = c.in_ok-limits.limits in
    let so_far = limits_taken s c.in_ok-limits.ensures.gives and (c.in_ok-opening.ensures.taken s.sessions).0
    and c.in_ok-front.ensures.taken.0 in
    part_failed c.in_err-log.field-0.0 c.from_residual-in_err-log.result _ c.from_residual-in_err-log.ensures.1 so_far c.in_err-log.ensures.taken

pub returns-in_err-marks-clause-led : goal.returns-in_err-marks-clause-led
returns-in_err-marks-clause-led g c =
    let s = c.in_ok-limits.limits in
    let so_far = limits_taken s c.in_ok-limits.ensures.gives and (c.in_ok-opening.ensures.taken s.sessions).0
    and c.in_ok-front.ensures.taken.0 and c.in_ok-log.ensures.taken.0 in
    part_failed c.in_err-marks.field-0.0 c.from_residual-in_err-marks.result _ c.from_residual-in_err-marks.ensures.1 so_far (c.in_err-marks.ensures.taken s.version c.in_ok-opening.opening.schema)

pub returns-in_err-table-clause-led : goal.returns-in_err-table-clause-led
returns-in_err-table-clause-led g c =
    let s = c.in_ok-limits.limits in
    let so_far = limits_taken s c.in_ok-limits.ensures.gives and (c.in_ok-opening.ensures.taken s.sessions).0
    and c.in_ok-front.ensures.taken.0 and c.in_ok-log.ensures.taken.0
    and (c.in_ok-marks.ensures.taken s.version c.in_ok-opening.opening.schema).0 in
    part_failed c.in_err-table.field-0.0 c.from_residual-in_err-table.result _ c.from_residual-in_err-table.ensures.1 so_far (c.in_err-table.ensures.taken s.sessions)

pub returns-in_err-counts-clause-led : goal.returns-in_err-counts-clause-led
returns-in_err-counts-clause-led g c =
    let s = c.in_ok-limits.limits in
    let so_far = limits_taken s c.in_ok-limits.ensures.gives and (c.in_ok-opening.ensures.taken s.sessions).0
    and c.in_ok-front.ensures.taken.0 and c.in_ok-log.ensures.taken.0
    and (c.in_ok-marks.ensures.taken s.version c.in_ok-opening.opening.schema).0
    and (c.in_ok-table.ensures.taken s.sessions).0 in
    part_failed (read_fault c.in_err-counts.field-0.0) c.from_residual-in_err-counts.result _ c.from_residual-in_err-counts.ensures.1 so_far (next_fails books Counter (read_fault c.in_err-counts.field-0.0) _ _ _ (λ may. may) c.in_err-counts.ensures.taken)

pub returns-in_err-take_end-clause-led : goal.returns-in_err-take_end-clause-led
returns-in_err-take_end-clause-led g c =
    let s = c.in_ok-limits.limits in
    let so_far = limits_taken s c.in_ok-limits.ensures.gives and (c.in_ok-opening.ensures.taken s.sessions).0
    and c.in_ok-front.ensures.taken.0 and c.in_ok-log.ensures.taken.0
    and (c.in_ok-marks.ensures.taken s.version c.in_ok-opening.opening.schema).0
    and (c.in_ok-table.ensures.taken s.sessions).0
    and (next_taken books Counter c.in_ok-counts.counts c.in_ok-counts.ensures.taken).0 in
    part_failed (read_fault c.in_err-take_end.field-0.0) c.from_residual-in_err-take_end.result _ c.from_residual-in_err-take_end.ensures.1 so_far c.in_err-take_end.ensures.taken

pub returns-clause-led : goal.returns-clause-led
returns-clause-led g c =
    let s = c.in_ok-limits.limits in
    let so_far = limits_taken s c.in_ok-limits.ensures.gives and (c.in_ok-opening.ensures.taken s.sessions).0
    and c.in_ok-front.ensures.taken.0 and c.in_ok-log.ensures.taken.0
    and (c.in_ok-marks.ensures.taken s.version c.in_ok-opening.opening.schema).0
    and (c.in_ok-table.ensures.taken s.sessions).0
    and (next_taken books Counter c.in_ok-counts.counts c.in_ok-counts.ensures.taken).0 in
    ended so_far c.in_ok-take_end.ensures.taken

pub returns-clause-base_sizes : goal.returns-clause-base_sizes
returns-clause-base_sizes g c = c.in_ok-front.ensures.sizes
