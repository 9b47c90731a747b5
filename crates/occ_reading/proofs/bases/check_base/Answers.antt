use Rattle.std.proofs.Common.{◌≡◌, ◌<◌, ◌+◌, ◌^◌, true, false, length, ap, sym, ◌∙◌}
use Rattle.occ_reading.proofs.Common.{Decides, log_of}
use Rattle.occ_reading.proofs.LeftBases.{active_is, has_no_place, place_is}
use Rattle.occ_reading.specs.Bases.{IsAudited}
use Rattle.occ_reading.specs.WholeBooks.{printed_book}
use Rattle.occ_reading.proofs.bases.check_base.Goals as goal

pub returns-then-has_active : goal.returns-then-has_active
returns-then-has_active g c = (
  c.in-Ok-true.ensures.ok.0 c.in-Ok-true.field-0-test,
  active_is c.has_active.result true c.args.printed.now.book.log.items c.as_slice-log.result.now c.as_slice-log.ensures.value c.has_active.ensures c.if-has_active.true,
)

pub returns-then-not-has_place : goal.returns-then-not-has_place
returns-then-not-has_place g c =
    let items = c.args.printed.now.book.log.items in
    let place = place_is c.has_place.result c.place.result c.args.printed.now.book.base.base.place items c.as_slice-log.result.now c.as_slice-log.ensures.value c.place.ensures c.has_place.ensures in (
      c.in-Ok-true.ensures.ok.0 c.in-Ok-true.field-0-test,
      active_is c.has_active.result false items c.as_slice-log.result.now c.as_slice-log.ensures.value c.has_active.ensures c.if-has_active.false,
      has_no_place c.has_place.result _ place c.if-not-has_place.true,
    )

pub returns : goal.returns
returns g c =
    let items = c.args.printed.now.book.log.items in
    let place = place_is c.has_place.result c.place.result c.args.printed.now.book.base.base.place items c.as_slice-log.result.now c.as_slice-log.ensures.value c.place.ensures c.has_place.ensures in
    record {
      audited = c.in-Ok-true.ensures.ok.0 c.in-Ok-true.field-0-test;
      quiet = active_is c.has_active.result false items c.as_slice-log.result.now c.as_slice-log.ensures.value c.has_active.ensures c.if-has_active.false;
      place = place.0 c.if-not-has_place.false;
    }
