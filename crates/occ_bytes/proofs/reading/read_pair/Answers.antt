use Rattle.std.proofs.Common.{◌∙◌}
use Rattle.occ_types.specs.PlainData.{key_of, part_of}
use Rattle.occ_bytes.specs.Reading.{taken_of}
use Rattle.occ_bytes.proofs.Back.{pair_stops, pair_parts, pair_read, not_empty}
use Rattle.occ_bytes.proofs.reading.read_pair.Goals as goal

pub returns-in_err-second-clause-back : goal.returns-in_err-second-clause-back
returns-in_err-second-clause-back g c =
    pair_stops (taken_of (part_of {Z = g.row.A.Denot})) (key_of {Z = g.row.A.Denot}) c.args.first c.args.second c.args.bytes.now c.in_ok-first.rest.now (part_of c.in_ok-first.first) _ c.from_residual-in_err-second.result
    c.in_ok-first.ensures.back c.in_err-second.ensures.back c.from_residual-in_err-second.ensures.1

pub returns-then-not-is_empty-clause-back : goal.returns-then-not-is_empty-clause-back
returns-then-not-is_empty-clause-back g c = λ key fits written.
    not_empty c.in_ok-second.behind.now _ c.is_empty.ensures c.if-not-is_empty.true
    (pair_parts c.args.first c.args.second c.args.bytes.now c.in_ok-first.rest.now c.in_ok-second.behind.now (part_of c.in_ok-first.first) (part_of c.in_ok-second.second)
    c.in_ok-first.ensures.back c.in_ok-second.ensures.back key fits written).1

pub returns-in-Ok-clause-read : goal.returns-in-Ok-clause-read
returns-in-Ok-clause-read g c =
    pair_read c.args.first c.args.second c.args.bytes.now c.in_ok-first.rest.now c.in_ok-second.behind.now (part_of c.in_ok-first.first) (part_of c.in_ok-second.second) (key_of c.in-Ok.key) _
    c.in-Ok.ensures c.in_ok-first.ensures.taken c.in_ok-second.ensures.taken c.is_empty.ensures c.if-not-is_empty.false c.in_ok-first.ensures.kind c.in_ok-second.ensures.kind

pub returns-in-Ok-clause-back : goal.returns-in-Ok-clause-back
returns-in-Ok-clause-back g c = λ key fits written.
    c.in-Ok.ensures ∙ (pair_parts c.args.first c.args.second c.args.bytes.now c.in_ok-first.rest.now c.in_ok-second.behind.now (part_of c.in_ok-first.first) (part_of c.in_ok-second.second)
    c.in_ok-first.ensures.back c.in_ok-second.ensures.back key fits written).0
