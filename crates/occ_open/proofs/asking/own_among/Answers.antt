use Rattle.std.proofs.Common.{◌∙◌, arith}
use Rattle.std.specs.Option.{option_copied}
use Rattle.occ_open.proofs.Walking.{own_here, own_later, own_past}
use Rattle.occ_open.proofs.asking.own_among.Goals as goal

-- the write at the place is the own one
pub returns-in-Some : goal.returns-in-Some
returns-in-Some g c =
    own_here c.args.copy.now.writes _ c.loop-place.place (option_copied c.in-Some.row) (omega (arith, c.loop-place-test.true, c.len-place-end.ensures.value)) c.in-Some.ensures ∙ c.loop-place.invariant

-- and another one leaves the others
pub loop-place-preserved : goal.loop-place-preserved
loop-place-preserved g c =
    own_later c.args.copy.now.writes _ c.loop-place.place (omega (arith, c.loop-place-test.true, c.len-place-end.ensures.value)) c.in_default.ensures ∙ c.loop-place.invariant

pub returns : goal.returns
returns g c = own_past c.args.copy.now.writes _ c.loop-place.place (omega (arith, c.loop-place-test.false, c.len-place-end.ensures.value)) ∙ c.loop-place.invariant
