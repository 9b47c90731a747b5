use Rattle.std.proofs.Common.{inl, inr, sym, ◌∙◌}
use Rattle.occ_store.proofs.Points.{nothing_left}
use Rattle.occ_store.proofs.lanes.Lane.serve_one.Goals as goal

pub returns-in-Some-clause-serves : goal.returns-in-Some-clause-serves
returns-in-Some-clause-serves g c = inl (c.in-Some.number, sym c.number.ensures ∙ c.in-Some.is, c.carry_on.ensures.carries)

pub returns-in-None-clause-serves : goal.returns-in-None-clause-serves
returns-in-None-clause-serves g c = inr c.take_up.ensures.takes

pub carry_on-requires : goal.carry_on-requires
carry_on-requires g c = sym c.number.ensures ∙ c.in-Some.is

pub take_up-requires : goal.take_up-requires
take_up-requires g c = nothing_left c.args.self.now.left (sym c.number.ensures ∙ c.in-None.is)
