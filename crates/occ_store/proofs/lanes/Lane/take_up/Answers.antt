use Rattle.std.proofs.Common.{inl, inr, refl, sym, ap, ◌∙◌, Some, Ok}
use Rattle.occ_store.specs.declared.serving.Point.TheVariants.{Took}
use Rattle.occ_store.specs.declared.serving.Served.TheVariants.{Stopped}
use Rattle.occ_store.specs.Lanes.{number_left}
use Rattle.occ_store.proofs.Points.{was_closed, was_open, takes_up, stops_there}
use Rattle.occ_store.proofs.lanes.Lane.take_up.Goals as goal

pub returns-then-is_closed-clause-takes : goal.returns-then-is_closed-clause-takes
returns-then-is_closed-clause-takes g c = inr (inr ((c.requires, refl, refl), was_closed c.args.self.now (sym c.is_closed.ensures ∙ c.if-is_closed.true)))

pub returns-in-None-clause-takes : goal.returns-in-None-clause-takes
returns-in-None-clause-takes g c =
    let none = c.in-None.ensures.none in
    inr (inl ((c.requires, none.0, refl), was_open c.args.self.now c.requires (sym c.is_closed.ensures ∙ c.if-is_closed.false), none.1))

pub returns-in-Stop-clause-takes : goal.returns-in-Stop-clause-takes
returns-in-Stop-clause-takes g c =
    let stops = g.G.Gate.may_stop c.args.gate.now in
    let some = c.in-Some.ensures.some in
    inl (takes_up g.N.Name.named stops c.args.self.now c.take.new.self c.take.new.self c.in-Some.number (Ok (Stopped Took)) some.0 c.requires some.2 some.1
    (stops_there g.N.Name.named stops c.take.new.self some.0 c.in-Some.number c.session.result (ap (λ lane. lane.left) some.2) some.1 c.session.ensures (c.pass.ensures.may c.in-Stop.is)))

pub carry_on-requires : goal.carry_on-requires
carry_on-requires g c = let some = c.in-Some.ensures.some in ap (λ lane. number_left lane.left) some.2 ∙ ap Some (sym some.1)

pub returns-in-Go-clause-takes : goal.returns-in-Go-clause-takes
returns-in-Go-clause-takes g c =
    let some = c.in-Some.ensures.some in
    inl (takes_up g.N.Name.named (g.G.Gate.may_stop c.args.gate.now) c.args.self.now c.take.new.self c.carry_on.new.self c.in-Some.number c.carry_on.result some.0 c.requires some.2 some.1 c.carry_on.ensures.carries)
