use Rattle.std.proofs.Common.{inl, inr, refl, sym, ◌∙◌}
use Rattle.occ_store.proofs.Points.{nothing_left}
use Rattle.occ_store.proofs.lanes.Lane.resume.Goals as goal

pub returns-in-Some-clause-resumes : goal.returns-in-Some-clause-resumes
returns-in-Some-clause-resumes g c = inl (c.in-Some.number, sym c.number.ensures ∙ c.in-Some.is, c.carry_on.ensures.carries)

pub returns-in-None-clause-resumes : goal.returns-in-None-clause-resumes
returns-in-None-clause-resumes g c = inr (nothing_left c.args.self.now.left (sym c.number.ensures ∙ c.in-None.is), refl, refl)

pub carry_on-requires : goal.carry_on-requires
carry_on-requires g c = sym c.number.ensures ∙ c.in-Some.is
