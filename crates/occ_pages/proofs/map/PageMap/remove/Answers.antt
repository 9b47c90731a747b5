use Rattle.std.proofs.Common.{sym, ap, ◌∙◌, arith}
use Rattle.occ_pages.specs.Entries.{get, without}
use Rattle.occ_pages.proofs.Laws.{without-none}
use Rattle.occ_pages.proofs.map.PageMap.remove.Goals as goal

pub returns-in_default-clause-was : goal.returns-in_default-clause-was
returns-in_default-clause-was g c = sym c.in_default.ensures ∙ ap (λ es. get es c.args.key) c.self.view_is

pub returns-in_default-clause-new : goal.returns-in_default-clause-new
returns-in_default-clause-new g c = sym (without-none c.args.key c.args.self.now (sym (ap (λ es. get es c.args.key) c.self.view_is) ∙ c.in_default.ensures))

pub take-row-requires : goal.take-row-requires
take-row-requires g c = record { shelf = c.self.invariant.shelf; there = c.in-Some.ensures.0; has = c.in-Some.ensures.1 }

pub returns-clause-was : goal.returns-clause-was
returns-clause-was g c = c.take-row.ensures.was ∙ ap (λ es. get es c.args.key) c.self.view_is

pub returns-clause-new : goal.returns-clause-new
returns-clause-new g c = c.take-row.ensures.new ∙ ap (λ es. without es c.args.key) c.self.view_is

pub invariant_of-self : goal.invariant_of-self
invariant_of-self g c = record { shelf = c.take-row.ensures.shelf; counted = omega (arith, c.self.invariant.counted, c.take-row.ensures.count); few = omega (arith, c.self.invariant.few) }
