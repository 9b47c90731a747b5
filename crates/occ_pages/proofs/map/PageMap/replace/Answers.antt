use Rattle.std.proofs.Common.{sym, ap, ◌∙◌}
use Rattle.occ_pages.specs.Entries.{get, put}
use Rattle.occ_pages.proofs.map.PageMap.replace.Goals as goal

pub returns-in_default-clause-was : goal.returns-in_default-clause-was
returns-in_default-clause-was g c = sym c.in_default.ensures ∙ ap (λ es. get es c.args.key) c.self.view_is

pub returns-clause-was : goal.returns-clause-was
returns-clause-was g c = c.exchange.ensures.was ∙ ap (λ es. get es c.args.key) c.self.view_is

pub returns-clause-some : goal.returns-clause-some
returns-clause-some g c = λ some. c.exchange.ensures.new ∙ ap (λ es. put es c.args.key c.args.row) c.self.view_is

pub exchange-requires : goal.exchange-requires
exchange-requires g c = record { shelf = c.self.invariant.shelf; there = c.in-Some.ensures.0; has = c.in-Some.ensures.1 }

pub invariant_of-self : goal.invariant_of-self
invariant_of-self g c = record { shelf = c.exchange.ensures.shelf; counted = c.self.invariant.counted ∙ sym c.exchange.ensures.count; few = c.self.invariant.few }
