use Rattle.std.proofs.Common.{sym, subst}
use Rattle.occ_store.specs.Lanes.{DecidesAs}
use Rattle.occ_store.proofs.advancing.decide_as.Goals as goal

pub returns-in-None : goal.returns-in-None
returns-in-None g c = subst (λ j. DecidesAs c.args.me.now c.args.session j c.args.shared.now c.decide.result c.decide.new.me c.decide.new.self) (sym c.in-None.is) c.decide.ensures

pub returns-in-Some : goal.returns-in-Some
returns-in-Some g c = subst (λ j. DecidesAs c.args.me.now c.args.session j c.args.shared.now c.decide_by.result c.decide_by.new.me c.decide_by.new.self) (sym c.in-Some.is) c.decide_by.ensures
