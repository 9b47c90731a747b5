use Rattle.std.proofs.Common.{sym, subst, option_copied}
use Rattle.std.proofs.lemmas.Result.{IfOk-weaker}
use Rattle.occ_types.specs.PlainData.{end_of}
use Rattle.occ_open.specs.Pages.{IsPlan, page_form}
use Rattle.occ_core.proofs.PagePlans.{planned}
use Rattle.occ_core.proofs.core_state.Core.plan_page.Goals as goal

pub returns-clause-plan : goal.returns-clause-plan
returns-clause-plan g c =
    let lower = end_of (option_copied c.args.lower) in
    let upper = end_of (option_copied c.args.upper) in
    let plan = planned c.args.self.now.world c.args.end c.args.table lower upper c.args.most (end_of c.in_ok-cut.cut.asked) (end_of c.in_ok-cut.cut.rest)
    c.law.ensures.content c.in_ok-cut.ensures.asked c.in_ok-cut.ensures.rest in
    IfOk-weaker c.new.result _ _ (λ p is. subst (IsPlan c.args.self.now.world (page_form c.args.end c.args.table lower upper c.args.most)) (sym is) plan) c.new.ensures.plan
