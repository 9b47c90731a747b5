use Rattle.std.proofs.Common.{◌≡◌, not, is_some, sym, ap, ◌∙◌}
use Rattle.occ_sets.specs.PlainSets.{rows_of}
use Rattle.occ_open.specs.declared.pages.PageEnd.{PageEnd}
use Rattle.occ_open.specs.Pages.{Plan, tells_of}
use Rattle.occ_open.proofs.PageScans.{some_end, shows_all, shows_before, taken_rows}
use Rattle.occ_open.proofs.pages.PagePlan.cut.Goals as goal

pub returns-then-is_none-clause-rows : goal.returns-then-is_none-clause-rows
returns-then-is_none-clause-rows g c = λ size one rest few.
    shows_all c.args.self.now.end size (rows_of c.args.rows.items) one
    (ap is_some (sym rest ∙ sym (ap (λ (p : Plan). p.rest) c.self.view_is)) ∙ some_end c.self.inside.rest ∙ c.is_none.ensures ∙ ap not c.if-is_none.true)

pub returns-in-First-clause-rows : goal.returns-in-First-clause-rows
returns-in-First-clause-rows g c = λ size one rest few.
    let at : c.args.self.now.end ≡ _ = sym (ap (λ (p : Plan). p.end) c.self.view_is) ∙ c.in-First.is in
    let some = ap is_some (sym (rest ∙ ap (λ (e : PageEnd). (tells_of e size (rows_of c.args.rows.items)).1) at) ∙ sym (ap (λ (p : Plan). p.rest) c.self.view_is)) ∙ some_end c.self.inside.rest ∙ c.is_none.ensures ∙ ap not c.if-is_none.false in
    ap rows_of c.without_last.ensures
    ∙ taken_rows c.args.rows.items
    ∙ shows_before size (rows_of c.args.rows.items) some few
    ∙ sym (ap (λ (e : PageEnd). (tells_of e size (rows_of c.args.rows.items)).0) at)
