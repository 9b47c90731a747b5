use Rattle.std.proofs.Common.{◌≡◌, sym, subst, ◌∙◌}
use Rattle.std.specs.Option.{option_copied}
use Rattle.occ_types.specs.PlainData.{end_of}
use Rattle.occ_model.specs.Step.{Run}
use Rattle.occ_open.specs.Pages.{page_form}
use Rattle.occ_store.specs.Locked.{Locked, world_of}
use Rattle.occ_store.specs.Names.{opened_as}
use Rattle.occ_store.proofs.Asking.{pages_stand}
use Rattle.occ_store.proofs.transactions.Transaction.page.Goals as goal

-- the state that the lock lent
pub returns-clause-asks : goal.returns-clause-asks
returns-clause-asks g c =
    let same = c.deref.ensures ∙ sym c.deref_mut.ensures.value in
    pages_stand g.N.Name.named c.args.self.now c.page_in.new.self c.deref_mut.result.now c.page_in.new.shared (page_form c.args.end c.args.table (end_of (option_copied c.args.lower)) (end_of (option_copied c.args.upper)) c.args.most) c.page_in.result
    (subst (λ (s : Locked). Run (opened_as g.N.Name.named) s.story.log (world_of s)) same c.law.ensures.ran) (subst (λ (s : Locked). (world_of s).settings ≡ g.N.Name.named.settings) same c.law.ensures.settings) c.page_in.ensures.asks
