use Rattle.std.proofs.Common.{subst}
use Rattle.std.specs.Option.{option_copied}
use Rattle.occ_types.specs.PlainData.{end_of}
use Rattle.occ_open.specs.Pages.{page_form}
use Rattle.occ_open.specs.declared.pages.PageEnd.TheVariants.{Last}
use Rattle.occ_store.specs.Sessions.{SessionView}
use Rattle.occ_store.specs.Transactions.{AsksPageOn}
use Rattle.occ_store.specs.Tries.{lent}
use Rattle.occ_store.proofs.Submittable.{sees_one}
use Rattle.occ_store.proofs.sessions.Session.scan_last_in.Goals as goal

pub invariant_of-self : goal.invariant_of-self
invariant_of-self g c =
    sees_one g.N.Name.named c.self.inside.seat.board c.self.inside.seat.seen c.self.inside.sender c.self.inside.transaction c.page_in.new.self c.page_in.ensures.asks.0 c.page_in.ensures.own c.self.invariant

pub returns-clause-asks : goal.returns-clause-asks
returns-clause-asks g c =
    subst (λ (v : SessionView). AsksPageOn (lent v) c.args.shared.now (page_form Last c.args.table (end_of (option_copied c.args.lower)) (end_of (option_copied c.args.upper)) c.args.most) c.page_in.result c.page_in.new.self c.page_in.new.shared)
    c.self.view_is c.page_in.ensures.asks
