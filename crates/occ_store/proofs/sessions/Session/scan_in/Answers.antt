use Rattle.std.proofs.Common.{subst}
use Rattle.std.specs.Option.{option_copied}
use Rattle.occ_types.specs.PlainData.{end_of}
use Rattle.occ_types.specs.Question.{Span}
use Rattle.occ_open.specs.Replies.{scanning}
use Rattle.occ_store.specs.Sessions.{SessionView}
use Rattle.occ_store.specs.Transactions.{AsksOn}
use Rattle.occ_store.specs.Tries.{lent}
use Rattle.occ_store.proofs.Submittable.{sees_one}
use Rattle.occ_store.proofs.sessions.Session.scan_in.Goals as goal

pub invariant_of-self : goal.invariant_of-self
invariant_of-self g c =
    sees_one g.N.Name.named c.self.inside.seat.board c.self.inside.seat.seen c.self.inside.sender c.self.inside.transaction c.scan_in.new.self c.scan_in.ensures.asks.0 c.scan_in.ensures.own c.self.invariant

pub returns-clause-asks : goal.returns-clause-asks
returns-clause-asks g c =
    subst (λ (v : SessionView). AsksOn (lent v) c.args.shared.now (Span c.args.table (end_of (option_copied c.args.lower)) (end_of (option_copied c.args.upper))) (scanning c.scan_in.result) c.scan_in.new.self c.scan_in.new.shared)
    c.self.view_is c.scan_in.ensures.asks
