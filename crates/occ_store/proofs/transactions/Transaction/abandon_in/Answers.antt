use Rattle.std.proofs.Common.{◌≡◌, sym, ap, subst, ◌∙◌}
use Rattle.occ_open.specs.Replies.{forgetting}
use Rattle.occ_history.specs.History.{Party}
use Rattle.occ_store.specs.Transactions.{TransactionView, IsReader, AbandonsOn}
use Rattle.occ_store.proofs.Asking.{abandoned_on, abandoned_party}
use Rattle.occ_store.proofs.transactions.Transaction.abandon_in.Goals as goal

pub invariant_of-self : goal.invariant_of-self
invariant_of-self g c =
    let before : TransactionView = record { session = c.self.inside.session; draft = c.self.inside.draft; front = c.self.inside.front } in
    let reply = forgetting c.abandon_in-known.result in
    let asks = abandoned_on before c.args.shared.now c.visit-other.new.self c.abandon_in-known.new.store c.visit.new.self reply c.visit.new.front c.visit-other.new.front
    c.visit-other.ensures.visits c.visit.ensures.visits c.visit.ensures.back c.visit-other.ensures.back c.self.invariant.1 c.abandon_in-known.ensures.moves in
    (c.self.invariant.0, subst (λ (p : Party). IsReader p c.self.inside.session) (sym (abandoned_party before c.args.shared.now c.visit.new.front c.visit.new.self reply asks)) c.self.invariant.1)

pub returns-clause-forgets : goal.returns-clause-forgets
returns-clause-forgets g c =
    let before : TransactionView = record { session = c.self.inside.session; draft = c.self.inside.draft; front = c.self.inside.front } in
    let reply = forgetting c.abandon_in-known.result in
    let asks = abandoned_on before c.args.shared.now c.visit-other.new.self c.abandon_in-known.new.store c.visit.new.self reply c.visit.new.front c.visit-other.new.front
    c.visit-other.ensures.visits c.visit.ensures.visits c.visit.ensures.back c.visit-other.ensures.back c.self.invariant.1 c.abandon_in-known.ensures.moves in
    subst (λ (t : TransactionView). AbandonsOn t c.args.shared.now reply c.visit.new.front c.visit.new.self) c.self.view_is asks

pub returns-clause-own : goal.returns-clause-own
returns-clause-own g c =
    let before : TransactionView = record { session = c.self.inside.session; draft = c.self.inside.draft; front = c.self.inside.front } in
    let reply = forgetting c.abandon_in-known.result in
    let asks = abandoned_on before c.args.shared.now c.visit-other.new.self c.abandon_in-known.new.store c.visit.new.self reply c.visit.new.front c.visit-other.new.front
    c.visit-other.ensures.visits c.visit.ensures.visits c.visit.ensures.back c.visit-other.ensures.back c.self.invariant.1 c.abandon_in-known.ensures.moves in
    abandoned_party before c.args.shared.now c.visit.new.front c.visit.new.self reply asks ∙ ap (λ (t : TransactionView). t.front.party) c.self.view_is
