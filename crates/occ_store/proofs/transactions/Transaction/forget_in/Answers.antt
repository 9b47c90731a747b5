use Rattle.std.proofs.Common.{◌≡◌, refl, sym, ap, subst, ◌∙◌}
use Rattle.occ_model.specs.Event.{Forget}
use Rattle.occ_open.specs.Replies.{forgetting}
use Rattle.occ_history.specs.History.{Party}
use Rattle.occ_store.specs.Transactions.{TransactionView, IsReader, ReadsOn}
use Rattle.occ_store.proofs.Asking.{read_on}
use Rattle.occ_store.proofs.Happening.{reads_so}
use Rattle.occ_store.proofs.Histories.{tells_party}
use Rattle.occ_store.proofs.transactions.Transaction.forget_in.Goals as goal

pub invariant_of-self : goal.invariant_of-self
invariant_of-self g c =
    let before : TransactionView = record { session = c.self.inside.session; draft = c.self.inside.draft; front = c.self.inside.front } in
    let reply = forgetting c.forget-known.result in
    let reads = read_on before c.args.shared.now c.visit-other.new.self c.forget-known.new.self c.visit.new.self reply c.visit.new.front c.visit-other.new.front
    c.visit-other.ensures.visits c.visit.ensures.visits c.visit.ensures.back c.visit-other.ensures.back c.self.invariant.1 (Forget c.self.inside.session c.args.number) reply (reads_so _ _ _ _ _ c.forget-known.result (λ x. refl) c.forget-known.ensures) in
    (c.self.invariant.0, subst (λ (p : Party). IsReader p c.self.inside.session) (sym (tells_party before.front c.visit.new.front c.args.shared.now c.visit.new.self (Forget c.self.inside.session c.args.number) reply reads.1)) c.self.invariant.1)

pub returns-clause-forgets : goal.returns-clause-forgets
returns-clause-forgets g c =
    let before : TransactionView = record { session = c.self.inside.session; draft = c.self.inside.draft; front = c.self.inside.front } in
    let reply = forgetting c.forget-known.result in
    let reads = read_on before c.args.shared.now c.visit-other.new.self c.forget-known.new.self c.visit.new.self reply c.visit.new.front c.visit-other.new.front
    c.visit-other.ensures.visits c.visit.ensures.visits c.visit.ensures.back c.visit-other.ensures.back c.self.invariant.1 (Forget c.self.inside.session c.args.number) reply (reads_so _ _ _ _ _ c.forget-known.result (λ x. refl) c.forget-known.ensures) in
    subst (λ (t : TransactionView). ReadsOn t.front c.args.shared.now c.visit.new.front c.visit.new.self (Forget t.session c.args.number) reply) c.self.view_is reads

pub returns-clause-own : goal.returns-clause-own
returns-clause-own g c =
    let before : TransactionView = record { session = c.self.inside.session; draft = c.self.inside.draft; front = c.self.inside.front } in
    let reply = forgetting c.forget-known.result in
    let reads = read_on before c.args.shared.now c.visit-other.new.self c.forget-known.new.self c.visit.new.self reply c.visit.new.front c.visit-other.new.front
    c.visit-other.ensures.visits c.visit.ensures.visits c.visit.ensures.back c.visit-other.ensures.back c.self.invariant.1 (Forget c.self.inside.session c.args.number) reply (reads_so _ _ _ _ _ c.forget-known.result (λ x. refl) c.forget-known.ensures) in
    tells_party before.front c.visit.new.front c.args.shared.now c.visit.new.self (Forget c.self.inside.session c.args.number) reply reads.1 ∙ ap (λ (t : TransactionView). t.front.party) c.self.view_is
