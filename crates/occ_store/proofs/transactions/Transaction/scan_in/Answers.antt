use Rattle.std.proofs.Common.{◌≡◌, refl, sym, ap, subst, ◌∙◌}
use Rattle.std.specs.Option.{option_copied}
use Rattle.occ_types.specs.PlainData.{end_of}
use Rattle.occ_types.specs.Question.{Span}
use Rattle.occ_open.specs.Replies.{scanning}
use Rattle.occ_history.specs.History.{Party, FrontView}
use Rattle.occ_store.specs.Transactions.{TransactionView, IsReader, AsksOn}
use Rattle.occ_store.proofs.Asking.{asked_on, asked_party}
use Rattle.occ_store.proofs.transactions.Transaction.scan_in.Goals as goal

pub invariant_of-self : goal.invariant_of-self
invariant_of-self g c =
    let before : TransactionView = record { session = c.self.inside.session; draft = c.self.inside.draft; front = c.self.inside.front } in
    let asks = asked_on before c.args.shared.now c.visit-other.new.self c.scan_in-rows.new.store c.visit.new.self (scanning c.scan_in-rows.result) c.visit.new.front c.visit-other.new.front
    c.visit-other.ensures.visits c.visit.ensures.visits c.visit.ensures.back c.visit-other.ensures.back c.self.invariant.1 (Span c.args.table (end_of (option_copied c.args.lower)) (end_of (option_copied c.args.upper))) c.scan_in-rows.ensures.moves in
    (c.self.invariant.0, subst (λ (p : Party). IsReader p c.self.inside.session) (sym (asked_party before c.args.shared.now c.visit.new.front c.visit.new.self (Span c.args.table (end_of (option_copied c.args.lower)) (end_of (option_copied c.args.upper))) (scanning c.scan_in-rows.result) asks)) c.self.invariant.1)

pub returns-clause-asks : goal.returns-clause-asks
returns-clause-asks g c =
    let before : TransactionView = record { session = c.self.inside.session; draft = c.self.inside.draft; front = c.self.inside.front } in
    let asks = asked_on before c.args.shared.now c.visit-other.new.self c.scan_in-rows.new.store c.visit.new.self (scanning c.scan_in-rows.result) c.visit.new.front c.visit-other.new.front
    c.visit-other.ensures.visits c.visit.ensures.visits c.visit.ensures.back c.visit-other.ensures.back c.self.invariant.1 (Span c.args.table (end_of (option_copied c.args.lower)) (end_of (option_copied c.args.upper))) c.scan_in-rows.ensures.moves in
    subst (λ (t : TransactionView). AsksOn t c.args.shared.now (Span c.args.table (end_of (option_copied c.args.lower)) (end_of (option_copied c.args.upper))) (scanning c.scan_in-rows.result) (record before { front = c.visit.new.front }) c.visit.new.self) c.self.view_is (refl, asks)

pub returns-clause-own : goal.returns-clause-own
returns-clause-own g c =
    let before : TransactionView = record { session = c.self.inside.session; draft = c.self.inside.draft; front = c.self.inside.front } in
    let asks = asked_on before c.args.shared.now c.visit-other.new.self c.scan_in-rows.new.store c.visit.new.self (scanning c.scan_in-rows.result) c.visit.new.front c.visit-other.new.front
    c.visit-other.ensures.visits c.visit.ensures.visits c.visit.ensures.back c.visit-other.ensures.back c.self.invariant.1 (Span c.args.table (end_of (option_copied c.args.lower)) (end_of (option_copied c.args.upper))) c.scan_in-rows.ensures.moves in
    asked_party before c.args.shared.now c.visit.new.front c.visit.new.self (Span c.args.table (end_of (option_copied c.args.lower)) (end_of (option_copied c.args.upper))) (scanning c.scan_in-rows.result) asks ∙ ap (λ (t : TransactionView). t.front.party) c.self.view_is
