use Rattle.std.proofs.Common.{◌≡◌, sym, ap, subst, ◌∙◌}
use Rattle.std.specs.Option.{option_copied}
use Rattle.occ_types.specs.PlainData.{end_of}
use Rattle.occ_open.specs.Pages.{PageForm, page_form, paging}
use Rattle.occ_history.specs.History.{Party}
use Rattle.occ_store.specs.Transactions.{TransactionView, IsReader, AsksPageOn}
use Rattle.occ_store.proofs.Asking.{paged_on, paged_party}
use Rattle.occ_store.proofs.transactions.Transaction.page_in.Goals as goal

pub invariant_of-self : goal.invariant_of-self
invariant_of-self g c =
    let before : TransactionView = record { session = c.self.inside.session; draft = c.self.inside.draft; front = c.self.inside.front } in
    let form : PageForm = page_form c.args.end c.args.table (end_of (option_copied c.args.lower)) (end_of (option_copied c.args.upper)) c.args.most in
    let asks = paged_on before c.args.shared.now c.visit-other.new.self c.page_in-page.new.store c.visit.new.self (paging c.page_in-page.result) c.visit.new.front c.visit-other.new.front
    c.visit-other.ensures.visits c.visit.ensures.visits c.visit.ensures.back c.visit-other.ensures.back c.self.invariant.1 form c.page_in-page.result c.page_in-page.ensures.moves in
    (c.self.invariant.0, subst (λ (p : Party). IsReader p c.self.inside.session) (sym (paged_party before (record before { front = c.visit.new.front }) c.args.shared.now c.visit.new.self form c.page_in-page.result asks)) c.self.invariant.1)

pub returns-clause-asks : goal.returns-clause-asks
returns-clause-asks g c =
    let before : TransactionView = record { session = c.self.inside.session; draft = c.self.inside.draft; front = c.self.inside.front } in
    let form : PageForm = page_form c.args.end c.args.table (end_of (option_copied c.args.lower)) (end_of (option_copied c.args.upper)) c.args.most in
    let asks = paged_on before c.args.shared.now c.visit-other.new.self c.page_in-page.new.store c.visit.new.self (paging c.page_in-page.result) c.visit.new.front c.visit-other.new.front
    c.visit-other.ensures.visits c.visit.ensures.visits c.visit.ensures.back c.visit-other.ensures.back c.self.invariant.1 form c.page_in-page.result c.page_in-page.ensures.moves in
    subst (λ (t : TransactionView). AsksPageOn t c.args.shared.now form c.page_in-page.result (record before { front = c.visit.new.front }) c.visit.new.self) c.self.view_is asks

pub returns-clause-own : goal.returns-clause-own
returns-clause-own g c =
    let before : TransactionView = record { session = c.self.inside.session; draft = c.self.inside.draft; front = c.self.inside.front } in
    let form : PageForm = page_form c.args.end c.args.table (end_of (option_copied c.args.lower)) (end_of (option_copied c.args.upper)) c.args.most in
    let asks = paged_on before c.args.shared.now c.visit-other.new.self c.page_in-page.new.store c.visit.new.self (paging c.page_in-page.result) c.visit.new.front c.visit-other.new.front
    c.visit-other.ensures.visits c.visit.ensures.visits c.visit.ensures.back c.visit-other.ensures.back c.self.invariant.1 form c.page_in-page.result c.page_in-page.ensures.moves in
    paged_party before (record before { front = c.visit.new.front }) c.args.shared.now c.visit.new.self form c.page_in-page.result asks ∙ ap (λ (t : TransactionView). t.front.party) c.self.view_is
