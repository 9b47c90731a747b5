use Rattle.std.proofs.Common.{◌+◌, ◌≤◌, length, refl, sym, ap, ◌∙◌, arith}
use Rattle.occ_store.specs.Accounts.{is_complete}
use Rattle.occ_store.proofs.AccountLines.{count_complete, no_session, no_memory}
use Rattle.occ_store.proofs.stores.Store.end.Goals as goal

pub returns-then-not-owns_all-clause-fault : goal.returns-then-not-owns_all-clause-fault
returns-then-not-owns_all-clause-fault g c =
    no_session g.N.Name.named c.args.workers.items c.args.lanes.items c.args.sessions.items c.owns_all.result
    (c.owns_all.ensures ∙ (λ i. is_complete g.N.Name.named (c.as_slice.ensures.value i) (c.as_slice-2.ensures.value i) (c.as_slice-3.ensures.value i))) c.if-not-owns_all.true

pub room-requires : goal.room-requires
room-requires g c =
    let all = count_complete g.N.Name.named _ _ _ (sym c.owns_all.ensures ∙ c.if-not-owns_all.false) in
    ap length (c.as_slice-4.ensures.value ∙ sym c.as_slice-2.ensures.value) ∙ sym all.1 ∙ ap length (c.as_slice-3.ensures.value ∙ sym c.as_slice-5.ensures.value)

pub account-requires-clause-complete : goal.account-requires-clause-complete
account-requires-clause-complete g c =
    (λ i. is_complete g.N.Name.named (sym c.as_slice.ensures.value i) (sym c.as_slice-2.ensures.value i) (sym c.as_slice-3.ensures.value i)) ∙ sym c.owns_all.ensures ∙ c.if-not-owns_all.false

pub account-requires-clause-room : goal.account-requires-clause-room
account-requires-clause-room g c =
    let here = c.len.ensures in
    let seen = c.args.workers.ok.0 in
    let same = ap length c.as_slice-4.ensures.value in
    let room = c.in-Ok.ensures.room in
    omega arith

pub returns-in-Ok-clause-fault : goal.returns-in-Ok-clause-fault
returns-in-Ok-clause-fault g c =
    (λ i. is_complete g.N.Name.named (sym c.as_slice.ensures.value i) (sym c.as_slice-2.ensures.value i) (sym c.as_slice-3.ensures.value i)) ∙ sym c.owns_all.ensures ∙ c.if-not-owns_all.false

pub returns-in-Err-clause-fault : goal.returns-in-Err-clause-fault
returns-in-Err-clause-fault g c =
    no_memory g.N.Name.named c.args.workers.items c.args.lanes.items c.args.sessions.items c.in-Err.fault
    ((λ i. is_complete g.N.Name.named (sym c.as_slice.ensures.value i) (sym c.as_slice-2.ensures.value i) (sym c.as_slice-3.ensures.value i)) ∙ sym c.owns_all.ensures ∙ c.if-not-owns_all.false) c.in-Err.ensures.memory
