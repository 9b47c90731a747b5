-- A transaction that operations are performed in stays that of its session.
use Rattle.std.proofs.Common.{◌≡◌, inl, inr, List, [], ◌∷◌, Result, ap, ◌∙◌}
use Rattle.occ_types.specs.declared.fault.Fault.{Fault}
use Rattle.occ_types.specs.Question.{Question, One, Span}
use Rattle.occ_model.specs.Operations.{Operation, Get, Scan, Put, Delete, Add}
use Rattle.occ_model.specs.Event.{Reply, Answered, Refused}
use Rattle.occ_history.specs.History.{FrontView}
use Rattle.occ_store.specs.Names.{Named}
use Rattle.occ_store.specs.Transactions.{TransactionView, Asks}
use Rattle.occ_store.specs.Bodies.{AsksInVain, Performs, PerformsInVain, Performing}
use Rattle.occ_store.proofs.Histories.{stands_party}
use Rattle.occ_store.proofs.Asking.{gets_to, scans_to}

asks_party : (named : Named) (before : TransactionView) (question : Question) (reply : Reply) (after : TransactionView) → Asks named before question reply after → after.front.party ≡ before.front.party
asks_party named before (One table key) reply after asks =
    gets_to _ (λ same. ap (λ (f : FrontView). f.party) same) (λ event given stands. stands_party named before.front after.front event given stands)
    named.settings.schema before.session (table, key) before.draft reply asks.1
asks_party named before (Span table lower upper) reply after asks =
    scans_to _ (λ same. ap (λ (f : FrontView). f.party) same) (λ event given stands. stands_party named before.front after.front event given stands)
    named.settings.schema before.session (Span table lower upper) before.draft reply asks.1

vain_party : (named : Named) (before : TransactionView) (question : Question) (fault : Fault) (after : TransactionView) → AsksInVain named before question fault after → after.front.party ≡ before.front.party
vain_party named before question fault after (inl starves) = ap (λ (t : TransactionView). t.front.party) starves.1
vain_party named before question fault after (inr asks) = asks_party named before question (Refused fault) after asks

performs_party : (named : Named) (operation : Operation) (before after : TransactionView) → Performs named operation before after → after.front.party ≡ before.front.party
performs_party named (Get table key) before after (given, sees) = asks_party named before (One table key) (Answered given) after sees
performs_party named (Scan table lower upper) before after (given, sees) = asks_party named before (Span table lower upper) (Answered given) after sees
performs_party named (Put table key row) before after is = ap (λ (t : TransactionView). t.front.party) is
performs_party named (Delete table key) before after is = ap (λ (t : TransactionView). t.front.party) is
performs_party named (Add table key amount) before after (given, between, sees, is) =
    ap (λ (t : TransactionView). t.front.party) is ∙ asks_party named before (One table key) (Answered given) between sees

in_vain_party : (named : Named) (operation : Operation) (before : TransactionView) (fault : Fault) (after : TransactionView) → PerformsInVain named operation before fault after → after.front.party ≡ before.front.party
in_vain_party named (Get table key) before fault after vain = vain_party named before (One table key) fault after vain
in_vain_party named (Scan table lower upper) before fault after vain = vain_party named before (Span table lower upper) fault after vain
in_vain_party named (Put table key row) before fault after (is, why) = ap (λ (t : TransactionView). t.front.party) is
in_vain_party named (Delete table key) before fault after (is, why) = ap (λ (t : TransactionView). t.front.party) is
in_vain_party named (Add table key amount) before fault after (inl vain) = vain_party named before (One table key) fault after vain
in_vain_party named (Add table key amount) before fault after (inr (given, between, sees, vain)) =
    ap (λ (t : TransactionView). t.front.party) vain.0 ∙ asks_party named before (One table key) (Answered given) between sees

pub performing_party : (named : Named) (operations : List Operation) (before : TransactionView) (ran : Result (Unit {0}) Fault) (after : TransactionView) → Performing named operations before ran after → after.front.party ≡ before.front.party
performing_party named [] before ran after (ends, same) = ap (λ (t : TransactionView). t.front.party) same
performing_party named (operation ∷ operations) before ran after (inl (fault, fails, vain)) = in_vain_party named operation before fault after vain
performing_party named (operation ∷ operations) before ran after (inr (between, first, others)) =
    performing_party named operations between ran after others ∙ performs_party named operation before between first
