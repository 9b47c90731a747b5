use Rattle.std.proofs.Common.{◌≡◌, ℕ, sym, subst, ◌∙◌}
use Rattle.occ_model.specs.Event.{Forget, Refused}
use Rattle.occ_model.specs.Step.{Step}
use Rattle.occ_open.proofs.Forgetting.{told_to_forget}
use Rattle.occ_open.proofs.open_transactions.OpenTransaction.abandon_in.Goals as goal

-- the store refused to forget, and the transaction stays open
pub returns-in-Err-clause-step : goal.returns-in-Err-clause-step
returns-in-Err-clause-step g c =
    told_to_forget (g.S.Readable.world c.forget.new.self ≡ g.S.Readable.world c.args.store.now) (λ event reply. Step (g.S.Readable.world c.args.store.now) event reply (g.S.Readable.world c.forget.new.self)) (g.S.Readable.reader c.args.store.now c.args.session) c.args.self.now c.in-Some.copy (Refused c.in-Err.fault) (sym c.self.view_is ∙ c.in-Some.is)
    (subst (λ (n : ℕ). Step (g.S.Readable.world c.args.store.now) (Forget (g.S.Readable.reader c.args.store.now c.args.session) n) (Refused c.in-Err.fault) (g.S.Readable.world c.forget.new.self)) c.number.ensures c.in-Err.ensures.step)

pub returns-in-Err-clause-moves : goal.returns-in-Err-clause-moves
returns-in-Err-clause-moves g c =
    told_to_forget (c.forget.new.self ≡ c.args.store.now) (λ event reply. g.S.Readable.moves c.args.store.now event reply c.forget.new.self) (g.S.Readable.reader c.args.store.now c.args.session) c.args.self.now c.in-Some.copy (Refused c.in-Err.fault) (sym c.self.view_is ∙ c.in-Some.is)
    (subst (λ (n : ℕ). g.S.Readable.moves c.args.store.now (Forget (g.S.Readable.reader c.args.store.now c.args.session) n) (Refused c.in-Err.fault) c.forget.new.self) c.number.ensures c.in-Err.ensures.moves)
