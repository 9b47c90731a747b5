use Rattle.std.proofs.Common.{sym, ap, ◌∙◌}
use Rattle.occ_model.specs.Step.{Step}
use Rattle.occ_open.specs.Kept.{Kept, kept_of}
use Rattle.occ_open.proofs.Forgetting.{told_to_forget}
use Rattle.occ_open.proofs.kept_transactions.KeptTransaction.abandon_in.Goals as goal

pub returns-in-Err-clause-step : goal.returns-in-Err-clause-step
returns-in-Err-clause-step g c = told_to_forget _ (λ event reply. Step (g.S.Readable.world c.args.store.now) event reply (g.S.Readable.world c.forget.new.self)) _ _ (record { number = c.in-Returned.number; start = c.in-Returned.start; writes = c.in-Returned.writes }) _
    (sym (ap (λ (k : Kept). k.current) c.self.view_is) ∙ ap (λ content. (kept_of content).current) c.in-Returned.is) c.in-Err.ensures.step
