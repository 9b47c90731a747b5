-- What each step is replied, and a list of them.
use Rattle.std.proofs.Common.{◌≡◌, List, [], ◌∷◌, ◌++◌, Some, None, Result, Err, refl, sym, ap, subst, inl, inr, ◌⊎◌, ◌∙◌, MatchResult}
use Rattle.occ_types.specs.declared.fault.Fault.{Fault}
use Rattle.occ_types.specs.declared.fault.Refused as refusals
use Rattle.occ_model.specs.World.{World}
use Rattle.occ_model.specs.Event.{Event, Reply, Item, Refused}
use Rattle.occ_model.specs.Step.{Step, Run}
use Rattle.occ_core.specs.Core.{Seen, Transition}
use Rattle.occ_core.specs.Totals.{moved}
use Rattle.occ_model.specs.Replies.{replied}
use Rattle.occ_core.specs.Runs.{event_of, reply_of, handed_in, handed_back, owed, IsPutOff, Answers, Runs}
use Rattle.occ_core.specs.declared.steps.Step as code_step
use Rattle.occ_core.specs.declared.steps.Step.TheVariants as steps
use Rattle.occ_core.specs.declared.replies.Reply as code_reply
use Rattle.occ_core.specs.declared.replies.Reply.TheVariants as replies
use Rattle.occ_queue.specs.declared.items.Item as items
use Rattle.occ_queue.specs.Items.{item_of}

-- a fault is replied as it is
pub replied_err : {X : Type 0} (answer : X → Reply) (old new : World) (event : Event) (called : Result X Fault) (fault : Fault) → called ≡ Err fault → Step old event (Refused fault) new → Step old event (replied answer called) new
replied_err answer old new event called fault is step = subst (λ r. Step old event (replied answer r) new) (sym is) step

module _ {Z : Type 0} where
  -- a reply that is the model's
  pub answered : (old : Seen) (step : code_step.Step Z) (reply : code_reply.Reply Z) (said : Reply) (new : Seen) → reply_of reply ≡ said → Transition old (event_of step) said new → handed_back reply ≡ owed step (reply_of reply)
      → new.totals ≡ moved old.totals said → Answers old step reply new
  answered old step reply said new is stepped back counts = (inl (subst (λ r. Transition old (event_of step) r new) (sym is) stepped), back, subst (λ r. new.totals ≡ moved old.totals r) (sym is) counts)

  -- and so where the step is known by another name
  pub answered_as : (old : Seen) (step named : code_step.Step Z) (reply : code_reply.Reply Z) (said : Reply) (new : Seen) → step ≡ named → reply_of reply ≡ said → Transition old (event_of named) said new
      → handed_back reply ≡ owed named (reply_of reply) → new.totals ≡ moved old.totals said → Answers old step reply new
  answered_as old step named reply said new name is stepped back counts = subst (λ s. Answers old s reply new) (sym name) (answered old named reply said new is stepped back counts)

  -- a refusal that ends a step early
  told_err : (old : Seen) (step : code_step.Step Z) (new : Seen) (result : Result (code_reply.Reply Z) (code_reply.Reply Z)) (reply : code_reply.Reply Z) → result ≡ Err reply → Answers old step reply new
      → MatchResult result (λ reply. Answers old step reply new) (λ refusal. Answers old step refusal new)
  told_err old step new result reply is answers = subst (λ r. MatchResult r (λ reply. Answers old step reply new) (λ refusal. Answers old step refusal new)) (sym is) answers

  -- of a step that is handed no item
  pub refused_as : (old : Seen) (step named : code_step.Step Z) (fault : Fault) (new : Seen) (result : Result (code_reply.Reply Z) (code_reply.Reply Z)) (reply : code_reply.Reply Z) → step ≡ named → result ≡ Err reply → reply ≡ replies.Refused fault
      → Transition old (event_of named) (Refused fault) new → new.totals ≡ old.totals → handed_in named ≡ None → MatchResult result (λ reply. Answers old step reply new) (λ refusal. Answers old step refusal new)
  refused_as old step named fault new result reply name is said stepped counts none =
      told_err old step new result reply is (answered_as old step named reply (Refused fault) new name (ap reply_of said) stepped (subst (λ r. handed_back r ≡ owed named (reply_of r)) (sym said) (sym none)) counts)

  -- of one that hands its item back
  pub refused_back : (old : Seen) (step named : code_step.Step Z) (item : Item) (refused : refusals.Refused (items.Item Z)) (new : Seen) (result : Result (code_reply.Reply Z) (code_reply.Reply Z)) (reply : code_reply.Reply Z) → step ≡ named → result ≡ Err reply → reply ≡ replies.RefusedItem refused
      → Transition old (event_of named) (Refused refused.fault) new → new.totals ≡ old.totals → item_of refused.value ≡ item → handed_in named ≡ Some item → MatchResult result (λ reply. Answers old step reply new) (λ refusal. Answers old step refusal new)
  refused_back old step named item refused new result reply name is said stepped counts back given =
      told_err old step new result reply is (answered_as old step named reply (Refused refused.fault) new name (ap reply_of said) stepped (subst (λ r. handed_back r ≡ owed named (reply_of r)) (sym said) (ap Some back ∙ sym given)) counts)

  -- one step more
  pub runs_more : (old mid new : Seen) (done : List (code_step.Step Z)) (replies : List (code_reply.Reply Z)) (step : code_step.Step Z) (reply : code_reply.Reply Z)
      → Runs old done replies mid → Answers mid step reply new → Runs old (done ++ step ∷ []) (replies ++ reply ∷ []) new
  runs_more old mid new [] [] step reply runs answers = (new, subst (λ w. Answers w step reply new) runs answers, refl)
  runs_more old mid new [] (r ∷ rs) step reply runs answers = absurd runs
  runs_more old mid new (s ∷ ss) [] step reply runs answers = absurd runs
  runs_more old mid new (s ∷ ss) (r ∷ rs) step reply runs answers = (runs.0, runs.1, runs_more runs.0 mid new ss rs step reply runs.2 answers)

  -- what is put off moves nothing
  put_off : (old : Seen) (step : code_step.Step Z) (reply : code_reply.Reply Z) (new : Seen) → IsPutOff old step reply new → new ≡ old
  put_off old (steps.Read session number start table key) reply new off = absurd off
  put_off old (steps.Scan session number start table lower upper) reply new off = absurd off
  put_off old (steps.Forget session number) reply new off = absurd off
  put_off old (steps.Enter session item) reply new off = absurd off
  put_off old (steps.Decide session) reply new off = absurd off
  put_off old (steps.Finish session) reply new off = absurd off
  put_off old (steps.BackUp session) reply new off = absurd off
  put_off old (steps.SerialEnd session item) reply new off = absurd off
  put_off old (steps.RunAlone session number operations) reply new off = absurd off
  put_off old steps.Checkpoint reply new off = absurd off
  put_off old (steps.WriteOne session) (replies.Found row) new off = absurd off
  put_off old (steps.WriteOne session) (replies.Rows rows) new off = absurd off
  put_off old (steps.WriteOne session) (replies.Forgotten there) new off = absurd off
  put_off old (steps.WriteOne session) (replies.Outcome outcome) new off = absurd off
  put_off old (steps.WriteOne session) (replies.Decided verdict) new off = absurd off
  put_off old (steps.WriteOne session) (replies.Wrote object) new off = absurd off
  put_off old (steps.WriteOne session) replies.NoMore new off = absurd off
  put_off old (steps.WriteOne session) (replies.Finished tn) new off = absurd off
  put_off old (steps.WriteOne session) (replies.BackedUp number) new off = absurd off
  put_off old (steps.WriteOne session) (replies.Folded count) new off = absurd off
  put_off old (steps.WriteOne session) (replies.Refused fault) new off = off.3
  put_off old (steps.WriteOne session) (replies.RefusedItem refused) new off = absurd off

  -- the steps that moved are a run of the model
  pub run_of : (old new : Seen) (done : List (code_step.Step Z)) (said : List (code_reply.Reply Z)) → Runs old done said new → (events : List (Event × Reply)) × Run old.world events new.world
  run_of old new [] [] runs = ([], ap (λ (s : Seen). s.world) runs)
  run_of old new [] (r ∷ rs) runs = absurd runs
  run_of old new (s ∷ ss) [] runs = absurd runs
  run_of old new (s ∷ ss) (r ∷ rs) runs = go runs.1.0 (run_of runs.0 new ss rs runs.2)
    where
      go : Transition old (event_of s) (reply_of r) runs.0 ⊎ IsPutOff old s r runs.0 → (events : List (Event × Reply)) × Run runs.0.world events new.world → (events : List (Event × Reply)) × Run old.world events new.world
      go (inl stepped) later = ((event_of s, reply_of r) ∷ later.0, (runs.0.world, stepped, later.1))
      go (inr off) later = (later.0, subst (λ (s : Seen). Run s.world later.0 new.world) (put_off old s r runs.0 off) later.1)
