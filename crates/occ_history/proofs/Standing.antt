-- What happens stands in the history, and two parties' answers in one.
use Rattle.std.proofs.Common.{◌≡◌, ⊎_elim, true, List, [], ◌∷◌, ◌++◌, refl, sym, ap, subst, ◌∙◌}
use Rattle.occ_model.specs.World.{World, resumed}
use Rattle.occ_model.specs.Event.{Event, Reply}
use Rattle.occ_model.specs.Step.{Step, Run}
use Rattle.occ_history.specs.History.{Happened, FrontView, StoryView, is_of, mine, Begins}
use Rattle.occ_history.specs.Clauses.{Stands, DidThen}
use Rattle.occ_history.specs.Laws.{HappeningStands, SeenIsHistory, AnswersStandInOneHistory}
use Rattle.occ_history.proofs.Beginnings.{filter_kept}
use Rattle.occ_history.proofs.Serial.{histories_are_serial}

pub run-append : (xs ys : List Happened) (old between new : World) → Run old xs between → Run between ys new → Run old (xs ++ ys) new
run-append [] ys old between new first second = subst (λ (w : World). Run w ys new) first second
run-append (x ∷ xs) ys old between new first second = (first.0, first.1, run-append xs ys first.0 between new first.2 second)

-- a history and an event more
pub run-more : (log : List Happened) (event : Event) (reply : Reply) (begun old new : World) → Run begun log old → Step old event reply new → Run begun (log ++ (event, reply) ∷ []) new
run-more log event reply begun old new run step = run-append log ((event, reply) ∷ []) begun old new run (new, step, refl)

pub what_happens_stands : HappeningStands
what_happens_stands begun old new event reply run h = (
  subst (λ (s : StoryView). Run begun s.log new.world) (sym h.told) (run-more old.story.log event reply begun old.world new.world run h.step),
  (old.story.log, old.world, new.world, h.before, h.whole, run, h.step, h.seen),
)

pub what_is_seen : SeenIsHistory
what_is_seen begun me now event reply stands =
    let before = stands.0 in
    let old = stands.1 in
    let new = stands.2 in
    (new, subst (λ (f : FrontView). Run begun f.seen new) (sym stands.7) (run-more before event reply begun old new stands.5 stands.6))

-- what one did stands in what he has seen since
did : (begun : World) (me now : FrontView) (happened : Happened) → is_of me.party happened.0 ≡ true → Stands begun me happened.0 happened.1 now
    → DidThen me happened now.seen × (now.party ≡ me.party)
did begun me now happened own stands =
    let before = stands.0 in
    let e = stands.7 in (
      ap (λ (f : FrontView). mine me.party f.seen) e
          ∙ filter_kept (λ h. is_of me.party h.0) before happened own
          ∙ ap (λ (l : List Happened). l ++ happened ∷ []) (sym stands.4),
      ap (λ (f : FrontView). f.party) e,
    )

-- who has seen more has seen that too
did_later : (begun : World) (me now later : FrontView) (happened : Happened) → is_of me.party happened.0 ≡ true → Stands begun me happened.0 happened.1 now → Begins now later → DidThen me happened later.seen
did_later begun me now later happened own stands begins =
    let d = did begun me now happened own stands in
    sym (subst (λ p. mine p now.seen ≡ mine p later.seen) d.1 begins.1) ∙ d.0

pub answers_stand : AnswersStandInOneHistory
answers_stand settings base counter one one_now two two_now first second one_own two_own one_stands two_stands either = ⊎_elim
    (λ begins.
    let run = what_is_seen (resumed settings base counter) two two_now second.0 second.1 two_stands in
    let order = histories_are_serial settings base counter two_now.seen run.0 run.1 in (
      two_now.seen,
      run.0,
      order.0,
      run.1,
      did_later (resumed settings base counter) one one_now two_now first one_own one_stands begins,
      (did (resumed settings base counter) two two_now second two_own two_stands).0,
      order.1,
    ))
    (λ begins.
    let run = what_is_seen (resumed settings base counter) one one_now first.0 first.1 one_stands in
    let order = histories_are_serial settings base counter one_now.seen run.0 run.1 in (
      one_now.seen,
      run.0,
      order.0,
      run.1,
      (did (resumed settings base counter) one one_now first one_own one_stands).0,
      did_later (resumed settings base counter) two two_now one_now second two_own two_stands begins,
      order.1,
    ))
    either
