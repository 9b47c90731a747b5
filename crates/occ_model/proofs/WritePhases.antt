-- A decision, a single write, a finish and a back-up keep the invariant.
use Rattle.std.proofs.Common.{◌≡◌, ℕ, ◌+◌, ◌≤◌, Bool, true, false, cond, ◌||◌, List, [], ◌∷◌, ◌++◌, drop, length, Option, None, Some, refl, sym, ap, subst, ◌∙◌, zero, suc, inl, inr, arith, add-one}
use Rattle.std.specs.Prelude.{slice_get, MatchOption}
use Rattle.std.proofs.lemmas.Bool.{lt-ltb}
use Rattle.std.specs.FinSet as sets
use Rattle.occ_types.specs.Question.{Question, asks}
use Rattle.occ_model.specs.State.{State, Write, put, apply, meets_question}
use Rattle.occ_model.specs.Log.{LogRow, Standing, Open, Writing, Done, Back, Case, rest, remaining, after, serial, settled, is_writing, is_back, is_done, is_active, is_committed, numbers, Counts, last_folded, InOrder}
use Rattle.occ_model.specs.Validity.{verdict}
use Rattle.occ_model.specs.Operations.{asked}
use Rattle.occ_model.specs.World.{World, latest, turn, is_held}
use Rattle.occ_model.specs.Event.{Reply}
use Rattle.occ_model.specs.Refusal as refusals
use Rattle.occ_model.specs.Step.{decided, WritesOne, finished}
use Rattle.occ_model.specs.Invariant.{commits, is_sound, Chained, finished_after, is_touched, NumberIsBelow, NumbersAreBelow, OneUnderWay, ActiveAreHeld, Invariant}
use Rattle.occ_model.specs.declared.verdict.Verdict.{Verdict}
use Rattle.occ_model.specs.declared.verdict.Verdict.TheVariants as verdicts
use Rattle.occ_model.specs.declared.verdict.Cause.{Cause}
use Rattle.occ_model.proofs.Tests as tests
use Rattle.occ_model.proofs.States.{answer-put}
use Rattle.occ_model.proofs.Logs.{standing_at, serial-append, settled-append, settled-apply, serial-apply, Chained-apply, Chained-turn, Chained-at, active_before, settled-put}
use Rattle.occ_model.proofs.Turns
use Rattle.occ_model.proofs.Turns.{Around, around}
use Rattle.occ_model.proofs.Phases.{IsFresh-step}
use Rattle.occ_model.proofs.Arrivals.{held-remove, held_before, rise}

-- What turning the latest row of a session leaves as it was.
module _ (old : World) (inv : Invariant old) (session : ℕ) (row : LogRow) (standing : Standing) (r : Around session row standing old.log) where
  abbrev turned : LogRow
  turned = standing_at row standing

  -- a property of the log before, and of the log after
  from_log : (P : List LogRow → Type 0) → P old.log → P (r.before ++ row ∷ r.later)
  from_log P p = subst P r.was p

  to_log : (P : List LogRow → Type 0) → P (r.before ++ turned ∷ r.later) → P (turn session standing old.log)
  to_log P p = subst P (sym r.now) p

  pub order_turned : InOrder old.base old.marks (turn session standing old.log)
  order_turned = to_log (InOrder old.base old.marks) (
      let order = from_log (InOrder old.base old.marks) inv.in_order in
      record {
        places = subst (Counts old.base.place) (sym (Turns.places-turn row turned r.later refl refl refl refl r.before)) order.places;
        numbered = λ s. subst (Counts (suc (last_folded old.base s))) (sym (Turns.numbers-turn row turned r.later refl refl refl s r.before)) (order.numbered s);
        closed = λ s mark is. order.closed s mark is ∙ ap (λ l. last_folded old.base s + length l + 1) (sym (Turns.numbers-turn row turned r.later refl refl refl s r.before));
      })

  pub one_turned : (is_active standing ≡ true → is_active row.standing ≡ true) → OneUnderWay (turn session standing old.log)
  one_turned down = to_log OneUnderWay (Turns.OneUnderWay-turn row turned r.later refl refl refl down r.before (from_log OneUnderWay inv.one_under_way))

  pub held_turned : (is_active standing ≡ true → is_active row.standing ≡ true) → ActiveAreHeld old.held (turn session standing old.log)
  held_turned down = to_log (ActiveAreHeld old.held) (Turns.ActiveAreHeld-turn row turned r.later refl refl refl old.held down r.before (from_log (ActiveAreHeld old.held) inv.active_held))

  pub below_turned : (counter : ℕ) → NumberIsBelow counter standing → NumbersAreBelow counter old.log → NumbersAreBelow counter (turn session standing old.log)
  below_turned counter is below = to_log (NumbersAreBelow counter) (Turns.NumbersAreBelow-turn row turned r.later refl refl refl counter is r.before (from_log (NumbersAreBelow counter) below))

  pub touched_turned : (start : ℕ) (question : Question) → ((finished_after start row.standing || is_writing row.standing) ≡ true → (finished_after start standing || is_writing standing) ≡ true)
      → is_touched start question old.log ≡ true → is_touched start question (turn session standing old.log) ≡ true
  touched_turned start question still touched = to_log (λ l. is_touched start question l ≡ true)
      (Turns.is_touched-turn row turned r.later refl refl refl start question still r.before (from_log (λ l. is_touched start question l ≡ true) touched))

  pub under_way_turned : is_done standing ≡ false → (s : ℕ) → is_held old s ≡ true → (later : LogRow) → latest s (turn session standing old.log) ≡ Some later → is_done later.standing ≡ false
  under_way_turned not_done s held later is = elim (Turns.latest_turned session row standing old.log r s later is) [
    | inl here ↦ ap (λ l. is_done l.standing) here.1 ∙ not_done
    | inr there ↦ inv.held_under_way s held later there.1
  ]

  pub entered_turned_held : (s : ℕ) → is_held old s ≡ true → 1 ≤ last_folded old.base s + length (numbers s (turn session standing old.log))
  entered_turned_held s held = to_log (λ l. 1 ≤ last_folded old.base s + length (numbers s l))
      (subst (λ l. 1 ≤ last_folded old.base s + length l) (sym (Turns.numbers-turn row turned r.later refl refl refl s r.before))
      (from_log (λ l. 1 ≤ last_folded old.base s + length (numbers s l)) (inv.held_entered s held)))

-- A row that is decided.

after_uncommitted : (state : State) (row : LogRow) → is_committed row.standing ≡ false → after state row ≡ state
after_uncommitted state row e = ap (λ b. cond b (apply state row.writes) state) e

after_committed : (state : State) (row : LogRow) → is_committed row.standing ≡ true → after state row ≡ apply state row.writes
after_committed state row e = ap (λ b. cond b (apply state row.writes) state) e

-- the log up to a row and from it on, settled and replayed
settled-at : (table : State) (before later : List LogRow) (row : LogRow) → settled table (before ++ row ∷ later) ≡ settled (apply (settled table before) (rest row)) later
settled-at table before later row = settled-append table before (row ∷ later)

serial-at : (state : State) (before later : List LogRow) (row : LogRow) → serial state (before ++ row ∷ later) ≡ serial (after (serial state before) row) later
serial-at state before later row = serial-append state before (row ∷ later)

-- The decision to commit: what is inserted at the row's place is as good as done last.
module _ (old : World) (inv : Invariant old) (session index : ℕ) (case : Case) (row : LogRow) (there : latest session old.log ≡ Some row) (stands : row.standing ≡ Open index case) where
  committing : commits (verdict case) ≡ true → Invariant (record old { log = turn session (Writing 0) old.log })
  committing sound =
      let r = around session old.log row (Writing 0) there in
      let next : LogRow = standing_at row (Writing 0) in
      let was_active : is_active row.standing ≡ true = ap is_active stands in
      let was_sound : is_sound row.standing ≡ true = ap is_sound stands ∙ sound in
      let chained = subst (Chained old.base.state) r.was inv.chained in
      let at = Chained-at old.base.state r.before r.later row chained in
      let mid : State = serial old.base.state r.before in
      let alone : after mid row ≡ mid = after_uncommitted mid row (ap is_committed stands) in
      let no_rest : rest row ≡ [] = ap (remaining row.writes) stands in
      let replayed : settled old.table (r.before ++ row ∷ r.later) ≡ serial old.base.state (r.before ++ row ∷ r.later) = subst (λ l. settled old.table l ≡ serial old.base.state l) r.was inv.replayed in
      record {
        replayed = subst (λ l. settled old.table l ≡ serial old.base.state l) (sym r.now) (
            settled-at old.table r.before r.later next
            ∙ settled-apply (settled old.table r.before) row.writes r.later (at.0 was_active)
            ∙ ap (λ s. apply s row.writes) (
            ap (λ w. settled (apply (settled old.table r.before) w) r.later) (sym no_rest) ∙ sym (settled-at old.table r.before r.later row)
            ∙ replayed
            ∙ serial-at old.base.state r.before r.later row ∙ ap (λ s. serial s r.later) alone)
            ∙ sym (serial-apply mid row.writes r.later (at.0 was_active))
            ∙ sym (serial-at old.base.state r.before r.later next));
        chained = subst (Chained old.base.state) (sym r.now) (Chained-turn old.base.state r.before r.later row next
            (record { reads = refl; writes = refl; sound = λ s. was_sound; active = λ a. was_active })
            (λ onward. Chained-apply mid row.writes r.later (at.0 was_active) (subst (λ s. Chained s r.later) alone onward))
            chained);
        fresh = λ s n phase is. IsFresh-step old (record old { log = turn session (Writing 0) old.log }) (omega arith) (omega arith)
            (λ start question begun inside. touched_turned old inv session row (Writing 0) r start question (λ t. tests.or_right (finished_after start (Writing 0)) true refl))
            (λ start question begun. inl refl) phase (inv.fresh s n phase is);
        below = below_turned old inv session row (Writing 0) r old.counter tt inv.below;
        in_order = order_turned old inv session row (Writing 0) r;
        one_under_way = one_turned old inv session row (Writing 0) r (λ a. was_active);
        active_held = held_turned old inv session row (Writing 0) r (λ a. was_active);
        held_under_way = under_way_turned old inv session row (Writing 0) r refl;
        held_entered = entered_turned_held old inv session row (Writing 0) r;
      }

  backing : (cause : Cause) → commits (verdict case) ≡ false → Invariant (record old { log = turn session (Back cause) old.log })
  backing cause unsound =
      let r = around session old.log row (Back cause) there in
      let next : LogRow = standing_at row (Back cause) in
      let chained = subst (Chained old.base.state) r.was inv.chained in
      let mid : State = serial old.base.state r.before in
      let alone : after mid row ≡ mid = after_uncommitted mid row (ap is_committed stands) in
      let no_rest : rest row ≡ [] = ap (remaining row.writes) stands in
      let replayed : settled old.table (r.before ++ row ∷ r.later) ≡ serial old.base.state (r.before ++ row ∷ r.later) = subst (λ l. settled old.table l ≡ serial old.base.state l) r.was inv.replayed in
      record {
        replayed = subst (λ l. settled old.table l ≡ serial old.base.state l) (sym r.now) (
            settled-at old.table r.before r.later next
            ∙ ap (λ w. settled (apply (settled old.table r.before) w) r.later) (sym no_rest) ∙ sym (settled-at old.table r.before r.later row)
            ∙ replayed
            ∙ serial-at old.base.state r.before r.later row ∙ ap (λ s. serial s r.later) alone
            ∙ sym (serial-at old.base.state r.before r.later next));
        chained = subst (Chained old.base.state) (sym r.now) (Chained-turn old.base.state r.before r.later row next
            (record { reads = refl; writes = refl; sound = λ (s : false ≡ true). cc s; active = λ (a : false ≡ true). cc a })
            (λ onward. subst (λ s. Chained s r.later) alone onward)
            chained);
        fresh = λ s n phase is. IsFresh-step old (record old { log = turn session (Back cause) old.log }) (omega arith) (omega arith)
            (λ start question begun inside. touched_turned old inv session row (Back cause) r start question (λ t. absurd (untouched start t)))
            (λ start question begun. inl refl) phase (inv.fresh s n phase is);
        below = below_turned old inv session row (Back cause) r old.counter tt inv.below;
        in_order = order_turned old inv session row (Back cause) r;
        one_under_way = one_turned old inv session row (Back cause) r (λ (a : false ≡ true). cc a);
        active_held = held_turned old inv session row (Back cause) r (λ (a : false ≡ true). cc a);
        held_under_way = under_way_turned old inv session row (Back cause) r refl;
        held_entered = entered_turned_held old inv session row (Back cause) r;
      }
    where
      untouched : (start : ℕ) → (finished_after start row.standing || is_writing row.standing) ≡ true → ⊥
      untouched start t = tests.clash {A = ⊥} (finished_after start row.standing || is_writing row.standing) t (ap (λ s. finished_after start s || is_writing s) stands)

  pub keeps_decide : Invariant (record old { log = turn session (decided (verdict case)) old.log })
  keeps_decide = go (verdict case) refl
    where
      go : (v : Verdict) → verdict case ≡ v → Invariant (record old { log = turn session (decided v) old.log })
      go verdicts.Commit e = committing (ap commits e)
      go (verdicts.BackUp cause) e = backing cause (ap commits e)

-- A single write.

-- the writes still to come begin with the one at the place
drop-at : (n : ℕ) (writes : List Write) (write : Write) → slice_get writes n ≡ Some write → drop n writes ≡ write ∷ drop (suc n) writes
drop-at n [] write is = cc
drop-at zero (first ∷ writes) write is = let e : first ≡ write = cc in ap (λ w. w ∷ writes) e
drop-at (suc n) (first ∷ writes) write is = drop-at n writes write is

-- a question that asks for one of the writes is met by them
meets_own : (n : ℕ) (writes : List Write) (write : Write) (question : Question) → slice_get writes n ≡ Some write → asks question write.0 ≡ true → meets_question writes question ≡ true
meets_own n [] write question is asked = cc
meets_own zero (first ∷ writes) write question is asked =
    let e : write ≡ first = cc in tests.or_left _ _ (ap (λ w. asks question w.0) (sym e) ∙ asked)
meets_own (suc n) (first ∷ writes) write question is asked = tests.or_right _ _ (meets_own n writes write question is asked)

pub touched_own : (start : ℕ) (question : Question) (before later : List LogRow) (row : LogRow) → (finished_after start row.standing || is_writing row.standing) ≡ true → meets_question row.writes question ≡ true → is_touched start question (before ++ row ∷ later) ≡ true
touched_own start question [] later row could met = tests.or_left _ _ (tests.both_true _ _ could met)
touched_own start question (x ∷ xs) later row could met = tests.or_right _ _ (touched_own start question xs later row could met)

module _ (old : World) (inv : Invariant old) (session done : ℕ) (row : LogRow) (there : latest session old.log ≡ Some row) (stands : row.standing ≡ Writing done) where
  writing_on : (write : Write) → slice_get row.writes done ≡ Some write → Invariant (record old { table = put old.table write; log = turn session (Writing (done + 1)) old.log })
  writing_on write is =
      let r = around session old.log row (Writing (done + 1)) there in
      let next : LogRow = standing_at row (Writing (done + 1)) in
      let new : World = record old { table = put old.table write; log = turn session (Writing (done + 1)) old.log } in
      let was_active : is_active row.standing ≡ true = ap is_active stands in
      let was_sound : is_sound row.standing ≡ true = ap is_sound stands in
      let chained = subst (Chained old.base.state) r.was inv.chained in
      let replayed : settled old.table (r.before ++ row ∷ r.later) ≡ serial old.base.state (r.before ++ row ∷ r.later) = subst (λ l. settled old.table l ≡ serial old.base.state l) r.was inv.replayed in
      let mid : State = serial old.base.state r.before in
      let played : after mid row ≡ after mid next = after_committed mid row (ap is_committed stands) in
      let first : rest row ≡ write ∷ rest next = ap (remaining row.writes) stands ∙ drop-at done row.writes write is ∙ ap (λ n. write ∷ drop n row.writes) (sym (add-one done)) in
      record {
        replayed = subst (λ l. settled (put old.table write) l ≡ serial old.base.state l) (sym r.now) (
            settled-at (put old.table write) r.before r.later next
            ∙ ap (λ s. settled (apply s (rest next)) r.later) (settled-put old.table r.before row done write (active_before old.base.state r.before r.later row chained was_sound) is)
            ∙ ap (λ w. settled (apply (settled old.table r.before) w) r.later) (sym first)
            ∙ sym (settled-at old.table r.before r.later row)
            ∙ replayed
            ∙ serial-at old.base.state r.before r.later row ∙ ap (λ s. serial s r.later) played
            ∙ sym (serial-at old.base.state r.before r.later next));
        chained = subst (Chained old.base.state) (sym r.now) (Chained-turn old.base.state r.before r.later row next
            (record { reads = refl; writes = refl; sound = λ s. was_sound; active = λ a. was_active })
            (λ onward. subst (λ s. Chained s r.later) played onward)
            chained);
        fresh = λ s n phase at. IsFresh-step old new (omega arith) (omega arith)
            (λ start question begun inside. touched_turned old inv session row (Writing (done + 1)) r start question (λ t. refl))
            (λ start question begun. tests.decided (asks question write.0)
            (λ asked. inr (subst (λ l. is_touched start question l ≡ true) (sym r.now) (touched_own start question r.before r.later next refl (meets_own done row.writes write question is asked))))
            (λ unasked. inl (answer-put question old.table write unasked)))
            phase (inv.fresh s n phase at);
        below = below_turned old inv session row (Writing (done + 1)) r old.counter tt inv.below;
        in_order = order_turned old inv session row (Writing (done + 1)) r;
        one_under_way = one_turned old inv session row (Writing (done + 1)) r (λ a. was_active);
        active_held = held_turned old inv session row (Writing (done + 1)) r (λ a. was_active);
        held_under_way = under_way_turned old inv session row (Writing (done + 1)) r refl;
        held_entered = entered_turned_held old inv session row (Writing (done + 1)) r;
      }

  pub keeps_write : (reply : Reply) (new : World) → WritesOne old session row done reply new → Invariant new
  keeps_write reply new writes = go (slice_get row.writes done) refl writes
    where
      go : (o : Option Write) → slice_get row.writes done ≡ o → MatchOption o
          ((reply ≡ Reply.NoMore) × (new ≡ old))
          (λ write. (reply ≡ Reply.Wrote write.0) × (new ≡ record old { table = put old.table write; log = turn session (Writing (done + 1)) old.log })) → Invariant new
      go None e w = subst Invariant (sym w.1) inv
      go (Some write) e w = subst Invariant (sym w.1) (writing_on write e)

  -- The end of a write phase.
  pub keeps_finish : rest row ≡ [] → Invariant (finished old session)
  keeps_finish no_rest =
      let number : ℕ = old.counter + 1 in
      let r = around session old.log row (Done number) there in
      let next : LogRow = standing_at row (Done number) in
      let was_active : is_active row.standing ≡ true = ap is_active stands in
      let was_sound : is_sound row.standing ≡ true = ap is_sound stands in
      let chained = subst (Chained old.base.state) r.was inv.chained in
      let replayed : settled old.table (r.before ++ row ∷ r.later) ≡ serial old.base.state (r.before ++ row ∷ r.later) = subst (λ l. settled old.table l ≡ serial old.base.state l) r.was inv.replayed in
      let mid : State = serial old.base.state r.before in
      let played : after mid row ≡ after mid next = after_committed mid row (ap is_committed stands) in
      let one = one_turned old inv session row (Done number) r (λ (a : false ≡ true). cc a) in
      record {
        replayed = subst (λ l. settled old.table l ≡ serial old.base.state l) (sym r.now) (
            settled-at old.table r.before r.later next
            ∙ ap (λ w. settled (apply (settled old.table r.before) w) r.later) (sym no_rest)
            ∙ sym (settled-at old.table r.before r.later row)
            ∙ replayed
            ∙ serial-at old.base.state r.before r.later row ∙ ap (λ s. serial s r.later) played
            ∙ sym (serial-at old.base.state r.before r.later next));
        chained = subst (Chained old.base.state) (sym r.now) (Chained-turn old.base.state r.before r.later row next
            (record { reads = refl; writes = refl; sound = λ s. was_sound; active = λ (a : false ≡ true). cc a })
            (λ onward. subst (λ s. Chained s r.later) played onward)
            chained);
        fresh = λ s n phase at. IsFresh-step old (finished old session) (omega arith) (rise old.counter old.settings.keep)
            (λ start question begun inside. touched_turned old inv session row (Done number) r start question
            (λ t. tests.or_left _ _ (lt-ltb start number (omega arith))))
            (λ start question begun. inl refl)
            phase (inv.fresh s n phase at);
        below = below_turned old inv session row (Done number) r number (omega arith) (Turns.NumbersAreBelow-up old.counter old.log inv.below);
        in_order = order_turned old inv session row (Done number) r;
        one_under_way = one;
        active_held = Turns.ActiveAreHeld-free old.held (sets.remove old.held session) session (held-remove old.held session) (turn session (Done number) old.log) one
            (λ later is. elim (Turns.latest_turned session row (Done number) old.log r session later is) [ inl here ↦ ap (λ l. is_active l.standing) here.1 | inr there' ↦ absurd (there'.0 refl) ])
            (held_turned old inv session row (Done number) r (λ (a : false ≡ true). cc a));
        held_under_way = λ s held later is. let h = held_before old.held session s held in
            elim (Turns.latest_turned session row (Done number) old.log r s later is) [
              | inl here ↦ absurd (h.0 here.0)
              | inr other ↦ inv.held_under_way s h.1 later other.1
            ];
        held_entered = λ s held. entered_turned_held old inv session row (Done number) r s (held_before old.held session s held).1;
      }

-- A session is let go whose transaction was backed up.
pub keeps_back : (old : World) (session : ℕ) → Invariant old → refusals.row_is_back old session ≡ true → Invariant (record old { held = sets.remove old.held session })
keeps_back old session inv back = record {
  replayed = inv.replayed;
  chained = inv.chained;
  fresh = λ s n phase at. let f = inv.fresh s n phase at in record { begun = f.begun; answers = f.answers };
  below = inv.below;
  in_order = inv.in_order;
  one_under_way = inv.one_under_way;
  active_held = Turns.ActiveAreHeld-free old.held (sets.remove old.held session) session (held-remove old.held session) old.log inv.one_under_way
      (λ row is. idle row.standing (sym (ap (λ l. elim l as (λ _. Bool) [ None ↦ true | Some r ↦ is_back r.standing ]) is) ∙ back)) inv.active_held;
  held_under_way = λ s held. inv.held_under_way s (held_before old.held session s held).1;
  held_entered = λ s held. inv.held_entered s (held_before old.held session s held).1;
}
  where
    idle : (s : Standing) → is_back s ≡ true → is_active s ≡ false
    idle (Open index case) e = cc
    idle (Writing done) e = cc
    idle (Done number) e = cc
    idle (Back cause) e = refl
