-- What is read, forgotten, marked as closed or entered keeps the invariant.
use Rattle.std.proofs.Common.{◌≡◌, ℕ, ◌+◌, ◌≤◌, true, false, ◌&&◌, ◌||◌, List, [], ◌∷◌, ◌++◌, map, length, Option, None, Some, refl, sym, ap, subst, ◌∙◌, suc, inl, inr, arith, not}
use Rattle.std.specs.Prelude.{if◌then◌else◌, ◌==◌, is_some}
use Rattle.std.proofs.lemmas.Bool.{eqb-true, eq-eqb}
use Rattle.std.specs.Ordering.{nat_cmp}
use Rattle.std.specs.Cmp.{nat_cmp_total}
use Rattle.std.specs.Ordering.{eq_by_cmp}
use Rattle.std.specs.FinMap as finite
use Rattle.std.specs.FinSet as sets
use Rattle.std.specs.FinSet.{FinSet}
use Rattle.occ_types.specs.declared.fault.Fault.TheVariants as faults
use Rattle.occ_types.specs.Question.{Question}
use Rattle.occ_model.specs.State.{Write}
use Rattle.occ_model.specs.Log.{LogRow, Open, Case, questions, is_done, AreAnswers, numbers, Counts, last_folded, InOrder}
use Rattle.occ_model.specs.Validity.{verdict, window_low}
use Rattle.occ_model.specs.World.{World, low, next_place, latest, due, reads_under, has_mark}
use Rattle.occ_model.specs.Event.{Read}
use Rattle.occ_model.specs.Refusal as refusals
use Rattle.occ_model.specs.Refusal.{refusal, refusal_of_close, wrong_start}
use Rattle.occ_model.specs.Step.{entering, IsCaseOf, read_more, entered, closed}
use Rattle.occ_model.specs.Invariant.{commits, IsFresh, Invariant}
use Rattle.occ_model.proofs.Tests as tests
use Rattle.occ_model.proofs.Logs.{serial-append, settled-append, Chained-push}
use Rattle.occ_model.proofs.AtEntry.{verdict-validity, commit_means, NoneInTheWay, none_active, valid_reads}
use Rattle.occ_model.proofs.Turns
use Rattle.occ_model.proofs.Turns.{latest-push}
use Rattle.occ_model.proofs.Orders.{Counts-push, numbers-append, numbers-own, numbers-other, places-append, length-places, numbers_pushed, latest_number, get-own, get-other, tied, apart}
use Rattle.occ_model.proofs.Phases.{get-remove-from, get-retain-from, get-insert-cases, AreFresh-push, IsFresh-step, not_refused, known_reads}
use Rattle.occ_model.proofs.Admitted.{passed, Admitted}

-- The log in order, with one row more.
pub InOrder-push : (world : World) (row : LogRow) → InOrder world.base world.marks world.log → row.place ≡ next_place world → row.number ≡ due world row.session
    → finite.get world.marks row.session ≡ None → InOrder world.base world.marks (world.log ++ row ∷ [])
InOrder-push world row order place number unmarked = record {
  places = subst (Counts world.base.place) (sym (places-append world.log (row ∷ [])))
      (Counts-push world.base.place row.place (map (λ r. r.place) world.log) order.places (place ∙ ap (λ n. world.base.place + n) (sym (length-places world.log))));
  numbered = λ session. tests.decided (row.session == session)
      (λ same. let e : row.session ≡ session = eqb-true row.session session same in subst (λ s. Counts (suc (last_folded world.base s)) (numbers s (world.log ++ row ∷ []))) e own)
      (λ other. subst (Counts (suc (last_folded world.base session))) (sym (numbers-append session world.log (row ∷ []) ∙ ap (λ l. numbers session world.log ++ l) (numbers-other session row other) ∙ append-nil (numbers session world.log))) (order.numbered session));
  closed = λ session mark is. tests.decided (row.session == session)
      (λ same. let e : row.session ≡ session = eqb-true row.session session same in let none : finite.get world.marks session ≡ None = subst (λ s. finite.get world.marks s ≡ None) e unmarked in absurd (clashing (sym is ∙ none)))
      (λ other. order.closed session mark is
      ∙ ap (λ n. last_folded world.base session + n + 1) (ap length (sym (numbers-append session world.log (row ∷ []) ∙ ap (λ l. numbers session world.log ++ l) (numbers-other session row other) ∙ append-nil (numbers session world.log)))));
}
  where
    append-nil : (xs : List ℕ) → xs ++ [] ≡ xs
    append-nil [] = refl
    append-nil (x ∷ xs) = ap (λ l. x ∷ l) (append-nil xs)

    clashing : {m : ℕ} → Some m ≡ None → ⊥
    clashing e = cc

    own : Counts (suc (last_folded world.base row.session)) (numbers row.session (world.log ++ row ∷ []))
    own =
        let counts = order.numbered row.session in
        let at = latest_number row.session (last_folded world.base row.session) world.log counts in
        let n : row.number ≡ suc (last_folded world.base row.session) + length (numbers row.session world.log) = number ∙ omega (arith, at) in
        subst (Counts (suc (last_folded world.base row.session))) (sym (numbers-append row.session world.log (row ∷ []) ∙ ap (λ l. numbers row.session world.log ++ l) (numbers-own row)))
        (Counts-push (suc (last_folded world.base row.session)) row.number (numbers row.session world.log) counts n)

-- where a session has no mark
pub no_mark : (world : World) (session : ℕ) → has_mark world session ≡ false → finite.get world.marks session ≡ None
no_mark world session none = go (finite.get world.marks session) none
  where
    go : (o : Option ℕ) → is_some o ≡ false → o ≡ None
    go None e = refl
    go (Some n) e = cc

-- sets of sessions
pub held-insert : (held : FinSet nat_cmp) (session other : ℕ) → sets.contains held other ≡ true → sets.contains (sets.insert held session) other ≡ true
held-insert held session other is = sets.contains-insert nat_cmp_total held session other ∙ tests.or_right _ _ is

pub held-own : (held : FinSet nat_cmp) (session : ℕ) → sets.contains (sets.insert held session) session ≡ true
held-own held session = sets.contains-insert nat_cmp_total held session session ∙ tests.or_left _ _ (tied session)

pub held-remove : (held : FinSet nat_cmp) (session other : ℕ) → (other ≡ session → ⊥) → sets.contains held other ≡ true → sets.contains (sets.remove held session) other ≡ true
held-remove held session other ne is = sets.contains-remove nat_cmp_total held session other
    ∙ ap (λ b. not b && sets.contains held other) (apart other session ne) ∙ is

pub held_before : (held : FinSet nat_cmp) (session other : ℕ) → sets.contains (sets.remove held session) other ≡ true → (other ≡ session → ⊥) × (sets.contains held other ≡ true)
held_before held session other is =
    let parts = tests.and_true (not (eq_by_cmp nat_cmp other session)) (sets.contains held other) (sym (sets.contains-remove nat_cmp_total held session other) ∙ is) in
    (λ same. tests.clash (not (eq_by_cmp nat_cmp other session)) parts.0 (ap not (subst (λ s. eq_by_cmp nat_cmp other s ≡ true) same (tied other))), parts.1)

-- The window moves up with the counter.
pub rise : (counter keep : ℕ) → window_low counter keep ≤ window_low (counter + 1) keep
rise counter keep = omega arith

-- A question that is read.
pub keeps_read : (old : World) (session number start : ℕ) (question : Question) → Invariant old → refusal old (Read session number start question) ≡ None → Invariant (read_more old session number start question)
keeps_read old session number start question inv none =
    let a = passed (refusals.no_session old session) _ none in
    let b = passed (refusals.session_closed old session) _ a.1 in
    let c = passed (refusals.not_readable old session number) _ b.1 in
    let d = passed (wrong_start old session number start) _ c.1 in
    let known = known_reads old session number start (inv.fresh session number) d.0 in
    let next : World = read_more old session number start question in
    record {
      replayed = inv.replayed;
      chained = inv.chained;
      fresh = λ s n phase is. elim (get-insert-cases old.phases (session, number) (s, n) _ phase is) [
        | inl new ↦ subst (IsFresh next) (sym new.1) (record { begun = known.0; answers = λ inside. AreFresh-push old.log old.table start question _ (known.1 inside) })
        | inr before ↦ let f = inv.fresh s n phase before in record { begun = f.begun; answers = f.answers }
      ];
      below = inv.below;
      in_order = inv.in_order;
      one_under_way = inv.one_under_way;
      active_held = inv.active_held;
      held_under_way = inv.held_under_way;
      held_entered = inv.held_entered;
    }

-- A read phase that is dropped, or all those of a session.
pub keeps_forget : (old : World) (session number : ℕ) → Invariant old → Invariant (record old { phases = finite.remove old.phases (session, number) })
keeps_forget old session number inv = record {
  replayed = inv.replayed;
  chained = inv.chained;
  fresh = λ s n phase is. let f = inv.fresh s n phase (get-remove-from old.phases (session, number) (s, n) phase is) in record { begun = f.begun; answers = f.answers };
  below = inv.below;
  in_order = inv.in_order;
  one_under_way = inv.one_under_way;
  active_held = inv.active_held;
  held_under_way = inv.held_under_way;
  held_entered = inv.held_entered;
}

pub keeps_close : (old : World) (session number : ℕ) → Invariant old → refusal_of_close old session number ≡ None → Invariant (closed old session number)
keeps_close old session number inv none =
    let a = passed (refusals.no_session old session) _ none in
    let b = passed (refusals.session_closed old session) _ a.1 in
    let c = passed (refusals.not_due old session number) _ b.1 in
    let is_due : number ≡ due old session = eqb-true number (due old session) (tests.not_false _ (not_refused _ faults.OutOfTurn c.0)) in
    let at = latest_number session (last_folded old.base session) old.log (inv.in_order.numbered session) in
    record {
      replayed = inv.replayed;
      chained = inv.chained;
      fresh = λ s n phase is. let f = inv.fresh s n phase (get-retain-from old.phases _ (s, n) phase is) in record { begun = f.begun; answers = f.answers };
      below = inv.below;
      in_order = record {
        places = inv.in_order.places;
        numbered = inv.in_order.numbered;
        closed = λ s mark is. tests.decided (s == session)
            (λ same.
            let e : s ≡ session = eqb-true s session same in
            let m : Some number ≡ Some mark = sym (get-own old.marks session number) ∙ ap (finite.get (finite.insert old.marks session number)) (sym e) ∙ is in
            let n : number ≡ mark = cc in
            sym n ∙ is_due ∙ ap (λ k. k + 1) at ∙ ap (λ t. last_folded old.base t + length (numbers t old.log) + 1) (sym e))
            (λ other. inv.in_order.closed s mark (sym (get-other old.marks session number s (λ e. tests.clash (s == session) (eq-eqb s session e) other)) ∙ is));
      };
      one_under_way = inv.one_under_way;
      active_held = inv.active_held;
      held_under_way = inv.held_under_way;
      held_entered = inv.held_entered;
    }

-- A request that enters.
pub keeps_enter : (old : World) (session number start : ℕ) (writes : List Write) (index : ℕ) (case : Case) → IsCaseOf old session number start writes case → Invariant old → Admitted old session number start → Invariant (entered old session number start writes index case)
keeps_enter old session number start writes index case is inv may =
    let row : LogRow = entering old session number start (reads_under old session number) writes (Open index case) in
    let known = known_reads old session number start (inv.fresh session number) may.start_is in
    let means : commits (verdict case) ≡ true → (low old ≤ start) × NoneInTheWay start old.counter (questions row) writes old.log =
    λ sound. commit_means old.log old.counter (low old) start (questions row) writes (ap commits (sym (verdict-validity old.log old.counter (low old) start (questions row) writes case is)) ∙ sound) in
    record {
      replayed = settled-append old.table old.log (row ∷ []) ∙ inv.replayed ∙ sym (serial-append old.base.state old.log (row ∷ []));
      chained = Chained-push old.base.state old.log row inv.chained
          (λ sound. let m = means sound in subst (λ s. AreAnswers s row.reads) inv.replayed (valid_reads old.log old.table row start old.counter inv.below m.1 (known.1 m.0)))
          (λ sound. let m = means sound in none_active old.log row start old.counter m.1);
      fresh = λ s n phase is. IsFresh-step old (entered old session number start writes index case) (omega arith) (omega arith)
          (λ from question begun inside touched. Turns.is_touched-push from question row old.log touched) (λ from question begun. inl refl)
          phase (inv.fresh s n phase (get-remove-from old.phases (session, number) (s, n) phase is));
      below = Turns.NumbersAreBelow-push old.counter row old.log inv.below tt;
      in_order = InOrder-push old row inv.in_order refl may.turn (no_mark old session may.unmarked);
      one_under_way = Turns.OneUnderWay-push row old.log old.held inv.one_under_way inv.active_held may.free;
      active_held = Turns.ActiveAreHeld-push row old.log (sets.insert old.held session)
          (Turns.ActiveAreHeld-map old.held (sets.insert old.held session) (held-insert old.held session) old.log inv.active_held) (λ active. held-own old.held session);
      held_under_way = λ s held r is. tests.decided (session == s)
          (λ same. let e : Some row ≡ Some r = sym (latest-push s row old.log ∙ ap (λ b. if b then Some row else latest s old.log) same) ∙ is in let same_row : row ≡ r = cc in ap (λ l. is_done l.standing) (sym same_row))
          (λ other.
          let ne : s ≡ session → ⊥ = λ e. tests.clash (session == s) (eq-eqb session s (sym e)) other in
          inv.held_under_way s
          (sym (sets.contains-insert nat_cmp_total old.held session s ∙ ap (λ b. b || sets.contains old.held s) (apart s session ne)) ∙ held)
          r (sym (latest-push s row old.log ∙ ap (λ b. if b then Some row else latest s old.log) other) ∙ is));
      held_entered = λ s held. tests.decided (session == s)
          (λ same. let e : s ≡ session = sym (eqb-true session s same) in
          let one : length (numbers s (row ∷ [])) ≡ 1 = ap (λ t. length (numbers t (row ∷ []))) e ∙ ap length (numbers-own row) in
          omega (arith, numbers_pushed s old.log row, one))
          (λ other.
          let ne : s ≡ session → ⊥ = λ e. tests.clash (session == s) (eq-eqb session s (sym e)) other in
          let before = inv.held_entered s (sym (sets.contains-insert nat_cmp_total old.held session s ∙ ap (λ b. b || sets.contains old.held s) (apart s session ne)) ∙ held) in
          omega (arith, numbers_pushed s old.log row, before));
    }
