-- What each step makes of what a poll shows.
use Rattle.std.proofs.Common.{◌≡◌, ℕ, ◌+◌, ◌-◌, ◌<◌, ◌≤◌, inl, inr, Bool, true, false, not, ◌&&◌, ◌||◌, List, [], ◌∷◌, ◌++◌, drop, length, Option, None, Some, option_and_then, refl, sym, ap, subst, ◌∙◌, suc, arith}
use Rattle.std.specs.Prelude.{if◌then◌else◌, ◌==◌, nat_le}
use Rattle.std.proofs.lemmas.Bool.{eqb-true, eq-eqb, leb-true, leb-false}
use Rattle.std.specs.Cmp.{nat_cmp_total}
use Rattle.std.specs.FinSet as sets
use Rattle.std.specs.FinSet.{FinSet}
use Rattle.std.specs.FinMap.{FinMap}
use Rattle.std.specs.Ordering.{nat_cmp, eq_by_cmp}
use Rattle.occ_model.specs.State.{State}
use Rattle.occ_model.specs.Log.{LogRow, Standing, Done, last_folded, numbers, Counts}
use Rattle.occ_model.specs.World.{World, ReadPhase, phase_cmp, last_entered, entered_count, is_held, latest, turn, low, due}
use Rattle.occ_model.specs.Invariant.{Invariant}
use Rattle.occ_model.specs.Poll.{poll, settled_number, row_numbered, outcome, done_number, last_done}
use Rattle.occ_model.specs.Step as steps
use Rattle.occ_model.specs.Step.{foldable_part, shortened}
use Rattle.occ_model.specs.EndLaws.{Commits, BacksUp, Fades}
use Rattle.occ_model.specs.declared.verdict.Verdict.{Verdict}
use Rattle.occ_model.specs.declared.verdict.Verdict.TheVariants as verdicts
use Rattle.occ_model.proofs.Tests.{decided, clash, both_true}
use Rattle.occ_model.proofs.Logs.{standing_at}
use Rattle.occ_model.proofs.Turns.{Around, around, entered_turned}
use Rattle.occ_model.proofs.Orders.{Counts-front, Counts-later, numbers-append, numbers-own, numbers-other, numbers_pushed, apart, tied}
use Rattle.occ_model.proofs.Folds as folds
use Rattle.occ_model.proofs.Polls.{last_is, last_done-append}
use Rattle.occ_model.proofs.NumberedRows.{unequal, is_numbered, row_numbered-append, nobody, row_numbered-none, last_done-none, row_numbered-at, row_numbered-turned, row_numbered-pushed, first_numbered, last_done-turned, last_done-pushed, last_done-at}

-- how the transaction of a session under a number ended, as the log shows it
abbrev pub ended_at : ℕ → ℕ → List LogRow → Option Verdict
ended_at session n log = option_and_then (λ row. outcome row.standing) (row_numbered session n log)

-- of so many that entered, those that are over
abbrev over : Bool → ℕ → ℕ
over held entered = if held then entered - 1 else entered

module _ (old : World) (inv : Invariant old) (session : ℕ) where
  abbrev settles : ℕ
  settles = settled_number old session

  -- a poll by its parts
  poll_is : (new : World) (counter settled : ℕ) (ended : Option Verdict) (finished : Option ℕ)
      → new.counter ≡ counter → settled_number new session ≡ settled → ended_at session settled new.log ≡ ended → last_done session new.log ≡ finished
      → poll new session ≡ record { counter = counter; settled = settled; ended = ended; finished = finished }
  poll_is new counter settled ended finished c s e f =
      let at : ended_at session (settled_number new session) new.log ≡ ended = ap (λ n. ended_at session n new.log) s ∙ e in
      λ i. record { counter = c i; settled = s i; ended = at i; finished = f i }

  -- what is settled, by how many entered and by whether the session is held

  settled_same : (new : World) → Invariant new → entered_count new session ≡ entered_count old session → is_held new session ≡ is_held old session → settled_number new session ≡ settles
  settled_same new keeps e h =
      let l : last_entered new session ≡ last_entered old session = last_is new session keeps ∙ e ∙ sym (last_is old session inv) in
      λ i. over (h i) (l i)

  settled_begun : (new : World) → Invariant new → entered_count new session ≡ entered_count old session + 1 → is_held old session ≡ false → is_held new session ≡ true → settled_number new session ≡ settles
  settled_begun new keeps e was is =
      let n = last_is new session keeps in
      let o = last_is old session inv in
      let same : last_entered new session - 1 ≡ last_entered old session = omega (arith, n, o, e) in
      ap (λ b. over b (last_entered new session)) is ∙ same ∙ sym (ap (λ b. over b (last_entered old session)) was)

  settled_over : (new : World) → Invariant new → entered_count new session ≡ entered_count old session → is_held old session ≡ true → is_held new session ≡ false → settled_number new session ≡ settles + 1
  settled_over new keeps e was is =
      let n = last_is new session keeps in
      let o = last_is old session inv in
      let one = inv.held_entered session was in
      let more : last_entered new session ≡ last_entered old session - 1 + 1 = omega (arith, n, o, e, one) in
      ap (λ b. over b (last_entered new session)) is ∙ more ∙ sym (ap (λ b. over b (last_entered old session) + 1) was)

  settled_at_once : (new : World) → Invariant new → entered_count new session ≡ entered_count old session + 1 → is_held old session ≡ false → is_held new session ≡ false → settled_number new session ≡ settles + 1
  settled_at_once new keeps e was is =
      let n = last_is new session keeps in
      let o = last_is old session inv in
      let more : last_entered new session ≡ last_entered old session + 1 = omega (arith, n, o, e) in
      ap (λ b. over b (last_entered new session)) is ∙ more ∙ sym (ap (λ b. over b (last_entered old session) + 1) was)

  -- the number under way is above the settled one
  pub settles_held : is_held old session ≡ true → settles + 1 ≡ last_entered old session
  settles_held held =
      let o = last_is old session inv in
      let one = inv.held_entered session held in
      let more : last_entered old session - 1 + 1 ≡ last_entered old session = omega (arith, o, one) in
      ap (λ b. over b (last_entered old session) + 1) held ∙ more

  settles_free : is_held old session ≡ false → settles ≡ last_entered old session
  settles_free free = ap (λ b. over b (last_entered old session)) free

  -- no row has the number after the last one
  none_above : (n : ℕ) → last_entered old session + 1 ≤ n → row_numbered session n old.log ≡ None
  none_above n above =
      let o = last_is old session inv in
      nobody session n (last_folded old.base session) old.log (inv.in_order.numbered session) (inr (omega (arith, o)))

  -- what another session's turn, entry or end leaves

  -- the latest row of a session turns
  turn_leaves : (turning : ℕ) (row : LogRow) (standing : Standing) → latest turning old.log ≡ Some row → is_numbered session settles row ≡ false
      → (if row.session == session then done_number standing else None) ≡ (if row.session == session then done_number row.standing else None)
      → (ended_at session settles (turn turning standing old.log) ≡ ended_at session settles old.log) × (last_done session (turn turning standing old.log) ≡ last_done session old.log)
  turn_leaves turning row standing there other same =
      let a : Around turning row standing old.log = around turning old.log row standing there in (
        ap (ended_at session settles) a.now ∙ ap (option_and_then (λ r. outcome r.standing)) (row_numbered-turned session settles row standing a.later other a.before) ∙ sym (ap (ended_at session settles) a.was),
        ap (last_done session) a.now ∙ last_done-turned session row standing a.later same a.before ∙ sym (ap (last_done session) a.was),
      )

  -- a row comes in
  push_leaves : (row : LogRow) → is_numbered session settles row ≡ false → (if row.session == session then done_number row.standing else None) ≡ None
      → (ended_at session settles (old.log ++ row ∷ []) ≡ ended_at session settles old.log) × (last_done session (old.log ++ row ∷ []) ≡ last_done session old.log)
  push_leaves row other none = (
    ap (option_and_then (λ r. outcome r.standing)) (row_numbered-pushed session settles row other old.log),
    last_done-pushed session row none old.log,
  )

-- a row of another session
other_numbered : (session n : ℕ) (row : LogRow) → (row.session == session) ≡ false → is_numbered session n row ≡ false
other_numbered session n row other = ap (λ b. b && row.number == n) other

own_numbered : (session n : ℕ) (row : LogRow) → (row.number ≡ n → ⊥) → is_numbered session n row ≡ false
own_numbered session n row differs = ap (λ b. row.session == session && b) (unequal row.number n differs) ∙ never (row.session == session)
  where
    never : (b : Bool) → (b && false) ≡ false
    never true = refl
    never false = refl

is_own : (session n : ℕ) (row : LogRow) → row.session ≡ session → row.number ≡ n → is_numbered session n row ≡ true
is_own session n row s is = both_true (row.session == session) (row.number == n) (eq-eqb row.session session s) (eq-eqb row.number n is)

-- the same test of both
both_none : (b : Bool) (x y : Option ℕ) → (b ≡ true → x ≡ y) → (if b then x else None) ≡ (if b then y else None)
both_none true x y same = same refl
both_none false x y same = refl

none_where : (b : Bool) (x : Option ℕ) → (b ≡ true → x ≡ None) → (if b then x else None) ≡ None
none_where true x none = none refl
none_where false x none = refl

differs : (session other : ℕ) → (other ≡ session → ⊥) → (session == other) ≡ false
differs session other ne = unequal session other (λ e. ne (sym e))

-- ---- steps that end nothing

module _ (old : World) (inv : Invariant old) where
  -- the latest row of a held session takes another standing with no transaction number
  pub turn_still : (turning : ℕ) (row : LogRow) (standing : Standing) (table : State) → latest turning old.log ≡ Some row → is_held old turning ≡ true
      → done_number row.standing ≡ None → done_number standing ≡ None
      → Invariant (record old { log = turn turning standing old.log; table = table })
      → (session : ℕ) → poll (record old { log = turn turning standing old.log; table = table }) session ≡ poll old session
  turn_still turning row standing table there held was is keeps session =
      poll_is old inv session (record old { log = turn turning standing old.log; table = table }) old.counter (settled_number old session) (ended_at session (settled_number old session) old.log) (last_done session old.log)
      refl
      (settled_same old inv session (record old { log = turn turning standing old.log; table = table }) keeps
      (ap (λ n. last_folded old.base session + n) (entered_turned turning row standing old.log there session)) refl)
      leaves.0 leaves.1
    where
      own : Around turning row standing old.log
      own = around turning old.log row standing there

      apart_from : is_numbered session (settled_number old session) row ≡ false
      apart_from = decided (row.session == session)
          (λ same.
          let t : turning ≡ session = sym own.session_is ∙ eqb-true row.session session same in
          let h : settled_number old session + 1 ≡ last_entered old session = settles_held old inv session (subst (λ s. is_held old s ≡ true) t held) in
          let n : last_entered old session ≡ row.number = ap (λ s. last_entered old s) (sym t) ∙ ap (λ l. elim l as (λ _. ℕ) [ None ↦ last_folded old.base turning | Some r ↦ r.number ]) there in
          own_numbered session (settled_number old session) row (λ e. absurd (omega (arith, h, n))))
          (λ other. other_numbered session (settled_number old session) row other)

      leaves : (ended_at session (settled_number old session) (turn turning standing old.log) ≡ ended_at session (settled_number old session) old.log) × (last_done session (turn turning standing old.log) ≡ last_done session old.log)
      leaves = turn_leaves old inv session turning row standing there apart_from (both_none (row.session == session) (done_number standing) (done_number row.standing) (λ e. is ∙ sym was))

  -- a row enters under the number that is due, and holds its session
  pub enter_still : (row : LogRow) (phases : FinMap phase_cmp ReadPhase) → is_held old row.session ≡ false → row.number ≡ due old row.session → done_number row.standing ≡ None
      → Invariant (record old { log = old.log ++ row ∷ []; phases = phases; held = sets.insert old.held row.session })
      → (session : ℕ) → poll (record old { log = old.log ++ row ∷ []; phases = phases; held = sets.insert old.held row.session }) session ≡ poll old session
  enter_still row phases free turn_is none keeps session =
      poll_is old inv session new old.counter (settled_number old session) (ended_at session (settled_number old session) old.log) (last_done session old.log)
      refl settled leaves.0 leaves.1
    where
      new : World
      new = record old { log = old.log ++ row ∷ []; phases = phases; held = sets.insert old.held row.session }

      pushed : entered_count new session ≡ entered_count old session + length (numbers session (row ∷ []))
      pushed = let e = numbers_pushed session old.log row in omega (arith, e)

      settled : settled_number new session ≡ settled_number old session
      settled = decided (row.session == session)
          (λ same.
          let s : row.session ≡ session = eqb-true row.session session same in
          let one : length (numbers session (row ∷ [])) ≡ 1 = ap (λ t. length (numbers t (row ∷ []))) (sym s) ∙ ap length (numbers-own row) in
          let more : entered_count new session ≡ entered_count old session + 1 = pushed ∙ ap (λ n. entered_count old session + n) one in
          settled_begun old inv session new keeps more (subst (λ t. is_held old t ≡ false) s free)
          (sets.contains-insert nat_cmp_total old.held row.session session ∙ ap (λ b. b || sets.contains old.held session) (subst (λ t. eq_by_cmp nat_cmp session t ≡ true) (sym s) (tied session))))
          (λ other.
          let ne : session ≡ row.session → ⊥ = λ e. clash (row.session == session) (eq-eqb row.session session (sym e)) other in
          let none : entered_count new session ≡ entered_count old session = (let l : length (numbers session (row ∷ [])) ≡ 0 = ap length (numbers-other session row other) in omega (arith, pushed, l)) in
          settled_same old inv session new keeps none
          (sets.contains-insert nat_cmp_total old.held row.session session ∙ ap (λ b. b || sets.contains old.held session) (apart session row.session ne)))

      apart_from : is_numbered session (settled_number old session) row ≡ false
      apart_from = decided (row.session == session)
          (λ same.
          let s : row.session ≡ session = eqb-true row.session session same in
          let h : settled_number old session ≡ last_entered old session = settles_free old inv session (subst (λ t. is_held old t ≡ false) s free) in
          let n : row.number ≡ last_entered old session + 1 = turn_is ∙ ap (λ t. due old t) s in
          own_numbered session (settled_number old session) row (λ e. absurd (omega (arith, h, n))))
          (λ other. other_numbered session (settled_number old session) row other)

      leaves : (ended_at session (settled_number old session) (old.log ++ row ∷ []) ≡ ended_at session (settled_number old session) old.log) × (last_done session (old.log ++ row ∷ []) ≡ last_done session old.log)
      leaves = push_leaves old inv session row apart_from (none_where (row.session == session) (done_number row.standing) (λ e. none))

-- ---- ends

removed_own : (held : FinSet nat_cmp) (session : ℕ) → sets.contains (sets.remove held session) session ≡ false
removed_own held session = sets.contains-remove nat_cmp_total held session session ∙ ap (λ b. not b && sets.contains held session) (tied session)

removed_other : (held : FinSet nat_cmp) (session other : ℕ) → (other ≡ session → ⊥) → sets.contains (sets.remove held session) other ≡ sets.contains held other
removed_other held session other ne = sets.contains-remove nat_cmp_total held session other ∙ ap (λ b. not b && sets.contains held other) (apart other session ne)

-- the number of the latest row is the one after the settled one
latest_is_next : (old : World) (inv : Invariant old) (session : ℕ) (row : LogRow) → latest session old.log ≡ Some row → is_held old session ≡ true → row.number ≡ settled_number old session + 1
latest_is_next old inv session row there held =
    sym (ap (λ l. elim l as (λ _. ℕ) [ None ↦ last_folded old.base session | Some r ↦ r.number ]) there) ∙ sym (settles_held old inv session held)

-- no row before it has that number
before_latest : (old : World) (inv : Invariant old) (session : ℕ) (row : LogRow) (standing : Standing) (there : latest session old.log ≡ Some row) → is_held old session ≡ true
    → (a : Around session row standing old.log) → row_numbered session (settled_number old session + 1) a.before ≡ None
before_latest old inv session row standing there held a =
    subst (λ n. row_numbered session n a.before ≡ None) (latest_is_next old inv session row there held)
    (first_numbered session (last_folded old.base session) row a.before a.later (subst (λ l. Counts (suc (last_folded old.base session)) (numbers session l)) a.was (inv.in_order.numbered session)) a.session_is)

module _ (old : World) (inv : Invariant old) where
  pub finish_shows : (session : ℕ) (row : LogRow) → latest session old.log ≡ Some row → is_held old session ≡ true → done_number row.standing ≡ None
      → Invariant (steps.finished old session) → Commits session old (steps.finished old session)
  finish_shows session row there held was keeps = record {
    own = poll_is old inv session new (old.counter + 1) next (Some verdicts.Commit) (Some (old.counter + 1)) refl
        (settled_over old inv session new keeps (entered session) held (removed_own old.held session))
        (ap (option_and_then (λ r. outcome r.standing)) found)
        (ap (last_done session) a.now ∙ last_done-at session (old.counter + 1) turned a.later (last_done-none session a.later a.none_later) a.session_is refl a.before);
    others = λ other ne.
        let away : (row.session == other) ≡ false = ap (λ s. s == other) a.session_is ∙ differs session other ne in
        let leaves = turn_leaves old inv other session row standing there (other_numbered other (settled_number old other) row away)
        (both_none (row.session == other) (Some (old.counter + 1)) (done_number row.standing) (λ e. clash (row.session == other) e away)) in
        poll_is old inv other new (old.counter + 1) (settled_number old other) (ended_at other (settled_number old other) old.log) (last_done other old.log) refl
        (settled_same old inv other new keeps (entered other) (removed_other old.held session other ne))
        leaves.0 leaves.1;
  }
    where
      new : World
      new = steps.finished old session

      standing : Standing
      standing = Done (old.counter + 1)

      turned : LogRow
      turned = standing_at row (Done (old.counter + 1))

      next : ℕ
      next = settled_number old session + 1

      a : Around session row (Done (old.counter + 1)) old.log
      a = around session old.log row (Done (old.counter + 1)) there

      entered : (s : ℕ) → entered_count new s ≡ entered_count old s
      entered s = ap (λ n. last_folded old.base s + n) (entered_turned session row (Done (old.counter + 1)) old.log there s)

      found : row_numbered session next (turn session (Done (old.counter + 1)) old.log) ≡ Some turned
      found = ap (row_numbered session next) a.now
          ∙ row_numbered-at session next turned a.before a.later (before_latest old inv session row (Done (old.counter + 1)) there held a)
          (is_own session next turned a.session_is (latest_is_next old inv session row there held))

  -- a row comes in under the number that is due, and its session goes on at once
  module _ (row : LogRow) (table : State) (counter : ℕ) (phases : FinMap phase_cmp ReadPhase) (free : is_held old row.session ≡ false) (turn_is : row.number ≡ due old row.session)
      (keeps : Invariant (record old { log = old.log ++ row ∷ []; table = table; counter = counter; phases = phases })) where
    abbrev pub next_world : World
    next_world = record old { log = old.log ++ row ∷ []; table = table; counter = counter; phases = phases }

    pushed : (session : ℕ) → entered_count next_world session ≡ entered_count old session + length (numbers session (row ∷ []))
    pushed session = let e = numbers_pushed session old.log row in omega (arith, e)

    number_is : row.number ≡ settled_number old row.session + 1
    number_is = turn_is ∙ ap (λ n. n + 1) (sym (settles_free old inv row.session free))

    pub at_once_own : poll next_world row.session ≡ record {
      counter = counter;
      settled = settled_number old row.session + 1;
      ended = outcome row.standing;
      finished = elim (done_number row.standing) as (λ _. Option ℕ) [ None ↦ last_done row.session old.log | Some n ↦ Some n ];
    }
    at_once_own = poll_is old inv row.session next_world counter (settled_number old row.session + 1) (outcome row.standing)
        (elim (done_number row.standing) as (λ _. Option ℕ) [ None ↦ last_done row.session old.log | Some n ↦ Some n ]) refl
        (settled_at_once old inv row.session next_world keeps (pushed row.session ∙ ap (λ l. entered_count old row.session + length l) (numbers-own row)) free free)
        (ap (option_and_then (λ r. outcome r.standing)) (row_numbered-at row.session (settled_number old row.session + 1) row old.log []
        (none_above old inv row.session (settled_number old row.session + 1) (let e = settles_free old inv row.session free in omega (arith, e)))
        (is_own row.session (settled_number old row.session + 1) row refl number_is)))
        (last_done-append row.session old.log (row ∷ [])
        ∙ ap (λ b. elim (if b then done_number row.standing else None) as (λ _. Option ℕ) [ None ↦ last_done row.session old.log | Some n ↦ Some n ]) (eq-eqb row.session row.session refl))

    pub at_once_others : (other : ℕ) → (other ≡ row.session → ⊥) → poll next_world other ≡ record (poll old other) { counter = counter }
    at_once_others other ne =
        let away : (row.session == other) ≡ false = differs row.session other ne in
        let leaves = push_leaves old inv other row (other_numbered other (settled_number old other) row away) (none_where (row.session == other) (done_number row.standing) (λ e. clash (row.session == other) e away)) in
        let none : length (numbers other (row ∷ [])) ≡ 0 = ap length (numbers-other other row away) in
        let same : entered_count next_world other ≡ entered_count old other = (let p = pushed other in omega (arith, p, none)) in
        poll_is old inv other next_world counter (settled_number old other) (ended_at other (settled_number old other) old.log) (last_done other old.log) refl
        (settled_same old inv other next_world keeps same refl) leaves.0 leaves.1

  pub back_up_shows : (session : ℕ) → is_held old session ≡ true → Invariant (record old { held = sets.remove old.held session })
      → BacksUp session (option_and_then (λ row. outcome row.standing) (latest session old.log)) old (record old { held = sets.remove old.held session })
  back_up_shows session held keeps = record {
    own = poll_is old inv session new old.counter (settled_number old session + 1) (option_and_then (λ row. outcome row.standing) (latest session old.log)) (last_done session old.log) refl
        (settled_over old inv session new keeps refl held (removed_own old.held session))
        (ap (option_and_then (λ row. outcome row.standing)) (found (latest session old.log) refl))
        refl;
    others = λ other ne. poll_is old inv other new old.counter (settled_number old other) (ended_at other (settled_number old other) old.log) (last_done other old.log) refl
        (settled_same old inv other new keeps refl (removed_other old.held session other ne)) refl refl;
  }
    where
      new : World
      new = record old { held = sets.remove old.held session }

      found : (l : Option LogRow) → latest session old.log ≡ l → row_numbered session (settled_number old session + 1) old.log ≡ l
      found None none = row_numbered-none session (settled_number old session + 1) old.log none
      found (Some row) there =
          let a : Around session row row.standing old.log = around session old.log row row.standing there in
          ap (row_numbered session (settled_number old session + 1)) a.was
          ∙ row_numbered-at session (settled_number old session + 1) row a.before a.later (before_latest old inv session row row.standing there held a)
          (is_own session (settled_number old session + 1) row a.session_is (latest_is_next old inv session row there held))

  -- ---- a checkpoint

  pub fold_fades : Invariant (shortened old) → (session : ℕ) → Fades (poll old session) (poll (shortened old) session)
  fold_fades keeps session = record {
    counter = refl;
    settled = settled;
    ended = λ verdict is. still verdict (row_numbered session (settled_number old session) rows) refl (sym (ap (λ n. ended_at session n rows) settled) ∙ is);
    finished = λ number is. ap (last_done session) whole ∙ last_done-append session part rows ∙ ap (λ o. elim o as (λ _. Option ℕ) [ None ↦ last_done session part | Some later ↦ Some later ]) is;
  }
    where
      part : List LogRow
      part = foldable_part (low old) old.log

      rows : List LogRow
      rows = drop (length part) old.log

      whole : old.log ≡ part ++ rows
      whole = folds.part_rest (low old) old.log

      settled : settled_number (shortened old) session ≡ settled_number old session
      settled = settled_same old inv session (shortened old) keeps (sym (folds.entered_folded old.base old.marks part rows old.log whole inv.in_order session)) refl

      base : ℕ
      base = last_folded old.base session

      n : ℕ
      n = settled_number old session

      counts : Counts (suc (last_folded old.base session)) (numbers session part ++ numbers session rows)
      counts = subst (Counts (suc (last_folded old.base session))) (numbers-append session part rows)
          (subst (λ l. Counts (suc (last_folded old.base session)) (numbers session l)) whole (inv.in_order.numbered session))

      above : (row : LogRow) → row_numbered session n rows ≡ Some row → row_numbered session n part ≡ None
      above row there = decided (nat_le n (base + length (numbers session part)))
          (λ below.
          let at_most : n ≤ base + length (numbers session part) = leb-true n (base + length (numbers session part)) below in
          let e : suc base + length (numbers session part) ≡ suc (base + length (numbers session part)) = omega arith in
          let onward : Counts (suc (base + length (numbers session part))) (numbers session rows) =
          subst (λ k. Counts k (numbers session rows)) e (Counts-later (suc base) (numbers session part) (numbers session rows) counts) in
          absurd (no_row row (sym (nobody session n (base + length (numbers session part)) rows onward (inl at_most)) ∙ there)))
          (λ over. let more : base + length (numbers session part) < n = leb-false n (base + length (numbers session part)) over in
          nobody session n base part (Counts-front (suc base) (numbers session part) (numbers session rows) counts) (inr more))
        where
          no_row : (row : LogRow) → None ≡ Some row → ⊥
          no_row row e = cc

      still : (verdict : Verdict) (l : Option LogRow) → row_numbered session n rows ≡ l → ended_at session n rows ≡ Some verdict → ended_at session n old.log ≡ Some verdict
      still verdict None none is = absurd (nothing (sym (ap (option_and_then (λ r. outcome r.standing)) none) ∙ is))
        where
          nothing : None ≡ Some verdict → ⊥
          nothing e = cc
      still verdict (Some row) there is =
          ap (option_and_then (λ r. outcome r.standing)) (
          ap (row_numbered session n) whole ∙ row_numbered-append session n part rows
          ∙ ap (λ o. elim o as (λ _. Option LogRow) [ None ↦ row_numbered session n rows | Some r ↦ Some r ]) (above row there))
          ∙ is
