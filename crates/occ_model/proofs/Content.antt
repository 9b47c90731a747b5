-- Each step keeps the content of a world all right, where what its event brings is.
use Rattle.std.proofs.Common.{◌≡◌, ℕ, ◌+◌, ◌≤◌, ◌⊎◌, Bool, true, false, cond, List, [], ◌∷◌, ◌++◌, drop, length, Option, None, Some, refl, sym, ap, subst, ◌∙◌, zero, suc, inl, inr, arith, not, length-append}
use Rattle.std.specs.Prelude.{nat_le, nat_lt, ◌&&◌, ◌==◌, slice_get, MatchOption, IfSome, ℤ}
use Rattle.std.specs.List.{AllByRecursion}
use Rattle.std.proofs.lemmas.Bool.{leb-true, leb-false, ltb-false, eqb-true}
use Rattle.std.specs.Ordering.{nat_cmp, eq_by_cmp}
use Rattle.std.specs.FinMap as finite
use Rattle.std.specs.FinMap.{FinMap}
use Rattle.occ_types.specs.declared.fault.Fault.TheVariants as faults
use Rattle.occ_types.specs.declared.limits.TheConstants.{MAX_QUESTIONS, MAX_OPERATIONS}
use Rattle.occ_types.specs.Schema.{fault_if, check_question}
use Rattle.occ_types.specs.Object.{Object, object_cmp}
use Rattle.occ_types.specs.Question.{Question, One, Span}
use Rattle.occ_types.specs.Row.{Row, Int}
use Rattle.occ_model.specs.State.{State, Write, Observation, answer, put, apply}
use Rattle.occ_model.specs.Overlay.{set, own}
use Rattle.occ_model.specs.Operations.{Operation, Get, Scan, Put, Delete, Add, Progress, perform, perform_all, asked, nothing_yet, seen, number_in, held_sum}
use Rattle.occ_model.specs.Log.{LogRow, Standing, Open, Writing, Done, Back, Case, is_committed, after, serial}
use Rattle.occ_model.specs.World.{World, ReadPhase, latest, turn, reads_under, has_session, low, phase_cmp}
use Rattle.occ_model.specs.Event.{Request, Alone, Close, Event, Read, Forget, Enter, Decide, WriteOne, Finish, BackUp, SerialEnd, RunAlone, Checkpoint, Reply}
use Rattle.occ_model.specs.Refusal as refusals
use Rattle.occ_model.specs.Refusal.{refusal, refusal_of_request, refusal_of_close, refusal_of_alone}
use Rattle.occ_model.specs.Step.{Step, refused, starved, taken, Taken, entering, validity_of, read_more, entered, closed, decided, WritesOne, finished, EndsSerially, RunsAlone, foldable_part, folded_numbers, shortened}
use Rattle.occ_model.specs.Invariant.{Invariant}
use Rattle.occ_model.specs.Content.{IsSession, StateIs, WriteIs, ReadIs, RowIs, ContentIs, OperationIs, ItemIs, EventIs}
use Rattle.occ_model.specs.declared.verdict.Verdict.{Verdict}
use Rattle.occ_model.specs.declared.verdict.Verdict.TheVariants as verdicts
use Rattle.occ_model.proofs.Tests as tests
use Rattle.occ_model.proofs.States.{same, same_object, get-put}
use Rattle.occ_model.proofs.Logs.{standing_at}
use Rattle.occ_model.proofs.Turns.{Around, around}
use Rattle.occ_model.proofs.Orders.{get-own, get-other}
use Rattle.occ_model.proofs.Folds as folds
use Rattle.occ_model.proofs.Phases.{get-remove-from, get-retain-from, get-insert-cases, not_refused, known_reads}
use Rattle.occ_model.proofs.Admitted.{passed, Admitted, admitted}

-- What holds of each item of a list.
module _ {X : Type 0} (P : X → Type 0) where
  pub all_push : (xs : List X) (x : X) → AllByRecursion P xs → P x → AllByRecursion P (xs ++ x ∷ [])
  all_push [] x all last = (last, tt)
  all_push (y ∷ ys) x all last = (all.0, all_push ys x all.1 last)

  pub all_at : (before later : List X) (x : X) → AllByRecursion P (before ++ x ∷ later) → P x
  all_at [] later x all = all.0
  all_at (y ∷ ys) later x all = all_at ys later x all.1

  pub all_replace : (before later : List X) (x other : X) → P other → AllByRecursion P (before ++ x ∷ later) → AllByRecursion P (before ++ other ∷ later)
  all_replace [] later x other is all = (is, all.1)
  all_replace (y ∷ ys) later x other is all = (all.0, all_replace ys later x other is all.1)

  pub all_front : (before later : List X) → AllByRecursion P (before ++ later) → AllByRecursion P before
  all_front [] later all = tt
  all_front (y ∷ ys) later all = (all.0, all_front ys later all.1)

  pub all_later : (before later : List X) → AllByRecursion P (before ++ later) → AllByRecursion P later
  all_later [] later all = all
  all_later (y ∷ ys) later all = all_later ys later all.1

  pub all_get : (n : ℕ) (xs : List X) (x : X) → slice_get xs n ≡ Some x → AllByRecursion P xs → P x
  all_get n [] x is all = cc
  all_get zero (y ∷ ys) x is all = let e : y ≡ x = cc in subst P e all.0
  all_get (suc n) (y ∷ ys) x is all = all_get n ys x is all.1

  pub all_map : {Q : X → Type 0} → ((x : X) → P x → Q x) → (xs : List X) → AllByRecursion P xs → AllByRecursion Q xs
  all_map f [] all = tt
  all_map f (x ∷ xs) all = (f x all.0, all_map f xs all.1)

-- a place that has an item lies within the list
within : {X : Type 0} (n : ℕ) (xs : List X) (x : X) → slice_get xs n ≡ Some x → n + 1 ≤ length xs
within n [] x is = cc
within zero (y ∷ ys) x is = omega arith
within (suc n) (y ∷ ys) x is = let up = within n ys x is in omega arith

-- as many reads as operations are within the limit of questions
within_questions : (reads operations : ℕ) → reads ≤ 0 + operations → operations ≤ MAX_OPERATIONS → reads ≤ MAX_QUESTIONS
within_questions reads operations count few = omega arith

-- a session that there is
pub is_session : (world : World) (session : ℕ) → has_session world session ≡ true → IsSession world.settings.sessions session
is_session world session has =
    let both = tests.and_true (nat_le 1 session) (nat_le session world.settings.sessions) has in
    record { first = leb-true 1 session both.0; last = leb-true session world.settings.sessions both.1 }

module _ (Askable : Question → Type 0) (Storable : ℕ → Row → Type 0) where
  -- The state after a write, and after some.
  put_is : (state : State) (write : Write) → StateIs Askable Storable state → WriteIs Askable Storable write → StateIs Askable Storable (put state write)
  put_is state write are is object row found = tests.decided (same object write.0)
      (λ own.
      let e : write.0 ≡ object = sym (same_object object write.0 own) in
      let new : write.1 ≡ Some row = sym (ap (λ b. cond b write.1 (finite.get state object)) own) ∙ sym (get-put state write object) ∙ found in
      (subst (λ o. Askable (One o.0 o.1)) e is.key, subst (λ o. Storable o.0 row) e (subst (λ r. IfSome r (Storable write.0.0)) new is.row)))
      (λ other. are object row (sym (ap (λ b. cond b write.1 (finite.get state object)) other) ∙ sym (get-put state write object) ∙ found))

  apply_is : (writes : List Write) (state : State) → StateIs Askable Storable state → AllByRecursion (WriteIs Askable Storable) writes → StateIs Askable Storable (apply state writes)
  apply_is [] state are all = are
  apply_is (write ∷ writes) state are all = apply_is writes (put state write) (put_is state write are all.0) all.1

  -- What a read phase has.
  under_is : (world : World) (session number : ℕ) → ContentIs Askable Storable world → AllByRecursion (ReadIs Askable Storable) (reads_under world session number)
  under_is world session number content = go (finite.get world.phases (session, number)) (content.phases session number)
    where
      go : (p : Option ReadPhase) → ((phase : ReadPhase) → p ≡ Some phase → AllByRecursion (ReadIs Askable Storable) phase.reads)
          → AllByRecursion (ReadIs Askable Storable) (elim p as (λ _. List Observation) [ None ↦ [] | Some phase ↦ phase.reads ])
      go None known = tt
      go (Some phase) known = known phase refl

  under_few : (world : World) (session number : ℕ) → ContentIs Askable Storable world → length (reads_under world session number) ≤ MAX_QUESTIONS
  under_few world session number content = go (finite.get world.phases (session, number)) (content.few session number)
    where
      go : (p : Option ReadPhase) → ((phase : ReadPhase) → p ≡ Some phase → length phase.reads ≤ MAX_QUESTIONS)
          → length (elim p as (λ _. List Observation) [ None ↦ [] | Some phase ↦ phase.reads ]) ≤ MAX_QUESTIONS
      go None known = omega arith
      go (Some phase) known = known phase refl

  -- A row as the counter goes up, and one that stands otherwise.
  up_is : (sessions counter next : ℕ) → counter ≤ next → (rows : List LogRow) → AllByRecursion (RowIs Askable Storable sessions counter) rows → AllByRecursion (RowIs Askable Storable sessions next) rows
  up_is sessions counter next up = all_map (RowIs Askable Storable sessions counter) (λ row is. let start = is.start in let finish = is.finish in
      record { session = is.session; start = omega arith; finish = omega arith; done = is.done; few = is.few; reads = is.reads; writes = is.writes })

  turned_is : (sessions counter session : ℕ) (log : List LogRow) (row : LogRow) (standing : Standing) → latest session log ≡ Some row
      → ((done : ℕ) → standing ≡ Writing done → done ≤ length row.writes)
      → AllByRecursion (RowIs Askable Storable sessions counter) log → AllByRecursion (RowIs Askable Storable sessions counter) (turn session standing log)
  turned_is sessions counter session log row standing there few all =
      let r = around session log row standing there in
      let was = subst (AllByRecursion (RowIs Askable Storable sessions counter)) r.was all in
      let is = all_at (RowIs Askable Storable sessions counter) r.before r.later row was in
      subst (AllByRecursion (RowIs Askable Storable sessions counter)) (sym r.now)
      (all_replace (RowIs Askable Storable sessions counter) r.before r.later row (standing_at row standing)
      (record { session = is.session; start = is.start; finish = is.finish; done = few; few = is.few; reads = is.reads; writes = is.writes }) was)

  latest_is : (sessions counter session : ℕ) (log : List LogRow) (row : LogRow) → latest session log ≡ Some row → AllByRecursion (RowIs Askable Storable sessions counter) log → RowIs Askable Storable sessions counter row
  latest_is sessions counter session log row there all =
      let r = around session log row (Writing 0) there in
      all_at (RowIs Askable Storable sessions counter) r.before r.later row (subst (AllByRecursion (RowIs Askable Storable sessions counter)) r.was all)

  -- Each event.

  content_read : (old : World) (session number start : ℕ) (question : Question) → ContentIs Askable Storable old → Askable question → refusal old (Read session number start question) ≡ None → ContentIs Askable Storable (read_more old session number start question)
  content_read old session number start question content good none = record {
    log = content.log;
    marks = content.marks;
    phases = λ s n phase is. elim (get-insert-cases old.phases (session, number) (s, n) _ phase is) [
      | inl new ↦ subst (λ (p : ReadPhase). AllByRecursion (ReadIs Askable Storable) p.reads) (sym new.1)
          (all_push (ReadIs Askable Storable) (reads_under old session number) (question, answer question old.table) (under_is old session number content)
          (record { question = good; state = old.table; fits = content.table; answered = refl }))
      | inr before ↦ content.phases s n phase before
    ];
    few = λ s n phase is. elim (get-insert-cases old.phases (session, number) (s, n) _ phase is) [
      | inl new ↦ subst (λ (p : ReadPhase). length p.reads ≤ MAX_QUESTIONS) (sym new.1) more
      | inr before ↦ content.few s n phase before
    ];
    table = content.table;
    base = content.base;
    folded = content.folded;
  }
    where
      more : length (reads_under old session number ++ (question, answer question old.table) ∷ []) ≤ MAX_QUESTIONS
      more =
          let a = passed (refusals.no_session old session) _ none in
          let b = passed (refusals.session_closed old session) _ a.1 in
          let c = passed (refusals.not_readable old session number) _ b.1 in
          let d = passed (refusals.wrong_start old session number start) _ c.1 in
          let e = passed (check_question old.settings.schema question) _ d.1 in
          let f = passed (refusals.range_too_large old question) _ e.1 in
          let g = passed (refusals.questions_full old session number) _ f.1 in
          let less = leb-false MAX_QUESTIONS (length (reads_under old session number)) (not_refused _ faults.SetFull g.0) in
          let whole = length-append (reads_under old session number) ((question, answer question old.table) ∷ []) in
          omega arith

  content_close : (old : World) (session number : ℕ) → ContentIs Askable Storable old → refusal_of_close old session number ≡ None → ContentIs Askable Storable (closed old session number)
  content_close old session number content none =
      let a = passed (refusals.no_session old session) _ none in
      let there = is_session old session (tests.not_false _ (not_refused _ faults.NoSession a.0)) in
      record {
        log = content.log;
        marks = λ s mark is. tests.decided (s == session)
            (λ same. subst (IsSession old.settings.sessions) (sym (eqb-true s session same)) there)
            (λ other. content.marks s mark (sym (get-other old.marks session number s (λ e. tests.clash (s == session) (Rattle.std.proofs.lemmas.Bool.eq-eqb s session e) other)) ∙ is));
        phases = λ s n phase is. content.phases s n phase (get-retain-from old.phases _ (s, n) phase is);
        few = λ s n phase is. content.few s n phase (get-retain-from old.phases _ (s, n) phase is);
        table = content.table;
        base = content.base;
        folded = content.folded;
      }

  -- a row that enters
  row_is : (old : World) (session number start counter : ℕ) (reads : List Observation) (writes : List Write) (standing : Standing) → has_session old session ≡ true → start ≤ counter → old.counter ≤ counter
      → ((done : ℕ) → standing ≡ Writing done → done ≤ length writes) → length reads ≤ MAX_QUESTIONS → AllByRecursion (ReadIs Askable Storable) reads → AllByRecursion (WriteIs Askable Storable) writes
      → RowIs Askable Storable old.settings.sessions counter (entering old session number start reads writes standing)
  row_is old session number start counter reads writes standing there begun up done few read written =
      record { session = is_session old session there; start = begun; finish = up; done = done; few = few; reads = read; writes = written }

  content_enter : (old : World) (session number start : ℕ) (writes : List Write) (index : ℕ) (case : Case) → Invariant old → ContentIs Askable Storable old → Admitted old session number start
      → AllByRecursion (WriteIs Askable Storable) writes → ContentIs Askable Storable (entered old session number start writes index case)
  content_enter old session number start writes index case inv content may good = record {
    log = all_push (RowIs Askable Storable old.settings.sessions old.counter) old.log (entering old session number start (reads_under old session number) writes (Open index case)) content.log
        (row_is old session number start old.counter (reads_under old session number) writes (Open index case) may.exists
        (known_reads old session number start (inv.fresh session number) may.start_is).0 (omega arith) (λ done (e : Open index case ≡ Writing done). cc e) (under_few old session number content) (under_is old session number content) good);
    marks = content.marks;
    phases = λ s n phase is. content.phases s n phase (get-remove-from old.phases (session, number) (s, n) phase is);
    few = λ s n phase is. content.few s n phase (get-remove-from old.phases (session, number) (s, n) phase is);
    table = content.table;
    base = content.base;
    folded = content.folded;
  }

  content_decide : (old : World) (session : ℕ) (row : LogRow) (verdict : Verdict) → latest session old.log ≡ Some row → ContentIs Askable Storable old → ContentIs Askable Storable (record old { log = turn session (decided verdict) old.log })
  content_decide old session row verdict there content = record {
    log = turned_is old.settings.sessions old.counter session old.log row (decided verdict) there (few verdict) content.log;
    marks = content.marks;
    phases = content.phases;
    few = content.few;
    table = content.table;
    base = content.base;
    folded = content.folded;
  }
    where
      few : (v : Verdict) (done : ℕ) → decided v ≡ Writing done → done ≤ length row.writes
      few verdicts.Commit done e = let zero_is : 0 ≡ done = cc in omega arith
      few (verdicts.BackUp cause) done e = cc

  content_write : (old : World) (session done : ℕ) (row : LogRow) → latest session old.log ≡ Some row → ContentIs Askable Storable old → (reply : Reply) (new : World) → WritesOne old session row done reply new → ContentIs Askable Storable new
  content_write old session done row there content reply new writes = go (slice_get row.writes done) refl writes
    where
      few : (write : Write) → slice_get row.writes done ≡ Some write → (n : ℕ) → Writing (done + 1) ≡ Writing n → n ≤ length row.writes
      few write e n is = let same : done + 1 ≡ n = cc in let up = within done row.writes write e in omega arith

      go : (o : Option Write) → slice_get row.writes done ≡ o → MatchOption o
          ((reply ≡ Reply.NoMore) × (new ≡ old))
          (λ write. (reply ≡ Reply.Wrote write.0) × (new ≡ record old { table = put old.table write; log = turn session (Writing (done + 1)) old.log })) → ContentIs Askable Storable new
      go None e w = subst (ContentIs Askable Storable) (sym w.1) content
      go (Some write) e w = subst (ContentIs Askable Storable) (sym w.1) (record {
        log = turned_is old.settings.sessions old.counter session old.log row (Writing (done + 1)) there (few write e) content.log;
        marks = content.marks;
        phases = content.phases;
        few = content.few;
        table = put_is old.table write content.table (all_get (WriteIs Askable Storable) done row.writes write e (latest_is old.settings.sessions old.counter session old.log row there content.log).writes);
        base = content.base;
        folded = content.folded;
      })

  content_finish : (old : World) (session : ℕ) (row : LogRow) → latest session old.log ≡ Some row → ContentIs Askable Storable old → ContentIs Askable Storable (finished old session)
  content_finish old session row there content = record {
    log = turned_is old.settings.sessions (old.counter + 1) session old.log row (Done (old.counter + 1)) there (λ done (e : Done (old.counter + 1) ≡ Writing done). cc e)
        (up_is old.settings.sessions old.counter (old.counter + 1) (omega arith) old.log content.log);
    marks = content.marks;
    phases = content.phases;
    few = content.few;
    table = content.table;
    base = content.base;
    folded = content.folded;
  }

  -- a transaction that commits in the step of its entry
  content_done : (old : World) (session number start : ℕ) (reads : List Observation) (writes : List Write) (phases : FinMap phase_cmp ReadPhase) → ContentIs Askable Storable old → has_session old session ≡ true → start ≤ old.counter
      → ((k : ℕ × ℕ) (phase : ReadPhase) → finite.get phases k ≡ Some phase → finite.get old.phases k ≡ Some phase)
      → length reads ≤ MAX_QUESTIONS → AllByRecursion (ReadIs Askable Storable) reads → AllByRecursion (WriteIs Askable Storable) writes
      → ContentIs Askable Storable (record old {
        log = old.log ++ entering old session number start reads writes (Done (old.counter + 1)) ∷ [];
        phases = phases;
        table = apply old.table writes;
        counter = old.counter + 1;
      })
  content_done old session number start reads writes phases content there begun fewer few read written = record {
    log = all_push (RowIs Askable Storable old.settings.sessions (old.counter + 1)) old.log (entering old session number start reads writes (Done (old.counter + 1)))
        (up_is old.settings.sessions old.counter (old.counter + 1) (omega arith) old.log content.log)
        (row_is old session number start (old.counter + 1) reads writes (Done (old.counter + 1)) there (omega arith) (omega arith) (λ done (e : Done (old.counter + 1) ≡ Writing done). cc e) few read written);
    marks = content.marks;
    phases = λ s n phase is. content.phases s n phase (fewer (s, n) phase is);
    few = λ s n phase is. content.few s n phase (fewer (s, n) phase is);
    table = apply_is writes old.table content.table written;
    base = content.base;
    folded = content.folded;
  }

  content_serial : (old : World) (session number start : ℕ) (writes : List Write) (reply : Reply) (new : World) (valid : Verdict) → Invariant old → ContentIs Askable Storable old → Admitted old session number start
      → AllByRecursion (WriteIs Askable Storable) writes → EndsSerially old session number start writes valid reply new → ContentIs Askable Storable new
  content_serial old session number start writes reply new verdicts.Commit inv content may good ends =
      subst (ContentIs Askable Storable) (sym ends.1) (content_done old session number start (reads_under old session number) writes (finite.remove old.phases (session, number)) content may.exists
      (known_reads old session number start (inv.fresh session number) may.start_is).0 (λ k phase is. get-remove-from old.phases (session, number) k phase is) (under_few old session number content) (under_is old session number content) good)
  content_serial old session number start writes reply new (verdicts.BackUp cause) inv content may good ends =
      subst (ContentIs Askable Storable) (sym ends.1) (record {
        log = all_push (RowIs Askable Storable old.settings.sessions old.counter) old.log (entering old session number start (reads_under old session number) writes (Back cause)) content.log
            (row_is old session number start old.counter (reads_under old session number) writes (Back cause) may.exists
            (known_reads old session number start (inv.fresh session number) may.start_is).0 (omega arith) (λ done (e : Back cause ≡ Writing done). cc e) (under_few old session number content) (under_is old session number content) good);
        marks = content.marks;
        phases = λ s n phase is. content.phases s n phase (get-remove-from old.phases (session, number) (s, n) phase is);
        few = λ s n phase is. content.few s n phase (get-remove-from old.phases (session, number) (s, n) phase is);
        table = content.table;
        base = content.base;
        folded = content.folded;
      })

  -- Operations that run alone.

  set_is : (writes : List Write) (object : Object) (row : Option Row) → AllByRecursion (WriteIs Askable Storable) writes → WriteIs Askable Storable (object, row) → AllByRecursion (WriteIs Askable Storable) (set writes object row)
  set_is [] object row all is = (is, tt)
  set_is (write ∷ writes) object row all is = go (same object write.0) refl (set_is writes object row all.1 is)
    where
      go : (b : Bool) → same object write.0 ≡ b → AllByRecursion (WriteIs Askable Storable) (set writes object row) → AllByRecursion (WriteIs Askable Storable) (cond b ((write.0, row) ∷ writes) (write ∷ set writes object row))
      go true e onward = (subst (λ o. WriteIs Askable Storable (o, row)) (same_object object write.0 e) is, all.1)
      go false e onward = (all.0, onward)

  asked_is : (table : State) (question : Question) (so_far : Progress) → StateIs Askable Storable table → Askable question → AllByRecursion (ReadIs Askable Storable) so_far.reads → AllByRecursion (ReadIs Askable Storable) (asked table question so_far)
  asked_is table (One place key) so_far are good all = go (own so_far.writes (place, key))
    where
      go : (o : Option (Option Row)) → AllByRecursion (ReadIs Askable Storable) (elim o as (λ _. List Observation) [ None ↦ so_far.reads ++ (One place key, answer (One place key) table) ∷ [] | Some row ↦ so_far.reads ])
      go None = all_push (ReadIs Askable Storable) so_far.reads (One place key, answer (One place key) table) all (record { question = good; state = table; fits = are; answered = refl })
      go (Some row) = all
  asked_is table (Span place lower upper) so_far are good all =
      all_push (ReadIs Askable Storable) so_far.reads (Span place lower upper, answer (Span place lower upper) table) all (record { question = good; state = table; fits = are; answered = refl })

  -- what has been read and written so far is all right
  pub record ProgressIs (so_far : Progress) : Type 0 where
    pub reads : AllByRecursion (ReadIs Askable Storable) so_far.reads
    pub writes : AllByRecursion (WriteIs Askable Storable) so_far.writes

  perform_is : (table : State) (operation : Operation) (so_far : Progress) → StateIs Askable Storable table → OperationIs Askable Storable operation → ProgressIs so_far → ProgressIs (perform table operation so_far)
  perform_is table (Get place key) so_far are good is = record { reads = asked_is table (One place key) so_far are good is.reads; writes = is.writes }
  perform_is table (Scan place lower upper) so_far are good is = record { reads = asked_is table (Span place lower upper) so_far are good is.reads; writes = is.writes }
  perform_is table (Put place key row) so_far are good is = record { reads = is.reads; writes = set_is so_far.writes (place, key) (Some row) is.writes (record { key = good.0; row = good.1 }) }
  perform_is table (Delete place key) so_far are good is = record { reads = is.reads; writes = set_is so_far.writes (place, key) None is.writes (record { key = good; row = tt }) }
  perform_is table (Add place key n) so_far are good is = record {
    reads = asked_is table (One place key) so_far are good.0 is.reads;
    writes = set_is so_far.writes (place, key) (Some (Int (held_sum (number_in (seen table (One place key) so_far)) n) ∷ [])) is.writes
        (record { key = good.0; row = good.1 (number_in (seen table (One place key) so_far)) });
  }

  performed_is : (table : State) (operations : List Operation) (so_far : Progress) → StateIs Askable Storable table → AllByRecursion (OperationIs Askable Storable) operations → ProgressIs so_far → ProgressIs (perform_all table operations so_far)
  performed_is table [] so_far are good is = is
  performed_is table (operation ∷ operations) so_far are good is = performed_is table operations (perform table operation so_far) are good.1 (perform_is table operation so_far are good.0 is)

  asked_few : (table : State) (question : Question) (so_far : Progress) → length (asked table question so_far) ≤ length so_far.reads + 1
  asked_few table (One place key) so_far = go (own so_far.writes (place, key))
    where
      go : (o : Option (Option Row)) → length (elim o as (λ _. List Observation) [ None ↦ so_far.reads ++ (One place key, answer (One place key) table) ∷ [] | Some row ↦ so_far.reads ]) ≤ length so_far.reads + 1
      go None = let e = length-append so_far.reads ((One place key, answer (One place key) table) ∷ []) in omega arith
      go (Some row) = omega arith
  asked_few table (Span place lower upper) so_far = let e = length-append so_far.reads ((Span place lower upper, answer (Span place lower upper) table) ∷ []) in omega arith

  perform_few : (table : State) (operation : Operation) (so_far : Progress) → length (perform table operation so_far).reads ≤ length so_far.reads + 1
  perform_few table (Get place key) so_far = asked_few table (One place key) so_far
  perform_few table (Scan place lower upper) so_far = asked_few table (Span place lower upper) so_far
  perform_few table (Put place key row) so_far = omega arith
  perform_few table (Delete place key) so_far = omega arith
  perform_few table (Add place key n) so_far = asked_few table (One place key) so_far

  performed_few : (table : State) (operations : List Operation) (so_far : Progress) → length (perform_all table operations so_far).reads ≤ length so_far.reads + length operations
  performed_few table [] so_far = omega arith
  performed_few table (operation ∷ operations) so_far =
      let one = perform_few table operation so_far in
      let more = performed_few table operations (perform table operation so_far) in
      omega arith

  content_alone : (old : World) (session number : ℕ) (operations : List Operation) (reply : Reply) (new : World) → ContentIs Askable Storable old → refusal_of_alone old session number operations ≡ None
      → AllByRecursion (OperationIs Askable Storable) operations → RunsAlone old session number operations reply new → ContentIs Askable Storable new
  content_alone old session number operations reply new content none good runs =
      let a = passed (refusals.no_session old session) _ none in
      let b = passed (refusals.session_closed old session) _ a.1 in
      let c = passed (refusals.not_due old session number) _ b.1 in
      let d = passed (refusals.session_busy old session) _ c.1 in
      let e = passed (refusals.read_open old session number) _ d.1 in
      let f = passed (refusals.store_busy old) _ e.1 in
      let g = passed (refusals.numbers_exhausted number) _ f.1 in
      let h = passed (fault_if (nat_lt MAX_OPERATIONS (length operations)) faults.SetFull) _ g.1 in
      let few = ltb-false MAX_OPERATIONS (length operations) (not_refused _ faults.SetFull h.0) in
      let count = performed_few old.table operations nothing_yet in
      let done : Progress = perform_all old.table operations nothing_yet in
      let is = performed_is old.table operations nothing_yet content.table good (record { reads = tt; writes = tt }) in
      subst (ContentIs Askable Storable) (sym runs.1) (content_done old session number old.counter done.reads done.writes old.phases content
      (tests.not_false _ (not_refused _ faults.NoSession a.0)) (omega arith) (λ k phase at. at) (within_questions (length done.reads) (length operations) count few) is.reads is.writes)

  -- What is folded: the state that its committed rows make, and the sessions that it has numbers of.

  after_is : (sessions counter : ℕ) (state : State) (row : LogRow) → StateIs Askable Storable state → RowIs Askable Storable sessions counter row → StateIs Askable Storable (after state row)
  after_is sessions counter state row are is = go (is_committed row.standing)
    where
      go : (b : Bool) → StateIs Askable Storable (cond b (apply state row.writes) state)
      go true = apply_is row.writes state are is.writes
      go false = are

  serial_is : (sessions counter : ℕ) (rows : List LogRow) (state : State) → StateIs Askable Storable state → AllByRecursion (RowIs Askable Storable sessions counter) rows → StateIs Askable Storable (serial state rows)
  serial_is sessions counter [] state are all = are
  serial_is sessions counter (row ∷ rows) state are all = serial_is sessions counter rows (after state row) (after_is sessions counter state row are all.0) all.1

  folded_is : (sessions counter : ℕ) (rows : List LogRow) (last : FinMap nat_cmp ℕ) → ((session number : ℕ) → finite.get last session ≡ Some number → IsSession sessions session)
      → AllByRecursion (RowIs Askable Storable sessions counter) rows → (session number : ℕ) → finite.get (folded_numbers last rows) session ≡ Some number → IsSession sessions session
  folded_is sessions counter [] last known all = known
  folded_is sessions counter (row ∷ rows) last known all = folded_is sessions counter rows (finite.insert last row.session row.number)
      (λ s n is. tests.decided (s == row.session)
      (λ same. subst (IsSession sessions) (sym (eqb-true s row.session same)) all.0.session)
      (λ other. known s n (sym (get-other last row.session row.number s (λ e. tests.clash (s == row.session) (Rattle.std.proofs.lemmas.Bool.eq-eqb s row.session e) other)) ∙ is))) all.1

  content_fold : (old : World) → ContentIs Askable Storable old → ContentIs Askable Storable (shortened old)
  content_fold old content =
      let part = foldable_part (low old) old.log in
      let all = subst (AllByRecursion (RowIs Askable Storable old.settings.sessions old.counter)) (folds.part_rest (low old) old.log) content.log in
      let rows = all_front (RowIs Askable Storable old.settings.sessions old.counter) part (drop (length part) old.log) all in
      record {
        log = all_later (RowIs Askable Storable old.settings.sessions old.counter) part (drop (length part) old.log) all;
        marks = content.marks;
        phases = content.phases;
        few = content.few;
        table = content.table;
        base = serial_is old.settings.sessions old.counter part old.base.state content.base rows;
        folded = folded_is old.settings.sessions old.counter part old.base.last content.folded rows;
      }

  -- Every event that is taken.
  content_taken : (old : World) (event : Event) (reply : Reply) (new : World) → Invariant old → ContentIs Askable Storable old → EventIs Askable Storable event → refusal old event ≡ None → Taken old event reply new → ContentIs Askable Storable new
  content_taken old (Read session number start question) reply new inv content good none t = subst (ContentIs Askable Storable) (sym t.1) (content_read old session number start question content good none)
  content_taken old (Forget session number) reply new inv content good none t = subst (ContentIs Askable Storable) (sym t.1) (record {
    log = content.log;
    marks = content.marks;
    phases = λ s n phase is. content.phases s n phase (get-remove-from old.phases (session, number) (s, n) phase is);
    few = λ s n phase is. content.few s n phase (get-remove-from old.phases (session, number) (s, n) phase is);
    table = content.table;
    base = content.base;
    folded = content.folded;
  })
  content_taken old (Enter session (Request number start writes)) reply new inv content good none t =
      subst (ContentIs Askable Storable) (sym t.4) (content_enter old session number start writes t.0 t.1 inv content (admitted old None session number start writes none).0 good)
  content_taken old (Enter session (Alone number operations)) reply new inv content good none t = content_alone old session number operations reply new content none good t
  content_taken old (Enter session (Close number)) reply new inv content good none t = subst (ContentIs Askable Storable) (sym t.1) (content_close old session number content none)
  content_taken old (Decide session) reply new inv content good none t = subst (ContentIs Askable Storable) (sym t.6) (content_decide old session t.0 (Rattle.occ_model.specs.Validity.verdict t.2) t.3 content)
  content_taken old (WriteOne session) reply new inv content good none t = content_write old session t.1 t.0 t.2 content reply new t.4
  content_taken old (Finish session) reply new inv content good none t = subst (ContentIs Askable Storable) (sym t.5) (content_finish old session t.0 t.2 content)
  content_taken old (BackUp session) reply new inv content good none t = subst (ContentIs Askable Storable) (sym t.1) (record { log = content.log; marks = content.marks; phases = content.phases; few = content.few; table = content.table; base = content.base; folded = content.folded })
  content_taken old (SerialEnd session (Request number start writes)) reply new inv content good none t =
      content_serial old session number start writes reply new (validity_of old session number start writes) inv content (admitted old (refusals.store_busy old) session number start writes none).0 good t
  content_taken old (SerialEnd session (Alone number operations)) reply new inv content good none t = content_alone old session number operations reply new content none good t
  content_taken old (SerialEnd session (Close number)) reply new inv content good none t = subst (ContentIs Askable Storable) (sym t.1) (content_close old session number content none)
  content_taken old (RunAlone session number operations) reply new inv content good none t = content_alone old session number operations reply new content none good t
  content_taken old Checkpoint reply new inv content good none t = subst (ContentIs Askable Storable) (sym t.1) (content_fold old content)

  -- a step keeps the content all right, where what its event brings is so or the step is refused
  pub keeps_content : (old : World) (event : Event) (reply : Reply) (new : World) → Invariant old → ContentIs Askable Storable old → (refusal old event ≡ None → EventIs Askable Storable event) → Step old event reply new → ContentIs Askable Storable new
  keeps_content old event reply new inv content good (refused fault is told same) = subst (ContentIs Askable Storable) (sym same) content
  keeps_content old event reply new inv content good (starved none takes told same) = subst (ContentIs Askable Storable) (sym same) content
  keeps_content old event reply new inv content good (taken none t) = content_taken old event reply new inv content (good none) none t
