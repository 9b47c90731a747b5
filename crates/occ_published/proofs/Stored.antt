-- A store stays shown on its board, by what its publisher stores after each step.
use Rattle.std.proofs.Common.{◌≡◌, ℕ, ◌+◌, ◌-◌, ◌≤◌, true, ◌&&◌, Option, None, Some, option_and_then, refl, sym, ap, subst, ◌∙◌, arith}
use Rattle.std.specs.Prelude.{◌==◌, nat_le, unwrap_or, if◌then◌else◌}
use Rattle.std.proofs.lemmas.Bool.{eqb-true, eq-eqb, leb-true}
use Rattle.std.specs.FinSet as sets
use Rattle.std.specs.FinMap as finite
use Rattle.std.specs.Ordering.{nat_cmp}
use Rattle.occ_types.specs.declared.limits.TheConstants.{MAX_NUMBER}
use Rattle.occ_model.specs.Log.{LogRow, Back, Base, last_folded}
use Rattle.occ_model.specs.World.{Settings, World, empty_base, opened, resumed, has_session, latest}
use Rattle.occ_model.specs.Event.{BackUp, BackedUp, EndedBack}
use Rattle.occ_model.specs.Poll.{Poll, poll, outcome, row_numbered, settled_number}
use Rattle.occ_model.specs.EndLaws.{BacksUp, Fades}
use Rattle.occ_model.specs.declared.verdict.Verdict.{Verdict}
use Rattle.occ_model.specs.declared.verdict.Verdict.TheVariants as verdicts
use Rattle.occ_model.specs.declared.verdict.Cause.{Cause}
use Rattle.occ_model.proofs.Tests.{and_true, clash, decided}
use Rattle.occ_model.proofs.InSchema.{same_settings}
use Rattle.occ_model.proofs.EndsShown.{steps_show}
use Rattle.occ_board.specs.declared.words.Last.{Last}
use Rattle.occ_board.specs.declared.words.Words.{Words}
use Rattle.occ_board.specs.Words.{HasSession, continued, last_of, counted, placed, over}
use Rattle.occ_published.specs.Published.{IsShown, Published, NumbersFit, BackUpMayBeStored}
use Rattle.occ_published.specs.Laws.{BegunIsPublished, OpenedIsPublished, StepsBetweenStayPublished, CommitsAreStored, BackUpsAreStored, SerialBackUpsAreStored, CausesOfRowsMayBeTold, CausesKeptMayBeTold}
use Rattle.occ_published.proofs.Words.{placed_sessions, placed_own, placed_other, continued_length, continued_shows, continued_blank}
use Rattle.occ_published.proofs.Steps.{some_is, exists, tells_none, fades, at_session, number_ends, commits, settled_most}

-- ---- a store that begins

begun_poll : (settings : Settings) (base : Base) (counter session : ℕ)
    → poll (resumed settings base counter) session ≡ record { counter = counter; settled = last_folded base session; ended = None; finished = None }
begun_poll settings base counter session = λ i. record { counter = counter; settled = number i; ended = None; finished = None }
  where
    number : settled_number (resumed settings base counter) session ≡ last_folded base session
    number = ap (λ b. if b then last_folded base session - 1 else last_folded base session) (sets.contains-empty nat_cmp session)

pub begun_is_published : BegunIsPublished
begun_is_published settings base counter = record {
  sessions = continued_length counter (last_folded base) settings.sessions;
  counter = refl;
  shown = λ session has. subst (λ p. IsShown p (last_of (continued counter (last_folded base) settings.sessions) session)) (sym (begun_poll settings base counter session))
      (subst (IsShown (record { counter = counter; settled = last_folded base session; ended = None; finished = None })) (sym (continued_shows counter (last_folded base) settings.sessions session has))
      (record { number = refl; status = λ verdict is. cc; tn = λ number is. cc }));
}

-- an empty base has no number
pub opened_is_published : OpenedIsPublished
opened_is_published settings = subst (Published (opened settings)) (continued_blank (last_folded empty_base) settings.sessions none) (begun_is_published settings empty_base 0)
  where
    none : (session : ℕ) → last_folded empty_base session ≡ 0
    none session = ap (λ o. unwrap_or o 0) (finite.get-empty nat_cmp session)

-- ---- a step that ends nothing

shown_still : (old new : Poll) (last : Last) → Fades old new → IsShown old last → IsShown new last
shown_still old new last fade shown = record {
  number = shown.number ∙ sym fade.settled;
  status = λ verdict is. shown.status verdict (fade.ended verdict is);
  tn = λ number is. shown.tn number (fade.finished number is);
}

pub stays_published : StepsBetweenStayPublished
stays_published old new words event reply inv step none was =
    let fade = fades old new event reply (steps_show old new event reply inv step) (tells_none old new event reply step none) in
    record {
      sessions = was.sessions ∙ ap (λ (s : Settings). s.sessions) (sym (same_settings old new event reply step));
      counter = was.counter ∙ sym (fade 0).counter;
      shown = λ session has. shown_still (poll old session) (poll new session) (last_of words session) (fade session) (was.shown session has);
    }

-- ---- a step that ends a transaction

-- the words show the new store, where the session's word shows its poll, and the others' polls differ in the counter alone
store_is_shown : (old new : World) (words : Words) (counter session : ℕ) (last : Last) → new.settings ≡ old.settings → HasSession words session → counter ≡ new.counter
    → IsShown (poll new session) last → ((other : ℕ) → (other ≡ session → ⊥) → Fades (record (poll old other) { counter = new.counter }) (poll new other)) → Published old words
    → Published new (placed (counted words counter) session last)
store_is_shown old new words counter session last same has counts own others was = record {
  sessions = placed_sessions (counted words counter) session last ∙ was.sessions ∙ ap (λ (s : Settings). s.sessions) (sym same);
  counter = counts;
  shown = λ other there.
      let before : HasSession words other = (there.0, subst (λ n. other ≤ n) (placed_sessions (counted words counter) session last) there.1) in
      decided (other == session)
      (λ e.
      let is : other ≡ session = eqb-true other session e in
      subst (λ s. IsShown (poll new s) (last_of (placed (counted words counter) session last) s)) (sym is) (subst (IsShown (poll new session)) (sym (placed_own (counted words counter) session last has)) own))
      (λ e.
      let differs : other ≡ session → ⊥ = λ is. clash (other == session) (eq-eqb other session is) e in
      subst (IsShown (poll new other)) (sym (placed_other (counted words counter) session other last has.0 before.0 differs))
      (shown_still (record (poll old other) { counter = new.counter }) (poll new other) (last_of words other) (others other differs)
      (let shown = was.shown other before in record { number = shown.number; status = shown.status; tn = shown.tn })));
}

same_fades : (old new : Poll) → new ≡ old → Fades old new
same_fades old new same = subst (Fades old) (sym same) (record { counter = refl; settled = refl; ended = λ verdict is. is; finished = λ number is. is })

-- the board has a word for a session of the store
has_word : (old : World) (words : Words) (session : ℕ) → has_session old session ≡ true → Published old words → HasSession words session
has_word old words session there was =
    let both = and_true (nat_le 1 session) (nat_le session old.settings.sessions) there in
    let from : 1 ≤ session = leb-true 1 session both.0 in
    let to : session ≤ old.settings.sessions = leb-true session old.settings.sessions both.1 in
    let words_are = was.sessions in
    (omega arith, omega arith)

-- the number that is over now has room
number_fits : (old new : World) (words : Words) (session : ℕ) → new.settings ≡ old.settings → has_session old session ≡ true → NumbersFit new → Published old words → HasSession words session
    → (poll new session).settled ≡ settled_number old session + 1 → (last_of words session).number + 1 ≤ MAX_NUMBER
number_fits old new words session same there room was has more =
    let shown = (was.shown session has).number in
    let most = settled_most new session in
    let bound = room.numbers session (ap (λ (s : Settings). nat_le 1 session && nat_le session s.sessions) same ∙ there) in
    omega arith

pub commits_are_stored : CommitsAreStored
commits_are_stored old new words event reply session tn inv step of told room was number next =
    let commit = commits old new event reply session tn of (steps_show old new event reply inv step) told in
    let there : has_session old session ≡ true = exists old new event reply session step of (number_ends reply tn told) in
    let same : new.settings ≡ old.settings = same_settings old new event reply step in
    let has : HasSession words session = has_word old words session there was in
    let counter_is : new.counter ≡ old.counter + 1 = ap (λ (p : Poll). p.counter) commit.1.own in
    let more : (poll new session).settled ≡ settled_number old session + 1 = ap (λ (p : Poll). p.settled) commit.1.own in
    let fits = number_fits old new words session same there room was has more in
    let words_count = was.counter in
    let bound = room.counter in
    let tn_is = commit.0 in
    let shown = was.shown session has in
    let number_is : number ≡ (poll new session).settled = next ∙ ap (λ n. n + 1) shown.number ∙ sym more in
    let own : IsShown (poll new session) (record { number = number; status = Some verdicts.Commit; tn = tn }) = record {
      number = number_is;
      status = λ verdict is. sym (ap (λ (p : Poll). p.ended) commit.1.own) ∙ is;
      tn = λ n is. some_is tn n (ap Some tn_is ∙ sym (ap (λ (p : Poll). p.finished) commit.1.own) ∙ is);
    } in
    record {
      has = has;
      number_is = next;
      number_fits = subst (λ n. n ≤ MAX_NUMBER) (sym next) fits;
      counter_rises = omega arith;
      counter_fits = omega arith;
      published = store_is_shown old new words tn session (record { number = number; status = Some verdicts.Commit; tn = tn }) same has (tn_is ∙ sym counter_is) own
          (λ other differs. same_fades (record (poll old other) { counter = new.counter }) (poll new other)
          (commit.1.others other differs ∙ ap (λ n. record (poll old other) { counter = n }) (sym counter_is)))
          was;
    }

-- what is shown after a back-up, under any cause that may be told
back_up_is_stored : (old new : World) (words : Words) (session number : ℕ) (ended : Option Verdict) → new.settings ≡ old.settings → has_session old session ≡ true → NumbersFit new → Published old words
    → number ≡ settled_number old session + 1 → BacksUp session ended old new → BackUpMayBeStored words session number new
back_up_is_stored old new words session number ended same there room was number_is back =
    let has : HasSession words session = has_word old words session there was in
    let counter_is : new.counter ≡ old.counter = ap (λ (p : Poll). p.counter) back.own in
    let more : (poll new session).settled ≡ settled_number old session + 1 = ap (λ (p : Poll). p.settled) back.own in
    let fits = number_fits old new words session same there room was has more in
    let shown = was.shown session has in
    let next : number ≡ (last_of words session).number + 1 = number_is ∙ ap (λ n. n + 1) (sym shown.number) in
    record {
      has = has;
      number_is = next;
      number_fits = subst (λ n. n ≤ MAX_NUMBER) (sym next) fits;
      published = λ cause may. store_is_shown old new words words.counter session (over words.counter (last_of words session) number (verdicts.BackUp cause)) same has (was.counter ∙ sym counter_is)
          (record {
            number = number_is ∙ sym more;
            status = λ verdict is. ap Some (sym (may verdict is));
            tn = λ n is. shown.tn n (sym (ap (λ (p : Poll). p.finished) back.own) ∙ is);
          })
          (λ other differs. same_fades (record (poll old other) { counter = new.counter }) (poll new other)
          (back.others other differs ∙ ap (λ n. record (poll old other) { counter = n }) (sym counter_is)))
          was;
    }

pub back_ups_are_stored : BackUpsAreStored
back_ups_are_stored old new words event session number inv step of room was =
    let ended : Option Verdict = option_and_then (λ row. outcome row.standing) (latest session old.log) in
    let shows = at_session event session
    (λ s. (number ≡ settled_number old s + 1) × BacksUp s (option_and_then (λ row. outcome row.standing) (latest s old.log)) old new) of
    (steps_show old new event (BackedUp number) inv step) in
    back_up_is_stored old new words session number ended (same_settings old new event (BackedUp number) step) (exists old new event (BackedUp number) session step of refl) room was shows.0 shows.1

pub serial_back_ups_are_stored : SerialBackUpsAreStored
serial_back_ups_are_stored old new words event session cause inv step of room was number next =
    let back = at_session event session (λ s. BacksUp s (Some (verdicts.BackUp cause)) old new) of (steps_show old new event (EndedBack cause) inv step) in
    let there : has_session old session ≡ true = exists old new event (EndedBack cause) session step of refl in
    let shown = was.shown session (has_word old words session there was) in (
      back_up_is_stored old new words session number (Some (verdicts.BackUp cause)) (same_settings old new event (EndedBack cause) step) there room was
          (next ∙ ap (λ n. n + 1) shown.number) back,
      λ verdict is. sym (some_is (verdicts.BackUp cause) verdict (sym (ap (λ (p : Poll). p.ended) back.own) ∙ is)),
    )

-- ---- the cause of a back-up

-- what a row says that stands as backed up
told_by : (cause : Cause) (found : Option LogRow) → ((row : LogRow) → found ≡ Some row → row.standing ≡ Back cause) → (verdict : Verdict)
    → option_and_then (λ row. outcome row.standing) found ≡ Some verdict → verdict ≡ verdicts.BackUp cause
told_by cause None stands verdict is = cc
told_by cause (Some row) stands verdict is = some_is verdict (verdicts.BackUp cause) (sym is ∙ ap outcome (stands row refl))

pub causes_of_rows_may_be_told : CausesOfRowsMayBeTold
causes_of_rows_may_be_told old new event session number cause inv step of stands verdict is =
    let shows = at_session event session
    (λ s. (number ≡ settled_number old s + 1) × BacksUp s (option_and_then (λ row. outcome row.standing) (latest s old.log)) old new) of
    (steps_show old new event (BackedUp number) inv step) in
    let number_is : settled_number new session ≡ number = ap (λ (p : Poll). p.settled) shows.1.own ∙ sym shows.0 in
    told_by cause (row_numbered session number new.log) stands verdict (ap (λ n. option_and_then (λ row. outcome row.standing) (row_numbered session n new.log)) (sym number_is) ∙ is)

pub causes_kept_may_be_told : CausesKeptMayBeTold
causes_kept_may_be_told old new session number cause inv step waits verdict is =
    let shows = steps_show old new (BackUp session) (BackedUp number) inv step in
    told_by cause (latest session old.log) waits.stands verdict (sym (ap (λ (p : Poll). p.ended) shows.1.own) ∙ is)
