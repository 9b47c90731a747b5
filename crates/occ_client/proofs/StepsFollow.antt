-- Which step can follow which: from the entry of a request to its end.
use Rattle.std.proofs.Common.{◌≡◌, ℕ, zero, suc, ◌+◌, ◌-◌, ◌<◌, ◌≤◌, Bool, true, false, not, nat_lt, List, [], ◌∷◌, Ok, length, length-drop, Option, None, Some, refl, sym, ap, subst, ◌∙◌, arith, MatchOption}
use Rattle.std.specs.Prelude.{if◌then◌else◌, slice_get}
use Rattle.std.proofs.lemmas.Bool.{eq-eqb}
use Rattle.std.proofs.lemmas.Bool.Decides.{nat_tests}
use Rattle.std.proofs.lemmas.Option.{slice_get_within}
use Rattle.std.proofs.Math.ListN.{drop_of_length-le}
use Rattle.occ_types.specs.declared.fault.Fault.{Fault}
use Rattle.occ_types.specs.declared.fault.Fault.TheVariants as faults
use Rattle.occ_types.specs.Object.{Object}
use Rattle.occ_types.specs.Schema.{fault_if, first_fault}
use Rattle.occ_model.specs.State.{Write, put}
use Rattle.occ_model.specs.Log.{LogRow, Open, Writing, Back, is_open, is_back, rest, remaining}
use Rattle.occ_model.specs.Validity.{verdict}
use Rattle.occ_model.specs.World.{World, active_count, has_session, is_held, latest, turn, reads_under, last_entered}
use Rattle.occ_model.specs.Event.{Request, Event, Enter, Decide, WriteOne, Finish, BackUp, SerialEnd, Reply, Refused, Entered, Decided, Wrote, NoMore, Finished, BackedUp}
use Rattle.occ_model.specs.Refusal as refusals
use Rattle.occ_model.specs.Refusal.{refusal, takes_memory}
use Rattle.occ_model.specs.Step.{Step, refused, starved, taken, entering}
use Rattle.occ_model.specs.EndLaws.{IsToBackUp}
use Rattle.occ_model.specs.declared.verdict.Verdict.{Verdict}
use Rattle.occ_model.specs.declared.verdict.Verdict.TheVariants as verdicts
use Rattle.occ_model.specs.declared.verdict.Cause.{Cause}
use Rattle.occ_model.proofs.Logs.{standing_at}
use Rattle.occ_model.proofs.Turns.{Around, around, latest-at, latest-push}
use Rattle.occ_model.proofs.Admitted.{admitted, passed}
use Rattle.occ_model.proofs.Arrivals.{held-own}
use Rattle.occ_model.proofs.RowsStay.{causes_are_told}
use Rattle.occ_sets.specs.Sets.{Copied}
use Rattle.occ_client.specs.Clients.{handed_reply, is_stopped}
use Rattle.occ_client.specs.Ends.{writes_left, is_refusal, WritesNext, WritesOut, EndsBySteps, EndsBeside, Ends}
use Rattle.occ_client.specs.declared.ending.End.TheVariants as ends
use Rattle.occ_client.specs.declared.ending.Handed.{Handed}
use Rattle.occ_client.specs.declared.ending.Handed.TheVariants as handed

differ_entered : {A : Type 0} (place index : ℕ) (fault : Fault) → Entered place index ≡ Refused fault → A
differ_entered place index fault e = cc

differ_decided : {A : Type 0} (verdict : Verdict) (fault : Fault) → Decided verdict ≡ Refused fault → A
differ_decided verdict fault e = cc

differ_wrote : {A : Type 0} (object : Object) (fault : Fault) → Wrote object ≡ Refused fault → A
differ_wrote object fault e = cc

differ_no_more : {A : Type 0} (fault : Fault) → NoMore ≡ Refused fault → A
differ_no_more fault e = cc

differ_backed : {A : Type 0} (number : ℕ) (fault : Fault) → BackedUp number ≡ Refused fault → A
differ_backed number fault e = cc

differ_finished : {A : Type 0} (tn : ℕ) (fault : Fault) → Finished tn ≡ Refused fault → A
differ_finished tn fault e = cc

-- the guards of a row that is under way
guards : (known held : Bool) (test last : Option Fault) → known ≡ true → held ≡ true → test ≡ None → last ≡ None
    → first_fault (fault_if (not known) faults.NoSession ∷ fault_if (not held) faults.NothingEntered ∷ test ∷ last ∷ []) ≡ None
guards known held test last k h t l =
    ap (λ b. first_fault (fault_if (not b) faults.NoSession ∷ fault_if (not held) faults.NothingEntered ∷ test ∷ last ∷ [])) k
    ∙ ap (λ b. first_fault (fault_if (not b) faults.NothingEntered ∷ test ∷ last ∷ [])) h
    ∙ ap (λ o. first_fault (o ∷ last ∷ [])) t
    ∙ ap (λ o. first_fault (o ∷ [])) l

-- a request that has entered can be decided
pub can_be_decided : (old new : World) (session number start place index : ℕ) (writes : List Write)
    → Step old (Enter session (Request number start writes)) (Entered place index) new → refusal new (Decide session) ≡ None
can_be_decided old new session number start place index writes (refused fault is told same) = differ_entered place index fault told
can_be_decided old new session number start place index writes (starved none takes told same) = differ_entered place index faults.Memory told
can_be_decided old new session number start place index writes (taken none t) =
    let may = (admitted old None session number start writes none).0 in
    let row : LogRow = entering old session number start (reads_under old session number) writes (Open t.0 t.1) in
    let at : latest session new.log ≡ Some row =
    ap (λ w. latest session w.log) t.4 ∙ latest-push session row old.log
    ∙ ap (λ b. if b then Some row else latest session old.log) (eq-eqb session session refl) in
    ap (λ b. first_fault (fault_if (not b) faults.NoSession ∷ fault_if (not (is_held new session)) faults.NothingEntered ∷ fault_if (not (refusals.row_is_open new session)) faults.AlreadyDecided ∷ []))
    (ap (λ w. has_session w session) t.4 ∙ may.exists)
    ∙ ap (λ b. first_fault (fault_if (not b) faults.NothingEntered ∷ fault_if (not (refusals.row_is_open new session)) faults.AlreadyDecided ∷ []))
    (ap (λ w. is_held w session) t.4 ∙ held-own old.held session)
    ∙ ap (λ l. first_fault (fault_if (not (elim l as (λ _. Bool) [ None ↦ false | Some row ↦ is_open row.standing ])) faults.AlreadyDecided ∷ [])) at

-- what can be decided is decided
pub is_decided : {A : Type 0} (old new : World) (session : ℕ) (fault : Fault) → refusal old (Decide session) ≡ None → Step old (Decide session) (Refused fault) new → A
is_decided old new session fault none (refused other is told same) = cc
is_decided old new session fault none (starved none' takes told same) = cc
is_decided old new session fault none (taken none' t) = differ_decided (verdict t.2) fault (sym t.5)

-- what was decided to be backed up can be
pub can_be_backed_up : (old new : World) (session : ℕ) (cause : Cause) → Step old (Decide session) (Decided (verdicts.BackUp cause)) new → refusal new (BackUp session) ≡ None
can_be_backed_up old new session cause step = go step (causes_are_told old new session cause step)
  where
    back : (l : Option LogRow) → ((row : LogRow) → l ≡ Some row → row.standing ≡ Back cause)
        → (fault_if (elim l as (λ _. Bool) [ None ↦ false | Some row ↦ is_open row.standing ]) faults.NotDecided ≡ None)
        × (fault_if (not (elim l as (λ _. Bool) [ None ↦ true | Some row ↦ is_back row.standing ])) faults.AlreadyDecided ≡ None)
    back None stands = (refl, refl)
    back (Some row) stands = (
      ap (λ s. fault_if (is_open s) faults.NotDecided) (stands row refl),
      ap (λ s. fault_if (not (is_back s)) faults.AlreadyDecided) (stands row refl),
    )

    known : Step old (Decide session) (Decided (verdicts.BackUp cause)) new → has_session new session ≡ true
    known (refused fault is told same) = differ_decided (verdicts.BackUp cause) fault told
    known (starved none takes told same) = cc
    known (taken none t) =
        let a = passed (refusals.no_session old session) (refusals.nothing_entered old session ∷ fault_if (not (refusals.row_is_open old session)) faults.AlreadyDecided ∷ []) none in
        ap (λ w. has_session w session) t.6 ∙ exists (has_session old session) a.0
      where
        exists : (b : Bool) → fault_if (not b) faults.NoSession ≡ None → b ≡ true
        exists true e = refl
        exists false e = cc

    go : Step old (Decide session) (Decided (verdicts.BackUp cause)) new → IsToBackUp session cause new → refusal new (BackUp session) ≡ None
    go step waits =
        let b = back (latest session new.log) waits.stands in
        guards (has_session new session) (is_held new session) _ _ (known step) waits.held b.0 b.1

-- and is
pub is_backed_up : {A : Type 0} (old new : World) (session : ℕ) (fault : Fault) → refusal old (BackUp session) ≡ None → Step old (BackUp session) (Refused fault) new → A
is_backed_up old new session fault none (refused other is told same) = cc
is_backed_up old new session fault none (starved none' takes told same) = cc
is_backed_up old new session fault none (taken none' t) = differ_backed (last_entered old session) fault (sym t.0)

-- a single write, where one was left, leaves one less
one_less : (session done : ℕ) (row : LogRow) (log : List LogRow) → latest session log ≡ Some row → row.standing ≡ Writing done → done < length row.writes
    → (elim (latest session (turn session (Writing (done + 1)) log)) as (λ _. ℕ) [ None ↦ 0 | Some row ↦ length (rest row) ])
    < (elim (latest session log) as (λ _. ℕ) [ None ↦ 0 | Some row ↦ length (rest row) ])
one_less session done row log there stands left =
    let a : Around session row (Writing (done + 1)) log = around session log row (Writing (done + 1)) there in
    let now : latest session (turn session (Writing (done + 1)) log) ≡ Some (standing_at row (Writing (done + 1))) =
    ap (latest session) a.now ∙ latest-at session (standing_at row (Writing (done + 1))) a.before a.later a.none_later a.session_is in
    let after : (elim (latest session (turn session (Writing (done + 1)) log)) as (λ _. ℕ) [ None ↦ 0 | Some row ↦ length (rest row) ]) ≡ length row.writes - (done + 1) =
    ap (λ l. elim l as (λ _. ℕ) [ None ↦ 0 | Some row ↦ length (rest row) ]) now ∙ length-drop (done + 1) row.writes in
    let before : (elim (latest session log) as (λ _. ℕ) [ None ↦ 0 | Some row ↦ length (rest row) ]) ≡ length row.writes - done =
    ap (λ l. elim l as (λ _. ℕ) [ None ↦ 0 | Some row ↦ length (rest row) ]) there ∙ ap (λ s. length (remaining row.writes s)) stands ∙ length-drop done row.writes in
    less _ _ (length row.writes) done after before left
  where
    less : (x y n d : ℕ) → x ≡ n - (d + 1) → y ≡ n - d → d < n → x < y
    less x y n d p q h = omega arith

pub writes_one_less : (old new : World) (session : ℕ) (object : Object) → Step old (WriteOne session) (Wrote object) new → writes_left new session < writes_left old session
writes_one_less old new session object (refused fault is told same) = differ_wrote object fault told
writes_one_less old new session object (starved none takes told same) = differ_wrote object faults.Memory told
writes_one_less old new session object (taken none t) = go (slice_get t.0.writes t.1) refl t.4
  where
    go : (w : Option Write) → slice_get t.0.writes t.1 ≡ w → MatchOption w ((Wrote object ≡ NoMore) × (new ≡ old))
        (λ write. (Wrote object ≡ Wrote write.0) × (new ≡ record old { table = put old.table write; log = turn session (Writing (t.1 + 1)) old.log }))
        → writes_left new session < writes_left old session
    go None none m = cc
    go (Some write) there m =
        subst (λ w. writes_left w session < writes_left old session) (sym m.1)
        (one_less session t.1 t.0 old.log t.2 t.3 (slice_get_within t.0.writes t.1 write there))

-- a write phase of which no single write is left can finish
pub can_finish : (old new : World) (session : ℕ) → Step old (WriteOne session) NoMore new → refusal new (Finish session) ≡ None
can_finish old new session (refused fault is told same) = differ_no_more fault told
can_finish old new session (starved none takes told same) = differ_no_more faults.Memory told
can_finish old new session (taken none t) = go (slice_get t.0.writes t.1) refl t.4
  where
    a : (refusals.no_session old session ≡ None) × (first_fault (refusals.nothing_entered old session ∷ refusals.not_decided old session ∷ fault_if (refusals.row_is_back old session) faults.AlreadyDecided ∷ []) ≡ None)
    a = passed (refusals.no_session old session) _ none

    b : (refusals.nothing_entered old session ≡ None) × (first_fault (refusals.not_decided old session ∷ fault_if (refusals.row_is_back old session) faults.AlreadyDecided ∷ []) ≡ None)
    b = passed (refusals.nothing_entered old session) _ a.1

    done : {last : Option Fault} → last ≡ None → first_fault (refusals.no_session old session ∷ refusals.nothing_entered old session ∷ refusals.not_decided old session
        ∷ fault_if (refusals.row_is_back old session) faults.AlreadyDecided ∷ last ∷ []) ≡ None
    done {last = last} e =
        let c = passed (refusals.not_decided old session) (fault_if (refusals.row_is_back old session) faults.AlreadyDecided ∷ []) b.1 in
        let d = passed (fault_if (refusals.row_is_back old session) faults.AlreadyDecided) [] c.1 in
        ap (λ o. first_fault (o ∷ refusals.nothing_entered old session ∷ refusals.not_decided old session ∷ fault_if (refusals.row_is_back old session) faults.AlreadyDecided ∷ last ∷ [])) a.0
        ∙ ap (λ o. first_fault (o ∷ refusals.not_decided old session ∷ fault_if (refusals.row_is_back old session) faults.AlreadyDecided ∷ last ∷ [])) b.0
        ∙ ap (λ o. first_fault (o ∷ fault_if (refusals.row_is_back old session) faults.AlreadyDecided ∷ last ∷ [])) c.0
        ∙ ap (λ o. first_fault (o ∷ last ∷ [])) d.0
        ∙ ap (λ o. first_fault (o ∷ [])) e

    none_left : slice_get t.0.writes t.1 ≡ None → length t.0.writes ≤ t.1
    none_left none = past t.0.writes t.1 none
      where
        past : {X : Type 0} (xs : List X) (n : ℕ) → slice_get xs n ≡ None → length xs ≤ n
        past [] n e = omega arith
        past (x ∷ xs) zero e = cc
        past (x ∷ xs) (suc n) e = let h : length xs ≤ n = past xs n e in omega arith

    go : (w : Option Write) → slice_get t.0.writes t.1 ≡ w → MatchOption w ((NoMore ≡ NoMore) × (new ≡ old))
        (λ write. (NoMore ≡ Wrote write.0) × (new ≡ record old { table = put old.table write; log = turn session (Writing (t.1 + 1)) old.log }))
        → refusal new (Finish session) ≡ None
    go None ended m =
        let nothing : rest t.0 ≡ [] = ap (remaining t.0.writes) t.3 ∙ drop_of_length-le t.0.writes (none_left ended) in
        let few : refusals.has_writes_left old session ≡ false =
        ap (λ l. elim l as (λ _. Bool) [ None ↦ false | Some row ↦ nat_lt 0 (length (rest row)) ]) t.2 ∙ ap (λ l. nat_lt 0 (length l)) nothing in
        subst (λ w. refusal w (Finish session) ≡ None) (sym m.1) (done (ap (λ b. fault_if b faults.WritesLeft) few))
    go (Some write) there m = cc

pub is_finished : {A : Type 0} (old new : World) (session : ℕ) (fault : Fault) → refusal old (Finish session) ≡ None → Step old (Finish session) (Refused fault) new → A
is_finished old new session fault none (refused other is told same) = cc
is_finished old new session fault none (starved none' takes told same) = cc
is_finished old new session fault none (taken none' t) = differ_finished (old.counter + 1) fault (sym t.4)

-- ---- the write phase

-- a single write, and then the rest
pub one_more : (session : ℕ) (object : Object) (old next : World) → Step old (WriteOne session) (Wrote object) next
    → (reply : Reply) (new : World) → WritesOut session next reply new → WritesOut session old reply new
one_more session object old next step reply new rest = record {
  objects = object ∷ rest.objects;
  last = rest.last;
  each = (next, step, rest.each);
  ends = rest.ends;
}

-- none is left, and it finishes
pub finishes : (session tn : ℕ) (old same new : World) → Step old (WriteOne session) NoMore same → Step same (Finish session) (Finished tn) new → WritesOut session old (Finished tn) new
finishes session tn old same new nothing step = record {
  objects = [];
  last = same;
  each = no_move nothing;
  ends = step;
}
  where
    no_move : Step old (WriteOne session) NoMore same → same ≡ old
    no_move (refused fault is told e) = e
    no_move (starved none takes told e) = e
    no_move (taken none t) = go (slice_get t.0.writes t.1) t.4
      where
        go : (w : Option Write) → MatchOption w ((NoMore ≡ NoMore) × (same ≡ old))
            (λ write. (NoMore ≡ Wrote write.0) × (same ≡ record old { table = put old.table write; log = turn session (Writing (t.1 + 1)) old.log })) → same ≡ old
        go None m = m.1
        go (Some write) m = cc

-- it stops at once
pub stops : (session : ℕ) (fault : Fault) (old new : World) → Step old (WriteOne session) (Refused fault) new → WritesOut session old (Refused fault) new
stops session fault old new step = record { objects = []; last = old; each = refl; ends = step }

-- whether a single write was left
pub none_left : (session : ℕ) (old new : World) (more : Bool) → more ≡ false → WritesNext session old (Ok more) new → Step old (WriteOne session) NoMore new
none_left session old new true e step = cc
none_left session old new false e step = step

pub one_left : (session : ℕ) (old new : World) (more : Bool) → more ≡ true → WritesNext session old (Ok more) new → (object : Object) × Step old (WriteOne session) (Wrote object) new
one_left session old new true e step = step
one_left session old new false e step = cc

-- ---- the end

-- a refusal for the same fault
pub refused_so : (old : World) (event : Event) (new : World) (fault other : Fault) → fault ≡ other → Step old event (Refused other) new → Step old event (Refused fault) new
refused_so old event new fault other same step = subst (λ (f : Fault). Step old event (Refused f) new) (sym same) step

-- others are active
pub beside : (session : ℕ) (copy : Copied) (old : World) (stopped : Bool) (reply : Reply) (new : World) (n : ℕ) → n ≡ active_count old → 0 < n
    → EndsBySteps session copy old stopped reply new → Ends session copy old stopped reply new
beside session copy old stopped reply new n is some ends = subst (λ (b : Bool). EndsBeside b session copy old stopped reply new) (sym (some_active n (active_count old) is some)) ends
  where
    some_active : (n m : ℕ) → n ≡ m → 0 < n → nat_lt 0 m ≡ true
    some_active n m is some = grind (arith, nat_tests)

-- none is
pub alone : (session : ℕ) (copy : Copied) (old : World) (reply : Reply) (new : World) (n : ℕ) → n ≡ active_count old → n ≤ 0
    → Step old (SerialEnd session (Request copy.number copy.start copy.writes)) reply new → Ends session copy old false reply new
alone session copy old reply new n is none step = subst (λ (b : Bool). EndsBeside b session copy old false reply new) (sym (none_active n (active_count old) is none)) (step, refl)
  where
    none_active : (n m : ℕ) → n ≡ m → n ≤ 0 → nat_lt 0 m ≡ false
    none_active n m is none = grind (arith, nat_tests)

-- what came of a request has stopped where its reply is a refusal
pub stopped_is : (came : Handed) → is_stopped came ≡ is_refusal (handed_reply came)
stopped_is (handed.Ended (ends.Committed tn)) = refl
stopped_is (handed.Ended (ends.BackedUp cause)) = refl
stopped_is (handed.Stopped fault) = refl
