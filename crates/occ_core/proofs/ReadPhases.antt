-- What the reads of the core have to show, over plain parts.
use Rattle.std.proofs.Common.{◌≡◌, ℕ, zero, suc, ◌-◌, ◌<◌, Bool, not, ◌&&◌, List, [], ◌∷◌, length, Option, None, Some, Result, Ok, Err, false, ◌≤◌, refl, sym, ap, subst, ◌∙◌, inl, inr, arith, Vec, slice_get, nat_le, nat_lt, ◌++◌}
use Rattle.std.proofs.lemmas.Bool.{leb-true, ltb-true}
use Rattle.std.specs.Prelude.{IfSome}
use Rattle.std.specs.Result.{is_err, result_err}
use Rattle.std.specs.FinMap as finite
use Rattle.std.specs.FinMap.{FinMap}
use Rattle.occ_types.specs.declared.fault.Fault.{Fault}
use Rattle.occ_types.specs.declared.fault.Fault.TheVariants as faults
use Rattle.occ_types.specs.declared.limits.TheConstants.{MAX_QUESTIONS, MAX_ANSWER_ROWS}
use Rattle.occ_types.specs.Schema.{fault_if, first_fault, check_question}
use Rattle.occ_types.specs.Key.{Key}
use Rattle.occ_types.specs.Row.{Row}
use Rattle.occ_types.specs.PlainData.{key_of}
use Rattle.occ_types.specs.declared.keys.Key as code_key
use Rattle.occ_types.specs.Question.{Question, One}
use Rattle.occ_model.specs.State.{State, Answer, Found, Rows, Observation, answer, answer_size}
use Rattle.occ_model.specs.World.{World, ReadPhase, phase_cmp, last_entered}
use Rattle.occ_model.specs.Event.{Read, Forget, Refused, Answered, Forgotten}
use Rattle.occ_model.specs.Refusal as refusals
use Rattle.occ_model.specs.Refusal.{refusal}
use Rattle.occ_model.specs.Step.{Step, refused, starved, taken, read_more}
use Rattle.occ_model.proofs.Tests as tests
use Rattle.occ_model.proofs.Phases.{not_refused}
use Rattle.occ_model.proofs.InSchema.{keeps_lawful}
use Rattle.occ_sets.specs.PlainSets.{rows_of}
use Rattle.occ_book.specs.Content.{AnswersUpTo}
use Rattle.occ_log.specs.Phases.{reads_of}
use Rattle.occ_core.specs.Reads.{session_fault, closed_fault, number_fault, start_fault, turn_to_read, size_fault, room_to_read, noted}
use Rattle.occ_model.specs.Replies.{replied}
use Rattle.occ_log.specs.SessionStates.{last_of}
use Rattle.occ_core.specs.Core.{parts_of, IsCore, IsRefusal}
use Rattle.occ_core.specs.CoreParts.{Parts, world_of, AreSound}
use Rattle.occ_core.specs.declared.core_state.Core.TheInside.{Inside}
use Rattle.occ_core.proofs.Moves.{slot_same, read_moves}

pub session_is : (parts : Parts) (session : ℕ) → AreSound parts → refusals.no_session (world_of parts) session ≡ session_fault parts.slots session
session_is parts session sound = ap (λ n. fault_if (not (nat_le 1 session && nat_le session n)) faults.NoSession) (sym sound.each_session)

-- What was read is forgotten.

forget_moves : (old : Parts) (session number : ℕ) → AreSound old → refusal (world_of old) (Forget session number) ≡ None
    → AreSound (record old { phases = finite.remove old.phases (session, number) })
forget_moves old session number sound none = record {
  law = keeps_lawful (world_of old) (Forget session number) (Forgotten (finite.contains_key old.phases (session, number))) (world_of (record old { phases = finite.remove old.phases (session, number) })) sound.law (taken none (refl, refl));
  each_session = sound.each_session;
  slots_true = λ place slot at. slot_same old (record old { phases = finite.remove old.phases (session, number) }) refl refl place slot (sound.slots_true place slot at);
  window_size = sound.window_size;
  window_is = sound.window_is;
  log_room = sound.log_room;
  place_room = sound.place_room;
  base_begins = sound.base_begins;
  counter_room = sound.counter_room;
}

pub forget_exit : (parts : Parts) (world : World) → world_of parts ≡ world → AreSound parts → (session number : ℕ) (reply : Result Bool Fault) (fault : Fault) → reply ≡ Err fault → session_fault parts.slots session ≡ Some fault
    → Step world (Forget session number) (replied Forgotten reply) world
forget_exit parts world seen sound session number reply fault is told =
    subst (λ r. Step world (Forget session number) (replied Forgotten r) world) (sym is)
    (subst (λ w. Step w (Forget session number) (Refused fault) w) seen (refused fault (session_is parts session sound ∙ told) refl refl))

pub forget_sound : (parts : Parts) (session number : ℕ) → AreSound parts → session_fault parts.slots session ≡ None → (phases : FinMap phase_cmp ReadPhase) → phases ≡ finite.remove parts.phases (session, number)
    → AreSound (record parts { phases = phases })
forget_sound parts session number sound free phases is =
    subst (λ p. AreSound (record parts { phases = p })) (sym is) (forget_moves parts session number sound (session_is parts session sound ∙ free))

-- When a read is refused.

pub there : {X : Type 0} (xs : List X) (k : ℕ) → k < length xs → (x : X) × (slice_get xs k ≡ Some x)
there [] k less = absurd (omega arith)
there (x ∷ xs) zero less = (x, refl)
there (x ∷ xs) (suc k) less = there xs k (omega arith)

pub last_is : (parts : Parts) (session : ℕ) → AreSound parts → session_fault parts.slots session ≡ None → last_of parts.slots (session - 1) ≡ last_entered (world_of parts) session
last_is parts session sound free =
    let both = tests.and_true (nat_le 1 session) (nat_le session (length parts.slots)) (tests.not_false _ (not_refused _ faults.NoSession free)) in
    let from = leb-true 1 session both.0 in
    let below = leb-true session (length parts.slots) both.1 in
    let found = there parts.slots (session - 1) (omega arith) in
    let same : suc (session - 1) ≡ session = omega arith in
    ap (λ o. elim o as (λ _. ℕ) [ None ↦ 0 | Some slot ↦ slot.last ]) found.1
    ∙ (sound.slots_true (session - 1) found.0 found.1).last_is ∙ ap (last_entered (world_of parts)) same

pub nested : (a b c d : Option Fault) (others : List (Option Fault)) → first_fault (first_fault (a ∷ b ∷ c ∷ d ∷ []) ∷ others) ≡ first_fault (a ∷ b ∷ c ∷ d ∷ others)
nested (Some f) b c d others = refl
nested None (Some f) c d others = refl
nested None None (Some f) d others = refl
nested None None None (Some f) others = refl
nested None None None None others = refl

turn_is : (parts : Parts) (session number start : ℕ) (others : List (Option Fault)) → AreSound parts
    → first_fault (refusals.no_session (world_of parts) session ∷ refusals.session_closed (world_of parts) session ∷ refusals.not_readable (world_of parts) session number ∷ refusals.wrong_start (world_of parts) session number start ∷ others)
    ≡ first_fault (turn_to_read parts.slots parts.marks (finite.get parts.phases (session, number)) parts.counter session number start ∷ others)
turn_is parts session number start others sound =
    ap (λ o. first_fault (o ∷ refusals.session_closed w session ∷ refusals.not_readable w session number ∷ refusals.wrong_start w session number start ∷ others)) (session_is parts session sound)
    ∙ at (session_fault parts.slots session) refl
    ∙ sym (nested (session_fault parts.slots session) (closed_fault parts.marks session) (number_fault (last_of parts.slots (session - 1)) number) (start_fault (finite.get parts.phases (session, number)) parts.counter start) others)
  where
    w : World
    w = world_of parts

    at : (o : Option Fault) → session_fault parts.slots session ≡ o
        → first_fault (session_fault parts.slots session ∷ refusals.session_closed w session ∷ refusals.not_readable w session number ∷ refusals.wrong_start w session number start ∷ others)
        ≡ first_fault (session_fault parts.slots session ∷ closed_fault parts.marks session ∷ number_fault (last_of parts.slots (session - 1)) number ∷ start_fault (finite.get parts.phases (session, number)) parts.counter start ∷ others)
    at (Some f) e =
        ap (λ o. first_fault (o ∷ refusals.session_closed w session ∷ refusals.not_readable w session number ∷ refusals.wrong_start w session number start ∷ others)) e
        ∙ sym (ap (λ o. first_fault (o ∷ closed_fault parts.marks session ∷ number_fault (last_of parts.slots (session - 1)) number ∷ start_fault (finite.get parts.phases (session, number)) parts.counter start ∷ others)) e)
    at None e = ap (λ last. first_fault (session_fault parts.slots session ∷ closed_fault parts.marks session ∷ number_fault last number ∷ refusals.wrong_start w session number start ∷ others)) (sym (last_is parts session sound e))

pub reads_are : (o : Option ReadPhase) → (elim o as (λ _. List Observation) [ None ↦ [] | Some phase ↦ phase.reads ]) ≡ reads_of o
reads_are None = refl
reads_are (Some phase) = refl

read_refusal : (parts : Parts) (session number start : ℕ) (question : Question) → AreSound parts
    → refusal (world_of parts) (Read session number start question)
    ≡ first_fault (turn_to_read parts.slots parts.marks (finite.get parts.phases (session, number)) parts.counter session number start ∷ check_question parts.settings.schema question ∷ size_fault parts.table question ∷ room_to_read (finite.get parts.phases (session, number)) ∷ [])
read_refusal parts session number start question sound =
    turn_is parts session number start (check_question parts.settings.schema question ∷ refusals.range_too_large (world_of parts) question ∷ refusals.questions_full (world_of parts) session number ∷ []) sound
    ∙ ap (λ reads. first_fault (turn_to_read parts.slots parts.marks (finite.get parts.phases (session, number)) parts.counter session number start ∷ check_question parts.settings.schema question ∷ size_fault parts.table question ∷ fault_if (nat_le MAX_QUESTIONS (length reads)) faults.SetFull ∷ []))
    (reads_are (finite.get parts.phases (session, number)))

-- an answer to one key is never too large
pub one_fits : (table : State) (place : ℕ) (key : Key) → size_fault table (One place key) ≡ None
unfolding answer
one_fits table place key = tests.decided (nat_lt MAX_ANSWER_ROWS 1)
    (λ yes. let h = ltb-true MAX_ANSWER_ROWS 1 yes in absurd (omega arith))
    (λ no. ap (λ b. fault_if b faults.RangeTooLarge) no)

-- a test without a fault is passed
pub test_passed : {X : Type 0} (r : Result X Fault) (fault : Option Fault) → false ≡ is_err r → result_err r ≡ fault → fault ≡ None
test_passed (Ok x) fault passed is = sym is
test_passed (Err f) fault passed is = cc

-- an answer that has not too many rows fits
pub size_fits : (table : State) (question : Question) → answer_size (answer question table) ≤ MAX_ANSWER_ROWS → size_fault table question ≡ None
size_fits table question few = tests.decided (nat_lt MAX_ANSWER_ROWS (answer_size (answer question table)))
    (λ yes. let h = ltb-true MAX_ANSWER_ROWS (answer_size (answer question table)) yes in absurd (omega (arith, few, h)))
    (λ no. ap (λ b. fault_if b faults.RangeTooLarge) no)

-- the tests of a read, in their order, where this read phase is under way
abbrev pub read_fault : Parts → Option ReadPhase → ℕ → ℕ → ℕ → Question → Option Fault
read_fault parts begun session number start question = first_fault (
    turn_to_read parts.slots parts.marks begun parts.counter session number start
    ∷ check_question parts.settings.schema question
    ∷ size_fault parts.table question
    ∷ room_to_read begun
    ∷ [])

-- a read is refused by the first of its tests that fails
pub read_refused : (parts : Parts) (world : World) → world_of parts ≡ world → AreSound parts → (session number start : ℕ) (question : Question) (begun : Option ReadPhase) → begun ≡ finite.get parts.phases (session, number)
    → refusal world (Read session number start question) ≡ read_fault parts begun session number start question
read_refused parts world seen sound session number start question begun is =
    ap (λ w. refusal w (Read session number start question)) (sym seen) ∙ read_refusal parts session number start question sound
    ∙ ap (λ b. read_fault parts b session number start question) (sym is)

pub refused_turn : (a b c d : Option Fault) (f : Fault) → a ≡ Some f → first_fault (a ∷ b ∷ c ∷ d ∷ []) ≡ Some f
refused_turn a b c d f at = ap (λ o. first_fault (o ∷ b ∷ c ∷ d ∷ [])) at

pub refused_question : (a b c d : Option Fault) (f : Fault) → a ≡ None → b ≡ Some f → first_fault (a ∷ b ∷ c ∷ d ∷ []) ≡ Some f
refused_question a b c d f p at = ap (λ o. first_fault (o ∷ b ∷ c ∷ d ∷ [])) p ∙ ap (λ o. first_fault (o ∷ c ∷ d ∷ [])) at

pub refused_size : (a b c d : Option Fault) (f : Fault) → a ≡ None → b ≡ None → c ≡ Some f → first_fault (a ∷ b ∷ c ∷ d ∷ []) ≡ Some f
refused_size a b c d f p q at = ap (λ o. first_fault (o ∷ b ∷ c ∷ d ∷ [])) p ∙ ap (λ o. first_fault (o ∷ c ∷ d ∷ [])) q ∙ ap (λ o. first_fault (o ∷ d ∷ [])) at

-- the last test decides where the others let through
pub last_decides : (a b c d : Option Fault) → a ≡ None → b ≡ None → c ≡ None → first_fault (a ∷ b ∷ c ∷ d ∷ []) ≡ d
last_decides a b c d p q r =
    ap (λ o. first_fault (o ∷ b ∷ c ∷ d ∷ [])) p ∙ ap (λ o. first_fault (o ∷ c ∷ d ∷ [])) q ∙ ap (λ o. first_fault (o ∷ d ∷ [])) r ∙ alone d
  where
    alone : (o : Option Fault) → first_fault (o ∷ []) ≡ o
    alone None = refl
    alone (Some f) = refl

-- a read whose tests are passed is not refused
pub read_passed : (parts : Parts) (world : World) → world_of parts ≡ world → AreSound parts → (session number start : ℕ) (question : Question) (begun : Option ReadPhase) → begun ≡ finite.get parts.phases (session, number)
    → turn_to_read parts.slots parts.marks begun parts.counter session number start ≡ None → check_question parts.settings.schema question ≡ None → answer_size (answer question parts.table) ≤ MAX_ANSWER_ROWS → room_to_read begun ≡ None
    → refusal world (Read session number start question) ≡ None
read_passed parts world seen sound session number start question begun is turn fits few room =
    read_refused parts world seen sound session number start question begun is
    ∙ last_decides _ _ _ _ turn fits (size_fits parts.table question few)
    ∙ room

-- what is found of a range that may be read are all its rows
pub found_whole : {Z N : Type 0} (most : ℕ) (given shown : Answer) (found : Option (Vec (code_key.Key Z × Row) Z)) → AnswersUpTo most given found → given ≡ shown → (answer_size given ≤ most → N) → IfSome found (λ rows. N × (Rows (rows_of rows.items) ≡ shown))
found_whole most given shown None is told free = tt
found_whole most given shown (Some rows) is told free = (free is.0, is.1 ∙ told)

-- and where nothing refuses, it does not
last_lets : (a b c d : Option Fault) → first_fault (a ∷ b ∷ c ∷ d ∷ []) ≡ None → d ≡ None
last_lets None None None None free = refl
last_lets None None None (Some f) free = cc
last_lets None None (Some f) d free = cc
last_lets None (Some f) c d free = cc
last_lets (Some f) b c d free = cc

-- a read phase of a read that is not refused has room
pub read_roomy : (parts : Parts) (world : World) → world_of parts ≡ world → AreSound parts → (session number start : ℕ) (question : Question) → refusal world (Read session number start question) ≡ None
    → room_to_read (finite.get parts.phases (session, number)) ≡ None
read_roomy parts world seen sound session number start question none =
    let begun = finite.get parts.phases (session, number) in
    last_lets (turn_to_read parts.slots parts.marks begun parts.counter session number start) (check_question parts.settings.schema question) (size_fault parts.table question) (room_to_read begun) (sym (read_refused parts world seen sound session number start question _ refl) ∙ none)

-- The exits of a read, seen from outside.

-- a read that may not be is refused, and moves nothing
pub not_read : (world : World) (session number start : ℕ) (question : Question) (fault : Fault) → IsRefusal world (Read session number start question) fault → Step world (Read session number start question) (Refused fault) world
not_read world session number start question fault (inl why) = refused fault why refl refl
not_read world session number start question fault (inr why) = starved why.1 refl (ap Refused why.0) refl

-- there is no memory, and the read phases are as they were
pub read_starved : (parts : Parts) (world : World) → world_of parts ≡ world → AreSound parts → (session number start : ℕ) (question : Question) → refusal world (Read session number start question) ≡ None
    → (phases : FinMap phase_cmp ReadPhase) → phases ≡ parts.phases
    → Step world (Read session number start question) (Refused faults.Memory) (world_of (record parts { phases = phases })) × AreSound (record parts { phases = phases })
read_starved parts world seen sound session number start question none phases same =
    subst (λ p. Step world (Read session number start question) (Refused faults.Memory) (world_of (record parts { phases = p })) × AreSound (record parts { phases = p })) (sym same)
    (starved none refl refl seen, sound)

pub read_whole : (parts : Parts) (world : World) → world_of parts ≡ world → AreSound parts → (session number start : ℕ) (question : Question) → refusal world (Read session number start question) ≡ None
    → (seen_now : Observation) → seen_now ≡ (question, answer question parts.table)
    → (phases : FinMap phase_cmp ReadPhase) → phases ≡ noted parts.phases session number start seen_now
    → (given : Answer) → given ≡ answer question parts.table
    → Step world (Read session number start question) (Answered given) (world_of (record parts { phases = phases })) × AreSound (record parts { phases = phases })
read_whole parts world seen sound session number start question free seen_now right phases is given told =
    let none : refusal (world_of parts) (Read session number start question) ≡ None = ap (λ w. refusal w (Read session number start question)) seen ∙ free in
    let moved : (read_more (world_of parts) session number start question).phases ≡ phases =
    ap (λ reads. finite.insert parts.phases (session, number) (record { start = start; reads = reads ++ (question, answer question parts.table) ∷ [] })) (reads_are (finite.get parts.phases (session, number)))
    ∙ ap (noted parts.phases session number start) (sym right) ∙ sym is in
    subst (λ p. Step world (Read session number start question) (Answered given) (world_of (record parts { phases = p })) × AreSound (record parts { phases = p })) moved (
      subst (λ w. Step w (Read session number start question) (Answered given) (read_more (world_of parts) session number start question)) seen (taken none (ap Answered told, refl)),
      read_moves parts session number start question sound none,
    )

module _ {Z : Type 0} where
  -- the row under a key is what its question is answered
  pub row_answers : (table : ℕ) (copied key : code_key.Key Z) → copied ≡ key → (row : Option Row) (state : State) → row ≡ finite.get state (table, key_of key)
      → ◌≡◌ {A = Observation} (One table (key_of copied), Found row) (One table (key_of key), answer (One table (key_of key)) state)
  unfolding answer
  row_answers table copied key same row state is i = (One table (key_of (same i)), Found (is i))

module _ {Z : Type 0} where
  -- what holds of a core holds where its read phases alone are others, and its parts are sound
  pub phases_core : (c : Inside Z) → IsCore c → (phases : FinMap phase_cmp ReadPhase) → AreSound (record (parts_of c) { phases = phases }) → IsCore (record c { phases = phases })
  phases_core c is phases sound = record {
    sound = sound;
    tables_match = is.tables_match;
    marks_match = is.marks_match;
    log_match = is.log_match;
    base_match = is.base_match;
    placed = is.placed;
    counted = is.counted;
  }
