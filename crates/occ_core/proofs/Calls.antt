-- What each call of the core has to show, over plain parts.
use Rattle.std.proofs.Common.{◌≡◌, ℕ, zero, suc, ◌+◌, ◌-◌, ◌<◌, ◌≤◌, Bool, true, false, not, ◌&&◌, List, [], ◌∷◌, length, Option, None, Some, Result, Ok, Err, refl, sym, ap, subst, ◌∙◌, arith, inl, inr, is_some, slice_get, slice_set, nat_le}
use Rattle.std.proofs.lemmas.Bool.{le-leb, leb-true}
use Rattle.occ_types.specs.Schema.{fault_if, first_fault}
use Rattle.occ_types.specs.declared.fault.Fault.{Fault}
use Rattle.occ_types.specs.declared.fault.Fault.TheVariants as faults
use Rattle.occ_model.specs.Log.{LogRow, Standing, Open, Writing, Done, Back, Case, is_open, is_back}
use Rattle.occ_model.specs.Validity.{verdict}
use Rattle.occ_model.specs.World.{World, latest, is_held, has_session}
use Rattle.occ_model.specs.Event.{Decide, BackUp, Refused, Decided, BackedUp}
use Rattle.occ_model.specs.Refusal as refusals
use Rattle.occ_model.specs.Refusal.{refusal}
use Rattle.occ_model.specs.Step.{Step, refused, decided}
use Rattle.occ_model.specs.declared.verdict.Verdict.{Verdict}
use Rattle.occ_model.proofs.Tests as tests
use Rattle.occ_model.specs.Replies.{replied}
use Rattle.occ_log.specs.SessionStates.{Slot, Hold, IsHeldAt, row_under_way, last_of, back_fault}
use Rattle.occ_core.specs.CoreParts.{Parts, world_of, found_at, HasRow, AreSound}
use Rattle.occ_core.specs.Folding.{under_way_fault, back_fault_of, verdict_on}
use Rattle.occ_core.proofs.Placed.{from_index, before_first}
use Rattle.occ_log.proofs.Holding.{contains-held, held-is}
use Rattle.occ_log.proofs.Places.{held-get, held_latest, slice_get-below, length-set}
use Rattle.occ_core.proofs.Moves as moves

-- the slot of a session that has a row under way
pub record HeldSlot (parts : Parts) (session place : ℕ) : Type 0 where
  pub slot_at : ℕ
  pub session_is : session ≡ suc slot_at
  pub slot : Slot
  pub there : slice_get parts.slots slot_at ≡ Some slot
  pub hold : Hold
  pub holds : slot.hold ≡ Some hold
  pub place_is : place ≡ hold.place

pub held_slot : (parts : Parts) (session place : ℕ) → row_under_way parts.slots session ≡ Ok place → HeldSlot parts session place
held_slot parts zero place found = cc
held_slot parts (suc k) place found = at_slot (slice_get parts.slots k) refl found
  where
    at_hold : (slot : Slot) → slice_get parts.slots k ≡ Some slot → (h : Option Hold) → slot.hold ≡ h → (elim h as (λ _. Result ℕ Fault) [ None ↦ Err faults.NothingEntered | Some hold ↦ Ok hold.place ]) ≡ Ok place → HeldSlot parts (suc k) place
    at_hold slot there None e found = cc
    at_hold slot there (Some hold) e found = record { slot_at = k; session_is = refl; slot = slot; there = there; hold = hold; holds = e; place_is = cc }

    at_slot : (o : Option Slot) → slice_get parts.slots k ≡ o → (elim o as (λ _. Result ℕ Fault) [ None ↦ Err faults.NoSession | Some slot ↦ elim slot.hold [ None ↦ Err faults.NothingEntered | Some hold ↦ Ok hold.place ] ]) ≡ Ok place → HeldSlot parts (suc k) place
    at_slot None e found = cc
    at_slot (Some slot) e found = at_hold slot e slot.hold refl found

-- the row that a session has under way, which stands in the log
pub record UnderWay (parts : Parts) (session place : ℕ) : Type 0 where
  pub slot_at : ℕ
  pub session_is : session ≡ suc slot_at
  pub slot : Slot
  pub there : slice_get parts.slots slot_at ≡ Some slot
  pub hold : Hold
  pub holds : slot.hold ≡ Some hold
  pub index : ℕ
  pub place_is : place ≡ parts.base.place + index
  pub index_is : index ≡ place - parts.base.place
  pub row : LogRow
  pub row_there : IsHeldAt (suc slot_at) index parts.log row
  pub writes_are : hold.writes ≡ row.writes

pub found_row : (parts : Parts) (session place : ℕ) → AreSound parts → row_under_way parts.slots session ≡ Ok place → (row : LogRow) → found_at parts place ≡ Some row → UnderWay parts session place
found_row parts session place sound found row at =
    let h = held_slot parts session place found in
    go h ((sound.slots_true h.slot_at h.slot h.there).row_is h.hold h.holds)
  where
    go : (h : HeldSlot parts session place) → HasRow parts.base.place parts.log (suc h.slot_at) h.hold → UnderWay parts session place
    go h (inl s) =
        let is : place ≡ parts.base.place + s.index = h.place_is ∙ s.place_is in
        record {
          slot_at = h.slot_at;
          session_is = h.session_is;
          slot = h.slot;
          there = h.there;
          hold = h.hold;
          holds = h.holds;
          index = s.index;
          place_is = is;
          index_is = omega arith;
          row = s.row;
          row_there = s.there;
          writes_are = s.writes_are;
        }
    go h (inr g) =
        let before : place < parts.base.place = subst (λ p. p < parts.base.place) (sym h.place_is) g.before in
        let none : None ≡ Some row = sym (before_first parts.base.place place parts.log before) ∙ at in
        cc

-- the row under way is the one that was found
pub found_is : (parts : Parts) (session place : ℕ) (u : UnderWay parts session place) (row : LogRow) → found_at parts place ≡ Some row → u.row ≡ row
found_is parts session place u row at =
    let e : Some u.row ≡ Some row = sym (held-get (suc u.slot_at) u.index parts.log u.row u.row_there) ∙ sym (from_index parts.base.place u.index parts.log) ∙ ap (found_at parts) (sym u.place_is) ∙ at in
    cc

-- a session whose row under way is not found has none in the log
pub gone_none : (parts : Parts) (session place : ℕ) → AreSound parts → (h : HeldSlot parts session place) → found_at parts place ≡ None → latest (suc h.slot_at) parts.log ≡ None
gone_none parts session place sound h away = go ((sound.slots_true h.slot_at h.slot h.there).row_is h.hold h.holds)
  where
    go : HasRow parts.base.place parts.log (suc h.slot_at) h.hold → latest (suc h.slot_at) parts.log ≡ None
    go (inl s) =
        let e : Some s.row ≡ None = sym (held-get (suc h.slot_at) s.index parts.log s.row s.there) ∙ sym (from_index parts.base.place s.index parts.log) ∙ ap (found_at parts) (sym (h.place_is ∙ s.place_is)) ∙ away in
        cc
    go (inr g) = g.none

pub past_end : {X : Type 0} (xs : List X) (k : ℕ) → slice_get xs k ≡ None → length xs ≤ k
past_end [] k e = omega arith
past_end (x ∷ xs) zero e = cc
past_end (x ∷ xs) (suc k) e = let h = past_end xs k e in omega arith

pub held_world : (parts : Parts) (k : ℕ) (slot : Slot) → slice_get parts.slots k ≡ Some slot → is_held (world_of parts) (suc k) ≡ is_some slot.hold
held_world parts k slot at =
    let e : suc k ≡ 1 + k = omega arith in
    ap (is_held (world_of parts)) e ∙ contains-held 1 parts.slots k ∙ held-is parts.slots k slot at

pub exists : (parts : Parts) (k : ℕ) (slot : Slot) → AreSound parts → slice_get parts.slots k ≡ Some slot → has_session (world_of parts) (suc k) ≡ true
exists parts k slot sound at =
    let less = slice_get-below parts.slots k slot at in
    let count = sound.each_session in
    tests.both_true _ _ (le-leb 1 (suc k) (omega arith)) (le-leb (suc k) parts.settings.sessions (omega arith))

-- a session that isn't there, or has nothing under way, is told so
pub told : (parts : Parts) (session : ℕ) (fault : Fault) (others : List (Option Fault)) → AreSound parts → row_under_way parts.slots session ≡ Err fault
    → first_fault (refusals.no_session (world_of parts) session ∷ refusals.nothing_entered (world_of parts) session ∷ others) ≡ Some fault
told parts zero fault others sound found =
    let e : faults.NoSession ≡ fault = cc in
    ap (λ b. first_fault (fault_if (not (b && nat_le zero parts.settings.sessions)) faults.NoSession ∷ refusals.nothing_entered (world_of parts) zero ∷ others)) none ∙ ap Some e
  where
    none : nat_le 1 zero ≡ false
    none = tests.decided (nat_le 1 zero) (λ e. let h = leb-true 1 zero e in absurd (omega arith)) (λ e. e)
told parts (suc k) fault others sound found = at_slot (slice_get parts.slots k) refl found
  where
    at_hold : (slot : Slot) → slice_get parts.slots k ≡ Some slot → (h : Option Hold) → slot.hold ≡ h → (elim h as (λ _. Result ℕ Fault) [ None ↦ Err faults.NothingEntered | Some hold ↦ Ok hold.place ]) ≡ Err fault
        → first_fault (refusals.no_session (world_of parts) (suc k) ∷ refusals.nothing_entered (world_of parts) (suc k) ∷ others) ≡ Some fault
    at_hold slot there None e found =
        let f : faults.NothingEntered ≡ fault = cc in
        ap (λ b. first_fault (fault_if (not b) faults.NoSession ∷ refusals.nothing_entered (world_of parts) (suc k) ∷ others)) (exists parts k slot sound there)
        ∙ ap (λ b. first_fault (fault_if (not b) faults.NothingEntered ∷ others)) (held_world parts k slot there ∙ ap is_some e) ∙ ap Some f
    at_hold slot there (Some hold) e found = cc

    at_slot : (o : Option Slot) → slice_get parts.slots k ≡ o → (elim o as (λ _. Result ℕ Fault) [ None ↦ Err faults.NoSession | Some slot ↦ elim slot.hold [ None ↦ Err faults.NothingEntered | Some hold ↦ Ok hold.place ] ]) ≡ Err fault
        → first_fault (refusals.no_session (world_of parts) (suc k) ∷ refusals.nothing_entered (world_of parts) (suc k) ∷ others) ≡ Some fault
    at_slot None e found =
        let f : faults.NoSession ≡ fault = cc in
        let past = past_end parts.slots k e in
        let count = sound.each_session in
        ap (λ b. first_fault (fault_if (not (nat_le 1 (suc k) && b)) faults.NoSession ∷ refusals.nothing_entered (world_of parts) (suc k) ∷ others))
        (tests.decided (nat_le (suc k) parts.settings.sessions) (λ t. let h = leb-true (suc k) parts.settings.sessions t in absurd (omega arith)) (λ t. t))
        ∙ ap (λ b. first_fault (fault_if (not (b && false)) faults.NoSession ∷ refusals.nothing_entered (world_of parts) (suc k) ∷ others)) (le-leb 1 (suc k) (omega arith)) ∙ ap Some f
    at_slot (Some slot) e found = at_hold slot e slot.hold refl found

-- the first two guards pass where a row is under way
pub let_through : (parts : Parts) (k : ℕ) (slot : Slot) (hold : Hold) (others : List (Option Fault)) → AreSound parts → slice_get parts.slots k ≡ Some slot → slot.hold ≡ Some hold
    → first_fault (refusals.no_session (world_of parts) (suc k) ∷ refusals.nothing_entered (world_of parts) (suc k) ∷ others) ≡ first_fault others
let_through parts k slot hold others sound at holds =
    ap (λ b. first_fault (fault_if (not b) faults.NoSession ∷ refusals.nothing_entered (world_of parts) (suc k) ∷ others)) (exists parts k slot sound at)
    ∙ ap (λ b. first_fault (fault_if (not b) faults.NothingEntered ∷ others)) (held_world parts k slot at ∙ ap is_some holds)

-- a row under way that is not found was decided, where the guards say so of a session without a row
pub told_gone : (parts : Parts) (session : ℕ) (fault : Fault) (others : ℕ → List (Option Fault)) → AreSound parts → under_way_fault parts.slots (found_at parts) session ≡ Some fault
    → ((s : ℕ) → latest s parts.log ≡ None → first_fault (others s) ≡ Some faults.AlreadyDecided)
    → first_fault (refusals.no_session (world_of parts) session ∷ refusals.nothing_entered (world_of parts) session ∷ others session) ≡ Some fault
told_gone parts session fault others sound found told_so = at (row_under_way parts.slots session) refl found
  where
    gone : (place : ℕ) → row_under_way parts.slots session ≡ Ok place → found_at parts place ≡ None → faults.AlreadyDecided ≡ fault
        → first_fault (refusals.no_session (world_of parts) session ∷ refusals.nothing_entered (world_of parts) session ∷ others session) ≡ Some fault
    gone place is away e =
        let h = held_slot parts session place is in
        ap (λ s. first_fault (refusals.no_session (world_of parts) s ∷ refusals.nothing_entered (world_of parts) s ∷ others s)) h.session_is
        ∙ let_through parts h.slot_at h.slot h.hold (others (suc h.slot_at)) sound h.there h.holds
        ∙ told_so (suc h.slot_at) (gone_none parts session place sound h away) ∙ ap Some e

    at_place : (place : ℕ) → row_under_way parts.slots session ≡ Ok place → (o : Option LogRow) → found_at parts place ≡ o → (elim o as (λ _. Option Fault) [ None ↦ Some faults.AlreadyDecided | Some row ↦ None ]) ≡ Some fault
        → first_fault (refusals.no_session (world_of parts) session ∷ refusals.nothing_entered (world_of parts) session ∷ others session) ≡ Some fault
    at_place place is None away e = gone place is away cc
    at_place place is (Some row) away e = cc

    at : (r : Result ℕ Fault) → row_under_way parts.slots session ≡ r
        → (elim r as (λ _. Option Fault) [ Ok place ↦ elim (found_at parts place) [ None ↦ Some faults.AlreadyDecided | Some row ↦ None ] | Err fault ↦ Some fault ]) ≡ Some fault
        → first_fault (refusals.no_session (world_of parts) session ∷ refusals.nothing_entered (world_of parts) session ∷ others session) ≡ Some fault
    at (Ok place) is e = at_place place is (found_at parts place) refl e
    at (Err f) is e = let same : f ≡ fault = cc in told parts session fault (others session) sound (is ∙ ap Err same)

-- what a guard on the latest row reads
pub latest_reads : (log : List LogRow) (session : ℕ) (row : LogRow) (none : Bool) (of : LogRow → Bool) → latest session log ≡ Some row → (elim (latest session log) as (λ _. Bool) [ None ↦ none | Some r ↦ of r ]) ≡ of row
latest_reads log session row none of is = ap (λ l. elim l as (λ _. Bool) [ None ↦ none | Some r ↦ of r ]) is

pub latest_none : (log : List LogRow) (session : ℕ) (none : Bool) (of : LogRow → Bool) → latest session log ≡ None → (elim (latest session log) as (λ _. Bool) [ None ↦ none | Some r ↦ of r ]) ≡ none
latest_none log session none of is = ap (λ l. elim l as (λ _. Bool) [ None ↦ none | Some r ↦ of r ]) is

-- The decision.

pub decide_refused : (parts : Parts) (session : ℕ) (fault : Fault) → AreSound parts → under_way_fault parts.slots (found_at parts) session ≡ Some fault → Step (world_of parts) (Decide session) (Refused fault) (world_of parts)
decide_refused parts session fault sound found = refused fault (told_gone parts session fault (λ s. fault_if (not (refusals.row_is_open (world_of parts) s)) faults.AlreadyDecided ∷ []) sound found
    (λ s none. ap (λ b. first_fault (fault_if (not b) faults.AlreadyDecided ∷ [])) (latest_none parts.log s false (λ r. is_open r.standing) none))) refl refl

pub decide_late : (parts : Parts) (session place : ℕ) (row : LogRow) → AreSound parts → row_under_way parts.slots session ≡ Ok place → found_at parts place ≡ Some row → is_open row.standing ≡ false → Step (world_of parts) (Decide session) (Refused faults.AlreadyDecided) (world_of parts)
decide_late parts session place row sound found at closed =
    let u = found_row parts session place sound found row at in
    let same = found_is parts session place u row at in
    subst (λ s. Step (world_of parts) (Decide s) (Refused faults.AlreadyDecided) (world_of parts)) (sym u.session_is)
    (refused faults.AlreadyDecided (
    let_through parts u.slot_at u.slot u.hold _ sound u.there u.holds
    ∙ ap (λ b. first_fault (fault_if (not b) faults.AlreadyDecided ∷ []))
    (latest_reads parts.log (suc u.slot_at) u.row false (λ r. is_open r.standing) (held_latest (suc u.slot_at) u.index parts.log u.row u.row_there) ∙ ap (λ r. is_open r.standing) same ∙ closed)) refl refl)

pub record Decides (parts : Parts) (session : ℕ) (v : Verdict) (next : Parts) : Type 0 where
  pub step : Step (world_of parts) (Decide session) (Decided v) (world_of next)
  pub sound : AreSound next

pub decide_done : (parts : Parts) (session place : ℕ) (row : LogRow) (index : ℕ) (case : Case) → AreSound parts → row_under_way parts.slots session ≡ Ok place → found_at parts place ≡ Some row → row.standing ≡ Open index case
    → (log : List LogRow) → log ≡ slice_set parts.log (place - parts.base.place) (record row { standing = decided (verdict case) }) → Decides parts session (verdict case) (record parts { log = log })
decide_done parts session place row index case sound found at stands log is =
    let u = found_row parts session place sound found row at in
    let same = found_is parts session place u row at in
    let own : u.row.standing ≡ Open index case = ap (λ r. r.standing) same ∙ stands in
    let none : refusal (world_of parts) (Decide (suc u.slot_at)) ≡ None =
    let_through parts u.slot_at u.slot u.hold _ sound u.there u.holds
    ∙ ap (λ b. first_fault (fault_if (not b) faults.AlreadyDecided ∷ []))
    (latest_reads parts.log (suc u.slot_at) u.row false (λ r. is_open r.standing) (held_latest (suc u.slot_at) u.index parts.log u.row u.row_there) ∙ ap is_open own) in
    let log_is : moves.decided_parts parts u.slot_at u.slot u.index u.row sound u.there u.row_there index case own none ≡ record parts { log = log } =
    ap (λ l. record parts { log = l }) (ap (λ r. slice_set parts.log u.index (record r { standing = decided (verdict case) })) same
    ∙ ap (λ p. slice_set parts.log p (record row { standing = decided (verdict case) })) u.index_is ∙ sym is) in
    subst (λ s. Decides parts s (verdict case) (record parts { log = log })) (sym u.session_is)
    (subst (Decides parts (suc u.slot_at) (verdict case)) log_is (record {
      step = moves.decided_step parts u.slot_at u.slot u.index u.row sound u.there u.row_there index case own none;
      sound = moves.decided_sound parts u.slot_at u.slot u.index u.row sound u.there u.row_there index case own none;
    }))

-- The exits of the decision, seen from outside.

pub decide_exit : (parts : Parts) (world : World) → world_of parts ≡ world → AreSound parts → (session : ℕ) (reply : Result Verdict Fault) (fault : Fault) → reply ≡ Err fault → under_way_fault parts.slots (found_at parts) session ≡ Some fault → Step world (Decide session) (replied Decided reply) world
decide_exit parts world seen sound session reply fault is found =
    subst (λ r. Step world (Decide session) (replied Decided r) world) (sym is) (subst (λ w. Step w (Decide session) (Refused fault) w) seen (decide_refused parts session fault sound found))

pub decide_exit_late : (parts : Parts) (world : World) → world_of parts ≡ world → AreSound parts → (session place : ℕ) (row : LogRow) → row_under_way parts.slots session ≡ Ok place → found_at parts place ≡ Some row → is_open row.standing ≡ false
    → Step world (Decide session) (Refused faults.AlreadyDecided) world
decide_exit_late parts world seen sound session place row found at closed =
    subst (λ w. Step w (Decide session) (Refused faults.AlreadyDecided) w) seen (decide_late parts session place row sound found at closed)

pub decide_whole : (parts : Parts) (world : World) → world_of parts ≡ world → AreSound parts → (session place : ℕ) (row : LogRow) (index : ℕ) (case : Case) → row_under_way parts.slots session ≡ Ok place → found_at parts place ≡ Some row → row.standing ≡ Open index case
    → (v : Verdict) → v ≡ verdict case → (log : List LogRow) → log ≡ slice_set parts.log (place - parts.base.place) (record row { standing = decided v })
    → Step world (Decide session) (Decided v) (world_of (record parts { log = log })) × AreSound (record parts { log = log })
decide_whole parts world seen sound session place row index case found at stands v right log is =
    let d = decide_done parts session place row index case sound found at stands log (is ∙ ap (λ w. slice_set parts.log (place - parts.base.place) (record row { standing = decided w })) right) in (
      subst (λ w. Step w (Decide session) (Decided v) (world_of (record parts { log = log }))) seen
          (subst (λ w. Step (world_of parts) (Decide session) (Decided w) (world_of (record parts { log = log }))) (sym right) d.step),
      d.sound,
    )

-- a row on which there is no verdict is not open
pub unjudged : (standing : Standing) → None ≡ verdict_on standing → is_open standing ≡ false
unjudged (Open index case) e = cc
unjudged (Writing done) e = refl
unjudged (Done number) e = refl
unjudged (Back cause) e = refl

-- and one with a verdict is, which is that on its case
pub judged_open : (standing : Standing) (v : Verdict) → Some v ≡ verdict_on standing → (index : ℕ) × (case : Case) × (standing ≡ Open index case) × (v ≡ verdict case)
judged_open (Open index case) v e = (index, case, refl, let same : v ≡ verdict case = cc in same)
judged_open (Writing done) v e = cc
judged_open (Done number) v e = cc
judged_open (Back cause) v e = cc

-- The back-up.

-- what the guards on the standing read
back_told : (parts : Parts) (k place : ℕ) (row : LogRow) → IsHeldAt (suc k) place parts.log row
    → first_fault (refusals.not_decided (world_of parts) (suc k) ∷ fault_if (not (refusals.row_is_back (world_of parts) (suc k))) faults.AlreadyDecided ∷ [])
    ≡ first_fault (fault_if (is_open row.standing) faults.NotDecided ∷ fault_if (not (is_back row.standing)) faults.AlreadyDecided ∷ [])
back_told parts k place row there =
    let e = held_latest (suc k) place parts.log row there in
    ap (λ b. first_fault (fault_if b faults.NotDecided ∷ fault_if (not (refusals.row_is_back (world_of parts) (suc k))) faults.AlreadyDecided ∷ []))
    (latest_reads parts.log (suc k) row false (λ r. is_open r.standing) e)
    ∙ ap (λ b. first_fault (fault_if (is_open row.standing) faults.NotDecided ∷ fault_if (not b) faults.AlreadyDecided ∷ []))
    (latest_reads parts.log (suc k) row true (λ r. is_back r.standing) e)

back_guards : (standing : Standing) → first_fault (fault_if (is_open standing) faults.NotDecided ∷ fault_if (not (is_back standing)) faults.AlreadyDecided ∷ []) ≡ back_fault standing
back_guards (Open index case) = refl
back_guards (Writing done) = refl
back_guards (Done number) = refl
back_guards (Back cause) = refl

-- a row that is not found may be backed up, since it was decided so
back_refusal : (parts : Parts) (sound : AreSound parts) (session place : ℕ) (h : HeldSlot parts session place) → refusal (world_of parts) (BackUp (suc h.slot_at)) ≡ back_fault_of (found_at parts place)
back_refusal parts sound session place h =
    let_through parts h.slot_at h.slot h.hold _ sound h.there h.holds ∙ at (found_at parts place) refl
  where
    none_told : latest (suc h.slot_at) parts.log ≡ None
        → first_fault (refusals.not_decided (world_of parts) (suc h.slot_at) ∷ fault_if (not (refusals.row_is_back (world_of parts) (suc h.slot_at))) faults.AlreadyDecided ∷ []) ≡ None
    none_told none =
        ap (λ b. first_fault (fault_if b faults.NotDecided ∷ fault_if (not (refusals.row_is_back (world_of parts) (suc h.slot_at))) faults.AlreadyDecided ∷ []))
        (latest_none parts.log (suc h.slot_at) false (λ r. is_open r.standing) none)
        ∙ ap (λ b. first_fault (fault_if (not b) faults.AlreadyDecided ∷ [])) (latest_none parts.log (suc h.slot_at) true (λ r. is_back r.standing) none)

    at_row : (row : LogRow) → found_at parts place ≡ Some row → HasRow parts.base.place parts.log (suc h.slot_at) h.hold
        → first_fault (refusals.not_decided (world_of parts) (suc h.slot_at) ∷ fault_if (not (refusals.row_is_back (world_of parts) (suc h.slot_at))) faults.AlreadyDecided ∷ []) ≡ back_fault row.standing
    at_row row there (inl s) =
        let e : Some s.row ≡ Some row = sym (held-get (suc h.slot_at) s.index parts.log s.row s.there) ∙ sym (from_index parts.base.place s.index parts.log) ∙ ap (found_at parts) (sym (h.place_is ∙ s.place_is)) ∙ there in
        let same : s.row ≡ row = cc in
        back_told parts h.slot_at s.index s.row s.there ∙ back_guards s.row.standing ∙ ap (λ r. back_fault r.standing) same
    at_row row there (inr g) =
        let before : place < parts.base.place = subst (λ p. p < parts.base.place) (sym h.place_is) g.before in
        let none : None ≡ Some row = sym (before_first parts.base.place place parts.log before) ∙ there in
        cc

    at : (o : Option LogRow) → found_at parts place ≡ o
        → first_fault (refusals.not_decided (world_of parts) (suc h.slot_at) ∷ fault_if (not (refusals.row_is_back (world_of parts) (suc h.slot_at))) faults.AlreadyDecided ∷ []) ≡ back_fault_of o
    at None away = none_told (gone_none parts session place sound h away)
    at (Some row) there = at_row row there ((sound.slots_true h.slot_at h.slot h.there).row_is h.hold h.holds)

pub back_exit : (parts : Parts) (world : World) → world_of parts ≡ world → AreSound parts → (session : ℕ) (reply : Result ℕ Fault) (fault : Fault) → reply ≡ Err fault → row_under_way parts.slots session ≡ Err fault → Step world (BackUp session) (replied BackedUp reply) world
back_exit parts world seen sound session reply fault is found =
    subst (λ r. Step world (BackUp session) (replied BackedUp r) world) (sym is)
    (subst (λ w. Step w (BackUp session) (Refused fault) w) seen (refused fault (told parts session fault _ sound found) refl refl))

pub back_kept : (parts : Parts) (world : World) → world_of parts ≡ world → AreSound parts → (session place : ℕ) (fault : Fault) → row_under_way parts.slots session ≡ Ok place → back_fault_of (found_at parts place) ≡ Some fault
    → Step world (BackUp session) (Refused fault) world
back_kept parts world seen sound session place fault found why =
    let u = held_slot parts session place found in
    subst (λ w. Step w (BackUp session) (Refused fault) w) seen
    (subst (λ s. Step (world_of parts) (BackUp s) (Refused fault) (world_of parts)) (sym u.session_is)
    (refused fault (back_refusal parts sound session place u ∙ why) refl refl))

-- the place of a session whose row is under way
pub slot_below : (parts : Parts) (session place : ℕ) → AreSound parts → row_under_way parts.slots session ≡ Ok place → session - 1 < length parts.slots
slot_below parts session place sound found =
    let u = held_slot parts session place found in
    let less = slice_get-below parts.slots u.slot_at u.slot u.there in
    let is = u.session_is in
    omega arith

-- the parts with other sessions
abbrev pub with_slots : Parts → List Slot → Parts
with_slots parts slots = record parts { slots = slots; settings = record parts.settings { sessions = length slots } }

pub back_whole : (parts : Parts) (world : World) → world_of parts ≡ world → AreSound parts → (session place : ℕ) → row_under_way parts.slots session ≡ Ok place → back_fault_of (found_at parts place) ≡ None
    → (last : ℕ) → last ≡ last_of parts.slots (session - 1) → (slots : List Slot) → slots ≡ slice_set parts.slots (session - 1) (record { last = last_of parts.slots (session - 1); hold = None })
    → Step world (BackUp session) (BackedUp last) (world_of (with_slots parts slots)) × AreSound (with_slots parts slots)
back_whole parts world seen sound session place found free last last_is slots is =
    let u = held_slot parts session place found in
    let k = u.slot_at in
    let there : session - 1 ≡ u.slot_at = let e = u.session_is in omega arith in
    let own : last_of parts.slots (session - 1) ≡ u.slot.last = ap (last_of parts.slots) there ∙ ap (λ o. elim o as (λ _. ℕ) [ None ↦ 0 | Some slot ↦ slot.last ]) u.there in
    let none : refusal (world_of parts) (BackUp (suc u.slot_at)) ≡ None = back_refusal parts sound session place u ∙ free in
    let slots_is : slice_set parts.slots u.slot_at (record { last = u.slot.last; hold = None }) ≡ slots =
    sym (is ∙ ap (λ p. slice_set parts.slots p (record { last = last_of parts.slots (session - 1); hold = None })) there
    ∙ ap (λ n. slice_set parts.slots u.slot_at (record { last = n; hold = None })) own) in
    let count : parts.settings.sessions ≡ length slots = sym (ap length (sym slots_is) ∙ length-set parts.slots u.slot_at _ ∙ sound.each_session) in
    let moved : moves.backed_parts parts u.slot_at u.slot sound u.there none ≡ with_slots parts slots =
    ap (λ s. record parts { slots = s }) slots_is ∙ ap (λ n. record parts { slots = slots; settings = record parts.settings { sessions = n } }) count in
    let step = subst (λ p. Step (world_of parts) (BackUp (suc u.slot_at)) (BackedUp u.slot.last) (world_of p)) moved
    (moves.backed_step parts u.slot_at u.slot sound u.there none) in (
      subst (λ w. Step w (BackUp session) (BackedUp last) (world_of (with_slots parts slots))) seen
          (subst (λ n. Step (world_of parts) (BackUp session) (BackedUp n) (world_of (with_slots parts slots))) (sym (last_is ∙ own))
          (subst (λ s. Step (world_of parts) (BackUp s) (BackedUp u.slot.last) (world_of (with_slots parts slots))) (sym u.session_is) step)),
      subst AreSound moved (moves.backed_sound parts u.slot_at u.slot sound u.there none),
    )
