-- What the single writes and the end of a write phase have to show, over plain parts.
use Rattle.std.proofs.Common.{◌≡◌, ℕ, zero, suc, ◌+◌, ◌-◌, ◌<◌, Bool, true, false, List, [], ◌∷◌, length, drop, Option, None, Some, Result, Ok, Err, refl, sym, ap, subst, ◌∙◌, arith, is_some, slice_get, slice_set, nat_lt, option_map, option_and_then}
use Rattle.std.proofs.lemmas.Bool.{ltb-true, lt-ltb}
use Rattle.std.proofs.lemmas.Bool.Decides.{nat_tests}
use Rattle.std.proofs.lemmas.List.{length-drop}
use Rattle.occ_model.proofs.Tests as tests
use Rattle.occ_types.specs.Schema.{fault_if, first_fault}
use Rattle.occ_types.specs.declared.fault.Fault.{Fault}
use Rattle.occ_types.specs.declared.fault.Fault.TheVariants as faults
use Rattle.occ_model.specs.State.{State, Write, put}
use Rattle.occ_model.specs.Log.{LogRow, Standing, Open, Writing, Done, Back, is_open, is_back, is_done, remaining, rest}
use Rattle.occ_model.specs.World.{World, latest}
use Rattle.occ_model.specs.Event.{Reply, WriteOne, Finish, Refused, Wrote, NoMore, Finished}
use Rattle.occ_model.specs.Refusal as refusals
use Rattle.occ_model.specs.Refusal.{refusal, takes_memory, puts_next}
use Rattle.occ_model.specs.Step.{Step, refused, starved}
use Rattle.occ_model.proofs.Logs.{standing_at}
use Rattle.occ_model.specs.Replies.{replied}
use Rattle.occ_core.specs.Replies.{wrote, written_in}
use Rattle.occ_log.specs.SessionStates.{Slot, Hold, row_under_way, last_of, written_at, writes_done, finish_fault, HoldsArePlaced}
use Rattle.occ_sets.specs.Sets.{ArePlaced}
use Rattle.occ_log.specs.Window.{Window, advanced}
use Rattle.occ_core.specs.CoreParts.{Parts, world_of, row_placed, found_at, AreSound}
use Rattle.occ_core.specs.Folding.{under_way_fault}
use Rattle.occ_core.proofs.Placed.{at_index, from_index}
use Rattle.occ_core.specs.declared.writing.SingleWrite.{SingleWrite}
use Rattle.occ_core.specs.declared.writing.SingleWrite.TheVariants as code_write
use Rattle.occ_log.proofs.Places.{held_latest, length-set, slice_get-set}
use Rattle.occ_core.proofs.Calls.{UnderWay, found_row, found_is, held_world, told_gone, let_through, latest_reads, latest_none}
use Rattle.occ_core.proofs.Moves as moves

-- a row under way is not finished
pub unfinished : (parts : Parts) (session place : ℕ) → AreSound parts → (u : UnderWay parts session place) → is_done u.row.standing ≡ false
unfinished parts session place sound u =
    sound.law.invariant.held_under_way (suc u.slot_at) (held_world parts u.slot_at u.slot u.there ∙ ap is_some u.holds) u.row (held_latest (suc u.slot_at) u.index parts.log u.row u.row_there)

-- The guards on the standing.

one_left : (b : Bool) (fault : Fault) → first_fault (fault_if b fault ∷ []) ≡ fault_if b fault
one_left true fault = refl
one_left false fault = refl

left_over : (done : ℕ) (writes : List Write) → nat_lt 0 (length (drop done writes)) ≡ nat_lt done (length writes)
left_over done writes = let l = length-drop done writes in grind (arith, nat_tests)

write_guards : (standing : Standing) (fault : Fault) → is_done standing ≡ false → writes_done standing ≡ Err fault
    → first_fault (fault_if (is_open standing) faults.NotDecided ∷ fault_if (is_back standing) faults.AlreadyDecided ∷ []) ≡ Some fault
write_guards (Open index case) fault undone e = cc
write_guards (Writing done) fault undone e = cc
write_guards (Done number) fault undone e = cc
write_guards (Back cause) fault undone e = cc

pub writing_is : (standing : Standing) (done : ℕ) → writes_done standing ≡ Ok done → standing ≡ Writing done
writing_is (Open index case) done e = cc
writing_is (Writing n) done e = cc
writing_is (Done number) done e = cc
writing_is (Back cause) done e = cc

finish_guards : (standing : Standing) (writes : List Write) → is_done standing ≡ false
    → first_fault (fault_if (is_open standing) faults.NotDecided ∷ fault_if (is_back standing) faults.AlreadyDecided ∷ fault_if (nat_lt 0 (length (remaining writes standing))) faults.WritesLeft ∷ []) ≡ finish_fault standing (length writes)
finish_guards (Open index case) writes undone = refl
finish_guards (Writing done) writes undone = one_left (nat_lt 0 (length (drop done writes))) faults.WritesLeft ∙ ap (λ b. fault_if b faults.WritesLeft) (left_over done writes)
finish_guards (Done number) writes undone = cc
finish_guards (Back cause) writes undone = refl

-- what a write phase that ends has done
finishes : (standing : Standing) (writes : ℕ) → finish_fault standing writes ≡ None → (done : ℕ) × (standing ≡ Writing done)
finishes (Open index case) writes free = cc
finishes (Writing done) writes free = (done, refl)
finishes (Done number) writes free = cc
finishes (Back cause) writes free = cc

write_refusal : (parts : Parts) (sound : AreSound parts) (session place : ℕ) (u : UnderWay parts session place) (row : LogRow) → found_at parts place ≡ Some row
    → refusal (world_of parts) (WriteOne (suc u.slot_at)) ≡ first_fault (fault_if (is_open row.standing) faults.NotDecided ∷ fault_if (is_back row.standing) faults.AlreadyDecided ∷ [])
write_refusal parts sound session place u row at =
    let e = held_latest (suc u.slot_at) u.index parts.log u.row u.row_there in
    let_through parts u.slot_at u.slot u.hold _ sound u.there u.holds
    ∙ ap (λ b. first_fault (fault_if b faults.NotDecided ∷ fault_if (refusals.row_is_back (world_of parts) (suc u.slot_at)) faults.AlreadyDecided ∷ []))
    (latest_reads parts.log (suc u.slot_at) u.row false (λ r. is_open r.standing) e)
    ∙ ap (λ b. first_fault (fault_if (is_open u.row.standing) faults.NotDecided ∷ fault_if b faults.AlreadyDecided ∷ []))
    (latest_reads parts.log (suc u.slot_at) u.row true (λ r. is_back r.standing) e)
    ∙ ap (λ (r : LogRow). first_fault (fault_if (is_open r.standing) faults.NotDecided ∷ fault_if (is_back r.standing) faults.AlreadyDecided ∷ [])) (found_is parts session place u row at)

finish_refusal : (parts : Parts) (sound : AreSound parts) (session place : ℕ) (u : UnderWay parts session place) (row : LogRow) → found_at parts place ≡ Some row
    → refusal (world_of parts) (Finish (suc u.slot_at)) ≡ finish_fault row.standing (length row.writes)
finish_refusal parts sound session place u row at =
    let e = held_latest (suc u.slot_at) u.index parts.log u.row u.row_there in
    let_through parts u.slot_at u.slot u.hold _ sound u.there u.holds
    ∙ ap (λ b. first_fault (fault_if b faults.NotDecided ∷ fault_if (refusals.row_is_back (world_of parts) (suc u.slot_at)) faults.AlreadyDecided ∷ fault_if (refusals.has_writes_left (world_of parts) (suc u.slot_at)) faults.WritesLeft ∷ []))
    (latest_reads parts.log (suc u.slot_at) u.row false (λ r. is_open r.standing) e)
    ∙ ap (λ b. first_fault (fault_if (is_open u.row.standing) faults.NotDecided ∷ fault_if b faults.AlreadyDecided ∷ fault_if (refusals.has_writes_left (world_of parts) (suc u.slot_at)) faults.WritesLeft ∷ []))
    (latest_reads parts.log (suc u.slot_at) u.row true (λ r. is_back r.standing) e)
    ∙ ap (λ b. first_fault (fault_if (is_open u.row.standing) faults.NotDecided ∷ fault_if (is_back u.row.standing) faults.AlreadyDecided ∷ fault_if b faults.WritesLeft ∷ []))
    (latest_reads parts.log (suc u.slot_at) u.row false (λ r. nat_lt 0 (length (rest r))) e)
    ∙ finish_guards u.row.standing u.row.writes (unfinished parts session place sound u)
    ∙ ap (λ (r : LogRow). finish_fault r.standing (length r.writes)) (found_is parts session place u row at)

-- a session without a row in the log had it decided
gone_guards : (parts : Parts) (session : ℕ) (others : List (Option Fault)) → latest session parts.log ≡ None
    → first_fault (refusals.not_decided (world_of parts) session ∷ fault_if (refusals.row_is_back (world_of parts) session) faults.AlreadyDecided ∷ others) ≡ Some faults.AlreadyDecided
gone_guards parts session others none =
    ap (λ b. first_fault (fault_if b faults.NotDecided ∷ fault_if (refusals.row_is_back (world_of parts) session) faults.AlreadyDecided ∷ others)) (latest_none parts.log session false (λ r. is_open r.standing) none)
    ∙ ap (λ b. first_fault (fault_if b faults.AlreadyDecided ∷ others)) (latest_none parts.log session true (λ r. is_back r.standing) none)

-- The end of a write phase.

pub finish_exit : (parts : Parts) (world : World) → world_of parts ≡ world → AreSound parts → (session : ℕ) (reply : Result ℕ Fault) (fault : Fault) → reply ≡ Err fault → under_way_fault parts.slots (found_at parts) session ≡ Some fault → Step world (Finish session) (replied Finished reply) world
finish_exit parts world seen sound session reply fault is found =
    subst (λ r. Step world (Finish session) (replied Finished r) world) (sym is)
    (subst (λ w. Step w (Finish session) (Refused fault) w) seen (refused fault (told_gone parts session fault (λ s. refusals.not_decided (world_of parts) s ∷ fault_if (refusals.row_is_back (world_of parts) s) faults.AlreadyDecided ∷ fault_if (refusals.has_writes_left (world_of parts) s) faults.WritesLeft ∷ []) sound found
    (λ s none. gone_guards parts s (fault_if (refusals.has_writes_left (world_of parts) s) faults.WritesLeft ∷ []) none)) refl refl))

pub finish_kept : (parts : Parts) (world : World) → world_of parts ≡ world → AreSound parts → (session place : ℕ) (row : LogRow) (fault : Fault) → row_under_way parts.slots session ≡ Ok place → found_at parts place ≡ Some row → finish_fault row.standing (length row.writes) ≡ Some fault
    → Step world (Finish session) (Refused fault) world
finish_kept parts world seen sound session place row fault found at why =
    let u = found_row parts session place sound found row at in
    subst (λ w. Step w (Finish session) (Refused fault) w) seen
    (subst (λ s. Step (world_of parts) (Finish s) (Refused fault) (world_of parts)) (sym u.session_is)
    (refused fault (finish_refusal parts sound session place u row at ∙ why) refl refl))

-- the parts after the end of a write phase
abbrev pub ended : Parts → List Slot → List LogRow → Window → Parts
ended parts slots log window = record {
  settings = record { schema = parts.settings.schema; sessions = length slots; keep = window.keep };
  base = parts.base;
  log = log;
  table = parts.table;
  counter = parts.counter + 1;
  marks = parts.marks;
  phases = parts.phases;
  slots = slots;
  window = window.sets;
}

-- what the sessions gave up is the row's own
given_up : (parts : Parts) (session place : ℕ) (u : UnderWay parts session place) (last : ℕ) (hold : Hold) → slice_get parts.slots (session - 1) ≡ Some (record { last = last; hold = Some hold }) → hold ≡ u.hold
given_up parts session place u last hold at =
    let there : session - 1 ≡ u.slot_at = let e = u.session_is in omega arith in
    let same : Some (record { last = last; hold = Some hold }) ≡ Some u.slot = sym at ∙ ap (slice_get parts.slots) there ∙ u.there in
    let slots : record { last = last; hold = Some hold } ≡ u.slot = cc in
    let holds : Some hold ≡ Some u.hold = ap (λ (s : Slot). s.hold) slots ∙ u.holds in
    cc

pub finish_whole : (parts : Parts) (world : World) → world_of parts ≡ world → AreSound parts → (session place : ℕ) (row : LogRow) → row_under_way parts.slots session ≡ Ok place → found_at parts place ≡ Some row → finish_fault row.standing (length row.writes) ≡ None
    → (hold : Hold) → slice_get parts.slots (session - 1) ≡ Some (record { last = last_of parts.slots (session - 1); hold = Some hold })
    → (slots : List Slot) → slots ≡ slice_set parts.slots (session - 1) (record { last = last_of parts.slots (session - 1); hold = None })
    → (log : List LogRow) → log ≡ slice_set parts.log (place - parts.base.place) (record row { standing = Done (parts.counter + 1) })
    → (window : Window) → window ≡ advanced (record { keep = parts.settings.keep; sets = parts.window }) hold.writes
    → Step world (Finish session) (Finished (parts.counter + 1)) (world_of (ended parts slots log window)) × AreSound (ended parts slots log window)
finish_whole parts world seen sound session place row found at free hold gives slots slots_is log log_is window window_is =
    let u = found_row parts session place sound found row at in
    let same = found_is parts session place u row at in
    let there : session - 1 ≡ u.slot_at = let e = u.session_is in omega arith in
    let own : last_of parts.slots (session - 1) ≡ u.slot.last = ap (last_of parts.slots) there ∙ ap (λ o. elim o as (λ _. ℕ) [ None ↦ 0 | Some slot ↦ slot.last ]) u.there in
    let none : refusal (world_of parts) (Finish (suc u.slot_at)) ≡ None = finish_refusal parts sound session place u row at ∙ free in
    let stands = finishes row.standing (length row.writes) free in
    let stood : u.row.standing ≡ Writing stands.0 = ap (λ (r : LogRow). r.standing) same ∙ stands.1 in
    let slots_are : slice_set parts.slots u.slot_at (record { last = u.slot.last; hold = None }) ≡ slots =
    sym (slots_is ∙ ap (λ p. slice_set parts.slots p (record { last = last_of parts.slots (session - 1); hold = None })) there
    ∙ ap (λ n. slice_set parts.slots u.slot_at (record { last = n; hold = None })) own) in
    let count : parts.settings.sessions ≡ length slots = sym (ap length (sym slots_are) ∙ length-set parts.slots u.slot_at _ ∙ sound.each_session) in
    let log_are : slice_set parts.log u.index (standing_at u.row (Done (parts.counter + 1))) ≡ log =
    ap (λ r. slice_set parts.log u.index (standing_at r (Done (parts.counter + 1)))) same
    ∙ ap (λ p. slice_set parts.log p (record row { standing = Done (parts.counter + 1) })) u.index_is ∙ sym log_is in
    let writes_are : hold.writes ≡ u.row.writes = ap (λ (h : Hold). h.writes) (given_up parts session place u _ hold gives) ∙ u.writes_are in
    let keeps : parts.settings.keep ≡ window.keep = sym (ap (λ (w : Window). w.keep) window_is) in
    let sets_are = ap (λ w. (advanced (record { keep = parts.settings.keep; sets = parts.window }) w).sets) (sym writes_are) ∙ sym (ap (λ (w : Window). w.sets) window_is) in
    let moved : moves.finished_parts parts u.slot_at u.slot u.index u.row sound u.there u.row_there stands.0 stood none ≡ ended parts slots log window =
    ap (λ l. record (moves.finished_parts parts u.slot_at u.slot u.index u.row sound u.there u.row_there stands.0 stood none) { log = l }) log_are
    ∙ ap (λ s. record (ended parts s log window) { settings = parts.settings; window = (moves.finished_parts parts u.slot_at u.slot u.index u.row sound u.there u.row_there stands.0 stood none).window }) slots_are
    ∙ ap (λ w. record (ended parts slots log window) { settings = parts.settings; window = w }) sets_are
    ∙ ap (λ n. record (ended parts slots log window) { settings = record parts.settings { sessions = n } }) count
    ∙ ap (λ n. record (ended parts slots log window) { settings = record { schema = parts.settings.schema; sessions = length slots; keep = n } }) keeps in
    let step = subst (λ p. Step (world_of parts) (Finish (suc u.slot_at)) (Finished (parts.counter + 1)) (world_of p)) moved
    (moves.finished_step parts u.slot_at u.slot u.index u.row sound u.there u.row_there stands.0 stood none) in (
      subst (λ w. Step w (Finish session) (Finished (parts.counter + 1)) (world_of (ended parts slots log window))) seen
          (subst (λ s. Step (world_of parts) (Finish s) (Finished (parts.counter + 1)) (world_of (ended parts slots log window))) (sym u.session_is) step),
      subst AreSound moved (moves.finished_sound parts u.slot_at u.slot u.index u.row sound u.there u.row_there stands.0 stood none),
    )

-- The single writes.

pub write_exit : (parts : Parts) (world : World) → world_of parts ≡ world → AreSound parts → (session : ℕ) (reply : Result SingleWrite Fault) (fault : Fault) → reply ≡ Err fault → under_way_fault parts.slots (found_at parts) session ≡ Some fault → Step world (WriteOne session) (replied (wrote world) reply) world
write_exit parts world seen sound session reply fault is found =
    subst (λ r. Step world (WriteOne session) (replied (wrote world) r) world) (sym is)
    (subst (λ w. Step w (WriteOne session) (Refused fault) w) seen (refused fault (told_gone parts session fault (λ s. refusals.not_decided (world_of parts) s ∷ fault_if (refusals.row_is_back (world_of parts) s) faults.AlreadyDecided ∷ []) sound found
    (λ s none. gone_guards parts s [] none)) refl refl))

pub write_kept : (parts : Parts) (world : World) → world_of parts ≡ world → AreSound parts → (session place : ℕ) (row : LogRow) (reply : Result SingleWrite Fault) (fault : Fault) → reply ≡ Err fault → row_under_way parts.slots session ≡ Ok place → found_at parts place ≡ Some row → writes_done row.standing ≡ Err fault
    → Step world (WriteOne session) (replied (wrote world) reply) world
write_kept parts world seen sound session place row reply fault is found at why =
    let u = found_row parts session place sound found row at in
    let undone = sym (ap (λ (r : LogRow). is_done r.standing) (found_is parts session place u row at)) ∙ unfinished parts session place sound u in
    subst (λ r. Step world (WriteOne session) (replied (wrote world) r) world) (sym is)
    (subst (λ w. Step w (WriteOne session) (Refused fault) w) seen
    (subst (λ s. Step (world_of parts) (WriteOne s) (Refused fault) (world_of parts)) (sym u.session_is)
    (refused fault (write_refusal parts sound session place u row at ∙ write_guards row.standing fault undone why) refl refl)))

-- a row in its write phase may write
pub may_write : (parts : Parts) (sound : AreSound parts) (session place : ℕ) (u : UnderWay parts session place) (row : LogRow) (done : ℕ) → found_at parts place ≡ Some row → row.standing ≡ Writing done → refusal (world_of parts) (WriteOne (suc u.slot_at)) ≡ None
may_write parts sound session place u row done at stands =
    write_refusal parts sound session place u row at ∙ ap (λ s. first_fault (fault_if (is_open s) faults.NotDecided ∷ fault_if (is_back s) faults.AlreadyDecided ∷ [])) stands

pub write_none : (parts : Parts) (world : World) → world_of parts ≡ world → AreSound parts → (session place : ℕ) (row : LogRow) (done : ℕ) → row_under_way parts.slots session ≡ Ok place → found_at parts place ≡ Some row → writes_done row.standing ≡ Ok done → slice_get row.writes done ≡ None
    → Step world (WriteOne session) NoMore world
write_none parts world seen sound session place row done found at goes next =
    let u = found_row parts session place sound found row at in
    let same = found_is parts session place u row at in
    let stands = writing_is row.standing done goes in
    subst (λ w. Step w (WriteOne session) NoMore w) seen
    (subst (λ s. Step (world_of parts) (WriteOne s) NoMore (world_of parts)) (sym u.session_is)
    (moves.no_more_step parts u.slot_at u.slot u.index u.row sound u.there u.row_there done (ap (λ (r : LogRow). r.standing) same ∙ stands)
    (ap (λ (r : LogRow). slice_get r.writes done) same ∙ next) (may_write parts sound session place u row done at stands)))

next_rest : (writes : List Write) (done : ℕ) (write : Write) → slice_get writes done ≡ Some write → drop done writes ≡ write ∷ drop (suc done) writes
next_rest [] done write at = cc
next_rest (w ∷ ws) zero write at = let e : w ≡ write = cc in ap (λ x. x ∷ ws) e
next_rest (w ∷ ws) (suc done) write at = next_rest ws done write at

puts : (rest : List Write) (write : Write) (others : List Write) → rest ≡ write ∷ others → (elim rest as (λ _. Bool) [ [] ↦ false | w ∷ ws ↦ is_some w.1 ]) ≡ is_some write.1
puts rest write others is = ap (λ r. elim r as (λ _. Bool) [ [] ↦ false | w ∷ ws ↦ is_some w.1 ]) is

pub write_starved : (parts : Parts) (world : World) → world_of parts ≡ world → AreSound parts → (session place : ℕ) (row : LogRow) (done : ℕ) (write : Write) → row_under_way parts.slots session ≡ Ok place → found_at parts place ≡ Some row → writes_done row.standing ≡ Ok done
    → slice_get row.writes done ≡ Some write → is_some write.1 ≡ true → (table : State) → table ≡ parts.table
    → Step world (WriteOne session) (Refused faults.Memory) (world_of (record parts { table = table }))
write_starved parts world seen sound session place row done write found at goes next some table kept =
    let u = found_row parts session place sound found row at in
    let stands = writing_is row.standing done goes in
    let same = found_is parts session place u row at in
    let remains : rest u.row ≡ write ∷ drop (suc done) row.writes = ap rest same ∙ ap (remaining row.writes) stands ∙ next_rest row.writes done write next in
    let wants : takes_memory (world_of parts) (WriteOne (suc u.slot_at)) ≡ true =
    latest_reads parts.log (suc u.slot_at) u.row false (λ r. elim (rest r) [ [] ↦ false | w ∷ ws ↦ is_some w.1 ]) (held_latest (suc u.slot_at) u.index parts.log u.row u.row_there)
    ∙ puts (rest u.row) write (drop (suc done) row.writes) remains ∙ some in
    subst (λ w. Step w (WriteOne session) (Refused faults.Memory) (world_of (record parts { table = table }))) seen
    (subst (λ t. Step (world_of parts) (WriteOne session) (Refused faults.Memory) (world_of (record parts { table = t }))) (sym kept)
    (subst (λ s. Step (world_of parts) (WriteOne s) (Refused faults.Memory) (world_of parts)) (sym u.session_is)
    (starved (may_write parts sound session place u row done at stands) wants refl refl)))

-- a write that is refused for memory is replied so
pub write_err : (old new after : World) (session : ℕ) (reply : Result SingleWrite Fault) → reply ≡ Err faults.Memory → Step old (WriteOne session) (Refused faults.Memory) new → Step old (WriteOne session) (replied (wrote after) reply) new
write_err old new after session reply is step = subst (λ r. Step old (WriteOne session) (replied (wrote after) r) new) (sym is) step

placed_at : (tables : ℕ) (writes : List Write) (k : ℕ) (write : Write) → ArePlaced tables writes → slice_get writes k ≡ Some write → write.0.0 < tables
placed_at tables [] k write placed at = cc
placed_at tables (w ∷ ws) zero write placed at = let e : w ≡ write = cc in subst (λ (x : Write). x.0.0 < tables) e placed.0
placed_at tables (w ∷ ws) (suc k) write placed at = placed_at tables ws k write placed.1 at

-- a row under way writes to tables that there are
pub write_placed : (parts : Parts) → AreSound parts → (session place : ℕ) (row : LogRow) (tables : ℕ) → HoldsArePlaced tables parts.slots → row_under_way parts.slots session ≡ Ok place → found_at parts place ≡ Some row
    → (k : ℕ) (write : Write) → slice_get row.writes k ≡ Some write → write.0.0 < tables
write_placed parts sound session place row tables placed found at k write there =
    let u = found_row parts session place sound found row at in
    let same = found_is parts session place u row at in
    placed_at tables row.writes k write (subst (ArePlaced tables) (u.writes_are ∙ ap (λ (r : LogRow). r.writes) same) (placed u.slot_at u.slot u.hold u.there u.holds)) there

-- the write that was done is named by its places, in any world with that base and log
pub write_named : (world : World) (parts : Parts) → world.base ≡ parts.base → (place : ℕ) (row : LogRow) (standing : Standing) (done : ℕ) (write : Write) → found_at parts place ≡ Some row
    → world.log ≡ slice_set parts.log (place - parts.base.place) (record row { standing = standing }) → slice_get row.writes done ≡ Some write
    → written_in world place done ≡ Some write.0
write_named world parts based place row standing done write at is next =
    let i = at_index parts.base.place parts.log place row at in
    let behind : place - parts.base.place ≡ i.0 = let e = i.1 in omega arith in
    let there : slice_get (slice_set parts.log i.0 (record row { standing = standing })) i.0 ≡ Some (record row { standing = standing }) = slice_get-set parts.log i.0 row (record row { standing = standing }) i.2 in
    (λ j. written_at (row_placed (based j).place (is j)) place done)
    ∙ ap (λ n. written_at (row_placed parts.base.place (slice_set parts.log n (record row { standing = standing }))) place done) behind
    ∙ ap (option_and_then (λ (r : LogRow). option_map (λ (w : Write). w.0) (slice_get r.writes done)))
    (ap (row_placed parts.base.place (slice_set parts.log i.0 (record row { standing = standing }))) i.1 ∙ from_index parts.base.place i.0 (slice_set parts.log i.0 (record row { standing = standing })) ∙ there)
    ∙ ap (option_map (λ (w : Write). w.0)) next

pub write_whole : (parts : Parts) (world : World) → world_of parts ≡ world → AreSound parts → (session place : ℕ) (row : LogRow) (done : ℕ) (write : Write) → row_under_way parts.slots session ≡ Ok place → found_at parts place ≡ Some row → writes_done row.standing ≡ Ok done
    → slice_get row.writes done ≡ Some write → (log : List LogRow) → log ≡ slice_set parts.log (place - parts.base.place) (record row { standing = Writing (done + 1) }) → (table : State) → table ≡ put parts.table write
    → Step world (WriteOne session) (replied (wrote (world_of (record parts { log = log; table = table }))) (Ok (code_write.Wrote place done))) (world_of (record parts { log = log; table = table })) × AreSound (record parts { log = log; table = table })
write_whole parts world seen sound session place row done write found at goes next log log_is table table_is =
    let u = found_row parts session place sound found row at in
    let same = found_is parts session place u row at in
    let stands = writing_is row.standing done goes in
    let stood : u.row.standing ≡ Writing done = ap (λ (r : LogRow). r.standing) same ∙ stands in
    let there : slice_get u.row.writes done ≡ Some write = ap (λ (r : LogRow). slice_get r.writes done) same ∙ next in
    let none = may_write parts sound session place u row done at stands in
    let log_are : slice_set parts.log u.index (standing_at u.row (Writing (done + 1))) ≡ log =
    ap (λ r. slice_set parts.log u.index (standing_at r (Writing (done + 1)))) same
    ∙ ap (λ p. slice_set parts.log p (record row { standing = Writing (done + 1) })) u.index_is ∙ sym log_is in
    let moved : moves.written_parts parts u.slot_at u.slot u.index u.row sound u.there u.row_there done write stood there none ≡ record parts { log = log; table = table } =
    ap (λ l. record parts { log = l; table = put parts.table write }) log_are ∙ ap (λ t. record parts { log = log; table = t }) (sym table_is) in
    let step = subst (λ p. Step (world_of parts) (WriteOne (suc u.slot_at)) (Wrote write.0) (world_of p)) moved
    (moves.written_step parts u.slot_at u.slot u.index u.row sound u.there u.row_there done write stood there none) in
    let after = world_of (record parts { log = log; table = table }) in
    let named : replied (wrote after) (Ok (code_write.Wrote place done)) ≡ Wrote write.0 = ap (λ o. elim o as (λ _. Reply) [ None ↦ NoMore | Some object ↦ Wrote object ]) (write_named after parts refl place row (Writing (done + 1)) done write at log_is next) in (
      subst (λ w. Step w (WriteOne session) (replied (wrote after) (Ok (code_write.Wrote place done))) (world_of (record parts { log = log; table = table }))) seen
          (subst (λ r. Step (world_of parts) (WriteOne session) r (world_of (record parts { log = log; table = table }))) (sym named)
          (subst (λ s. Step (world_of parts) (WriteOne s) (Wrote write.0) (world_of (record parts { log = log; table = table }))) (sym u.session_is) step)),
      subst AreSound moved (moves.written_sound parts u.slot_at u.slot u.index u.row sound u.there u.row_there done write stood there none),
    )
