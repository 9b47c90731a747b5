-- A whole replay, put together from its parts.
use Rattle.std.proofs.Common.{◌≡◌, ℕ, ◌+◌, refl, Bool, true, List, [], ◌∷◌, ◌++◌, length, map, Option, None, Some, Result, Ok, Err, sym, ap, subst, ◌∙◌, inl, inr, append_assoc, append-nil, IfErr, IsErrAnd}
use Rattle.occ_cli.proofs.Common.{Appends, Keeps, IsAtEnd, prepend_known, Appends-nil, Appends-trans, prepend_known-nil, length-map, Schema, Settings, WriteFault, Source, HasFailed, lines_text, Pushed, PushedFront, Replayed, Turn, Schedule, IsReplayed, opened_by, place_behind, step_lines, schedule_lines, answer_lines, Answers, book_at, book_after, IsAudited, closing_lines, replay_lines, IsNoStep, NoLineThere, LineOfNoStep, IsNoTurn, IsMalformedAt, IsUnreadable, IsCutShort, CutAmid, CutAtEnd, ReplayGives, AppendsFront, Sends, step_text, AreTurns, TurnsGive, ClosingGives, is_cut_short, Pushed-nothing, front_none, front_behind, lines_then}
use Rattle.occ_text.specs.declared.faults.ReadFault.{ReadFault}
use Rattle.occ_text.specs.declared.faults.ReadFault.TheVariants as faults
use Rattle.occ_text.specs.declared.faults.WriteFault.TheVariants as write_faults
use Rattle.occ_text.specs.Faults.{read_trouble, write_trouble}
use Rattle.occ_text.specs.declared.trouble.Trouble.{Trouble}
use Rattle.occ_text.specs.declared.trouble.Trouble.TheVariants as troubles
use Rattle.occ_text.specs.Headers.{Header, HeaderFits, header_text}
use Rattle.std.specs.List.{All}
use Rattle.std.proofs.lemmas.List.Elements.{All-head, All-tail}
use Rattle.occ_text.specs.Languages.{Position, Took, Stopped, FailsAt, point, start}
use Rattle.occ_text.specs.Line.{NoLine, OtherLine}
use Rattle.occ_text.specs.ScheduleLines.{HasLine, Place, Version, Sessions, Queue, Keep, Tables, Steps, IsOpening, HeaderTaken, schedules}
use Rattle.occ_text.specs.Steps.{Step}
use Rattle.occ_text.proofs.LinesTaken.{Path, on, ◌and◌, more_to_come, torn_or_long}
use Rattle.occ_text.proofs.LinesTaken as lines
use Rattle.occ_cli.proofs.Settings.{plays_all_keep}

-- ---- a header and the steps behind it

abbrev of_turns : Header → List Turn → Replayed → Schedule
of_turns header turns state = record { header = header; turns = turns; state = state }

is_replayed : (header : Header) (turns : List Turn) (state : Replayed) (a b : Option (List ℕ)) → HeaderFits header → AreTurns header.version a b (opened_by header) turns state → IsReplayed (of_turns header turns state)
is_replayed header turns state a b fits are = record { header = fits; steps = are.steps; played = are.played }

-- lines of steps lead on behind others
steps_lead : (header : Header) (before : List Step) (turns : List Turn) → All (λ (turn : Turn). HasLine header.version turn.0) turns → Path schedules (Steps header before) (Steps header (before ++ map (λ (turn : Turn). turn.0) turns)) (step_lines turns)
steps_lead header before [] each = record { leads = ap (Steps header) (append-nil before) }
steps_lead header before (turn ∷ turns) each =
    let more = steps_lead header (before ++ turn.0 ∷ []) turns (All-tail (λ (t : Turn). HasLine header.version t.0) turn turns each) in
    on {q = Steps header (before ++ turn.0 ∷ [])} (turn.0, All-head (λ (t : Turn). HasLine header.version t.0) turn turns each, refl, refl)
    (subst (λ (all : List Step). Path schedules (Steps header (before ++ turn.0 ∷ [])) (Steps header all) (step_lines turns)) (append_assoc before (turn.0 ∷ []) (map (λ (t : Turn). t.0) turns)) more)

-- a header was taken from the beginning of a text
abbrev pub HeadTaken : Header → Option (List ℕ) → Option (List ℕ) → ℕ → Type 0
HeadTaken header a b last = Took schedules Version (Steps header []) (start a) (point b last) (header_text header)

pub head_taken : {fits : Type 0} (header : Header) (a b : Option (List ℕ)) (first last : ℕ) → first ≡ 0 → Took schedules Version (Steps header []) (point a first) (point b last) (header_text header) × fits → HeadTaken header a b last
head_taken header a b first last none h = subst (λ (n : ℕ). Took schedules Version (Steps header []) (point a n) (point b last) (header_text header)) none h.0

-- and steps behind it
steps_taken : (header : Header) (turns : List Turn) (state : Replayed) (a b c : Option (List ℕ)) (first : ℕ) → HeadTaken header a b first → AreTurns header.version b c (opened_by header) turns state
    → Took schedules Version (place_behind (of_turns header turns state)) (start a) (point c (first + length turns)) (schedule_lines (of_turns header turns state))
steps_taken header turns state a b c first head are =
    let path = steps_lead header [] turns are.steps in
    let behind : Took schedules (Steps header []) (Steps header (map (λ (turn : Turn). turn.0) turns)) (point b first) (point c (first + length turns)) (step_lines turns) =
    record { taken = are.taken; leads = path.leads; number = ap (λ (k : ℕ). first + k) (sym (length-map turns (λ (turn : Turn). step_text turn.0))) } in
    head and behind

-- ---- what was said

-- before the steps nothing is
opening_answers : (quiet : Bool) (Said : List ℕ → Type 0) (place : Place) → IsOpening place → Said [] → Answers quiet Said place
opening_answers quiet Said Version opening said = said
opening_answers quiet Said (Sessions version) opening said = said
opening_answers quiet Said (Queue version sessions) opening said = said
opening_answers quiet Said (Keep version sessions queue) opening said = said
opening_answers quiet Said (Tables limits tables) opening said = said
opening_answers quiet Said (Steps header before) opening said = absurd opening

-- what was said, said otherwise
answers_so : (quiet : Bool) (Said Says : List ℕ → Type 0) → ((text : List ℕ) → Said text → Says text) → (place : Place) → Answers quiet Said place → Answers quiet Says place
answers_so quiet Said Says so Version said = so [] said
answers_so quiet Said Says so (Sessions version) said = so [] said
answers_so quiet Said Says so (Queue version sessions) said = so [] said
answers_so quiet Said Says so (Keep version sessions queue) said = so [] said
answers_so quiet Said Says so (Tables limits tables) said = so [] said
answers_so quiet Said Says so (Steps header before) (s, is, there, said) = (s, is, there, so (lines_text (answer_lines quiet s.header.tables s.turns)) said)

-- ---- the exits

-- the text isn't that of a header, or it couldn't be read, or memory was refused for it
pub header_stopped : {X T : Type 0} (view : X → Header) (fault : ReadFault) (result : Result T Trouble) (quiet : Bool) (a b : Option (List ℕ)) (w : Option (List ℕ)) (held : List ℕ) (first last : ℕ) → IsErrAnd result (λ e. e ≡ read_trouble fault) → first ≡ 0
    → HeaderTaken view (Err fault) (point a first) (point b last) → ReplayGives quiet a (Pushed w w held held) (PushedFront w w held held) result b
header_stopped view fault (Ok done) quiet a b w held first last is none h = absurd is
header_stopped view fault (Err e) quiet a b w held first last is none h =
    subst (λ (t : Trouble). ReplayGives quiet a (Pushed w w held held) (PushedFront w w held held) {T = Unit {0}} (Err t) b) (sym is) (by fault (subst (λ (n : ℕ). FailsAt schedules IsOpening fault Version (point a n) b) none h))
  where
    nothing : (place : Place) → IsOpening place → Answers quiet (Pushed w w held held) place
    nothing place opening = opening_answers quiet (Pushed w w held held) place opening (Pushed-nothing w held)

    by : (fault : ReadFault) → FailsAt schedules IsOpening fault Version (start a) b → ReplayGives quiet a (Pushed w w held held) (PushedFront w w held held) {T = Unit {0}} (Err (read_trouble fault)) b
    by (faults.Malformed n) (stopped, opening) = inl (stopped, nothing stopped.place opening)
    by faults.Read (torn, opening) = (torn, nothing torn.place opening)
    by faults.TooManyLines (uncounted, opening) = inr (uncounted, refl, nothing uncounted.place opening)
    by faults.Memory k = CutAmid Version (start a) [] lines.none (front_none w held [])

-- nothing was taken or written
pub cut_before : (quiet : Bool) (before : Option (List ℕ)) (Wrote WroteFront : List ℕ → Type 0) → WroteFront [] → IsCutShort quiet before Wrote WroteFront
cut_before quiet before Wrote WroteFront said = CutAmid Version (start before) [] lines.none said

abbrev stops : Trouble → Result (Unit {0}) Trouble
stops trouble = Err trouble

-- no step stands behind some turns
no_step : (header : Header) (before : List Step) (rest : Option (List ℕ)) (number : ℕ) {a : Position} {lines : List (List ℕ)} (n : ℕ) → Took schedules Version (Steps header before) a (point rest n) lines → IsNoStep header.version rest → number ≡ n + 1
    → (stopped : Stopped schedules Version a number) × (stopped.place ≡ Steps header before)
no_step header before rest number {lines = lines} n took (NoLineThere none) here =
    (record { place = Steps header before; rest = point rest n; lines = lines; took = took; stuck = NoLine none; unended = torn_or_long schedules (Steps header before) rest none; here = here }, refl)
no_step header before rest number {lines = lines} n took (LineOfNoStep line after taken is none) here = (
  record {
    place = Steps header before;
    rest = point rest n;
    lines = lines;
    took = took;
    stuck = OtherLine line after taken is (λ leads. none leads.1.0 leads.1.1.fits leads.1.2);
    unended = more_to_come schedules (Steps header before) line rest after taken;
    here = here;
  },
  refl,
)

-- the answers of a schedule, at a place that is the one behind it
said_there : (quiet : Bool) (Said : List ℕ → Type 0) (s : Schedule) (place : Place) → place ≡ place_behind s → IsReplayed s → Said (lines_text (answer_lines quiet s.header.tables s.turns)) → Answers quiet Said place
said_there quiet Said s place there is said = subst (Answers quiet Said) (sym there) (s, is, refl, said)

-- the line behind some turns is malformed
malformed_behind : (quiet : Bool) (a rest : Option (List ℕ)) (Wrote WroteFront : List ℕ → Type 0) (s : Schedule) (k n : ℕ) → IsReplayed s → Took schedules Version (place_behind s) (start a) (point rest k) (schedule_lines s) → IsNoTurn s.header.version rest k n
    → Wrote (lines_text (answer_lines quiet s.header.tables s.turns)) → IsMalformedAt quiet a Wrote WroteFront n
malformed_behind quiet a rest Wrote WroteFront s k n is took (inl h) said =
    let stopped = no_step s.header (map (λ (turn : Turn). turn.0) s.turns) rest n k took h.0 h.1 in
    inl (stopped.0, said_there quiet Wrote s stopped.0.place stopped.1 is said)
malformed_behind quiet a rest Wrote WroteFront s k n is took (inr h) said =
    inr (record { place = place_behind s; rest = point rest k; lines = schedule_lines s; took = took; here = h.0 }, h.1, (s, is, refl, said))

-- the steps ended with trouble
stopped_with : {T : Type 0} (result : Result T Trouble) (trouble : Trouble) (quiet : Bool) (header : Header) (a b c : Option (List ℕ)) (w v : Option (List ℕ)) (held keeps : List ℕ) (first : ℕ) (new : Replayed) → result ≡ Err trouble
    → HeadTaken header a b first → HeaderFits header
    → TurnsGive quiet header.version header.tables (Pushed w v held keeps) (PushedFront w v held keeps) (stops trouble) b c first (opened_by header) new
    → ReplayGives quiet a (Pushed w v held keeps) (PushedFront w v held keeps) result c
stopped_with result (troubles.Malformed n) quiet header a b c w v held keeps first new is head fits t =
    subst (λ (r : Result _ Trouble). ReplayGives quiet a (Pushed w v held keeps) (PushedFront w v held keeps) r c) (sym is)
    (malformed_behind quiet a t.1 (Pushed w v held keeps) (PushedFront w v held keeps) (of_turns header t.0 t.2) (first + length t.0) n (is_replayed header t.0 t.2 b t.1 fits t.3) (steps_taken header t.0 t.2 a b t.1 first head t.3) t.4 t.5)
stopped_with result troubles.Read quiet header a b c w v held keeps first new is head fits t =
    let s = of_turns header t.0 t.3 in
    subst (λ (r : Result _ Trouble). ReplayGives quiet a (Pushed w v held keeps) (PushedFront w v held keeps) r c) (sym is)
    (record { place = place_behind s; rest = point t.2 (first + length t.0); lines = schedule_lines s; took = steps_taken header t.0 t.3 a b t.2 first head t.4; part = t.1; lost = t.6; torn = t.5 }, (s, is_replayed header t.0 t.3 b t.2 fits t.4, refl, t.7))
stopped_with result trouble quiet header a b c w v held keeps first new is head fits t =
    let s = of_turns header t.turns t.new in
    subst (λ (r : Result _ Trouble). ReplayGives quiet a (Pushed w v held keeps) (PushedFront w v held keeps) r c) (sym is)
    (CutAmid (place_behind s) (point t.rest (first + length t.turns)) (schedule_lines s) (steps_taken header t.turns t.new a b t.rest first head t.are) (s, is_replayed header t.turns t.new b t.rest fits t.are, refl, t.wrote))

pub turns_stopped : {T : Type 0} (result : Result T Trouble) (trouble : Trouble) (quiet : Bool) (header : Header) (start : Replayed) (a b c : Option (List ℕ)) (w v : Option (List ℕ)) (held keeps : List ℕ) (first : ℕ) (new : Replayed) → start ≡ opened_by header
    → result ≡ Err trouble → HeadTaken header a b first → HeaderFits header
    → TurnsGive quiet header.version start.world.settings.schema (Pushed w v held keeps) (PushedFront w v held keeps) (stops trouble) b c first start new
    → ReplayGives quiet a (Pushed w v held keeps) (PushedFront w v held keeps) result c
turns_stopped result trouble quiet header start a b c w v held keeps first new began is head fits t =
    stopped_with result trouble quiet header a b c w v held keeps first new is head fits
    (subst (λ (r : Replayed). TurnsGive quiet header.version r.world.settings.schema (Pushed w v held keeps) (PushedFront w v held keeps) (stops trouble) b c first r new) began t)

-- what was pushed behind the answers
behind_answers : (quiet : Bool) (schema : Schema) (w v u : Option (List ℕ)) (held mid keeps : List ℕ) (turns : List Turn) (lines : List (List ℕ)) → Pushed w v held mid (lines_text (answer_lines quiet schema turns)) → Pushed v u mid keeps (lines_text lines)
    → Pushed w u held keeps (lines_text (answer_lines quiet schema turns ++ lines))
behind_answers quiet schema w v u held mid keeps turns lines h k = lines_then (Ok tt) w v u held mid keeps (answer_lines quiet schema turns) lines h k

front_of_answers : (quiet : Bool) (schema : Schema) (w v u : Option (List ℕ)) (held mid keeps : List ℕ) (turns : List Turn) (lines : List (List ℕ)) → Pushed w v held mid (lines_text (answer_lines quiet schema turns)) → PushedFront v u mid keeps (lines_text lines)
    → PushedFront w u held keeps (lines_text (answer_lines quiet schema turns ++ lines))
front_of_answers quiet schema w v u held mid keeps turns lines h k = front_behind w v u held mid keeps (answer_lines quiet schema turns) lines h k

-- the outcome of what stands behind the answers, as that of the whole
abbrev pub troubled : {T : Type 0} → Result T WriteFault → Result T Trouble
troubled (Ok done) = Ok done
troubled (Err fault) = Err (write_trouble fault)

-- the book behind the steps
cut_in_closing : (quiet : Bool) (s : Schedule) (a : Option (List ℕ)) (rest : Position) (w v u : Option (List ℕ)) (held mid keeps : List ℕ) → IsReplayed s → Took schedules Version (place_behind s) (start a) rest (schedule_lines s) → IsAtEnd rest.left
    → Pushed w v held mid (lines_text (answer_lines quiet s.header.tables s.turns))
    → IsAudited (book_after s) × PushedFront v u mid keeps (lines_text (closing_lines (book_after s))) → IsCutShort quiet a (Pushed w u held keeps) (PushedFront w u held keeps)
cut_in_closing quiet s a rest w v u held mid keeps is took end said k =
    CutAtEnd s rest took is end k.0 (front_of_answers quiet s.header.tables w v u held mid keeps s.turns (closing_lines (book_after s)) said k.1)

closed_with : {T : Type 0} (closing : Result T WriteFault) (quiet : Bool) (s : Schedule) (a : Option (List ℕ)) (rest : Position) (after : Option (List ℕ)) (w v u : Option (List ℕ)) (held mid keeps : List ℕ) → IsReplayed s
    → Took schedules Version (place_behind s) (start a) rest (schedule_lines s) → IsAtEnd rest.left → Keeps rest.left after
    → Pushed w v held mid (lines_text (answer_lines quiet s.header.tables s.turns)) → ClosingGives (Pushed v u mid keeps) (PushedFront v u mid keeps) closing (book_after s)
    → ReplayGives quiet a (Pushed w u held keeps) (PushedFront w u held keeps) (troubled closing) after
closed_with (Ok done) quiet s a rest after w v u held mid keeps is took end kept said k =
    (s, rest, took, is, end, kept, k.0, behind_answers quiet s.header.tables w v u held mid keeps s.turns (closing_lines (book_after s)) said k.1)
closed_with (Err write_faults.Write) quiet s a rest after w v u held mid keeps is took end kept said k = cut_in_closing quiet s a rest w v u held mid keeps is took end said k
closed_with (Err write_faults.Memory) quiet s a rest after w v u held mid keeps is took end kept said k = cut_in_closing quiet s a rest w v u held mid keeps is took end said k

abbrev with_schema : Header → Settings → Header
with_schema header settings = record { version = header.version; sessions = header.sessions; queue = header.queue; keep = header.keep; tables = settings.schema }

ended_with : {T : Type 0} (closing : Result T WriteFault) (quiet : Bool) (header : Header) (last : Replayed) (a b c : Option (List ℕ)) (w v u : Option (List ℕ)) (held mid keeps : List ℕ) (first : ℕ)
    → HeadTaken header a b first → HeaderFits header
    → (turns : List Turn) × (rest : Option (List ℕ)) × AreTurns header.version b rest (opened_by header) turns last × IsAtEnd rest × Keeps rest c × Pushed w v held mid (lines_text (answer_lines quiet header.tables turns))
    → ClosingGives (Pushed v u mid keeps) (PushedFront v u mid keeps) closing (book_at (with_schema header last.world.settings) last.world)
    → ReplayGives quiet a (Pushed w u held keeps) (PushedFront w u held keeps) (troubled closing) c
ended_with closing quiet header last a b c w v u held mid keeps first head fits t k =
    let same = plays_all_keep (opened_by header) t.0 last t.2.played in
    closed_with closing quiet (of_turns header t.0 last) a (point t.1 (first + length t.0)) c w v u held mid keeps (is_replayed header t.0 last b t.1 fits t.2) (steps_taken header t.0 last a b t.1 first head t.2) t.3 t.4 t.5
    (subst (λ (s : Settings). ClosingGives (Pushed v u mid keeps) (PushedFront v u mid keeps) closing (book_at (with_schema header s) last.world)) same k)

pub all_closed : {T : Type 0} (closing : Result T WriteFault) (quiet : Bool) (header : Header) (start last : Replayed) (a b c : Option (List ℕ)) (w v u : Option (List ℕ)) (held mid keeps : List ℕ) (first : ℕ)
    → start ≡ opened_by header → HeadTaken header a b first → HeaderFits header
    → (turns : List Turn) × (rest : Option (List ℕ)) × AreTurns header.version b rest start turns last × IsAtEnd rest × Keeps rest c × Pushed w v held mid (lines_text (answer_lines quiet start.world.settings.schema turns))
    → ClosingGives (Pushed v u mid keeps) (PushedFront v u mid keeps) closing (book_at (with_schema header last.world.settings) last.world)
    → ReplayGives quiet a (Pushed w u held keeps) (PushedFront w u held keeps) (troubled closing) c
all_closed closing quiet header start last a b c w v u held mid keeps first began head fits t k =
    ended_with closing quiet header last a b c w v u held mid keeps first head fits
    (subst
    (λ (r : Replayed). (turns : List Turn) × (rest : Option (List ℕ)) × AreTurns header.version b rest r turns last × IsAtEnd rest × Keeps rest c × Pushed w v held mid (lines_text (answer_lines quiet r.world.settings.schema turns)))
    began t) k

-- the same, by the exit of a `?`
pub all_cut : (fault : WriteFault) (result : Result (Unit {0}) Trouble) (quiet : Bool) (header : Header) (start last : Replayed) (a b c : Option (List ℕ)) (w v u : Option (List ℕ)) (held mid keeps : List ℕ) (first : ℕ) → IsErrAnd result (λ e. e ≡ write_trouble fault)
    → start ≡ opened_by header → HeadTaken header a b first → HeaderFits header
    → (turns : List Turn) × (rest : Option (List ℕ)) × AreTurns header.version b rest start turns last × IsAtEnd rest × Keeps rest c × Pushed w v held mid (lines_text (answer_lines quiet start.world.settings.schema turns))
    → ClosingGives (Pushed v u mid keeps) (PushedFront v u mid keeps) {T = Unit {0}} (Err fault) (book_at (with_schema header last.world.settings) last.world)
    → ReplayGives quiet a (Pushed w u held keeps) (PushedFront w u held keeps) result c
all_cut fault (Ok done) quiet header start last a b c w v u held mid keeps first is began head fits t k = absurd is
all_cut fault (Err e) quiet header start last a b c w v u held mid keeps first is began head fits t k =
    subst (λ (r : Trouble). ReplayGives quiet a (Pushed w u held keeps) (PushedFront w u held keeps) {T = Unit {0}} (Err r) c) (sym is)
    (all_closed {T = Unit {0}} (Err fault) quiet header start last a b c w v u held mid keeps first began head fits t k)

-- a failed write and a want of memory are no failed read
pub no_read : {T : Type 0} (P : Type 0) (fault : WriteFault) (result : Result T Trouble) → IsErrAnd result (λ e. e ≡ write_trouble fault) → IfErr result (λ e. e ≡ troubles.Read → P)
no_read P fault (Ok done) is = absurd is
no_read P write_faults.Write (Err e) is = λ (read : e ≡ troubles.Read). absurd cc
no_read P write_faults.Memory (Err e) is = λ (read : e ≡ troubles.Read). absurd cc

-- a trouble that is passed on tells what it told
pub told_on : {T : Type 0} (Tells : Trouble → Type 0) (trouble : Trouble) (result : Result T Trouble) → IsErrAnd result (λ e. e ≡ trouble) → Tells trouble → IfErr result Tells
told_on Tells trouble (Ok done) is tells = absurd is
told_on Tells trouble (Err e) is tells = subst Tells (sym is) tells

-- a failed write is told for the cause that the fault behind it has
pub wrote_for_cause : {T : Type 0} (Cause : Type 0) (fault : WriteFault) (result : Result T Trouble) → IsErrAnd result (λ e. e ≡ write_trouble fault) → (fault ≡ write_faults.Write → Cause) → IfErr result (λ e. e ≡ troubles.Write → Cause)
wrote_for_cause Cause fault (Ok done) is cause = absurd is
wrote_for_cause Cause write_faults.Write (Err e) is cause = λ (write : e ≡ troubles.Write). cause refl
wrote_for_cause Cause write_faults.Memory (Err e) is cause = λ (write : e ≡ troubles.Write). absurd cc

-- ---- from what was pushed to what was written

-- all that was pushed was sent
all_written : (a b c : Option (List ℕ)) (held bytes : List ℕ) → Pushed a b [] held bytes → Appends b c held → Appends a c bytes
all_written a b c held bytes h k = subst (Appends a c) (sym h.sends.whole) (Appends-trans a b c h.sends.sent held h.sends.written k)

front_written : (a b c : Option (List ℕ)) (held text : List ℕ) → PushedFront a b [] held text → Appends b c held → AppendsFront a c text
front_written a b c held text h k = record {
  front = h.front;
  rest = h.rest;
  whole = h.whole;
  written = subst (Appends a c) (sym h.sends.whole) (Appends-trans a b c h.sends.sent held h.sends.written k);
}

-- what is held back was not sent
front_sent : (a b : Option (List ℕ)) (held text : List ℕ) → PushedFront a b [] held text → AppendsFront a b text
front_sent a b held text h = record {
  front = h.sends.sent;
  rest = held ++ h.rest;
  whole = h.whole ∙ ap (λ (l : List ℕ). l ++ h.rest) h.sends.whole ∙ append_assoc h.sends.sent held h.rest;
  written = h.sends.written;
}

-- a part of it was sent
part_written : (a b c : Option (List ℕ)) (held holds text : List ℕ) → PushedFront a b [] held text → Sends b c held holds → AppendsFront a c text
part_written a b c held holds text h k = record {
  front = h.sends.sent ++ k.sent;
  rest = holds ++ h.rest;
  whole = h.whole ∙ ap (λ (l : List ℕ). l ++ h.rest) (h.sends.whole ∙ ap (λ (l : List ℕ). h.sends.sent ++ l) k.whole ∙ sym (append_assoc h.sends.sent k.sent holds)) ∙ append_assoc (h.sends.sent ++ k.sent) holds h.rest;
  written = Appends-trans a b c h.sends.sent k.sent h.sends.written k.written;
}

part_of_all : (a b c : Option (List ℕ)) (held holds bytes : List ℕ) → Pushed a b [] held bytes → Sends b c held holds → AppendsFront a c bytes
part_of_all a b c held holds bytes h k =
    part_written a b c held holds bytes (record { front = bytes; rest = []; whole = sym (append-nil bytes); sends = h.sends }) k

last_nil : (xs ys : List ℕ) → xs ++ ys ≡ [] → ys ≡ []
last_nil [] ys e = e
last_nil (x ∷ xs) ys e = cc

-- the reader of an input that is at its end has nothing left
end_of_reader : (rest known : Option (List ℕ)) (unread : List ℕ) → IsAtEnd rest → Keeps rest (prepend_known unread known) → Keeps rest known
end_of_reader None known unread e k = tt
end_of_reader (Some x) None unread e k = k
end_of_reader (Some x) (Some y) unread e k = last_nil unread y (k ∙ e) ∙ sym e

-- a beginning of a text, said otherwise
cut_so : (quiet : Bool) (before : Option (List ℕ)) (Wrote WroteFront Writes WritesFront : List ℕ → Type 0) → ((text : List ℕ) → WroteFront text → WritesFront text) → IsCutShort quiet before Wrote WroteFront → IsCutShort quiet before Writes WritesFront
cut_so quiet before Wrote WroteFront Writes WritesFront front (CutAmid place rest lines took said) = CutAmid place rest lines took (answers_so quiet WroteFront WritesFront front place said)
cut_so quiet before Wrote WroteFront Writes WritesFront front (CutAtEnd s rest took is end audited said) = CutAtEnd s rest took is end audited (front (lines_text (replay_lines quiet s)) said)

module _ (quiet : Bool) (before : Option (List ℕ)) (Wrote WroteFront Writes WritesFront : List ℕ → Type 0) (whole : (text : List ℕ) → Wrote text → Writes text) (front : (text : List ℕ) → WroteFront text → WritesFront text) where
  malformed_so : (n : ℕ) → IsMalformedAt quiet before Wrote WroteFront n → IsMalformedAt quiet before Writes WritesFront n
  malformed_so n (inl (stopped, said)) = inl (stopped, answers_so quiet Wrote Writes whole stopped.place said)
  malformed_so n (inr (uncounted, number, said)) = inr (uncounted, number, answers_so quiet Wrote Writes whole uncounted.place said)

  gives_so : {T : Type 0} (result : Result T Trouble) (known : Option (List ℕ)) (unread : List ℕ) → IfErr result (λ e. e ≡ troubles.Read → unread ≡ []) → ReplayGives quiet before Wrote WroteFront result (prepend_known unread known) → ReplayGives quiet before Writes WritesFront result known
  gives_so (Ok done) known unread emptied (s, rest, took, is, end, kept, audited, said) =
      (s, rest, took, is, end, end_of_reader rest.left known unread end kept, audited, whole (lines_text (replay_lines quiet s)) said)
  gives_so (Err (troubles.Malformed n)) known unread emptied h = malformed_so n h
  gives_so (Err troubles.Read) known unread emptied h =
      let torn = subst (IsUnreadable quiet before Wrote WroteFront) (ap (λ (u : List ℕ). prepend_known u known) (emptied refl) ∙ prepend_known-nil known) h in
      (torn.0, answers_so quiet Wrote Writes whole torn.0.place torn.1)
  gives_so (Err trouble) known unread emptied h = cut_so quiet before Wrote WroteFront Writes WritesFront front h

-- all was flushed
flushed : {T : Type 0} (result : Result T Trouble) (quiet : Bool) (before known : Option (List ℕ)) (unread : List ℕ) (a b c : Option (List ℕ)) (held : List ℕ) → Appends b c held → IfErr result (λ e. e ≡ troubles.Read → unread ≡ [])
    → ReplayGives quiet before (Pushed a b [] held) (PushedFront a b [] held) result (prepend_known unread known) → ReplayGives quiet before (Appends a c) (AppendsFront a c) result known
flushed result quiet before known unread a b c held sent emptied h =
    gives_so quiet before (Pushed a b [] held) (PushedFront a b [] held) (Appends a c) (AppendsFront a c) (λ text said. all_written a b c held text said sent) (λ text said. front_written a b c held text said sent) result known unread emptied h

-- nothing is flushed where it was cut short
left_unflushed : (quiet : Bool) (before : Option (List ℕ)) (a b : Option (List ℕ)) (held : List ℕ) → IsCutShort quiet before (Pushed a b [] held) (PushedFront a b [] held) → IsCutShort quiet before (Appends a b) (AppendsFront a b)
left_unflushed quiet before a b held h = cut_so quiet before (Pushed a b [] held) (PushedFront a b [] held) (Appends a b) (AppendsFront a b) (λ text said. front_sent a b held text said) h

-- the flush failed
flush_failed : {T : Type 0} (result : Result T Trouble) (quiet : Bool) (before after : Option (List ℕ)) (a b c : Option (List ℕ)) (held holds : List ℕ) → Sends b c held holds
    → ReplayGives quiet before (Pushed a b [] held) (PushedFront a b [] held) result after → IsCutShort quiet before (Appends a c) (AppendsFront a c)
flush_failed {T} result quiet before after a b c held holds sent h = by result h
  where
    front : (text : List ℕ) → Pushed a b [] held text → AppendsFront a c text
    front text said = part_of_all a b c held holds text said sent

    by : (r : Result T Trouble) → ReplayGives quiet before (Pushed a b [] held) (PushedFront a b [] held) r after → IsCutShort quiet before (Appends a c) (AppendsFront a c)
    by (Ok done) (s, rest, took, is, end, kept, audited, said) = CutAtEnd s rest took is end audited (front (lines_text (replay_lines quiet s)) said)
    by (Err (troubles.Malformed n)) (inl (stopped, said)) = CutAmid stopped.place stopped.rest stopped.lines stopped.took (answers_so quiet (Pushed a b [] held) (AppendsFront a c) front stopped.place said)
    by (Err (troubles.Malformed n)) (inr (uncounted, number, said)) = CutAmid uncounted.place uncounted.rest uncounted.lines uncounted.took (answers_so quiet (Pushed a b [] held) (AppendsFront a c) front uncounted.place said)
    by (Err troubles.Read) (torn, said) = CutAmid torn.place torn.rest torn.lines torn.took (answers_so quiet (Pushed a b [] held) (AppendsFront a c) front torn.place said)
    by (Err trouble) k = cut_so quiet before (Pushed a b [] held) (PushedFront a b [] held) (Appends a c) (AppendsFront a c) (λ text said. part_written a b c held holds text said sent) k

-- ---- from an input and an output that are new

from_new : (known : Option (List ℕ)) (unread old : List ℕ) (P : Option (List ℕ) → List ℕ → Type 0) → unread ≡ [] → old ≡ [] → P (prepend_known unread known) old → P known []
from_new known unread old P nothing none h =
    subst (λ (o : Option (List ℕ)). P o []) (prepend_known-nil known) (subst (λ (u : List ℕ). P (prepend_known u known) []) nothing (subst (λ (o : List ℕ). P (prepend_known unread known) o) none h))

unflushed : (quiet : Bool) (known : Option (List ℕ)) (unread old : List ℕ) (a b : Option (List ℕ)) (held : List ℕ) → unread ≡ [] → old ≡ [] → IsCutShort quiet (prepend_known unread known) (Pushed a b old held) (PushedFront a b old held)
    → IsCutShort quiet known (Appends a b) (AppendsFront a b)
unflushed quiet known unread old a b held nothing none h =
    left_unflushed quiet known a b held (from_new known unread old (λ o l. IsCutShort quiet o (Pushed a b l held) (PushedFront a b l held)) nothing none h)

pub ended_unflushed : {T : Type 0} (result : Result T Trouble) (quiet : Bool) (known mid after : Option (List ℕ)) (unread old : List ℕ) (a b : Option (List ℕ)) (held : List ℕ) → is_cut_short result ≡ true → unread ≡ [] → old ≡ []
    → ReplayGives quiet (prepend_known unread known) (Pushed a b old held) (PushedFront a b old held) result mid → ReplayGives quiet known (Appends a b) (AppendsFront a b) result after
ended_unflushed (Err troubles.Write) quiet known mid after unread old a b held is nothing none h = unflushed quiet known unread old a b held nothing none h
ended_unflushed (Err troubles.Memory) quiet known mid after unread old a b held is nothing none h = unflushed quiet known unread old a b held nothing none h
ended_unflushed result quiet known mid after unread old a b held is nothing none h = cc

pub ended_flushed : {T : Type 0} (result : Result T Trouble) (quiet : Bool) (known last : Option (List ℕ)) (unread old left : List ℕ) (a b c : Option (List ℕ)) (held : List ℕ) → unread ≡ [] → old ≡ [] → Appends b c held
    → IfErr result (λ e. e ≡ troubles.Read → left ≡ []) → ReplayGives quiet (prepend_known unread known) (Pushed a b old held) (PushedFront a b old held) result (prepend_known left last) → ReplayGives quiet known (Appends a c) (AppendsFront a c) result last
ended_flushed result quiet known last unread old left a b c held nothing none sent emptied h =
    flushed result quiet known last left a b c held sent emptied (from_new known unread old (λ o l. ReplayGives quiet o (Pushed a b l held) (PushedFront a b l held) result (prepend_known left last)) nothing none h)

pub ended_amid_flush : {T S : Type 0} (result : Result T Trouble) (outcome : Result S Trouble) (quiet : Bool) (known mid after : Option (List ℕ)) (unread old : List ℕ) (a b c : Option (List ℕ)) (held holds : List ℕ) → IsErrAnd result (λ e. e ≡ troubles.Write)
    → unread ≡ [] → old ≡ [] → Sends b c held holds → ReplayGives quiet (prepend_known unread known) (Pushed a b old held) (PushedFront a b old held) outcome mid
    → ReplayGives quiet known (Appends a c) (AppendsFront a c) result after
ended_amid_flush (Ok done) outcome quiet known mid after unread old a b c held holds is nothing none sent h = absurd is
ended_amid_flush {T} (Err e) outcome quiet known mid after unread old a b c held holds is nothing none sent h =
    subst (λ (t : Trouble). ReplayGives quiet known (Appends a c) (AppendsFront a c) {T = T} (Err t) after) (sym is)
    (flush_failed outcome quiet known mid a b c held holds sent (from_new known unread old (λ o l. ReplayGives quiet o (Pushed a b l held) (PushedFront a b l held) outcome mid) nothing none h))

-- memory was refused before anything was read
pub ended_unread : {T : Type 0} (result : Result T Trouble) (quiet : Bool) (known after w : Option (List ℕ)) → IsErrAnd result (λ e. e ≡ troubles.Memory) → ReplayGives quiet known (Appends w w) (AppendsFront w w) result after
ended_unread (Ok done) quiet known after w is = absurd is
ended_unread {T} (Err e) quiet known after w is =
    subst (λ (t : Trouble). ReplayGives quiet known (Appends w w) (AppendsFront w w) {T = T} (Err t) after) (sym is)
    (cut_before quiet known (Appends w w) (AppendsFront w w) (record { front = []; rest = []; whole = refl; written = Appends-nil w }))

-- an input whose reader failed has nothing unread
pub emptied_at : {T : Type 0} (result : Result T Trouble) (input : Source) → IfErr result (λ e. e ≡ troubles.Read → HasFailed input) → IfErr result (λ e. e ≡ troubles.Read → input.unread ≡ [])
emptied_at (Ok done) input h = tt
emptied_at (Err e) input h = λ (is : e ≡ troubles.Read). let failed = h is in failed.emptied
