-- A schedule, turn by turn, and what was written of its text.
use Rattle.std.proofs.Common.{◌≡◌, ◌≢◌, ℕ, ◌+◌, Bool, true, false, List, [], ◌∷◌, ◌++◌, length, Option, Some, Result, Ok, Err, refl, sym, ap, subst, ◌∙◌, inl, inr, arith, append-nil, length-append, IsErrAnd}
use Rattle.occ_text.specs.ScheduleLines.{HasLine}
use Rattle.occ_cli.proofs.Common.{Consumes, Keeps, IsAtEnd, Consumes-nil, Consumes-trans, map-append, Schema, WriteFault, answer_text, Source, IsLine, LineGives, lines_text, Pushed, PushedFront, PrintGives, Settings, Replayed, Plays, Turn, PlaysAll, step_lines, answer_lines, NoLineThere, LineOfNoStep, IsNoTurn, StepFits, step_text, IsTurn, IsHalfTurn, AreTurns, AreHalfSaid, AnswerGives, TurnGives, TurnsGive, Pushed-nothing, Pushed-then, front_none, front_then, front_behind, lines_text-append, lines_then}
use Rattle.std.proofs.lemmas.List.Elements.{All-nil, All-cons, All-append}
use Rattle.occ_types.specs.declared.fault.Fault.TheVariants as faults
use Rattle.occ_text.specs.declared.tokens.Unread.{Unread}
use Rattle.occ_text.specs.declared.tokens.Unread.TheVariants as unread
use Rattle.occ_text.specs.declared.faults.LineFault.{LineFault}
use Rattle.occ_text.specs.declared.faults.LineFault.TheVariants as lines
use Rattle.occ_text.specs.declared.faults.ReadFault.{ReadFault}
use Rattle.occ_text.specs.declared.faults.ReadFault.TheVariants as read_faults
use Rattle.occ_text.specs.Escapes.{Gives}
use Rattle.occ_text.specs.Faults.{read_fault, read_trouble, told}
use Rattle.occ_text.specs.declared.faults.WriteFault.TheVariants as write_faults
use Rattle.occ_text.specs.declared.trouble.Trouble.{Trouble}
use Rattle.occ_text.specs.declared.trouble.Trouble.TheVariants as troubles
use Rattle.occ_cli.specs.Answers as says
use Rattle.occ_cli.specs.Answers.{Answer}
use Rattle.occ_text.specs.declared.versions.Version.{Version}
use Rattle.occ_text.specs.Steps.{Step}
use Rattle.occ_cli.proofs.Settings.{plays_keep, plays_all_keep}

-- ---- one turn more

plays_more : (old : Replayed) (turns : List Turn) (mid : Replayed) (step : Step) (answer : Answer) (new : Replayed) → PlaysAll old turns mid → IsTurn mid step answer new → PlaysAll old (turns ++ (step, answer) ∷ []) new
plays_more old [] mid step answer new h t = (new, subst (λ (r : Replayed). Plays r step answer new) h t.plays, t.fed, refl)
plays_more old (first ∷ turns) mid step answer new h t = (h.0, h.1, h.2, plays_more h.0 turns mid step answer new h.3 t)

pub answers_more : (quiet : Bool) (schema : Schema) (xs ys : List Turn) → answer_lines quiet schema (xs ++ ys) ≡ answer_lines quiet schema xs ++ answer_lines quiet schema ys
answers_more true schema xs ys = refl
answers_more false schema xs ys = map-append (λ (turn : Turn). answer_text schema turn.1) xs ys

one_line : (line : List ℕ) → lines_text (line ∷ []) ≡ line ++ 10 ∷ []
one_line line = append-nil (line ++ 10 ∷ [])

steps_more : (turns : List Turn) (turn : Turn) → lines_text (step_lines (turns ++ turn ∷ [])) ≡ lines_text (step_lines turns) ++ (step_text turn.0 ++ 10 ∷ [])
steps_more turns turn =
    ap lines_text (map-append (λ (t : Turn). step_text t.0) turns (turn ∷ []))
    ∙ lines_text-append (step_lines turns) (step_text turn.0 ∷ [])
    ∙ ap (λ (l : List ℕ). lines_text (step_lines turns) ++ l) (one_line (step_text turn.0))

pub no_turns : (version : Version) (a : Option (List ℕ)) (old : Replayed) → AreTurns version a a old [] old
no_turns version a old = record { steps = All-nil (λ (turn : Turn). HasLine version turn.0); played = refl; taken = Consumes-nil a }

pub turns_more : (version : Version) (a b c : Option (List ℕ)) (old : Replayed) (turns : List Turn) (mid : Replayed) (step : Step) (answer : Answer) (new : Replayed)
    → AreTurns version a b old turns mid → HasLine version step → Consumes b c (step_text step ++ 10 ∷ []) → IsTurn mid step answer new → AreTurns version a c old (turns ++ (step, answer) ∷ []) new
turns_more version a b c old turns mid step answer new h fits takes t = record {
  steps = All-append (λ (turn : Turn). HasLine version turn.0) turns ((step, answer) ∷ []) h.steps (All-cons (λ (turn : Turn). HasLine version turn.0) (step, answer) [] fits (All-nil (λ (turn : Turn). HasLine version turn.0)));
  played = plays_more old turns mid step answer new h.played t;
  taken = subst (Consumes a c) (sym (steps_more turns (step, answer))) (Consumes-trans a b c (lines_text (step_lines turns)) (step_text step ++ 10 ∷ []) h.taken takes);
}

-- ---- what was pushed

pub said_more : (quiet : Bool) (schema : Schema) (a b c : Option (List ℕ)) (old mid new : List ℕ) (turns : List Turn) (turn : Turn) → Pushed a b old mid (lines_text (answer_lines quiet schema turns)) → Pushed b c mid new (lines_text (answer_lines quiet schema (turn ∷ [])))
    → Pushed a c old new (lines_text (answer_lines quiet schema (turns ++ turn ∷ [])))
said_more quiet schema a b c old mid new turns turn h k =
    subst (λ (l : List (List ℕ)). Pushed a c old new (lines_text l)) (sym (answers_more quiet schema turns (turn ∷ [])))
    (lines_then (Ok tt) a b c old mid new (answer_lines quiet schema turns) (answer_lines quiet schema (turn ∷ [])) h k)

pub front_said_more : (quiet : Bool) (schema : Schema) (a b c : Option (List ℕ)) (old mid new : List ℕ) (turns : List Turn) (turn : Turn) → Pushed a b old mid (lines_text (answer_lines quiet schema turns)) → PushedFront b c mid new (lines_text (answer_lines quiet schema (turn ∷ [])))
    → PushedFront a c old new (lines_text (answer_lines quiet schema (turns ++ turn ∷ [])))
front_said_more quiet schema a b c old mid new turns turn h k =
    subst (λ (l : List (List ℕ)). PushedFront a c old new (lines_text l)) (sym (answers_more quiet schema turns (turn ∷ [])))
    (front_behind a b c old mid new (answer_lines quiet schema turns) (answer_lines quiet schema (turn ∷ [])) h k)

-- nothing behind what was pushed
pub pushed_no_more : (a b c : Option (List ℕ)) (old mid new bytes : List ℕ) → Pushed a b old mid bytes → Pushed b c mid new [] → Pushed a c old new bytes
pushed_no_more a b c old mid new bytes h k = subst (Pushed a c old new) (append-nil bytes) (Pushed-then a b c old mid new bytes [] h k)

pub front_no_more : (a b c : Option (List ℕ)) (old mid new bytes : List ℕ) → Pushed a b old mid bytes → PushedFront b c mid new [] → PushedFront a c old new bytes
front_no_more a b c old mid new bytes h k = subst (PushedFront a c old new) (append-nil bytes) (front_then a b c old mid new bytes [] h k)

-- ---- one turn

-- a step is done, and nothing is said
pub quietly : (quiet : Bool) (schema : Schema) (step : Step) (answer : Answer) (old new : Replayed) (w : Option (List ℕ)) (held : List ℕ) → quiet ≡ true → Plays old step answer new → (answer ≢ says.refused faults.Memory)
    → (x : Answer) × IsTurn old step x new × Pushed w w held held (lines_text (answer_lines quiet schema ((step, x) ∷ [])))
quietly quiet schema step answer old new w held is plays fed =
    (answer, record { plays = plays; fed = fed }, subst (λ (q : Bool). Pushed w w held held (lines_text (answer_lines q schema ((step, answer) ∷ [])))) (sym is) (Pushed-nothing w held))

-- a step is done, and its answer is said
pub spoken : {T : Type 0} (result : Result T WriteFault) (quiet : Bool) (schema : Schema) (step : Step) (answer : Answer) (old new : Replayed) (a b : Option (List ℕ)) (held holds : List ℕ) → quiet ≡ false → schema ≡ new.world.settings.schema
    → Plays old step answer new → (answer ≢ says.refused faults.Memory) → PrintGives result a b held holds (lines_text (answer_text schema answer ∷ []))
    → AnswerGives quiet old.world.settings.schema (Pushed a b held holds) (PushedFront a b held holds) result step old new
spoken {T} result quiet schema step answer old new a b held holds loud is plays fed h =
    subst (λ (q : Bool). AnswerGives q old.world.settings.schema (Pushed a b held holds) (PushedFront a b held holds) result step old new) (sym loud) (by result (subst (λ (x : Schema). PrintGives result a b held holds (lines_text (answer_text x answer ∷ []))) under h))
  where
    under : schema ≡ old.world.settings.schema
    under = is ∙ ap (λ (s : Settings). s.schema) (plays_keep old step answer new plays)

    by : (r : Result T WriteFault) → PrintGives r a b held holds (lines_text (answer_text old.world.settings.schema answer ∷ []))
        → AnswerGives false old.world.settings.schema (Pushed a b held holds) (PushedFront a b held holds) r step old new
    by (Ok done) k = (answer, record { plays = plays; fed = fed }, k)
    by (Err write_faults.Write) k = record { answer = answer; turn = record { plays = plays; fed = fed }; wrote = k }
    by (Err write_faults.Memory) k = inr (record { answer = answer; turn = record { plays = plays; fed = fed }; wrote = k })

-- no line was taken
pub turn_stopped : (fault : LineFault) (result : Result Bool Trouble) (quiet : Bool) (version : Version) (schema : Schema) (a b w : Option (List ℕ)) (held : List ℕ) (old new : Source) (now : Replayed) → IsErrAnd result (λ e. e ≡ read_trouble (read_fault fault)) → LineGives (Err fault) a b old new
    → TurnGives quiet version schema (Pushed w w held held) (PushedFront w w held held) result a b old.number new.number now now
turn_stopped fault (Ok more) quiet version schema a b w held old new now is h = absurd is
turn_stopped (lines.Malformed n) (Err e) quiet version schema a b w held old new now is h =
    subst (λ (t : Trouble). TurnGives quiet version schema (Pushed w w held held) (PushedFront w w held held) (Err t) a b old.number new.number now now) (sym is) (inl (NoLineThere h.0, h.1), Pushed-nothing w held)
turn_stopped lines.Read (Err e) quiet version schema a b w held old new now is h =
    subst (λ (t : Trouble). TurnGives quiet version schema (Pushed w w held held) (PushedFront w w held held) (Err t) a b old.number new.number now now) (sym is) (h.0, h.1, h.2, Pushed-nothing w held)
turn_stopped lines.TooManyLines (Err e) quiet version schema a b w held old new now is h =
    subst (λ (t : Trouble). TurnGives quiet version schema (Pushed w w held held) (PushedFront w w held held) (Err t) a b old.number new.number now now) (sym is) (inr (h.1, refl), Pushed-nothing w held)

-- the line is that of no step, or memory was refused for it
pub turn_unread : {X : Type 0} (view : X → Step) (read : Result X Unread) (fault : ReadFault) (result : Result Bool Trouble) (quiet : Bool) (version : Version) (schema : Schema) (a b w : Option (List ℕ)) (held shown line : List ℕ) (n first last : ℕ) (now : Replayed) → IsErrAnd result (λ e. e ≡ read_trouble fault)
    → Consumes a b (line ++ 10 ∷ []) × IsLine line × (last ≡ first + 1) → shown ≡ line → n ≡ last → ((step : Step) → StepFits version step → shown ≡ step_text step → Gives view read (Some step)) → Err fault ≡ told read n
    → TurnGives quiet version schema (Pushed w w held held) (PushedFront w w held held) result a b first last now now
turn_unread view read fault (Ok more) quiet version schema a b w held shown line n first last now is taken shows here again why = absurd is
turn_unread view (Ok x) fault (Err e) quiet version schema a b w held shown line n first last now is taken shows here again why = absurd cc
turn_unread view (Err unread.Malformed) fault (Err e) quiet version schema a b w held shown line n first last now is taken shows here again why =
    let malformed : fault ≡ read_faults.Malformed n = cc why in
    subst (λ (t : Trouble). TurnGives quiet version schema (Pushed w w held held) (PushedFront w w held held) (Err t) a b first last now now) (sym (is ∙ ap read_trouble malformed))
    (inl (LineOfNoStep line b taken.0 taken.1 (λ step fits e. let none = again step fits (shows ∙ e) in cc none), here ∙ taken.2), Pushed-nothing w held)
turn_unread view (Err unread.Memory) fault (Err e) quiet version schema a b w held shown line n first last now is taken shows here again why =
    let memory : fault ≡ read_faults.Memory = cc why in
    subst (λ (t : Trouble). TurnGives quiet version schema (Pushed w w held held) (PushedFront w w held held) (Err t) a b first last now now) (sym (is ∙ ap read_trouble memory)) (inl (front_none w held []))

-- ---- all turns

-- what stands after some turns
pub record AreSoFar (quiet : Bool) (version : Version) (schema : Schema) (a b : Option (List ℕ)) (old now : Replayed) (wa wb : Option (List ℕ)) (held holds : List ℕ) (first last : ℕ) : Type 0 where
  pub turns : List Turn
  pub are : AreTurns version a b old turns now
  pub said : Pushed wa wb held holds (lines_text (answer_lines quiet schema turns))
  pub number : last ≡ first + length turns

pub so_far_none : (quiet : Bool) (version : Version) (schema : Schema) (a : Option (List ℕ)) (old : Replayed) (wa : Option (List ℕ)) (held : List ℕ) (first : ℕ) → AreSoFar quiet version schema a a old old wa wa held held first first
so_far_none true version schema a old wa held first = record { turns = []; are = no_turns version a old; said = Pushed-nothing wa held; number = omega arith }
so_far_none false version schema a old wa held first = record { turns = []; are = no_turns version a old; said = Pushed-nothing wa held; number = omega arith }

pub so_far_more : (quiet : Bool) (version : Version) (schema : Schema) (a b c : Option (List ℕ)) (old now next : Replayed) (wa wb wc : Option (List ℕ)) (held holds keeps : List ℕ) (first mid last : ℕ) → AreSoFar quiet version schema a b old now wa wb held holds first mid
    → TurnGives quiet version schema (Pushed wb wc holds keeps) (PushedFront wb wc holds keeps) (Ok true) b c mid last now next → AreSoFar quiet version schema a c old next wa wc held keeps first last
so_far_more quiet version schema a b c old now next wa wb wc held holds keeps first mid last s t =
    let turn = t.0 in
    record {
      turns = s.turns ++ turn ∷ [];
      are = turns_more version a b c old s.turns now turn.0 turn.1 next s.are t.1 t.2 t.3;
      said = said_more quiet schema wa wb wc held holds keeps s.turns turn s.said t.4;
      number = t.5 ∙ ap (λ (k : ℕ). k + 1) s.number ∙ number_more first (length s.turns) ∙ ap (λ (k : ℕ). first + k) (sym (length-append s.turns (turn ∷ [])));
    }
  where
    number_more : (first n : ℕ) → first + n + 1 ≡ first + (n + 1)
    number_more first n = omega arith

-- what a turn leaves, under the tables of the beginning
pub turn_under : (quiet : Bool) (version : Version) (result : Result Bool Trouble) (a b c : Option (List ℕ)) (old now next : Replayed) (wa wb wc : Option (List ℕ)) (held holds keeps : List ℕ) (first mid last : ℕ)
    → AreSoFar quiet version old.world.settings.schema a b old now wa wb held holds first mid → TurnGives quiet version now.world.settings.schema (Pushed wb wc holds keeps) (PushedFront wb wc holds keeps) result b c mid last now next
    → TurnGives quiet version old.world.settings.schema (Pushed wb wc holds keeps) (PushedFront wb wc holds keeps) result b c mid last now next
turn_under quiet version result a b c old now next wa wb wc held holds keeps first mid last s t =
    subst (λ (x : Schema). TurnGives quiet version x (Pushed wb wc holds keeps) (PushedFront wb wc holds keeps) result b c mid last now next)
    (ap (λ (x : Settings). x.schema) (plays_all_keep old s.turns now s.are.played)) t

-- the end of the text
pub so_far_end : (quiet : Bool) (version : Version) (schema : Schema) (a b c : Option (List ℕ)) (old now next : Replayed) (wa wb wc : Option (List ℕ)) (held holds keeps : List ℕ) (first mid last : ℕ) → AreSoFar quiet version schema a b old now wa wb held holds first mid
    → TurnGives quiet version schema (Pushed wb wc holds keeps) (PushedFront wb wc holds keeps) (Ok false) b c mid last now next
    → (turns : List Turn) × (rest : Option (List ℕ)) × AreTurns version a rest old turns next × IsAtEnd rest × Keeps rest c × Pushed wa wc held keeps (lines_text (answer_lines quiet schema turns))
so_far_end quiet version schema a b c old now next wa wb wc held holds keeps first mid last s t = (
  s.turns,
  b,
  record { steps = s.are.steps; played = subst (λ (r : Replayed). PlaysAll old s.turns r) (sym t.2) s.are.played; taken = s.are.taken },
  t.0,
  t.1,
  pushed_no_more wa wb wc held holds keeps (lines_text (answer_lines quiet schema s.turns)) s.said t.3,
)

half_more : (quiet : Bool) (version : Version) (schema : Schema) (a b c : Option (List ℕ)) (old now next : Replayed) (wa wb wc : Option (List ℕ)) (held holds keeps : List ℕ) (first mid : ℕ) → AreSoFar quiet version schema a b old now wa wb held holds first mid
    → IsHalfTurn quiet version schema (Pushed wb wc holds keeps) (PushedFront wb wc holds keeps) b c now next → AreHalfSaid quiet version schema (Pushed wa wc held keeps) (PushedFront wa wc held keeps) a old
half_more quiet version schema a b c old now next wa wb wc held holds keeps first mid s t = record {
  turns = s.turns ++ (t.step, t.said.answer) ∷ [];
  rest = c;
  new = next;
  are = turns_more version a b c old s.turns now t.step t.said.answer next s.are t.fits t.taken t.said.turn;
  wrote = front_said_more quiet schema wa wb wc held holds keeps s.turns (t.step, t.said.answer) s.said t.said.wrote;
}

half_none : (quiet : Bool) (version : Version) (schema : Schema) (a b : Option (List ℕ)) (old now : Replayed) (wa wb wc : Option (List ℕ)) (held holds keeps : List ℕ) (first mid : ℕ) → AreSoFar quiet version schema a b old now wa wb held holds first mid
    → PushedFront wb wc holds keeps [] → AreHalfSaid quiet version schema (Pushed wa wc held keeps) (PushedFront wa wc held keeps) a old
half_none quiet version schema a b old now wa wb wc held holds keeps first mid s t = record {
  turns = s.turns;
  rest = b;
  new = now;
  are = s.are;
  wrote = front_no_more wa wb wc held holds keeps (lines_text (answer_lines quiet schema s.turns)) s.said t;
}

-- trouble at a turn
pub so_far_stopped : {T : Type 0} (result : Result T Trouble) (trouble : Trouble) (quiet : Bool) (version : Version) (schema : Schema) (a b c : Option (List ℕ)) (old now next : Replayed) (wa wb wc : Option (List ℕ)) (held holds keeps : List ℕ) (first mid last : ℕ) → result ≡ Err trouble
    → AreSoFar quiet version schema a b old now wa wb held holds first mid → TurnGives quiet version schema (Pushed wb wc holds keeps) (PushedFront wb wc holds keeps) (Err trouble) b c mid last now next
    → TurnsGive quiet version schema (Pushed wa wc held keeps) (PushedFront wa wc held keeps) result a c first old next
so_far_stopped result (troubles.Malformed n) quiet version schema a b c old now next wa wb wc held holds keeps first mid last is s t =
    subst (λ (r : Result _ Trouble). TurnsGive quiet version schema (Pushed wa wc held keeps) (PushedFront wa wc held keeps) r a c first old next) (sym is)
    (s.turns, b, now, s.are, subst (λ (k : ℕ). IsNoTurn version b k n) s.number t.0, pushed_no_more wa wb wc held holds keeps (lines_text (answer_lines quiet schema s.turns)) s.said t.1)
so_far_stopped result troubles.Read quiet version schema a b c old now next wa wb wc held holds keeps first mid last is s t =
    subst (λ (r : Result _ Trouble). TurnsGive quiet version schema (Pushed wa wc held keeps) (PushedFront wa wc held keeps) r a c first old next) (sym is)
    (s.turns, t.0, b, now, s.are, t.1, t.2, pushed_no_more wa wb wc held holds keeps (lines_text (answer_lines quiet schema s.turns)) s.said t.3)
so_far_stopped result troubles.Write quiet version schema a b c old now next wa wb wc held holds keeps first mid last is s t =
    subst (λ (r : Result _ Trouble). TurnsGive quiet version schema (Pushed wa wc held keeps) (PushedFront wa wc held keeps) r a c first old next) (sym is)
    (half_more quiet version schema a b c old now next wa wb wc held holds keeps first mid s t)
so_far_stopped result troubles.Memory quiet version schema a b c old now next wa wb wc held holds keeps first mid last is s (inl t) =
    subst (λ (r : Result _ Trouble). TurnsGive quiet version schema (Pushed wa wc held keeps) (PushedFront wa wc held keeps) r a c first old next) (sym is)
    (half_none quiet version schema a b old now wa wb wc held holds keeps first mid s t)
so_far_stopped result troubles.Memory quiet version schema a b c old now next wa wb wc held holds keeps first mid last is s (inr t) =
    subst (λ (r : Result _ Trouble). TurnsGive quiet version schema (Pushed wa wc held keeps) (PushedFront wa wc held keeps) r a c first old next) (sym is)
    (half_more quiet version schema a b c old now next wa wb wc held holds keeps first mid s t)
