-- What a desk makes of what its worker did in one holding.
use Rattle.std.proofs.Common.{◌≡◌, ◌⊎◌, ◌+◌, ◌++◌, ◌∷◌, inl, inr, None, IfSome, arith, length-append, ℕ, ℤ, Bool, false, List, [], length, Option, Some, Result, Ok, Err, Vec, map, refl, sym, ap, subst, ◌∙◌, IfErr, OnOk, OnErr}
use Rattle.std.specs.Prelude.{⊤, IsErrAnd, MatchResult}
use Rattle.std.specs.Global.{Global}
use Rattle.std.specs.Io.KnownBytes.{Appends, Consumes, IsAtEnd, prepend_known}
use Rattle.std.proofs.lemmas.List.{append-nil, length-map}
use Rattle.occ_types.specs.Key.{Key}
use Rattle.occ_types.specs.Row.{Row}
use Rattle.occ_types.specs.Question.{Question}
use Rattle.occ_types.specs.Schema.{Schema}
use Rattle.occ_types.specs.declared.fault.Fault.{Fault}
use Rattle.occ_types.specs.declared.fault.Refused.{Refused}
use Rattle.occ_model.specs.Event.{RanAlone}
use Rattle.occ_model.specs.Event as events
use Rattle.occ_model.specs.Replies.{replied_back}
use Rattle.occ_model.specs.State.{Answer}
use Rattle.occ_model.specs.World.{World}
use Rattle.occ_sets.specs.Operations.{ops_of}
use Rattle.occ_sets.specs.PlainSets.{answer_of}
use Rattle.occ_sets.specs.declared.operations.Op as code_op
use Rattle.occ_sets.specs.declared.reads.Answer as code_answer
use Rattle.occ_core.specs.Replies.{ran}
use Rattle.occ_client.specs.Clients.{after_alone}
use Rattle.occ_text.specs.declared.headers.Limits.{Limits}
use Rattle.occ_text.specs.declared.faults.LineFault.{LineFault}
use Rattle.occ_text.specs.declared.faults.LineFault.TheVariants as line_faults
use Rattle.occ_text.specs.declared.faults.ReadFault.{ReadFault}
use Rattle.occ_text.specs.declared.trouble.Trouble.{Trouble}
use Rattle.occ_text.specs.declared.trouble.Trouble.TheVariants.{Memory}
use Rattle.occ_text.specs.Faults.{read_fault, read_trouble}
use Rattle.occ_text.specs.Headers.{Header, HeaderFits, header_text}
use Rattle.occ_text.specs.Languages.{Position, point, position_of}
use Rattle.occ_text.specs.Line.{BeginsNoLine, LineGives, Source, lines_text}
use Rattle.occ_text.specs.ScheduleLines.{HeaderTaken}
use Rattle.occ_print.specs.Books.{header_of}
use Rattle.occ_cli.specs.Schedules.{ReplayGives, AppendsFront}
use Rattle.occ_sharing.specs.declared.places.Missed.{Missed}
use Rattle.occ_sharing.specs.Sharing.{Worker, InOneHolding, RunsAloneNext, ScanCame}
use Rattle.occ_c.specs.declared.desks.Desk.{Desk}
use Rattle.occ_c.specs.Codes.{answered, counted, fault_code}
use Rattle.occ_c.specs.Desks.{Scanned}
use Rattle.occ_c.specs.Kept.{RunCame, RunsAt}
use Rattle.occ_c.specs.Texts.{EndTaken, IsHeader, NoEnd, NoHeader, RunsOn}

pub weaker : (old new : Worker) (P Q : World → World → Type 0) → ((before after : World) → P before after → Q before after) → InOneHolding old new P → InOneHolding old new Q
weaker old new P Q f h = record {
  before = h.before;
  after = h.after;
  is_of = h.is_of;
  lawful = h.lawful;
  begins = h.begins;
  leaves = h.leaves;
  keeps = h.keeps;
  same = h.same;
  counted = h.counted;
  did = f h.before h.after h.did;
}

-- ---- a run alone

abbrev pub Done : Type 0
Done = Result (ℕ × Vec (code_answer.Answer Global) Global) (Refused (Vec (code_op.Op Global) Global))

abbrev RanAs : Worker → Worker → Vec (code_op.Op Global) Global → Done → Type 0
RanAs old new operations done = InOneHolding old new (λ before after. RunsAloneNext old.client (ops_of operations.items) before (replied_back ran done) after
    × OnOk done (new.client ≡ after_alone old.client) × OnErr done (new.client ≡ old.client) × IfErr done (λ refused. refused.value ≡ operations))

abbrev KeptAs : Desk → Worker → Vec (code_op.Op Global) Global → Done → Result (ℕ × ℕ) ℤ → Desk → Type 0
KeptAs old worker empty done result new = MatchResult done
    (λ told. (result ≡ Ok (told.0, length told.1.items)) × (new ≡ record old { worker = worker; kept = record old.kept { operations = empty; answers = told.1 } }))
    (λ refused. (result ≡ Err (fault_code refused.fault)) × (new ≡ record old { worker = worker; kept = record old.kept { operations = empty } }))

pub ran_in : (old new : Desk) (worker : Worker) (operations empty : Vec (code_op.Op Global) Global) (done : Done) (result : Result (ℕ × ℕ) ℤ) → operations ≡ old.kept.operations → empty.items ≡ []
    → RanAs old.worker worker operations done → KeptAs old worker empty done result new → RunsAt old new result
ran_in old new worker operations empty (Ok told) result same none ran_as kept =
    let answers : List Answer = map answer_of told.1.items in
    let made : Desk = record old { worker = worker; kept = record old.kept { operations = empty; answers = told.1 } } in
    let is : RunCame old.worker worker (ops_of old.kept.operations.items) (Ok (Ok (told.0, answers))) =
    subst (λ (v : Vec (code_op.Op Global) Global). RunCame old.worker worker (ops_of v.items) (Ok (Ok (told.0, answers)))) same
    (weaker old.worker worker
    (λ before after. RunsAloneNext old.worker.client (ops_of operations.items) before (RanAlone told.0 answers) after
    × (worker.client ≡ after_alone old.worker.client) × ⊤ × ⊤)
    (λ before after. RunsAloneNext old.worker.client (ops_of operations.items) before (RanAlone told.0 answers) after
    × (worker.client ≡ after_alone old.worker.client) × ⊤)
    (λ before after did. (did.0, did.1, tt)) ran_as) in
    let long : length told.1.items ≡ length answers = sym (length-map told.1.items answer_of) in
    subst (λ (d : Desk). RunsAt old d result) (sym kept.1)
    (record { came = Ok (Ok (told.0, answers)); is = is; answer = kept.0 ∙ ap (λ (n : ℕ). number told.0 n) long; kept = (none, refl, refl) })
  where
    number : ℕ → ℕ → Result (ℕ × ℕ) ℤ
    number tn n = Ok (tn, n)
ran_in old new worker operations empty (Err refused) result same none ran_as kept =
    let is : RunCame old.worker worker (ops_of old.kept.operations.items) (Ok (Err refused.fault)) =
    subst (λ (v : Vec (code_op.Op Global) Global). RunCame old.worker worker (ops_of v.items) (Ok (Err refused.fault))) same
    (weaker old.worker worker
    (λ before after. RunsAloneNext old.worker.client (ops_of operations.items) before (events.Refused refused.fault) after
    × ⊤ × (worker.client ≡ old.worker.client) × (refused.value ≡ operations))
    (λ before after. RunsAloneNext old.worker.client (ops_of operations.items) before (events.Refused refused.fault) after × ⊤ × (worker.client ≡ old.worker.client))
    (λ before after did. (did.0, did.1, did.2)) ran_as) in
    subst (λ (d : Desk). RunsAt old d result) (sym kept.1) (record { came = Ok (Err refused.fault); is = is; answer = kept.0; kept = (none, refl) })

-- the operations come back where the core was away
pub restored : (old : Desk) (worker : Worker) (given operations : Vec (code_op.Op Global) Global) → operations ≡ given → given ≡ old.kept.operations
    → record old { worker = worker; kept = record old.kept { operations = operations } } ≡ record old { worker = worker }
restored old worker given operations back same = ap (λ (v : Vec (code_op.Op Global) Global). record old { worker = worker; kept = record old.kept { operations = v } }) (back ∙ same)

-- ---- a range

abbrev Rows : Type 0
Rows = List (Key × Row)

abbrev ScanKept : Desk → Desk → Result Rows ℤ → Type 0
ScanKept old new read = MatchResult read
    (λ rows. new ≡ record old { worker = new.worker; kept = record old.kept { rows = Some rows; next = 0 } })
    (λ code. new ≡ record old { worker = new.worker })

pub scanned_rows : (old new : Desk) (question : Question) (worker : Worker) (came : Result (Result Rows Fault) Missed) (rows : Rows) (count : ℕ)
    → ScanCame old.worker worker question came → Ok rows ≡ answered came → count ≡ length rows
    → new ≡ record old { worker = worker; kept = record old.kept { rows = Some rows; next = 0 } } → Scanned old new question (Ok count)
scanned_rows old new question worker came rows count is told counts same =
    let there : worker ≡ new.worker = sym (ap (λ (d : Desk). d.worker) same) in
    record {
      came = came;
      is = subst (λ (w : Worker). ScanCame old.worker w question came) there is;
      answer = ap (λ (n : ℕ). number n) counts ∙ ap (λ (r : Result Rows ℤ). counted r) told;
      kept = subst (λ (r : Result Rows ℤ). ScanKept old new r) told
          (same ∙ ap (λ (w : Worker). record old { worker = w; kept = record old.kept { rows = Some rows; next = 0 } }) there);
    }
  where
    number : ℕ → Result ℕ ℤ
    number n = Ok n

pub scanned_none : (old : Desk) (question : Question) (worker : Worker) (came : Result (Result Rows Fault) Missed) (code : ℤ) (result : Result ℕ ℤ)
    → ScanCame old.worker worker question came → Err code ≡ answered came → IsErrAnd result (λ told. told ≡ code) → Scanned old (record old { worker = worker }) question result
scanned_none old question worker came code (Ok count) is told err = absurd err
scanned_none old question worker came code (Err refusal) is told err = record {
  came = came;
  is = is;
  answer = ap (λ (c : ℤ). refused c) err ∙ ap (λ (r : Result Rows ℤ). counted r) told;
  kept = subst (λ (r : Result Rows ℤ). ScanKept old (record old { worker = worker }) r) told refl;
}
  where
    refused : ℤ → Result ℕ ℤ
    refused c = Err c

-- ---- the end of a text

-- something stands where a line does
pub line_stands : (a b : Option (List ℕ)) (line : List ℕ) → Consumes a b (line ++ 10 ∷ []) → IfSome a (λ bytes. bytes ≡ [] → ⊥)
line_stands None b line taken = tt
line_stands (Some bytes) None line taken = absurd taken
line_stands (Some bytes) (Some rest) line taken = λ none.
    let n : length bytes ≡ 0 = ap length none in
    let m : length bytes ≡ length (line ++ 10 ∷ []) + length rest = ap length taken ∙ length-append (line ++ 10 ∷ []) rest in
    let k : length (line ++ 10 ∷ []) ≡ length line + 1 = length-append line (10 ∷ []) in
    absurd (omega arith)

-- and where none does, but the text isn't at its end
torn_stands : (a : Option (List ℕ)) → IfSome a BeginsNoLine → IfSome a (λ bytes. bytes ≡ [] → ⊥)
torn_stands None none = tt
torn_stands (Some bytes) none = λ ended.
    let n : length bytes ≡ 0 = ap length ended in
    let m : length bytes ≡ length none.front + length none.rest = ap length none.parts ∙ length-append none.front none.rest in
    elim none.long_or_torn [
      | inl long ↦ absurd (omega (arith, long))
      | inr torn ↦ let some = torn.0 in absurd (omega arith)
    ]

no_end_at : (fault : LineFault) (a b : Option (List ℕ)) (old new : Source) → LineGives (Err fault) a b old new → NoEnd (read_fault fault) (point a old.number)
no_end_at (line_faults.Malformed number) a b old new t = (torn_stands a t.0, t.1)
no_end_at line_faults.Read a b old new t = (t.0, b, t.1, t.2)
no_end_at line_faults.TooManyLines a b old new t = t.1

-- no line was taken at the end of a text, by the exit of a `?`
pub no_end : {X : Type 0} (fault : LineFault) (result : Result X LineFault) (a b : Option (List ℕ)) (old new : Source) → IsErrAnd result (λ e. e ≡ fault) → LineGives (Err fault) a b old new → EndTaken result (point a old.number)
no_end fault (Ok x) a b old new is t = absurd is
no_end fault (Err e) a b old new is t = subst (λ (f : LineFault). NoEnd (read_fault f) (point a old.number)) (sym is) (no_end_at fault a b old new t)

-- ---- texts

abbrev pub header_bytes : Limits → Schema → List ℕ
header_bytes limits schema = lines_text (header_text (header_of limits schema))

consumed_whole : (text lines : List ℕ) (rest : Option (List ℕ)) → Consumes (Some text) rest lines → IsAtEnd rest → text ≡ lines
consumed_whole text lines None taken whole = absurd taken
consumed_whole text lines (Some rest) taken whole = taken ∙ ap (λ (l : List ℕ). lines ++ l) whole ∙ append-nil lines

pub header_whole : (text unread : List ℕ) (limits : Limits) (schema : Schema) (rest : Option (List ℕ)) → unread ≡ []
    → Consumes (prepend_known unread (Some text)) rest (header_bytes limits schema) → HeaderFits (header_of limits schema) → IsAtEnd rest → IsHeader text limits schema
header_whole text unread limits schema rest none taken fits whole = record {
  fits = fits;
  is = consumed_whole text (header_bytes limits schema) rest (subst (λ (l : List ℕ). Consumes (prepend_known l (Some text)) rest (header_bytes limits schema)) none taken) whole;
}

abbrev pub new_input : Source
new_input = record { unread = []; line = []; number = 0; failed = false }

-- why no store is opened
abbrev pub Unopened : List ℕ → Trouble → Type 0
Unopened text trouble = (trouble ≡ Memory) ⊎ NoHeader text trouble ⊎ RunsOn text trouble

-- a text is none of a header, where a new input of it isn't
pub no_header : {X : Type 0} (text : List ℕ) (input : Source) (fault : ReadFault) (result : Result X Trouble) (after : Position) → input ≡ new_input → IsErrAnd result (λ e. e ≡ read_trouble fault)
    → HeaderTaken {X = Header} (λ header. header) (Err fault) (position_of input (Some text)) after → IfErr result (λ trouble. Unopened text trouble)
no_header text input fault (Ok x) after new is taken = absurd is
no_header text input fault (Err e) after new is taken =
    inr (inl (record { fault = fault; after = after; told = is; taken = subst (λ (i : Source). HeaderTaken {X = Header} (λ header. header) (Err fault) (position_of i (Some text)) after) new taken }))

behind_none : (number count : ℕ) → number ≡ 0 + count → number ≡ count
behind_none number count is = omega (arith, is)

-- a text runs on behind its header, where a new input of it does
pub runs_on : {X : Type 0} (text : List ℕ) (input : Source) (limits : Limits) (schema : Schema) (fault : LineFault) (result : Result X Trouble) (rest : Option (List ℕ)) (number : ℕ) → input ≡ new_input → IsErrAnd result (λ e. e ≡ read_trouble (read_fault fault))
    → Consumes (prepend_known input.unread (Some text)) rest (header_bytes limits schema) → number ≡ input.number + length (header_text (header_of limits schema)) → HeaderFits (header_of limits schema) → NoEnd (read_fault fault) (point rest number)
    → IfErr result (λ trouble. Unopened text trouble)
runs_on text input limits schema fault (Ok x) rest number new is taken counted fits unended = absurd is
runs_on text input limits schema fault (Err e) rest number new is taken counted fits unended =
    let many : number ≡ length (header_text (header_of limits schema)) = behind_none number _ (counted ∙ ap (λ (i : Source). i.number + length (header_text (header_of limits schema))) new) in
    inr (inr (record {
      header = header_of limits schema;
      fits = fits;
      rest = rest;
      taken = subst (λ (i : Source). Consumes (prepend_known i.unread (Some text)) rest (header_bytes limits schema)) new taken;
      fault = read_fault fault;
      told = is;
      unended = subst (λ (n : ℕ). NoEnd (read_fault fault) (point rest n)) many unended;
    }))

abbrev pub done_is : ⊤ → Result ⊤ Trouble
done_is done = Ok done

pub replayed : (quiet : Bool) (text said none : List ℕ) (after : Option (List ℕ)) → none ≡ []
    → ReplayGives quiet (Some text) (Appends (Some none) (Some said)) (AppendsFront (Some none) (Some said)) (done_is tt) after
    → ReplayGives quiet (Some text) (Appends (Some []) (Some said)) (AppendsFront (Some []) (Some said)) (done_is tt) after
replayed quiet text said none after empty given =
    subst (λ (l : List ℕ). ReplayGives quiet (Some text) (Appends (Some l) (Some said)) (AppendsFront (Some l) (Some said)) (done_is tt) after) empty given

pub both_told : (a b : ℤ) (m n : ℕ) → a ≡ b → m ≡ n → ◌≡◌ {A = ℤ × ℕ} (a, m) (b, n)
both_told a b m n one two = ap (λ (z : ℤ). pair z m) one ∙ ap (λ (k : ℕ). pair b k) two
  where
    pair : ℤ → ℕ → ℤ × ℕ
    pair z k = (z, k)
