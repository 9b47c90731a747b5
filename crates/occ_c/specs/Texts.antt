-- What is done with texts: headers, books, audits and replays (our own choice).
use Rattle.std.specs.Prelude.{⊤, ◌≡◌, ◌⊎◌, ◌+◌, ◌-◌, ◌^◌, ℕ, ℤ, pos, Bool, true, false, List, [], length, take, drop, Option, Some, IfSome, Result, Ok, Err}
use Rattle.std.specs.Io.KnownBytes.{Appends, Consumes, IsAtEnd}
use Rattle.occ_types.specs.Schema.{Schema}
use Rattle.occ_types.specs.declared.fault.Fault.{Fault}
use Rattle.occ_bytes.specs.Bytes.{put_at}
use Rattle.occ_text.specs.declared.faults.LineFault.{LineFault}
use Rattle.occ_text.specs.declared.faults.ReadFault.{ReadFault}
use Rattle.occ_text.specs.declared.faults.ReadFault.TheVariants as faults
use Rattle.occ_text.specs.declared.headers.Limits.{Limits}
use Rattle.occ_text.specs.declared.trouble.Trouble.{Trouble}
use Rattle.occ_text.specs.declared.trouble.Trouble.TheVariants.{Memory}
use Rattle.occ_text.specs.Faults.{read_fault, read_trouble}
use Rattle.occ_text.specs.Headers.{Header, HeaderFits, header_text}
use Rattle.occ_text.specs.Languages.{Position, point, start}
use Rattle.occ_text.specs.Line.{IsLine, lines_text}
use Rattle.occ_text.specs.ScheduleLines.{HeaderTaken}
use Rattle.occ_print.specs.Books.{header_of}
use Rattle.occ_reading.specs.WholeBooks.{AuditGives}
use Rattle.occ_cli.specs.Schedules.{ReplayGives, AppendsFront}
use Rattle.occ_sharing.specs.declared.places.Missed.{Missed}
use Rattle.occ_sharing.specs.Sharing.{Worker, Came}
use Rattle.occ_c.specs.declared.desks.Desk.{Desk}
use Rattle.occ_c.specs.Codes.{fault_code, missed_code, line_of, trouble_code}
use Rattle.occ_c.specs.Desks.{IsFresh}

-- a part of a text, from a place on, as much as has room
abbrev pub part_from : List ℕ → ℕ → ℕ → List ℕ
part_from text from room = take room (drop from text)

-- a text is none of a header: what ended the reading of it, and where
pub record NoHeader (text : List ℕ) (trouble : Trouble) : Type 0 where
  pub fault : ReadFault
  pub after : Position
  pub told : trouble ≡ read_trouble fault
  pub taken : HeaderTaken {X = Header} (λ header. header) (Err fault) (start (Some text)) after

-- the text is the lines of a header, up to its line `steps`, and ends there
pub record IsHeader (text : List ℕ) (limits : Limits) (schema : Schema) : Type 0 where
  pub fits : HeaderFits (header_of limits schema)
  pub is : text ≡ lines_text (header_text (header_of limits schema))

-- why a text doesn't end at a position: something stands there, and its line is told; or the read failed amid it, or its line has no number
abbrev pub NoEnd : ReadFault → Position → Type 0
NoEnd (faults.Malformed number) here = IfSome here.left (λ bytes. bytes ≡ [] → ⊥) × (number ≡ here.number + 1)
NoEnd faults.Read here = (part : List ℕ) × (after : Option (List ℕ)) × IsLine part × Consumes here.left after part
NoEnd faults.TooManyLines here = here.number ≡ 2 ^ 64 - 1
NoEnd faults.Memory here = ⊥

-- whether a text ends at a position, by the outcome
abbrev pub EndTaken : {X : Type 0} → Result X LineFault → Position → Type 0
EndTaken (Ok x) here = IsAtEnd here.left
EndTaken (Err fault) here = NoEnd (read_fault fault) here

-- the text begins with a header, and doesn't end behind it
pub record RunsOn (text : List ℕ) (trouble : Trouble) : Type 0 where
  pub header : Header
  pub fits : HeaderFits header
  pub rest : Option (List ℕ)
  pub taken : Consumes (Some text) rest (lines_text (header_text header))
  pub fault : ReadFault
  pub told : trouble ≡ read_trouble fault
  pub unended : NoEnd fault (point rest (length (header_text header)))

-- the store is opened as the text of a header says; or memory is refused, or the text is none of a header, or runs on behind it
abbrev pub Opens : List ℕ → Result Desk Trouble → Type 0
Opens text (Ok desk) = IsHeader text desk.limits desk.store.schema × (desk.store ≡ record { schema = desk.store.schema; sessions = desk.limits.sessions; keep = desk.limits.keep }) × IsFresh desk
Opens text (Err trouble) = (trouble ≡ Memory) ⊎ NoHeader text trouble ⊎ RunsOn text trouble

-- the code, and the line where it is told in the place of what stood there
abbrev pub opened_code : {X : Type 0} → ℕ → Result X Trouble → ℤ × ℕ
opened_code stood (Ok x) = (pos 0, stood)
opened_code stood (Err trouble) = (trouble_code trouble, line_of trouble)

pub record OpensFor (text : List ℕ) (stood line : ℕ) (code : ℤ) : Type 0 where
  pub came : Result Desk Trouble
  pub is : Opens text came
  pub told : (code, line) ≡ opened_code stood came

-- 1 for a yes, 0 for a no
abbrev pub verdict_number : Bool → ℤ
verdict_number true = pos 1
verdict_number false = pos 0

abbrev pub audited_code : ℤ → ℕ → Result Bool Trouble → ℤ × ℤ × ℕ
audited_code stood line (Ok verdict) = (pos 0, verdict_number verdict, line)
audited_code stood line (Err trouble) = (trouble_code trouble, stood, line_of trouble)

-- a text is audited, and what its audit says is written nowhere
pub record Audits (text : List ℕ) (stood verdict : ℤ) (stood_line line : ℕ) (code : ℤ) : Type 0 where
  pub came : Result Bool Trouble
  pub after : Option (List ℕ)
  pub said : Option (List ℕ)
  pub is : AuditGives came (Some text) after (Some []) said
  pub told : (code, verdict, line) ≡ audited_code stood stood_line came

-- a schedule is replayed, and what it says goes into a room as far as it has room
pub record Replays (quiet : Bool) (text room filled : List ℕ) (size stood line : ℕ) (code : ℤ) : Type 0 where
  pub came : Result ⊤ Trouble
  pub after : Option (List ℕ)
  pub said : List ℕ
  pub is : ReplayGives quiet (Some text) (Appends (Some []) (Some said)) (AppendsFront (Some []) (Some said)) came after
  pub part : filled ≡ put_at room 0 (part_from said 0 (length room))
  pub whole : size ≡ length said
  pub told : (code, line) ≡ opened_code stood came

-- the worker tells what stands in its store, which stays
abbrev pub BookCame : Worker → Worker → Result ⊤ Missed → Type 0
BookCame old new came = Came old new came (λ done before after. (after ≡ before) × (new.client ≡ old.client))

-- what is kept of a book: its text, whose length is told; or a fault of the store
abbrev pub KeepsBook : Desk → Desk → Result ⊤ Missed → Result ℕ ℤ → Type 0
KeepsBook old new (Ok done) (Ok size) = (size ≡ length new.kept.book.items) × (new ≡ record old { worker = new.worker; kept = record old.kept { book = new.kept.book } })
KeepsBook old new (Ok done) (Err code) = (fault : Fault) × (code ≡ fault_code fault) × (new ≡ record old { worker = new.worker })
KeepsBook old new (Err missed) (Ok size) = ⊥
KeepsBook old new (Err missed) (Err code) = (code ≡ missed_code missed) × (new ≡ record old { worker = new.worker })

-- the book of the store is written, and kept
pub record Books (old new : Desk) (result : Result ℕ ℤ) : Type 0 where
  pub came : Result ⊤ Missed
  pub is : BookCame old.worker new.worker came
  pub kept : KeepsBook old new came result
