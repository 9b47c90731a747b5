-- What a book tells, and that a text is the text of a book.
use Rattle.std.specs.Prelude.{◌≡◌, ◌≤◌, ◌^◌, ◌-◌, ◌⊎◌, ℕ, Bool, List, [], ◌∷◌, ◌++◌, length, Option, Result, Ok, Err, IfSome, codes}
use Rattle.std.specs.Bool.{Decides}
use Rattle.std.specs.List.{AllByRecursion}
use Rattle.std.specs.FinMap.{entries, len}
use Rattle.std.specs.Io.KnownBytes.{Appends, Keeps}
use Rattle.occ_types.specs.Schema.{Schema}
use Rattle.occ_model.specs.Log.{Audited, Base}
use Rattle.occ_model.specs.World.{empty_base}
use Rattle.occ_text.specs.declared.faults.WriteFault.{WriteFault}
use Rattle.occ_text.specs.declared.faults.WriteFault.TheVariants as faults
use Rattle.occ_text.specs.declared.trouble.Trouble.{Trouble}
use Rattle.occ_text.specs.declared.trouble.Trouble.TheVariants.{Read, Write, Memory, Malformed}
use Rattle.occ_text.specs.declared.versions.Version as versions
use Rattle.occ_text.specs.Line.{lines_text}
use Rattle.occ_text.specs.Headers.{HeaderFits}
use Rattle.occ_text.specs.HeaderTaking.{header_of}
use Rattle.occ_print.specs.Books.{Book, book_text, audit_line}
use Rattle.occ_reading.specs.declared.whole_books.PrintedBook as code_printed
use Rattle.occ_reading.specs.NumberLines.{IsSession, CountsFit}
use Rattle.occ_reading.specs.RowLines.{AtFits}
use Rattle.occ_reading.specs.Taking.{LogRowFits}
use Rattle.occ_text.specs.Languages.{start, Stopped, Torn, Uncounted}
use Rattle.occ_reading.specs.Places.{Version, books}
use Rattle.occ_reading.specs.PlainRows.{log_of}

-- what stands behind a book: nothing, or one audit line, whatever it says
abbrev pub IsEnding : List (List ℕ) → Type 0
IsEnding lines = (lines ≡ []) ⊎ ((lines ≡ codes "audit yes" ∷ []) ⊎ (lines ≡ codes "audit no" ∷ []))

-- a session of the header, with a number of 64 bits
abbrev pub EntryFits : ℕ → ℕ × ℕ → Type 0
EntryFits sessions mark = IsSession sessions mark.0 × (mark.1 ≤ 2 ^ 64 - 1)

-- What was folded fits a header, and has numbers of 64 bits. Where no row stood in front of the log, nothing was folded.
pub record BaseFits (version : versions.Version) (schema : Schema) (sessions : ℕ) (base : Base) : Type 0 where
  pub place : base.place ≤ 2 ^ 64 - 1
  pub last : AllByRecursion (EntryFits sessions) (entries base.last)
  pub objects : len base.state ≤ 2 ^ 64 - 1
  pub state : AllByRecursion (AtFits version schema) (entries base.state)
  pub nothing : base.place ≡ 0 → base ≡ empty_base

-- all of a book fits its own header, and each count and number has 64 bits
pub record BookFits (book : Book) : Type 0 where
  pub header : HeaderFits book.header
  pub base : BaseFits book.header.version book.header.tables book.header.sessions book.base
  pub rows : length book.log ≤ 2 ^ 64 - 1
  pub log : AllByRecursion (LogRowFits book.header.version book.header.tables book.header.sessions) book.log
  pub marks : AllByRecursion (EntryFits book.header.sessions) (entries book.marks)
  pub objects : len book.state ≤ 2 ^ 64 - 1
  pub state : AllByRecursion (AtFits book.header.version book.header.tables) (entries book.state)
  pub counts : CountsFit (record { counter = book.counter; low = book.low })

-- a text, where it is known, is that of a book which fits its header, and perhaps an audit line behind it
pub record IsBookText (text : Option (List ℕ)) (book : Book) : Type 0 where
  pub lines : List (List ℕ)
  pub ending : IsEnding lines
  pub whole : IfSome text (λ bytes. bytes ≡ book_text book ++ lines_text lines)
  pub fits : BookFits book

-- the line of a verdict
abbrev pub verdict_text : Bool → List ℕ
verdict_text verdict = lines_text (audit_line verdict ∷ [])

-- what writing a verdict leaves at the writer, where it fails: a beginning of its line, or nothing
pub record VerdictFront (verdict : Bool) (old new : Option (List ℕ)) : Type 0 where
  pub front : List ℕ
  pub rest : List ℕ
  pub whole : verdict_text verdict ≡ front ++ rest
  pub written : Appends old new front

-- what writing a verdict leaves at the writer, by its outcome
abbrev pub VerdictGives : {X : Type 0} → Result X WriteFault → Bool → Option (List ℕ) → Option (List ℕ) → Type 0
VerdictGives (Ok done) verdict old new = Appends old new (verdict_text verdict)
VerdictGives (Err faults.Write) verdict old new = VerdictFront verdict old new
VerdictGives (Err faults.Memory) verdict old new = Keeps old new

-- a verdict is right, of the book whose text it is
pub record Judged (verdict : Bool) (text : Option (List ℕ)) : Type 0 where
  pub book : Book
  pub read : IsBookText text book
  pub right : Decides verdict (Audited book.base book.marks book.state book.log)

-- what the audit of a text leaves, by its outcome, where `after` is what the reader has left, and the writer's bytes were old and are new
abbrev pub AuditGives : Result Bool Trouble → Option (List ℕ) → Option (List ℕ) → Option (List ℕ) → Option (List ℕ) → Type 0
AuditGives (Ok verdict) text after old new = Judged verdict text × Appends old new (verdict_text verdict)
-- nothing was written, and the line is the first one that can't stand where it stands, or the last one that has a number of 64 bits
AuditGives (Err (Malformed line)) text after old new = Keeps old new × (Stopped books Version (start text) line ⊎ (Uncounted books Version (start text) × (line ≡ 2 ^ 64 - 1)))
-- nothing was written, and a read failed: all that the reader gave is lines that lead on and a part of another
AuditGives (Err Read) text after old new = Keeps old new × Torn books Version (start text) after
AuditGives (Err Memory) text after old new = Keeps old new
-- what was written is a beginning of the line of the right verdict, and of no other
AuditGives (Err Write) text after old new = (verdict : Bool) × Judged verdict text × VerdictFront verdict old new

module _ {Z : Type 0} where
  -- the plain book
  abbrev pub printed_book : code_printed.PrintedBook Z → Book
  printed_book printed = record {
    header = header_of printed.header;
    base = printed.book.base.base;
    log = log_of printed.book.log.items;
    marks = printed.book.marks.marks;
    state = printed.book.table.state;
    counter = printed.book.tnc;
    low = printed.book.low;
  }
