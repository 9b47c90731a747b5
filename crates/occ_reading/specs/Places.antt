-- Where a book stands behind some of its lines, and which lines may come next there (our own choice; decided line by line, so that a count that doesn't fit is found at the first line that can't stand).
use Rattle.std.specs.Prelude.{◌≡◌, ◌^◌, ◌-◌, ◌<◌, ℕ, zero, suc, true, false, List, [], ◌∷◌, ◌++◌, Option, Some, None, codes}
use Rattle.std.specs.List.{list_any}
use Rattle.std.specs.Ordering.{eq_by_cmp, is_lt}
use Rattle.occ_types.specs.Key.{Key, key_cmp}
use Rattle.occ_types.specs.Object.{Object, object_cmp}
use Rattle.occ_types.specs.Row.{Row}
use Rattle.occ_types.specs.Schema.{Table, Schema}
use Rattle.occ_types.specs.PlainData.{table_asked}
use Rattle.occ_text.specs.declared.versions.Version as versions
use Rattle.occ_text.specs.Headers.{version_text}
use Rattle.occ_text.specs.Languages.{Grammar, Language, lines_of, counts_of}
use Rattle.occ_text.specs.TableTaking.{further_lines}
use Rattle.occ_print.specs.Books.{pair_line, write_line, entry_line, audit_line}
use Rattle.occ_print.specs.declared.sections.Section.{Section}
use Rattle.occ_print.specs.declared.sections.Section.TheVariants as sections
use Rattle.occ_reading.specs.declared.number_lines.Head.{Head}
use Rattle.occ_reading.specs.declared.number_lines.Began.{Began}
use Rattle.occ_reading.specs.declared.number_lines.Began.TheVariants as begun
use Rattle.occ_reading.specs.NumberLines.{BeganFits, HeadFits, MarkFits, CountsFit, began_text, head_text, mark_text, counts_text}
use Rattle.occ_reading.specs.RowLines.{Asked, AskedOne, AskedSpan, AskedFits, PairFits, WriteFits, AtFits, asked_text}
use Rattle.occ_reading.specs.Taking.{is_behind}

-- what a header tells that the lines behind it have to fit, and the version in which they are read
pub record Frame : Type 0 where
  pub version : versions.Version
  pub schema : Schema
  pub sessions : ℕ

-- a row of the log whose first line stands, and how many rows come behind it
pub record InRow : Type 0 where
  pub frame : Frame
  pub rows : ℕ
  pub head : Head

abbrev pub frame_of : versions.Version → Schema → ℕ → Frame
frame_of version schema sessions = record { version = version; schema = schema; sessions = sessions }

abbrev pub in_row : Frame → ℕ → Head → InRow
in_row frame rows head = record { frame = frame; rows = rows; head = head }

-- the same in a text of this version and these tables
abbrev pub framed : versions.Version → Schema → InRow → InRow
framed version schema row = in_row (frame_of version schema row.frame.sessions) row.rows row.head

-- what comes next; a number of lines, rows, reads or pairs is how many more come behind the next one
pub data Place : Type 0 where
  Version : Place
  Sessions : versions.Version → Place
  Queue : versions.Version → (sessions : ℕ) → Place
  Keep : versions.Version → (sessions : ℕ) → Place
  Tables : versions.Version → (sessions : ℕ) → (tables : List Table) → Place
  -- of the base, with how many of its rows come behind its numbers, or of the store
  NumberOf : Section → Frame → (rows : ℕ) → (numbers : ℕ) → (last : ℕ) → Place
  EntryOf : Section → Frame → (rows : ℕ) → (last : Option Object) → Place
  -- behind a base
  Log : Frame → Place
  LogRow : Frame → (rows : ℕ) → Place
  ReadOf : InRow → (reads : ℕ) → Place
  PairOf : InRow → (reads : ℕ) → (table : ℕ) → (pairs : ℕ) → (last : Option Key) → Place
  WriteOf : InRow → (writes : ℕ) → (written : List Object) → Place
  Marks : Frame → Place
  State : Frame → Place
  Counter : Place
  -- the book is whole; the line of an audit may stand behind it
  Audit : Place
  End : Place

-- ---- where one stands when so many are still to come

abbrev pub rows_to_come : Frame → ℕ → Place
rows_to_come frame zero = Marks frame
rows_to_come frame (suc more) = LogRow frame more

abbrev pub writes_to_come : InRow → ℕ → List Object → Place
writes_to_come row zero written = rows_to_come row.frame row.rows
writes_to_come row (suc more) written = WriteOf row more written

abbrev pub reads_to_come : InRow → ℕ → Place
reads_to_come row zero = writes_to_come row row.head.writes []
reads_to_come row (suc more) = ReadOf row more

abbrev pub pairs_to_come : InRow → ℕ → ℕ → ℕ → Option Key → Place
pairs_to_come row reads table zero last = reads_to_come row reads
pairs_to_come row reads table (suc more) last = PairOf row reads table more last

abbrev pub behind_entries : Section → Frame → Place
behind_entries sections.Base frame = Log frame
behind_entries sections.Store frame = Counter

abbrev pub entries_to_come : Section → Frame → ℕ → Option Object → Place
entries_to_come section frame zero last = behind_entries section frame
entries_to_come section frame (suc more) last = EntryOf section frame more last

abbrev pub behind_numbers : Section → Frame → ℕ → Place
behind_numbers sections.Base frame rows = entries_to_come sections.Base frame rows None
behind_numbers sections.Store frame rows = State frame

abbrev pub numbers_to_come : Section → Frame → ℕ → ℕ → ℕ → Place
numbers_to_come section frame rows zero last = behind_numbers section frame rows
numbers_to_come section frame rows (suc more) last = NumberOf section frame rows more last

-- behind the line with which the log begins
abbrev pub behind_began : Frame → Began → Place
behind_began frame (begun.Log rows) = rows_to_come frame rows
behind_began frame (begun.Base head) = numbers_to_come sections.Base frame head.rows head.numbers 0

-- behind the line of a read
abbrev pub behind_read : InRow → ℕ → Asked → Place
behind_read row reads (AskedOne object found) = reads_to_come row reads
behind_read row reads (AskedSpan question count) = pairs_to_come row reads (table_asked question) count None

-- ---- which line leads on, and where to

-- a key comes behind another one, if there is one
abbrev pub IsAbove : Option Key → Key → Type 0
IsAbove None key = Unit {0}
IsAbove (Some last) key = is_lt (key_cmp last key) ≡ true

-- the key of the last row, if there is one
abbrev pub last_key : List (Key × Row) → Option Key
last_key [] = None
last_key (row ∷ []) = Some row.0
last_key (row ∷ next ∷ rows) = last_key (next ∷ rows)

abbrev pub grammar : Place → Grammar Place
grammar Version = lines_of version_text (λ version. Unit {0}) Sessions
grammar (Sessions version) = counts_of (codes "sessions") 1 64 (Queue version)
grammar (Queue version sessions) = counts_of (codes "queue") 1 1024 (λ n. Keep version sessions)
grammar (Keep version sessions) = counts_of (codes "keep") 1 4096 (λ n. Tables version sessions [])
grammar (Tables version sessions tables) = further_lines version began_text BeganFits tables (Tables version sessions) (behind_began (frame_of version tables sessions))
grammar (NumberOf section frame rows numbers last) =
    lines_of (mark_text section) (λ mark. MarkFits frame.sessions mark × (last < mark.session)) (λ mark. numbers_to_come section frame rows numbers mark.session)
grammar (EntryOf section frame rows last) =
    lines_of (entry_line section frame.schema) (λ entry. AtFits frame.version frame.schema entry × (is_behind last entry.0 ≡ true)) (λ entry. entries_to_come section frame rows (Some entry.0))
grammar (Log frame) = counts_of (codes "log") 0 (2 ^ 64 - 1) (rows_to_come frame)
grammar (LogRow frame rows) = lines_of head_text (HeadFits frame.sessions) (λ head. reads_to_come (in_row frame rows head) head.reads)
grammar (ReadOf row reads) = lines_of (asked_text row.frame.schema) (AskedFits row.frame.version row.frame.schema) (behind_read row reads)
grammar (PairOf row reads table pairs last) =
    lines_of pair_line (λ pair. PairFits row.frame.version row.frame.schema table pair × IsAbove last pair.0) (λ pair. pairs_to_come row reads table pairs (Some pair.0))
grammar (WriteOf row writes written) =
    lines_of (write_line row.frame.schema) (λ write. WriteFits row.frame.version row.frame.schema write × (list_any (eq_by_cmp object_cmp write.0) written ≡ false))
    (λ write. writes_to_come row writes (written ++ write.0 ∷ []))
grammar (Marks frame) = counts_of (codes "marks") 0 (2 ^ 64 - 1) (λ n. numbers_to_come sections.Store frame 0 n 0)
grammar (State frame) = counts_of (codes "state") 0 (2 ^ 64 - 1) (λ n. entries_to_come sections.Store frame n None)
grammar Counter = lines_of counts_text CountsFit (λ counts. Audit)
grammar Audit = lines_of audit_line (λ verdict. Unit {0}) (λ verdict. End)
grammar End = lines_of {Y = ⊥} (λ none. []) (λ none. Unit {0}) (λ none. End)

-- a text may end here
abbrev pub MayEnd : Place → Type 0
MayEnd Audit = Unit {0}
MayEnd End = Unit {0}
MayEnd place = ⊥

-- books, and the line of an audit that may stand behind one
abbrev pub books : Language
books = record { Place = Place; grammar = grammar; MayEnd = MayEnd }
