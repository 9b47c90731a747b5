-- The book of a store: all that it keeps, line by line (our own choice).
use Rattle.std.specs.Prelude.{ℕ, Bool, true, false, ◌-◌, ◌^◌, ◌==◌, if◌then◌else◌, min, nat_eq, List, [], ◌∷◌, ◌++◌, map, filter, length, None, Some, slice_get, codes}
use Rattle.std.specs.Ordering.{nat_cmp}
use Rattle.std.specs.List.{flat_map}
use Rattle.std.specs.Fmt.{decimal}
use Rattle.std.specs.FinMap.{FinMap, entries, len}
use Rattle.occ_types.specs.Key.{Key}
use Rattle.occ_types.specs.Object.{Object}
use Rattle.occ_types.specs.Question.{Question, One, Span}
use Rattle.occ_types.specs.Row.{Row}
use Rattle.occ_types.specs.Schema.{Schema}
use Rattle.occ_model.specs.State.{State, Write, Answer, Found, Rows, Observation}
use Rattle.occ_model.specs.Log.{Case, LogRow, Base, Standing, Open, Writing, Done, Back}
use Rattle.occ_model.specs.declared.verdict.Cause.TheVariants.{Conflict, TooOld}
use Rattle.occ_sets.specs.LogRows.{log_of}
use Rattle.occ_book.specs.declared.books.BookView as code_view
use Rattle.occ_types.specs.Spelling.{key_text, row_text}
use Rattle.occ_text.specs.Spelling.{line_text, end_text}
use Rattle.occ_text.specs.declared.headers.Limits.{Limits}
use Rattle.occ_text.specs.Headers.{Header, limits_of, limits_lines, count_text, table_text}
use Rattle.occ_text.specs.Line.{lines_text}
use Rattle.occ_print.specs.declared.sections.Section.{Section}
use Rattle.occ_print.specs.declared.sections.Section.TheVariants as sections

-- what a book tells: how its store was opened, and all that the store keeps
pub record Book : Type 0 where
  pub header : Header
  pub base : Base
  pub log : List LogRow
  pub marks : FinMap nat_cmp ℕ
  pub state : State
  pub counter : ℕ
  pub low : ℕ

-- how a store was opened
abbrev pub header_of : Limits → Schema → Header
header_of limits schema = record { version = limits.version; sessions = limits.sessions; queue = limits.queue; keep = limits.keep; tables = schema }

-- the header of a schedule, without its last line
abbrev pub header_lines : Header → List (List ℕ)
header_lines header = limits_lines (limits_of header) ++ map table_text header.tables

-- the name of the table at a place; no store names one that is not there
abbrev pub table_name : Schema → ℕ → List ℕ
table_name schema place = elim (slice_get schema place) [ None ↦ [] | Some table ↦ table.name ]

abbrev pub question_text : Schema → Question → List ℕ
question_text schema (One table key) = line_text (codes "one" ∷ table_name schema table ∷ key_text key ∷ [])
question_text schema (Span table lower upper) =
    line_text (codes "span" ∷ table_name schema table ∷ end_text lower ∷ end_text upper ∷ [])

-- what stands behind a question: the row of a key, or how many rows of a range follow
abbrev pub answer_text : Answer → List ℕ
answer_text (Found None) = codes "none"
answer_text (Found (Some row)) = row_text row
answer_text (Rows rows) = decimal (length rows)

abbrev pub pair_line : Key × Row → List ℕ
pair_line pair = line_text (codes "pair" ∷ key_text pair.0 ∷ row_text pair.1 ∷ [])

abbrev pub pair_lines : Answer → List (List ℕ)
pair_lines (Found row) = []
pair_lines (Rows rows) = map pair_line rows

-- a read with its answer
abbrev pub read_line : Schema → Observation → List ℕ
read_line schema seen = line_text (question_text schema seen.0 ∷ answer_text seen.1 ∷ [])

abbrev pub read_lines : Schema → Observation → List (List ℕ)
read_lines schema seen = read_line schema seen ∷ pair_lines seen.1

abbrev pub write_line : Schema → Write → List ℕ
write_line schema (object, None) = line_text (codes "del" ∷ table_name schema object.0 ∷ key_text object.1 ∷ [])
write_line schema (object, Some row) = line_text (codes "put" ∷ table_name schema object.0 ∷ key_text object.1 ∷ row_text row ∷ [])

abbrev pub standing_text : Standing → List ℕ
standing_text (Open index case) = codes "open"
standing_text (Writing done) = count_text (codes "writing") done
standing_text (Done number) = count_text (codes "done") number
standing_text (Back Conflict) = codes "conflict"
standing_text (Back TooOld) = codes "tooold"

-- place, session, number, start, finish, how many reads and writes follow, and how far it has come
abbrev pub row_line : LogRow → List ℕ
row_line row = line_text (
    codes "row"
    ∷ decimal row.place
    ∷ decimal row.session
    ∷ decimal row.number
    ∷ decimal row.start
    ∷ decimal row.finish
    ∷ decimal (length row.reads)
    ∷ decimal (length row.writes)
    ∷ standing_text row.standing
    ∷ [])

abbrev pub row_lines : Schema → LogRow → List (List ℕ)
row_lines schema row = row_line row ∷ flat_map (read_lines schema) row.reads ++ map (write_line schema) row.writes

abbrev pub log_lines : Schema → List LogRow → List (List ℕ)
log_lines schema log = count_text (codes "log") (length log) ∷ flat_map (row_lines schema) log

-- the first word of the line of a session with its number, and that of the line of a row
abbrev pub number_word : Section → List ℕ
number_word sections.Base = codes "last"
number_word sections.Store = codes "mark"

abbrev pub entry_word : Section → List ℕ
entry_word sections.Base = codes "from"
entry_word sections.Store = codes "at"

abbrev pub number_line : Section → ℕ × ℕ → List ℕ
number_line section number = line_text (number_word section ∷ decimal number.0 ∷ decimal number.1 ∷ [])

abbrev pub entry_line : Section → Schema → Object × Row → List ℕ
entry_line section schema entry = line_text (entry_word section ∷ table_name schema entry.0.0 ∷ key_text entry.0.1 ∷ row_text entry.1 ∷ [])

-- the closing marks, by session
abbrev pub mark_lines : FinMap nat_cmp ℕ → List (List ℕ)
mark_lines marks = count_text (codes "marks") (len marks) ∷ map (number_line sections.Store) (entries marks)

-- how many rows a state has; a text has no number above 2 ^ 64 - 1
abbrev pub row_count : State → ℕ
row_count state = min (len state) (2 ^ 64 - 1)

abbrev pub state_lines : Schema → State → List (List ℕ)
state_lines schema state = count_text (codes "state") (row_count state) ∷ map (entry_line sections.Store schema) (entries state)

-- the place behind what was folded, and how many sessions and rows follow
abbrev pub base_line : ℕ → ℕ → ℕ → List ℕ
base_line place numbers rows = line_text (codes "base" ∷ decimal place ∷ decimal numbers ∷ decimal rows ∷ [])

-- what was folded: the last number of each session, and the rows of its state, by table and then by key
abbrev pub folded_lines : Schema → Base → List (List ℕ)
folded_lines schema base =
    base_line base.place (len base.last) (row_count base.state)
    ∷ map (number_line sections.Base) (entries base.last)
    ++ map (entry_line sections.Base schema) (entries base.state)

-- nothing is told of a base in front of which no row stood
abbrev pub base_lines : Schema → Base → List (List ℕ)
base_lines schema base = if base.place == 0 then [] else folded_lines schema base

-- the rows of the table at a place
abbrev pub rows_at : ℕ → State → List (Object × Row)
rows_at place state = filter (λ e. nat_eq e.0.0 place) (entries state)

abbrev pub counter_line : ℕ → ℕ → List ℕ
counter_line counter low = line_text (codes "counter" ∷ decimal counter ∷ codes "low" ∷ decimal low ∷ [])

abbrev pub book_lines : Book → List (List ℕ)
book_lines book =
    header_lines book.header
    ++ base_lines book.header.tables book.base
    ++ log_lines book.header.tables book.log
    ++ mark_lines book.marks
    ++ state_lines book.header.tables book.state
    ++ counter_line book.counter book.low ∷ []

abbrev pub book_text : Book → List ℕ
book_text book = lines_text (book_lines book)

-- the line behind a book that tells whether its audit holds
abbrev pub audit_line : Bool → List ℕ
audit_line true = codes "audit yes"
audit_line false = codes "audit no"

module _ {Z O : Type 0} where
  -- the plain book of a store that was opened so, where it is known how what is held of an open row is seen
  abbrev pub book_of : (O → ℕ × Case) → Limits → Schema → code_view.BookView Z O → Book
  book_of opened limits schema book = record {
    header = header_of limits schema;
    base = book.base.now.base;
    log = log_of opened book.log.now;
    marks = book.marks.now.marks;
    state = book.table.now.state;
    counter = book.tnc;
    low = book.low;
  }
