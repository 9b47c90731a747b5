-- What a run writes at its end (our own choice).
use Rattle.std.specs.Prelude.{◌≡◌, ◌⊎◌, ℕ, suc, Bool, true, false, ◌==◌, if◌then◌else◌, List, [], ◌∷◌, ◌++◌, filter, length, Option, Some, None, Result, Ok, Err, codes}
use Rattle.std.specs.Bool.{Decides}
use Rattle.std.specs.List.{flat_map}
use Rattle.std.specs.Ordering.{nat_cmp}
use Rattle.std.specs.FinMap.{FinMap, get}
use Rattle.std.specs.Fmt.{decimal}
use Rattle.std.specs.Io.KnownBytes.{Appends}
use Rattle.occ_model.specs.Log.{LogRow}
use Rattle.occ_model.specs.World.{World, low}
use Rattle.occ_text.specs.declared.faults.WriteFault.{WriteFault}
use Rattle.occ_text.specs.declared.headers.Limits.{Limits}
use Rattle.occ_text.specs.Line.{lines_text}
use Rattle.occ_text.specs.Spelling.{line_text}
use Rattle.occ_print.specs.Books.{Book, book_lines, header_of, standing_text, audit_line}

-- the rows of a session, in the order of entry
abbrev pub is_of : ℕ → LogRow → Bool
is_of session row = row.session == session

abbrev pub rows_of : ℕ → List LogRow → List LogRow
rows_of session log = filter (is_of session) log

-- session S rows R refused Q
abbrev pub session_line : ℕ → ℕ → ℕ → List ℕ
session_line session rows refused = line_text (codes "session" ∷ decimal session ∷ codes "rows" ∷ decimal rows ∷ codes "refused" ∷ decimal refused ∷ [])

-- N STANDING
abbrev pub standing_line : LogRow → List ℕ
standing_line row = line_text (decimal row.number ∷ standing_text row.standing ∷ [])

-- the line of a row of the session, and none of another row
abbrev pub row_lines : ℕ → LogRow → List (List ℕ)
row_lines session row = if is_of session row then standing_line row ∷ [] else []

-- mark N, where the closing mark has entered
abbrev pub mark_line : ℕ → List ℕ
mark_line number = line_text (codes "mark" ∷ decimal number ∷ [])

abbrev pub mark_lines : Option ℕ → List (List ℕ)
mark_lines None = []
mark_lines (Some number) = mark_line number ∷ []

-- what became of a session
abbrev pub session_lines : List LogRow → FinMap nat_cmp ℕ → ℕ → ℕ → List (List ℕ)
session_lines log marks session refused = session_line session (length (rows_of session log)) refused ∷ flat_map (row_lines session) log ++ mark_lines (get marks session)

-- what became of the sessions from a number on, by how many transactions of each were refused
abbrev pub sessions_lines : List LogRow → FinMap nat_cmp ℕ → ℕ → List ℕ → List (List ℕ)
sessions_lines log marks session [] = []
sessions_lines log marks session (refused ∷ more) = session_lines log marks session refused ++ sessions_lines log marks (suc session) more

-- the book of a world
abbrev pub book_at : Limits → World → Book
book_at limits world = record {
  header = header_of limits world.settings.schema;
  base = world.base;
  log = world.log;
  marks = world.marks;
  state = world.table;
  counter = world.counter;
  low = low world;
}

-- the book, or what became of each session
abbrev pub told_lines : Bool → Book → List ℕ → List (List ℕ)
told_lines true book refused = book_lines book
told_lines false book refused = sessions_lines book.log book.marks 1 refused

-- and behind it that the audit holds
abbrev pub report_lines : Bool → Book → List ℕ → List (List ℕ)
report_lines whole book refused = told_lines whole book refused ++ audit_line true ∷ []

-- a beginning of a text was written
pub record AppendsFront (before after : Option (List ℕ)) (text : List ℕ) : Type 0 where
  pub front : List ℕ
  pub rest : List ℕ
  pub whole : text ≡ front ++ rest
  pub written : Appends before after front

module _ (Wrote WroteFront : List ℕ → Type 0) where
  -- what the line of an audit leaves that tells whether a claim holds
  abbrev pub AuditGives : Result Bool WriteFault → Type 0 → Type 0
  AuditGives (Ok holds) Claim = Decides holds Claim × Wrote (lines_text (audit_line holds ∷ []))
  AuditGives (Err fault) Claim = WroteFront [] ⊎ ((holds : Bool) × Decides holds Claim × WroteFront (lines_text (audit_line holds ∷ [])))

  -- what writing it all leaves: the audit holds
  abbrev pub ReportGives : {E : Type 0} → Result Bool E → List (List ℕ) → Type 0
  ReportGives (Ok holds) lines = (holds ≡ true) × Wrote (lines_text lines)
  ReportGives (Err fault) lines = WroteFront (lines_text lines)
