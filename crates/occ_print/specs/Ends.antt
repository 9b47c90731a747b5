-- Which books the versions of the format have words for, and what printing one leaves.
use Rattle.std.specs.Prelude.{◌≡◌, Bool, true, false, ◌&&◌, ℕ, List, Option, Some, None, if◌then◌else◌, Result, Ok, Err, is_some}
use Rattle.std.specs.List.{list_all, list_any}
use Rattle.occ_types.specs.declared.kind.KeyKind.{KeyKind}
use Rattle.occ_types.specs.declared.kind.KeyKind.TheVariants as kinds
use Rattle.occ_types.specs.Question.{Question, One, Span}
use Rattle.occ_types.specs.Schema.{Schema}
use Rattle.occ_model.specs.State.{Observation}
use Rattle.occ_model.specs.Log.{LogRow}
use Rattle.occ_text.specs.declared.versions.Version.{Version}
use Rattle.occ_text.specs.declared.versions.Version.TheVariants as versions
use Rattle.occ_text.specs.declared.faults.WriteFault.{WriteFault}
use Rattle.occ_text.specs.declared.faults.WriteFault.TheVariants as write_faults
use Rattle.occ_text.specs.Printing.{Pushed, PushedFront}
use Rattle.occ_print.specs.declared.ends.BookFault.{BookFault}
use Rattle.occ_print.specs.declared.ends.BookFault.TheVariants.{PairKeys, MissingEnd, Write, Memory}
use Rattle.occ_print.specs.Books.{Book, book_text}

-- keys of two parts
abbrev pub is_pair : KeyKind → Bool
is_pair kinds.Num = false
is_pair kinds.Text = false
is_pair (kinds.Pair first second) = true

-- a table has keys of two parts
abbrev pub some_are_pairs : Schema → Bool
some_are_pairs tables = list_any (λ table. is_pair table.key) tables

-- a range has both of its ends; a single key lacks none
abbrev pub has_both_ends : Question → Bool
has_both_ends (One table key) = true
has_both_ends (Span table lower upper) = is_some lower && is_some upper

abbrev pub reads_have_ends : List Observation → Bool
reads_have_ends reads = list_all (λ seen. has_both_ends seen.0) reads

-- every range that the rows of a log read has both ends
abbrev pub ranges_have_ends : List LogRow → Bool
ranges_have_ends log = list_all (λ row. reads_have_ends row.reads) log

-- what a version has no words for: the first one has none for keys of two parts, nor for a missing end
abbrev pub unworded : Version → Schema → List LogRow → Option BookFault
unworded versions.One tables log = if some_are_pairs tables then Some PairKeys else (if ranges_have_ends log then None else Some MissingEnd)
unworded versions.Two tables log = None

-- the same of a book, by the version that it says
abbrev pub lacks_words : Book → Option BookFault
lacks_words book = unworded book.header.version book.header.tables book.log

-- the fault of a book whose printing had begun
abbrev pub book_fault : WriteFault → BookFault
book_fault write_faults.Write = Write
book_fault write_faults.Memory = Memory

-- What printing a book leaves, by its outcome, of the writer and of what is on its way to it: where words are missing, all is as it was.
abbrev pub BookGives : {T : Type 0} → Result T BookFault → Book → Option (List ℕ) → Option (List ℕ) → List ℕ → List ℕ → Type 0
BookGives (Ok done) book before after old new = (lacks_words book ≡ None) × Pushed before after old new (book_text book)
BookGives (Err PairKeys) book before after old new = (lacks_words book ≡ Some PairKeys) × (after ≡ before) × (new ≡ old)
BookGives (Err MissingEnd) book before after old new = (lacks_words book ≡ Some MissingEnd) × (after ≡ before) × (new ≡ old)
BookGives (Err Write) book before after old new = (lacks_words book ≡ None) × PushedFront before after old new (book_text book)
BookGives (Err Memory) book before after old new = (lacks_words book ≡ None) × PushedFront before after old new (book_text book)
