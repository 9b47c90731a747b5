-- Which line leads on from a place, and that no text of a book is malformed.
use Rattle.std.proofs.Common.{◌≡◌, ℕ, zero, suc, ◌^◌, ◌-◌, ◌<◌, ◌≤◌, List, ◌∷◌, ◌++◌, Option, Some, None, lit<, refl, sym, ap, subst, ◌∙◌, arith, Bool, true, false, []}
use Rattle.occ_reading.proofs.Common.{Asked, AskedOne, AskedSpan, Began, BeganFits, Book, BookFits, Frame, InRow, IsEnding, IsLine, IsToken-from_test, Key, LeadOn, Object, Path, Place, Section, Stopped, TablesSoFar, Version, along, audit_line, began_of_line, began_text, behind_began, behind_read, book_lines, book_text, books, check_tables, codes, entries_to_come, frame_of, grammar, in_row, is_token, line_of_words, lines_text, numbers_to_come, pairs_to_come, reads_to_come, rows_to_come, same_version, some_is, start, table_asked, two_tokens, writes_to_come}
use Rattle.std.proofs.lemmas.Grind.{flat_map-append}
use Rattle.occ_reading.specs.Places as places
use Rattle.occ_reading.specs.declared.number_lines.Began.TheVariants as begun
use Rattle.occ_print.specs.declared.sections.Section.TheVariants as sections
use Rattle.occ_reading.proofs.NumberLines.{wide, head_field, mark_field, number_word_width, counts_field, began_is_line, began_line-again}
use Rattle.occ_reading.proofs.RowLines.{asked_reads, asked_is_line, pair_is_field, write_reads, write_is_line, at_is_field, entry_word_width}
use Rattle.occ_text.proofs.LanguageLaws.{IsRight, by_reading, by_field, by_count, only_place, never_stops, stops_once}
use Rattle.occ_text.proofs.TableLines.{further_right, no_tables_yet}
use Rattle.occ_text.proofs.ScheduleLaws.{version_is_line}
use Rattle.occ_reading.proofs.PartPlaces.{beginning_is_no_table}
use Rattle.occ_reading.proofs.BookLeads.{book_leads, ending_leads}

-- ---- what holds of each place that lines lead to

record IsFrame (frame : Frame) : Type 0 where
  tables : check_tables frame.schema ≡ None
  sessions : frame.sessions ≤ 64

abbrev Sound : Place → Type 0
Sound places.Version = Unit {0}
Sound (places.Sessions version) = Unit {0}
Sound (places.Queue version sessions) = sessions ≤ 64
Sound (places.Keep version sessions) = sessions ≤ 64
Sound (places.Tables version sessions tables) = (sessions ≤ 64) × TablesSoFar version tables
Sound (places.NumberOf section frame rows numbers last) = IsFrame frame
Sound (places.EntryOf section frame rows last) = IsFrame frame
Sound (places.Log frame) = IsFrame frame
Sound (places.LogRow frame rows) = IsFrame frame
Sound (places.ReadOf row reads) = IsFrame row.frame
Sound (places.PairOf row reads table pairs last) = IsFrame row.frame
Sound (places.WriteOf row writes written) = IsFrame row.frame
Sound (places.Marks frame) = IsFrame frame
Sound (places.State frame) = IsFrame frame
Sound places.Counter = Unit {0}
Sound places.Audit = Unit {0}
Sound places.End = Unit {0}

sound_rows : (frame : Frame) (n : ℕ) → IsFrame frame → Sound (rows_to_come frame n)
sound_rows frame zero h = h
sound_rows frame (suc n) h = h

sound_writes : (row : InRow) (n : ℕ) (written : List Object) → IsFrame row.frame → Sound (writes_to_come row n written)
sound_writes row zero written h = sound_rows row.frame row.rows h
sound_writes row (suc n) written h = h

sound_reads : (row : InRow) (n : ℕ) → IsFrame row.frame → Sound (reads_to_come row n)
sound_reads row zero h = sound_writes row row.head.writes [] h
sound_reads row (suc n) h = h

sound_pairs : (row : InRow) (reads table n : ℕ) (last : Option Key) → IsFrame row.frame → Sound (pairs_to_come row reads table n last)
sound_pairs row reads table zero last h = sound_reads row reads h
sound_pairs row reads table (suc n) last h = h

sound_behind : (row : InRow) (reads : ℕ) (asked : Asked) → IsFrame row.frame → Sound (behind_read row reads asked)
sound_behind row reads (AskedOne object found) h = sound_reads row reads h
sound_behind row reads (AskedSpan question count) h = sound_pairs row reads (table_asked question) count None h

sound_entries : (section : Section) (frame : Frame) (n : ℕ) (last : Option Object) → IsFrame frame → Sound (entries_to_come section frame n last)
sound_entries sections.Base frame zero last h = h
sound_entries sections.Store frame zero last h = tt
sound_entries section frame (suc n) last h = h

sound_numbers : (section : Section) (frame : Frame) (rows n last : ℕ) → IsFrame frame → Sound (numbers_to_come section frame rows n last)
sound_numbers sections.Base frame rows zero last h = sound_entries sections.Base frame rows None h
sound_numbers sections.Store frame rows zero last h = h
sound_numbers section frame rows (suc n) last h = h

sound_began : (frame : Frame) (began : Began) → IsFrame frame → Sound (behind_began frame began)
sound_began frame (begun.Log rows) h = sound_rows frame rows h
sound_began frame (begun.Base head) h = sound_numbers sections.Base frame head.rows head.numbers 0 h

-- ---- lines of versions and of audits

small_sessions : (n : ℕ) → n ≤ 64 → n < 2 ^ 64
small_sessions n le = omega arith

audit_is_line : (verdict : Bool) → IsLine (audit_line verdict)
unfolding is_token
audit_is_line true = line_of_words (codes "audit" ∷ codes "yes" ∷ []) (two_tokens (IsToken-from_test (codes "audit") refl) (IsToken-from_test (codes "yes") refl)) (omega arith)
audit_is_line false = line_of_words (codes "audit" ∷ codes "no" ∷ []) (two_tokens (IsToken-from_test (codes "audit") refl) (IsToken-from_test (codes "no") refl)) (omega arith)

-- ---- what holds of the lines of each place

each_right : (p : Place) → Sound p → IsRight Sound (grammar p)
unfolding is_token
each_right places.Version s = record { alone = λ version fits. version_is_line version; one = λ a b f g e. ap places.Sessions (same_version a b e); sound = λ version fits. tt }
each_right (places.Sessions version) s = by_count (codes "sessions") 1 64 (IsToken-from_test _ refl) (omega arith) (lit< tt) (λ n within. within.most_count)
each_right (places.Queue version sessions) s = by_count (codes "queue") 1 1024 (IsToken-from_test _ refl) (omega arith) (lit< tt) (λ n within. s)
each_right (places.Keep version sessions) s = by_count (codes "keep") 1 4096 (IsToken-from_test _ refl) (omega arith) (lit< tt) (λ n within. (s, no_tables_yet version))
each_right (places.Tables version sessions tables) s =
    let behind : Began → Place = behind_began (frame_of version tables sessions) in
    further_right {version = version} {spell = began_text} {fits = BeganFits} {behind = behind} tables (places.Tables version sessions) began_is_line beginning_is_no_table (λ a b f g e. ap behind (some_is a b (sym (began_line-again a f) ∙ ap began_of_line e ∙ began_line-again b g))) (λ table fits. (s.0, fits))
    (λ began good fits. sound_began (frame_of version tables sessions) began (record { tables = good; sessions = s.0 }))
each_right (places.NumberOf section frame rows numbers last) s =
    by_field (mark_field section frame.sessions (small_sessions frame.sessions s.sessions)) (λ mark. omega (arith, number_word_width section)) (λ mark fits. fits.0) (λ mark fits. sound_numbers section frame rows numbers mark.session s)
each_right (places.EntryOf section frame rows last) s =
    by_field (at_is_field frame.version section frame.schema s.tables) (λ entry. omega (arith, entry_word_width section)) (λ entry fits. fits.0) (λ entry fits. sound_entries section frame rows (Some entry.0) s)
each_right (places.Log frame) s = by_count (codes "log") 0 (2 ^ 64 - 1) (IsToken-from_test _ refl) (omega arith) wide (λ n within. sound_rows frame n s)
each_right (places.LogRow frame rows) s =
    by_field (head_field frame.sessions (small_sessions frame.sessions s.sessions)) (λ head. omega arith) (λ head fits. fits) (λ head fits. sound_reads (in_row frame rows head) head.reads s)
each_right (places.ReadOf row reads) s =
    let frame = row.frame in
    by_reading (λ line. asked_reads frame.version frame.schema line s.tables) (λ asked fits. asked_is_line frame.version frame.schema asked s.tables fits) (λ asked fits. fits) (λ asked fits. sound_behind row reads asked s)
each_right (places.PairOf row reads table pairs last) s =
    by_field (pair_is_field row.frame.version row.frame.schema table s.tables) (λ pair. omega arith) (λ pair fits. fits.0) (λ pair fits. sound_pairs row reads table pairs (Some pair.0) s)
each_right (places.WriteOf row writes written) s =
    let frame = row.frame in
    by_reading (λ line. write_reads frame.version frame.schema line s.tables) (λ write fits. write_is_line frame.version frame.schema write s.tables fits.0) (λ write fits. fits.0)
    (λ write fits. sound_writes row writes (written ++ write.0 ∷ []) s)
each_right (places.Marks frame) s = by_count (codes "marks") 0 (2 ^ 64 - 1) (IsToken-from_test _ refl) (omega arith) wide (λ n within. sound_numbers sections.Store frame 0 n 0 s)
each_right (places.State frame) s = by_count (codes "state") 0 (2 ^ 64 - 1) (IsToken-from_test _ refl) (omega arith) wide (λ n within. sound_entries sections.Store frame n None s)
each_right places.Counter s = by_field counts_field (λ counts. omega arith) (λ counts fits. fits) (λ counts fits. tt)
each_right places.Audit s = record { alone = λ verdict fits. audit_is_line verdict; one = λ a b f g e. refl; sound = λ verdict fits. tt }
each_right places.End s = record { alone = λ none. absurd none; one = λ none. absurd none; sound = λ none. absurd none }

-- lines lead from the beginning to one place at most
pub leads_to_one : (lines : List (List ℕ)) (p q : Place) → LeadOn books places.Version lines p → LeadOn books places.Version lines q → p ≡ q
leads_to_one lines p q h k = only_place books Sound each_right lines places.Version p q tt h k

-- no text of a book is malformed
pub book_never_stops : (book : Book) → BookFits book → (lines : List (List ℕ)) → IsEnding lines → (number : ℕ) → Stopped books places.Version (start (Some (book_text book ++ lines_text lines))) number → ⊥
book_never_stops book fits lines ending number h =
    let e = ending_leads lines ending in
    let path : Path books places.Version places.Audit (book_lines book) = record { leads = book_leads book fits } in
    let behind : Path books places.Audit e.0 lines = record { leads = e.1 } in
    let all = along path behind in
    never_stops books Sound each_right (book_lines book ++ lines) places.Version e.0 tt all.leads e.2 0 number
    (subst (λ (text : List ℕ). Stopped books places.Version (start (Some text)) number) (sym (flat_map-append (λ (l : List ℕ). l ++ 10 ∷ []) (book_lines book) lines)) h)

-- a text is malformed at one line at most
pub stops_at_one : (text : List ℕ) (number other : ℕ) → Stopped books places.Version (start (Some text)) number → Stopped books places.Version (start (Some text)) other → number ≡ other
stops_at_one text number other h k = stops_once books Sound each_right places.Version tt text number other h k
