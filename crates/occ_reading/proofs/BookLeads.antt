-- The lines of a book that fits lead from the beginning to where it may end.
use Rattle.std.proofs.Common.{◌≡◌, ℕ, ◌^◌, ◌-◌, ◌<◌, ◌≤◌, Bool, true, false, ◌||◌, T, List, ◌∷◌, ◌++◌, map, length, Option, Some, None, inl, inr, refl, sym, ap, subst, ◌∙◌, arith, append_assoc, []}
use Rattle.occ_reading.proofs.Common.{AllByRecursion, AskedOne, AskedSpan, AtFits, Back, Base, BaseFits, BaseHeadFits, Behind, Book, BookFits, Done, EntryFits, FinMap, Found, Frame, Head, HeadFits, Header, HeaderFits, InRow, IsDistinctWrites, IsEnding, Key, LeadOn, Less, LogRow, LogRowFits, MayEnd, Object, Observation, One, OneTable, Open, Ordering, PairFits, Path, Place, ReadFits, RisesFrom, Row, Rows, Schema, Section, Span, Stand, StandFits, Standing, StandingFits, StandsSo, State, Version, Within, Write, WriteFits, Writing, along, base_lines, behind_entries, behind_numbers, book_lines, books, entries, entries_sorted, entries_to_come, entry_line, eq_by_cmp, eq_by_cmp_equiv, flat_map, folded_lines, frame_of, header_lines, in_row, is_behind, is_lt, is_sorted, len, len-entries, limits_of, list_any, log_lines, map-append, mark_lines, min-eq_left, nat_cmp, nat_tests, number_line, numbers_to_come, object_cmp, object_cmp_total, on, own, pair_line, pairs_to_come, read_lines, reads_to_come, row_count, row_lines, rows_to_come, state_lines, stay, write_line, writes_to_come, ◌==◌}
use Rattle.std.proofs.lemmas.Cmp.{ranked}
use Rattle.occ_print.specs.declared.sections.Section.TheVariants as sections
use Rattle.occ_reading.specs.declared.number_lines.Began.TheVariants as begun
use Rattle.occ_sets.specs.declared.log_rows.Standing.TheVariants as stands
use Rattle.occ_reading.specs.Places as places
use Rattle.occ_reading.proofs.Rising.{first, less, second}
use Rattle.occ_reading.proofs.PartPlaces.{limits_lead}
use Rattle.occ_text.proofs.TableLines.{tables_lead, schema_so_far}
use Rattle.occ_reading.proofs.RowTaking.{absent, head_line}

-- ---- reads

pairs_lead : (row : InRow) (reads table : ℕ) (last : Option Key) (pairs : List (Key × Row)) → AllByRecursion (PairFits row.frame.version row.frame.schema table) pairs → RisesFrom last pairs
    → Path books (pairs_to_come row reads table (length pairs) last) (reads_to_come row reads) (map pair_line pairs)
pairs_lead row reads table last [] fits rises = stay
pairs_lead row reads table None (pair ∷ pairs) fits rises = on (pair, (fits.0, tt), refl, refl) (pairs_lead row reads table (Some pair.0) pairs fits.1 rises)
pairs_lead row reads table (Some last) (pair ∷ pairs) fits rises = on (pair, (fits.0, rises.0), refl, refl) (pairs_lead row reads table (Some pair.0) pairs fits.1 rises.1)

read_leads : (row : InRow) (reads : ℕ) (read : Observation) → ReadFits row.frame.version row.frame.schema read → Path books (places.ReadOf row reads) (reads_to_come row reads) (read_lines row.frame.schema read)
read_leads row reads (One table key, Found found) fits = on (AskedOne (table, key) found, fits, refl, refl) stay
read_leads row reads (One table key, Rows rows) fits = absurd fits
read_leads row reads (Span table lower upper, Found found) fits = absurd fits
read_leads row reads (Span table lower upper, Rows rows) fits = on (AskedSpan (Span table lower upper) (length rows), (fits.0, fits.3), refl, refl) (pairs_lead row reads table None rows fits.1 fits.2)

reads_lead : (row : InRow) (reads : List Observation) → AllByRecursion (ReadFits row.frame.version row.frame.schema) reads → Path books (reads_to_come row (length reads)) (writes_to_come row row.head.writes []) (flat_map (read_lines row.frame.schema) reads)
reads_lead row [] fits = stay
reads_lead row (read ∷ reads) fits = along (read_leads row (length reads) read fits.0) (reads_lead row reads fits.1)

-- ---- writes

unwritten : (writes : List Write) (write : Write) (more : List Write) (object : Object) → own (writes ++ write ∷ more) object ≡ None → eq_by_cmp object_cmp object write.0 ≡ false
unwritten [] write more object h = (absent _ write.1 (own more object) h).0
unwritten (first ∷ writes) write more object h = unwritten writes write more object (absent _ first.1 (own (writes ++ write ∷ more) object) h).1

-- no write before another one has its object
written_anew : (writes : List Write) (write : Write) (more : List Write) → IsDistinctWrites (writes ++ write ∷ more) → list_any (eq_by_cmp object_cmp write.0) (map (λ (w : Write). w.0) writes) ≡ false
written_anew [] write more h = refl
written_anew (first ∷ writes) write more h =
    let apart = (eq_by_cmp_equiv object_cmp_total).symm write.0 first.0 ∙ unwritten writes write more first.0 h.0 in
    neither (eq_by_cmp object_cmp write.0 first.0) (list_any (eq_by_cmp object_cmp write.0) (map (λ (w : Write). w.0) writes)) apart (written_anew writes write more h.1)
  where
    neither : (a b : Bool) → a ≡ false → b ≡ false → (a || b) ≡ false
    neither a b p q = rw (p, q) refl

writes_lead : (row : InRow) (before after : List Write) → IsDistinctWrites (before ++ after) → AllByRecursion (WriteFits row.frame.version row.frame.schema) after
    → Path books (writes_to_come row (length after) (map (λ (w : Write). w.0) before)) (rows_to_come row.frame row.rows) (map (write_line row.frame.schema) after)
writes_lead row before [] distinct fits = stay
writes_lead row before (write ∷ after) distinct fits =
    let named = map-append (λ (w : Write). w.0) before (write ∷ []) in
    let rest = writes_lead row (before ++ write ∷ []) after (subst IsDistinctWrites (sym (append_assoc before (write ∷ []) after)) distinct) fits.1 in
    on (write, (fits.0, written_anew before write after distinct), refl, refl)
    (subst (λ (objects : List Object). Path books (writes_to_come row (length after) objects) (rows_to_come row.frame row.rows) (map (write_line row.frame.schema) after)) named rest)

-- ---- rows of the log

-- how a standing is told; a case is not told
told : (writes : ℕ) (standing : Standing) → StandingFits writes standing → (stand : Stand) × StandsSo stand standing × StandFits writes stand
told writes (Open index case) fits = (stands.Open tt, (index, case, refl), tt)
told writes (Writing done) fits = (stands.Writing done, refl, fits)
told writes (Done number) fits = (stands.Done number, refl, fits)
told writes (Back cause) fits = (stands.Back cause, refl, tt)

row_leads : (version : Version) (schema : Schema) (sessions rows : ℕ) (row : LogRow) → LogRowFits version schema sessions row → Path books (places.LogRow (frame_of version schema sessions) rows) (rows_to_come (frame_of version schema sessions) rows) (row_lines schema row)
row_leads version schema sessions rows row fits =
    let stand = told (length row.writes) row.standing fits.done in
    let head : Head = record {
      place = row.place;
      session = row.session;
      number = row.number;
      start = row.start;
      finish = row.finish;
      reads = length row.reads;
      writes = length row.writes;
      standing = stand.0;
    } in
    let head_fits : HeadFits sessions head = record {
      place = fits.place;
      session = fits.session;
      number = fits.number;
      start = fits.start;
      finish = fits.finish;
      reads = fits.count_reads;
      writes = fits.count_writes;
      stand = stand.2;
    } in
    let spelled = head_line head row.reads row.writes row refl refl (record { place = refl; session = refl; number = refl; start = refl; finish = refl; read = refl; written = refl; stands = stand.1 }) in
    let here = in_row (frame_of version schema sessions) rows head in
    on (head, head_fits, sym spelled, refl) (along (reads_lead here row.reads fits.reads) (writes_lead here [] row.writes fits.distinct fits.writes))

rows_lead : (version : Version) (schema : Schema) (sessions : ℕ) (log : List LogRow) → AllByRecursion (LogRowFits version schema sessions) log
    → Path books (rows_to_come (frame_of version schema sessions) (length log)) (places.Marks (frame_of version schema sessions)) (flat_map (row_lines schema) log)
rows_lead version schema sessions [] fits = stay
rows_lead version schema sessions (row ∷ log) fits = along (row_leads version schema sessions (length log) row fits.0) (rows_lead version schema sessions log fits.1)

-- ---- entries in their order

-- the first key of some entries, if there is one
abbrev FirstIs : {K X : Type 0} → (K → Type 0) → List (K × X) → Type 0
FirstIs P [] = Unit {0}
FirstIs P (e ∷ es) = P e.0

ahead : {K X : Type 0} (R : K → K → Ordering) (P : K → Type 0) (e : K × X) (es : List (K × X)) → T (is_sorted R (e ∷ es)) → ((key : K) → R e.0 key ≡ Less → P key) → FirstIs P es
ahead R P e [] sorted each = tt
ahead R P e (f ∷ es) sorted each = each f.0 (less (R e.0 f.0) (first _ _ (first _ _ sorted)))

-- ---- numbers of sessions

next_session : (e : ℕ × ℕ) (es : List (ℕ × ℕ)) → T (is_sorted nat_cmp (e ∷ es)) → FirstIs (λ session. e.0 < session) es
next_session e es sorted = ahead nat_cmp (λ session. e.0 < session) e es sorted (λ session lt. ranked e.0 session Less (sym lt))

is_first : (sessions : ℕ) (es : List (ℕ × ℕ)) → AllByRecursion (EntryFits sessions) es → FirstIs (λ session. 0 < session) es
is_first sessions [] fits = tt
is_first sessions (e ∷ es) fits = let first = fits.0.0.first in omega arith

numbers_lead : (section : Section) (frame : Frame) (rows last : ℕ) (es : List (ℕ × ℕ)) → AllByRecursion (EntryFits frame.sessions) es → T (is_sorted nat_cmp es) → FirstIs (λ session. last < session) es
    → Path books (numbers_to_come section frame rows (length es) last) (behind_numbers section frame rows) (map (number_line section) es)
numbers_lead section frame rows last [] fits sorted next = stay
numbers_lead section frame rows last (e ∷ es) fits sorted next =
    on (record { session = e.0; number = e.1 }, (record { session = fits.0.0; number = fits.0.1 }, next), refl, refl) (numbers_lead section frame rows e.0 es fits.1 (second _ _ sorted) (next_session e es sorted))

marks_lead : (section : Section) (frame : Frame) (rows : ℕ) (marks : FinMap nat_cmp ℕ) → AllByRecursion (EntryFits frame.sessions) (entries marks)
    → Path books (numbers_to_come section frame rows (len marks) 0) (behind_numbers section frame rows) (map (number_line section) (entries marks))
marks_lead section frame rows marks fits =
    subst (λ (k : ℕ). Path books (numbers_to_come section frame rows k 0) (behind_numbers section frame rows) (map (number_line section) (entries marks))) (sym (len-entries marks))
    (numbers_lead section frame rows 0 (entries marks) fits (entries_sorted marks) (is_first frame.sessions (entries marks) fits))

-- numbers of sessions are no more than there are sessions
few_sessions : (sessions last : ℕ) (es : List (ℕ × ℕ)) → AllByRecursion (EntryFits sessions) es → T (is_sorted nat_cmp es) → FirstIs (λ session. last < session) es → length es ≤ sessions - last
few_sessions sessions last [] fits sorted next = omega arith
few_sessions sessions last (e ∷ es) fits sorted next =
    let rest : length es ≤ sessions - e.0 = few_sessions sessions e.0 es fits.1 (second _ _ sorted) (next_session e es sorted) in
    let top = fits.0.0.last in
    omega arith

few_marks : (sessions : ℕ) (marks : FinMap nat_cmp ℕ) → sessions ≤ 64 → AllByRecursion (EntryFits sessions) (entries marks) → len marks ≤ 2 ^ 64 - 1
few_marks sessions marks small fits =
    let n = len-entries marks in
    let few = few_sessions sessions 0 (entries marks) fits (entries_sorted marks) (is_first sessions (entries marks) fits) in
    omega arith

-- ---- rows of tables

entries_lead : (section : Section) (frame : Frame) (last : Option Object) (es : List (Object × Row)) → AllByRecursion (AtFits frame.version frame.schema) es → T (is_sorted object_cmp es) → FirstIs (λ object. is_behind last object ≡ true) es
    → Path books (entries_to_come section frame (length es) last) (behind_entries section frame) (map (entry_line section frame.schema) es)
entries_lead section frame last [] fits sorted behind = stay
entries_lead section frame last (e ∷ es) fits sorted behind =
    on (e, (fits.0, behind), refl, refl) (entries_lead section frame (Some e.0) es fits.1 (second _ _ sorted) (ahead object_cmp (λ object. is_behind (Some e.0) object ≡ true) e es sorted (λ object lt. ap is_lt lt)))

nothing_before : (es : List (Object × Row)) → FirstIs (λ object. is_behind None object ≡ true) es
nothing_before [] = tt
nothing_before (e ∷ es) = refl

state_leads : (section : Section) (frame : Frame) (state : State) → len state ≤ 2 ^ 64 - 1 → AllByRecursion (AtFits frame.version frame.schema) (entries state)
    → Path books (entries_to_come section frame (row_count state) None) (behind_entries section frame) (map (entry_line section frame.schema) (entries state))
state_leads section frame state few fits =
    subst (λ (k : ℕ). Path books (entries_to_come section frame k None) (behind_entries section frame) (map (entry_line section frame.schema) (entries state))) (sym (min-eq_left few ∙ len-entries state))
    (entries_lead section frame None (entries state) fits (entries_sorted state) (nothing_before (entries state)))

few_rows : (state : State) → len state ≤ 2 ^ 64 - 1 → row_count state ≤ 2 ^ 64 - 1
few_rows state few = subst (λ (k : ℕ). k ≤ 2 ^ 64 - 1) (sym (min-eq_left few)) few

-- ---- the whole

header_leads : (header : Header) → HeaderFits header → Path books places.Version (places.Tables header.version header.sessions header.tables) (header_lines header)
header_leads header fits =
    along (limits_lead (limits_of header) (record { sessions = fits.sessions; queue = fits.queue; keep = fits.keep })) (tables_lead {language = books} {version = header.version} (places.Tables header.version header.sessions) (λ tables table h. (OneTable table, h, refl, refl)) [] header.tables (schema_so_far header.version header.tables fits.tables fits.kinds))

log_leads : (header : Header) (base : Base) (log : List LogRow) → HeaderFits header → BaseFits header.version header.tables header.sessions base → length log ≤ 2 ^ 64 - 1 → AllByRecursion (LogRowFits header.version header.tables header.sessions) log
    → Path books (places.Tables header.version header.sessions header.tables) (places.Marks (frame_of header.version header.tables header.sessions)) (base_lines header.tables base ++ log_lines header.tables log)
log_leads header base log fits base_fits few rows = by (base.place == 0) refl
  where
    frame : Frame
    frame = frame_of header.version header.tables header.sessions

    counted : Within 0 (2 ^ 64 - 1) (length log)
    counted = record { least_count = omega arith; most_count = few }

    log_rows : Path books (rows_to_come frame (length log)) (places.Marks frame) (flat_map (row_lines header.tables) log)
    log_rows = rows_lead header.version header.tables header.sessions log rows

    head_fits : (base.place == 0) ≡ false → BaseHeadFits (record { place = base.place; numbers = len base.last; rows = row_count base.state })
    head_fits e =
        let apart : 1 ≤ base.place = grind (arith, nat_tests) in
        record { place = record { first = apart; last = base_fits.place }; numbers = few_marks header.sessions base.last fits.sessions.most_count base_fits.last; rows = few_rows base.state base_fits.objects }

    folded : (base.place == 0) ≡ false → Path books (places.Tables header.version header.sessions header.tables) (places.Log frame) (folded_lines header.tables base)
    folded e =
        on (Behind (begun.Base (record { place = base.place; numbers = len base.last; rows = row_count base.state })), (fits.tables, head_fits e), refl, refl)
        (along (marks_lead sections.Base frame (row_count base.state) base.last base_fits.last) (state_leads sections.Base frame base.state base_fits.objects base_fits.state))

    by : (b : Bool) → (base.place == 0) ≡ b → Path books (places.Tables header.version header.sessions header.tables) (places.Marks frame) (base_lines header.tables base ++ log_lines header.tables log)
    by true e = rw e (on (Behind (begun.Log (length log)), (fits.tables, counted), refl, refl) log_rows)
    by false e = rw e (along (folded e) (on (length log, counted, refl, refl) log_rows))

closing_leads : (frame : Frame) (marks : FinMap nat_cmp ℕ) → frame.sessions ≤ 64 → AllByRecursion (EntryFits frame.sessions) (entries marks) → Path books (places.Marks frame) (places.State frame) (mark_lines marks)
closing_leads frame marks sessions fits =
    on (len marks, record { least_count = omega arith; most_count = few_marks frame.sessions marks sessions fits }, refl, refl) (marks_lead sections.Store frame 0 marks fits)

table_leads : (frame : Frame) (state : State) → len state ≤ 2 ^ 64 - 1 → AllByRecursion (AtFits frame.version frame.schema) (entries state) → Path books (places.State frame) places.Counter (state_lines frame.schema state)
table_leads frame state few fits =
    on (row_count state, record { least_count = omega arith; most_count = few_rows state few }, refl, refl) (state_leads sections.Store frame state few fits)

-- the lines of a book that fits lead to where it is whole
pub book_leads : (book : Book) → BookFits book → LeadOn books places.Version (book_lines book) places.Audit
book_leads book fits =
    let header = book.header in
    let frame = frame_of header.version header.tables header.sessions in
    let upto_log = along (header_leads header fits.header) (log_leads header book.base book.log fits.header fits.base fits.rows fits.log) in
    let turned = subst (Path books places.Version (places.Marks frame)) (sym (append_assoc (header_lines header) (base_lines header.tables book.base) (log_lines header.tables book.log))) upto_log in
    let upto_state = along (along turned (closing_leads frame book.marks fits.header.sessions.most_count fits.marks)) (table_leads frame book.state fits.objects fits.state) in
    (along upto_state (on (record { counter = book.counter; low = book.low }, fits.counts, refl, refl) stay)).leads

-- what may stand behind a book leads to where a text may end
pub ending_leads : (lines : List (List ℕ)) → IsEnding lines → (to : Place) × LeadOn books places.Audit lines to × MayEnd to
ending_leads lines (inl none) = (places.Audit, subst (λ (l : List (List ℕ)). LeadOn books places.Audit l places.Audit) (sym none) refl, tt)
ending_leads lines (inr (inl yes_line)) = (places.End, subst (λ (l : List (List ℕ)). LeadOn books places.Audit l places.End) (sym yes_line) (places.End, (true, tt, refl, refl), refl), tt)
ending_leads lines (inr (inr no_line)) = (places.End, subst (λ (l : List (List ℕ)). LeadOn books places.Audit l places.End) (sym no_line) (places.End, (false, tt, refl, refl), refl), tt)
