-- The rows of the log, from their lines.
use Rattle.std.proofs.Common.{◌≡◌, ℕ, ◌≤◌, ◌^◌, ◌-◌, Bool, true, false, cond, List, ◌∷◌, ◌++◌, map, length, Option, Some, None, refl, sym, ap, subst, ◌∙◌, arith, length-append, []}
use Rattle.occ_reading.proofs.Common.{AllByRecursion, AllFit, AskedFits, AskedSpan, Conflict, FailsFrom, Head, HeadFits, InRow, IsAbove, IsDistinctWrites, IsRowOf, IsSession, Key, LogRow, LogRowFits, Object, Observation, One, PairFits, Position, Question, ReadFault, ReadFits, ReadOf, RisesFrom, Row, Rows, Schema, Span, Stand, StandFits, Standing, StandingFits, StandsSo, TooOld, Took, Version, Write, WriteFits, asked_text, books, codes, decimal, eq_by_cmp, fails, flat_map, frame_of, head_text, in_row, is_some, last_key, line_text, object_cmp, own, pair_line, pairs_to_come, question_text, read_lines, reads_to_come, row_line, row_lines, rows_to_come, set, spelled, stand_tokens, standing_text, table_asked, write_line, writes_to_come, ◌and◌}
use Rattle.occ_model.proofs.OwnWrites.{sets_own}
use Rattle.occ_sets.specs.declared.log_rows.Standing.TheVariants as stands
use Rattle.occ_reading.specs.Places as places

-- ---- writes

pub absent : (b : Bool) (x : Option Row) (o : Option (Option Row)) → cond b (Some x) o ≡ None → (b ≡ false) × (o ≡ None)
absent true x o h = absurd cc
absent false x o h = (refl, h)

-- a write of an object that wasn't written goes last
pub set-absent : (writes : List Write) (object : Object) (row : Option Row) → own writes object ≡ None → set writes object row ≡ writes ++ (object, row) ∷ []
set-absent [] object row h = refl
set-absent (write ∷ writes) object row h =
    let a = absent (eq_by_cmp object_cmp object write.0) write.1 (own writes object) h in
    ap (λ (b : Bool). cond b ((write.0, row) ∷ writes) (write ∷ set writes object row)) a.0 ∙ ap (λ (l : List Write). write ∷ l) (set-absent writes object row a.1)

-- so no object is written twice
pub distinct-more : (writes now : List Write) (object : Object) (row : Option Row) → own writes object ≡ None → now ≡ writes ++ (object, row) ∷ [] → IsDistinctWrites writes → IsDistinctWrites now
distinct-more writes now object row h is so_far = subst IsDistinctWrites (set-absent writes object row h ∙ sym is) ((sets_own writes object row).distinct so_far)

-- what has one more isn't empty, so nothing is said of its room
pub room-more : {X : Type 0} (before after : List X) (x : X) (capacity : ℕ) → after ≡ before ++ x ∷ [] → length after ≡ 0 → capacity ≡ 0
room-more before after x capacity more none = let n = ap length more in absurd (omega (arith, length-append before (x ∷ [])))

-- ---- ranges

rises_behind : (last : Option Key) (row : Key × Row) (rows : List (Key × Row)) (pair : Key × Row) → IsAbove (last_key (row ∷ rows)) pair.0 → RisesFrom last (row ∷ rows) → RisesFrom last (row ∷ rows ++ pair ∷ [])
rises_behind None row [] pair above rises = (above, tt)
rises_behind (Some last) row [] pair above rises = (rises.0, (above, tt))
rises_behind None row (next ∷ rows) pair above rises = rises_behind (Some row.0) next rows pair above rises
rises_behind (Some last) row (next ∷ rows) pair above rises = (rises.0, rises_behind (Some row.0) next rows pair above rises.1)

-- a key above the last one rises too
pub rises-more : (rows now : List (Key × Row)) (pair : Key × Row) → now ≡ rows ++ pair ∷ [] → IsAbove (last_key rows) pair.0 → RisesFrom None rows → RisesFrom None now
rises-more [] now pair is above so_far = subst (RisesFrom None) (sym is) tt
rises-more (row ∷ rows) now pair is above so_far = subst (RisesFrom None) (sym is) (rises_behind None row rows pair above so_far)

span_taken : (version : Version) (schema : Schema) (question : Question) (rows : List (Key × Row)) (row : InRow) (reads n table : ℕ) {a b c : Position} → table ≡ table_asked question
    → Took books (ReadOf row reads) (pairs_to_come row reads (table_asked question) n None) a b (asked_text schema (AskedSpan question n) ∷ []) × AskedFits version schema (AskedSpan question n)
    → Took books (pairs_to_come row reads table n None) (reads_to_come row reads) b c (map pair_line rows) × (AllFit (PairFits version schema table) n rows × RisesFrom None rows)
    → Took books (ReadOf row reads) (reads_to_come row reads) a c (read_lines schema (question, Rows rows)) × ReadFits version schema (question, Rows rows)
span_taken version schema (One t key) rows row reads n table same head pairs = absurd head.1.0.ends
span_taken version schema (Span t lower upper) rows row reads n table {a} {b} {c} same head pairs =
    let question = Span t lower upper in
    let asked : ℕ → List ℕ = λ k. line_text (question_text schema question ∷ decimal k ∷ []) in
    let rest = subst (λ (k : ℕ). Took books (pairs_to_come row reads k n None) (reads_to_come row reads) b c (map pair_line rows)) same pairs.0 in
    let fit = subst (λ (k : ℕ). AllByRecursion (PairFits version schema k) rows) same pairs.1.0.0 in (
      spelled (ap (λ (k : ℕ). asked k ∷ map pair_line rows) (sym pairs.1.0.1)) (head.0 and rest),
      (head.1.0, fit, pairs.1.1, subst (λ (k : ℕ). k ≤ 2 ^ 64 - 1) (sym pairs.1.0.1) head.1.1),
    )

-- the same, where the rows are shared
pub span_shared : (version : Version) (schema : Schema) (question : Question) (rows shared : List (Key × Row)) (row : InRow) (reads n table : ℕ) {a b c : Position} → shared ≡ rows → table ≡ table_asked question
    → Took books (ReadOf row reads) (pairs_to_come row reads (table_asked question) n None) a b (asked_text schema (AskedSpan question n) ∷ []) × AskedFits version schema (AskedSpan question n)
    → Took books (pairs_to_come row reads table n None) (reads_to_come row reads) b c (map pair_line rows) × (AllFit (PairFits version schema table) n rows × RisesFrom None rows)
    → Took books (ReadOf row reads) (reads_to_come row reads) a c (read_lines schema (question, Rows shared)) × ReadFits version schema (question, Rows shared)
span_shared version schema question rows shared row reads n table {a = a} {c = c} is same head pairs =
    subst (λ rows. Took books (ReadOf row reads) (reads_to_come row reads) a c (read_lines schema (question, Rows rows)) × ReadFits version schema (question, Rows rows)) (sym is)
    (span_taken version schema question rows row reads n table same head pairs)

pub span_fails : (fault : ReadFault) (question : Question) (row : InRow) (reads n table : ℕ) {version : Version} {schema : Schema} {a b : Position} (c : Option (List ℕ)) → table ≡ table_asked question
    → Took books (ReadOf row reads) (pairs_to_come row reads (table_asked question) n None) a b (asked_text schema (AskedSpan question n) ∷ []) × AskedFits version schema (AskedSpan question n)
    → FailsFrom books fault (pairs_to_come row reads table n None) b c → FailsFrom books fault (ReadOf row reads) a c
span_fails fault question row reads n table {b = b} c same head t = fails fault c head.0 (subst (λ (k : ℕ). FailsFrom books fault (pairs_to_come row reads k n None) b c) same t)

-- ---- rows

abbrev stand_text : Stand → List ℕ
stand_text stand = line_text (stand_tokens stand)

abbrev line_of : ℕ → ℕ → ℕ → ℕ → ℕ → ℕ → ℕ → List ℕ → List ℕ
line_of place session number start finish reads writes stand =
    line_text (codes "row" ∷ decimal place ∷ decimal session ∷ decimal number ∷ decimal start ∷ decimal finish ∷ decimal reads ∷ decimal writes ∷ stand ∷ [])

spelling : (place session number start finish reads writes : ℕ) (stand : Stand)
    → head_text (record { place = place; session = session; number = number; start = start; finish = finish; reads = reads; writes = writes; standing = stand }) ≡ line_of place session number start finish reads writes (stand_text stand)
spelling place session number start finish reads writes (stands.Open held) = refl
spelling place session number start finish reads writes (stands.Writing done) = refl
spelling place session number start finish reads writes (stands.Done tn) = refl
spelling place session number start finish reads writes (stands.Back Conflict) = refl
spelling place session number start finish reads writes (stands.Back TooOld) = refl

stand_spelling : (stand : Stand) (standing : Standing) → StandsSo stand standing → stand_text stand ≡ standing_text standing
stand_spelling (stands.Open held) standing h = ap standing_text (sym h.2)
stand_spelling (stands.Writing done) standing h = ap standing_text (sym h)
stand_spelling (stands.Done tn) standing h = ap standing_text (sym h)
stand_spelling (stands.Back Conflict) standing h = ap standing_text (sym h)
stand_spelling (stands.Back TooOld) standing h = ap standing_text (sym h)

standing_fits : (writes : ℕ) (stand : Stand) (standing : Standing) → StandsSo stand standing → StandFits writes stand → StandingFits writes standing
standing_fits writes (stands.Open held) standing h f = subst (StandingFits writes) (sym h.2) tt
standing_fits writes (stands.Writing done) standing h f = subst (StandingFits writes) (sym h) f
standing_fits writes (stands.Done tn) standing h f = subst (StandingFits writes) (sym h) f
standing_fits writes (stands.Back cause) standing h f = subst (StandingFits writes) (sym h) tt

pub head_line : (head : Head) (reads : List Observation) (writes : List Write) (row : LogRow) → length reads ≡ head.reads → length writes ≡ head.writes → IsRowOf head reads writes row → head_text head ≡ row_line row
head_line head reads writes row r w is =
    let rs : head.reads ≡ length row.reads = sym (ap length is.read ∙ r) in
    let ws : head.writes ≡ length row.writes = sym (ap length is.written ∙ w) in
    spelling head.place head.session head.number head.start head.finish head.reads head.writes head.standing
    ∙ (λ i. line_of (sym is.place i) (sym is.session i) (sym is.number i) (sym is.start i) (sym is.finish i) (rs i) (ws i) (stand_spelling head.standing row.standing is.stands i))

pub row_taken : (version : Version) (schema : Schema) (sessions rows : ℕ) (head : Head) (reads : List Observation) (writes : List Write) (row : LogRow) {a b c d : Position}
    → Took books (places.LogRow (frame_of version schema sessions) rows) (reads_to_come (in_row (frame_of version schema sessions) rows head) head.reads) a b (head_text head ∷ []) × HeadFits sessions head
    → Took books (reads_to_come (in_row (frame_of version schema sessions) rows head) head.reads) (writes_to_come (in_row (frame_of version schema sessions) rows head) head.writes []) b c (flat_map (read_lines schema) reads)
    × AllFit (ReadFits version schema) head.reads reads
    → Took books (writes_to_come (in_row (frame_of version schema sessions) rows head) head.writes []) (rows_to_come (frame_of version schema sessions) rows) c d (map (write_line schema) writes)
    × (AllFit (WriteFits version schema) head.writes writes × IsDistinctWrites writes)
    → IsRowOf head reads writes row → Took books (places.LogRow (frame_of version schema sessions) rows) (rows_to_come (frame_of version schema sessions) rows) a d (row_lines schema row) × LogRowFits version schema sessions row
row_taken version schema sessions rows head reads writes row first read written is =
    let line = head_line head reads writes row read.1.1 written.1.0.1 is in
    let lines : head_text head ∷ (flat_map (read_lines schema) reads ++ map (write_line schema) writes) ≡ row_lines schema row =
    λ i. line i ∷ (flat_map (read_lines schema) (sym is.read i) ++ map (write_line schema) (sym is.written i)) in (
      spelled lines (first.0 and (read.0 and written.0)),
      record {
        place = subst (λ (k : ℕ). k ≤ 2 ^ 64 - 1) (sym is.place) first.1.place;
        session = subst (IsSession sessions) (sym is.session) first.1.session;
        number = subst (λ (k : ℕ). k ≤ 2 ^ 64 - 1) (sym is.number) first.1.number;
        start = subst (λ (k : ℕ). k ≤ 2 ^ 64 - 1) (sym is.start) first.1.start;
        finish = subst (λ (k : ℕ). k ≤ 2 ^ 64 - 1) (sym is.finish) first.1.finish;
        count_reads = subst (λ (k : ℕ). k ≤ 2 ^ 64 - 1) (sym (ap length is.read ∙ read.1.1)) first.1.reads;
        count_writes = subst (λ (k : ℕ). k ≤ 2 ^ 64 - 1) (sym (ap length is.written ∙ written.1.0.1)) first.1.writes;
        done = standing_fits (length row.writes) head.standing row.standing is.stands (subst (λ (k : ℕ). StandFits k head.standing) (sym (ap length is.written ∙ written.1.0.1)) first.1.stand);
        reads = subst (AllByRecursion (ReadFits version schema)) (sym is.read) read.1.0;
        writes = subst (AllByRecursion (WriteFits version schema)) (sym is.written) written.1.0.0;
        distinct = subst IsDistinctWrites (sym is.written) written.1.1;
      },
    )

pub not_some : (o : Option (Option Row)) (b : Bool) → b ≡ is_some o → b ≡ false → o ≡ None
not_some None b is off = refl
not_some (Some x) b is off = let e : true ≡ false = sym is ∙ off in absurd cc
