-- The parts of a book around its log, and where their lines lead.
use Rattle.std.proofs.Common.{◌≤◌, ◌≡◌, ℕ, ◌+◌, ◌<◌, Bool, true, false, ◌||◌, List, ◌∷◌, ◌++◌, map, length, get_or, Option, Some, None, Result, Ok, Err, ◌⊎◌, inl, inr, refl, sym, ap, subst, ◌∙◌, arith, length-append, []}
use Rattle.occ_reading.proofs.Common.{Audit, Began, BeganFits, BeginsLimits, Behind, Consumes, End, Ended, EndsFrom, FailsFrom, IsAtEnd, IsEnding, IsErrAnd, IsLine, Keep, KindsFit, LeadOn, Leads, Limits, LimitsFit, LimitsTaken, LineFault, LineGives, MayEnd, OneTable, Path, Place, Position, Queue, ReadFault, Sessions, Source, Stopped, Table, Tables, TablesSoFar, TablesTold, Took, Within, append-nil, append_assoc, audit_line, began_text, behind_began, books, bytes_eq, bytes_eq-Decides, check_tables, codes, fails, frame_of, led_apart, limits_lines, line_refused, lines_text, next_taken, none, none_fails, on, point, read_fault, spelled, stay, table_text, version_text, widened}
use Rattle.occ_text.specs.TableTaking.{TablesCut}
use Rattle.occ_text.proofs.LinesTaken.{next_line_fails}
use Rattle.occ_text.proofs.TablesTaken.{no_further, tables_fail, tables_end, tables_stop}
use Rattle.occ_text.proofs.WholeHeader.{session_line, queue_line, begins_1, begins_2, begins_3, begins_4}
use Rattle.occ_reading.specs.Places.{Version}
use Rattle.occ_text.specs.declared.versions.Version as versions
use Rattle.occ_reading.specs.declared.number_lines.Began.TheVariants as begun

-- ---- the first lines

pub limits_lead : (limits : Limits) → LimitsFit limits → Path books Version (Tables limits.version limits.sessions []) (limits_lines limits)
limits_lead limits fits =
    on (limits.version, tt, refl, refl) (on (limits.sessions, fits.sessions, refl, refl) (on (limits.queue, fits.queue, refl, refl) (on (limits.keep, fits.keep, refl, refl) stay)))

pub limits_taken : (limits : Limits) {a b : Option (List ℕ)} {first last : ℕ} → Consumes a b (lines_text (limits_lines limits)) × LimitsFit limits × (last ≡ first + 4)
    → Took books Version (Tables limits.version limits.sessions []) (point a first) (point b last) (limits_lines limits)
limits_taken limits t = let path = limits_lead limits t.1 in record { taken = t.0; leads = path.leads; number = t.2 }

-- the lines that lead to a place: which ones to each of the first four, and how many at least to the others
abbrev Opened : Place → List (List ℕ) → Type 0
Opened Version lines = lines ≡ []
Opened (Sessions v) lines = lines ≡ version_text v ∷ []
Opened (Queue v s) lines = (lines ≡ version_text v ∷ session_line s ∷ []) × Within 1 64 s
Opened (Keep v s) lines = (q : ℕ) × (lines ≡ version_text v ∷ session_line s ∷ queue_line q ∷ []) × Within 1 64 s × Within 1 1024 q
Opened place lines = 4 ≤ length lines

-- one more of them
opened_more : (p q : Place) (lines : List (List ℕ)) (line : List ℕ) → length lines < 4 → Opened p lines → Leads books p line q → Opened q (lines ++ line ∷ []) × BeginsLimits (lines ++ line ∷ [])
opened_more Version q lines line few is h =
    subst (λ x. Opened x (lines ++ line ∷ []) × BeginsLimits (lines ++ line ∷ [])) (sym h.3) (rw (is, h.2) (refl, begins_1 h.0))
opened_more (Sessions v) q lines line few is h =
    subst (λ x. Opened x (lines ++ line ∷ []) × BeginsLimits (lines ++ line ∷ [])) (sym h.3) (rw (is, h.2) ((refl, h.1), begins_2 v h.0 h.1))
opened_more (Queue v s) q lines line few o h =
    subst (λ x. Opened x (lines ++ line ∷ []) × BeginsLimits (lines ++ line ∷ [])) (sym h.3) (rw (o.0, h.2) ((h.0, refl, o.1, h.1), begins_3 v s h.0 o.1 h.1))
opened_more (Keep v s) q lines line few o h =
    subst (λ x. Opened x (lines ++ line ∷ []) × BeginsLimits (lines ++ line ∷ [])) (sym h.3) (rw (o.1, h.2) (omega arith, begins_4 v s o.0 h.0 o.2 o.3 h.1))
opened_more p q lines line few o h = absurd (omega (arith, few, o))

opened : (p q : Place) (front lines : List (List ℕ)) → length (front ++ lines) < 4 → Opened p front → LeadOn books p lines q → Opened q (front ++ lines)
opened p q front [] few o h = subst (λ x. Opened x (front ++ [])) (sym h) (subst (Opened p) (sym (append-nil front)) o)
opened p q front (line ∷ lines) few o h =
    let turned = append_assoc front (line ∷ []) lines in
    subst (Opened q) turned (opened h.0 q (front ++ line ∷ []) lines (subst (λ l. length l < 4) (sym turned) few) (opened_more p h.0 front line (omega (arith, few, length-append front (line ∷ lines))) o h.1).0 h.2)

-- so a text doesn't end there
unended : (place : Place) (lines : List (List ℕ)) → length lines < 4 → Opened place lines → MayEnd place → ⊥
unended Audit lines few o may = absurd (omega (arith, few, o))
unended End lines few o may = absurd (omega (arith, few, o))
unended place lines few o may = may

-- some of the first lines were taken, and then none that may come next
pub limits_fail : (fault : LineFault) (a c : Option (List ℕ)) (first last : ℕ) → LimitsTaken (Err fault) a c first last → FailsFrom books (read_fault fault) Version (point a first) c
limits_fail fault a c first last t =
    let limits = t.3.0 in
    let path = limits_lead limits t.3.1 in
    let front = led_apart books t.0 t.3.2 Version (Tables limits.version limits.sessions []) (subst (λ ls. LeadOn books Version ls (Tables limits.version limits.sessions [])) t.3.3 path.leads) in
    let here = opened Version front.0 [] t.0 t.4 refl front.1 in
    let took : Took books Version front.0 (point a first) (point t.1 (first + length t.0)) t.0 = record { taken = t.2; leads = front.1; number = refl } in
    fails (read_fault fault) c took (none_fails books (λ line. BeginsLimits (t.0 ++ line ∷ [])) (read_fault fault) front.0 t.1 c (first + length t.0) (unended front.0 t.0 t.4 here)
    (λ line leads. (opened_more front.0 leads.0 t.0 line t.4 here leads.1).1) t.5)

-- ---- tables

pub beginning_is_no_table : (began : Began) (table : Table) → began_text began ≡ table_text table → ⊥
beginning_is_no_table (begun.Log rows) table e = let f : 108 ≡ 116 = ap (λ (l : List ℕ). get_or l 0 0) e in absurd (omega (arith, f))
beginning_is_no_table (begun.Base head) table e = let f : 98 ≡ 116 = ap (λ (l : List ℕ). get_or l 0 0) e in absurd (omega (arith, f))

one_more : (version : versions.Version) (sessions : ℕ) (tables : List Table) (table : Table) → TablesSoFar version (tables ++ table ∷ []) → Leads books (Tables version sessions tables) (table_text table) (Tables version sessions (tables ++ table ∷ []))
one_more version sessions tables table so_far = (OneTable table, so_far, refl, refl)

-- no line stands behind tables
pub opening_cut : {a c : Option (List ℕ)} {first : ℕ} (version : versions.Version) (fault : ReadFault) (sessions : ℕ) → TablesCut version fault a c first → FailsFrom books fault (Tables version sessions []) (point a first) c
opening_cut version fault sessions t = tables_fail books {version = version} (Tables version sessions) (one_more version sessions) fault (λ tables may. may) t

-- the line with which the log begins stands behind tables that make a schema
pub opening_taken : {a c : Option (List ℕ)} {first last : ℕ} (version : versions.Version) (tables schema : List Table) (line : List ℕ) (began : Began) (sessions : ℕ) → TablesTold version tables line a c first last → line ≡ began_text began → BeganFits began
    → (check_tables tables ≡ None) × (schema ≡ tables)
    → Took books (Tables version sessions []) (behind_began (frame_of version schema sessions) began) (point a first) (point c last) (map table_text schema ++ began_text began ∷ []) × ((check_tables schema ≡ None) × KindsFit version schema × BeganFits began)
opening_taken {a} {c} {first} {last} version tables schema line began sessions t is fits good =
    let took = tables_end books {version = version} (Tables version sessions) (one_more version sessions) (behind_began (frame_of version tables sessions) began) t (Behind began, (good.0, fits), is, refl) in
    subst (λ (s : List Table). Took books (Tables version sessions []) (behind_began (frame_of version s sessions) began) (point a first) (point c last) (map table_text s ++ began_text began ∷ []) × ((check_tables s ≡ None) × KindsFit version s × BeganFits began)) (sym good.1)
    (spelled (ap (λ (l : List ℕ). map table_text tables ++ l ∷ []) is) took, (good.0, t.read.so_far.kinds, fits))

-- or a line that tells no table, and with which no log begins behind them
pub opening_stops : {a c : Option (List ℕ)} {first last : ℕ} (version : versions.Version) (tables : List Table) (line : List ℕ) (sessions number : ℕ) → TablesTold version tables line a c first last
    → ((began : Began) → check_tables tables ≡ None → BeganFits began → line ≡ began_text began → ⊥) → number ≡ last → Stopped books (Tables version sessions []) (point a first) number
opening_stops version tables line sessions number t other here =
    tables_stop books {version = version} (Tables version sessions) (one_more version sessions) number t (λ leads. no_further version began_text BeganFits tables line t.other.none other leads.1.0 leads.1.1 leads.1.2) here

-- ---- the end

pub ended_here : {from place : Place} {a b : Position} {lines : List (List ℕ)} → Took books from place a b lines → MayEnd place → IsAtEnd b.left → Ended books from a
ended_here l may whole = record { place = _; rest = _; lines = _; took = l; may = may; whole = whole }

-- no line was taken behind lines that lead there, by the exit of a `?`
pub next_failed : {X : Type 0} {from place : Place} {a : Position} {b : Option (List ℕ)} {lines : List (List ℕ)} (fault : LineFault) (result : Result X LineFault) (c : Option (List ℕ)) (old new : Source) → IsErrAnd result (λ e. e ≡ fault) → Took books from place a (point b old.number) lines → LineGives (Err fault) b c old new
    → EndsFrom books (widened result) from a c
next_failed fault (Ok x) c old new is l t = absurd is
next_failed {from = from} {place = place} {a = a} {b = b} fault (Err e) c old new is l t =
    subst (λ (f : LineFault). FailsFrom books (read_fault f) from a c) (sym is) (fails (read_fault fault) c l (next_line_fails books fault place b c old new t))

-- the line of an audit
abbrev pub is_audit_line : List ℕ → Bool
is_audit_line line = bytes_eq line (audit_line true) || bytes_eq line (audit_line false)

audit_is : (line : List ℕ) (p q : Bool) → p ≡ bytes_eq line (audit_line true) → q ≡ bytes_eq line (audit_line false) → (p || q) ≡ true → (verdict : Bool) × (line ≡ audit_line verdict)
audit_is line true q is or h = (true, (bytes_eq-Decides line (audit_line true)).0 (sym is))
audit_is line false true is or h = (false, (bytes_eq-Decides line (audit_line false)).0 (sym or))
audit_is line false false is or h = absurd cc

is_audit : (line : List ℕ) (verdict : Bool) → line ≡ audit_line verdict → is_audit_line line ≡ true
is_audit line true is = rw is refl
is_audit line false is = rw is refl

pub audit_taken : (shown line : List ℕ) {a b : Option (List ℕ)} {first last : ℕ} → Consumes a b (line ++ 10 ∷ []) → last ≡ first + 1 → shown ≡ line → is_audit_line shown ≡ true → Took books Audit End (point a first) (point b last) (line ∷ [])
audit_taken shown bytes {a} {b} {first} {last} taken one same is =
    let verdict = audit_is shown _ _ refl refl is in
    let e = sym same ∙ verdict.1 in
    subst (λ l. Took books Audit End (point a first) (point b last) (l ∷ [])) (sym e) (next_taken books Audit verdict.0 (subst (λ l. Consumes a b (l ++ 10 ∷ [])) e taken, tt, one)).0

pub no_audit : (shown line : List ℕ) (a b : Option (List ℕ)) (first last number : ℕ) → Consumes a b (line ++ 10 ∷ []) → IsLine line → last ≡ first + 1 → shown ≡ line → is_audit_line shown ≡ false → number ≡ last → Stopped books Audit (point a first) number
no_audit shown line a b first last number taken alone one same none here =
    line_refused books Audit line a b first last number (taken, one, alone) (λ leads. let e : false ≡ true = sym none ∙ is_audit shown leads.1.0 (same ∙ leads.1.2) in cc e) here

-- what may stand behind a book
pub ending_of : (lines : List (List ℕ)) (place : Place) → LeadOn books Audit lines place → IsEnding lines
ending_of [] place h = inl refl
ending_of (bytes ∷ []) place h = inr (by h.1.0 h.1.2)
  where
    by : (verdict : Bool) → bytes ≡ audit_line verdict → (bytes ∷ [] ≡ codes "audit yes" ∷ []) ⊎ (bytes ∷ [] ≡ codes "audit no" ∷ [])
    by true is = inl (ap (λ l. l ∷ []) is)
    by false is = inr (ap (λ l. l ∷ []) is)
ending_of (bytes ∷ other ∷ lines) place h = absurd (subst (λ (p : Place). Leads books p other h.2.0) h.1.3 h.2.1).0
