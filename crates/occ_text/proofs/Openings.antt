-- The header of a schedule: where its lines lead, and the line at which it fails.
use Rattle.std.proofs.Common.{◌≡◌, ℕ, ◌+◌, ◌<◌, List, [], ◌∷◌, ◌++◌, length, map, Option, None, Result, Ok, Err, refl, sym, ap, subst, arith, append_assoc}
use Rattle.std.specs.Prelude.{codes}
use Rattle.std.specs.Result.{IsErrAnd}
use Rattle.std.specs.Io.KnownBytes.{Consumes}
use Rattle.std.specs.List.{All}
use Rattle.std.proofs.lemmas.List.{append-nil}
use Rattle.std.proofs.lemmas.List.Elements.{All-head, All-tail}
use Rattle.occ_types.specs.Schema.{Table, Schema, check_tables}
use Rattle.occ_text.specs.declared.headers.Limits.{Limits}
use Rattle.occ_text.specs.declared.faults.LineFault.{LineFault}
use Rattle.occ_text.specs.declared.faults.ReadFault.{ReadFault}
use Rattle.occ_text.specs.declared.faults.ReadFault.TheVariants as faults
use Rattle.occ_text.specs.Faults.{read_fault}
use Rattle.occ_text.specs.Headers.{Header, HeaderFits, KindsFit, LimitsFit, header_text, limits_lines, limits_of, table_text, version_text}
use Rattle.occ_text.specs.HeaderTaking.{TablesSoFar, BeginsLimits, LimitsTaken}
use Rattle.occ_text.specs.Languages.{Leads, LeadsOn, LeadOn, Position, point, Took, FailsAt}
use Rattle.occ_text.specs.Line.{NoneTaken, lines_text}
use Rattle.occ_text.specs.ScheduleLines.{HasLine, ScheduleFits, schedule_lines, Place, Version, Sessions, Queue, Keep, Tables, Steps, MayEnd, IsOpening, OpeningTaken, schedules, steps_text, with_tables}
use Rattle.occ_text.specs.Steps.{Step, step_text}
use Rattle.occ_text.specs.TableTaking.{OneTable, Behind, TablesTold, TablesCut}
use Rattle.occ_text.proofs.TableLines.{tables_lead, schema_so_far}
use Rattle.occ_text.proofs.LinesTaken.{Path, stay, on, along, ◌and◌, spelled, fails_at, none_fails_at}
use Rattle.occ_text.proofs.SchemaLines.{first_line, later_lines}
use Rattle.occ_text.proofs.TablesTaken.{no_further, tables_fail_at, tables_end, tables_stop_at}
use Rattle.occ_text.proofs.WholeHeader.{session_line, queue_line, begins_1, begins_2, begins_3, begins_4}

-- ---- limits

limits_lead : (limits : Limits) → LimitsFit limits → Path schedules Version (Tables limits []) (limits_lines limits)
limits_lead limits fits =
    on {q = Sessions limits.version} (limits.version, tt, refl, refl) (on {q = Queue limits.version limits.sessions} (limits.sessions, fits.sessions, refl, refl)
    (on {q = Keep limits.version limits.sessions limits.queue} (limits.queue, fits.queue, refl, refl) (on {q = Tables limits []} (limits.keep, fits.keep, refl, refl) stay)))

pub limits_took : (limits : Limits) {a b : Option (List ℕ)} {first last : ℕ} → Consumes a b (lines_text (limits_lines limits)) × LimitsFit limits × (last ≡ first + 4) → Took schedules Version (Tables limits []) (point a first) (point b last) (limits_lines limits)
limits_took limits t = let path = limits_lead limits t.1 in record { taken = t.0; leads = path.leads; number = t.2 }

-- some of the first lines were taken, and then none that may come next
limits_fail : (fault : LineFault) (a c : Option (List ℕ)) (first last : ℕ) → LimitsTaken (Err fault) a c first last → FailsAt schedules IsOpening (read_fault fault) Version (point a first) c
limits_fail fault a c first last t = by t.0 t.3.3 t.4 t.2 t.5
  where
    limits : Limits
    limits = t.3.0

    -- behind lines that lead to a place, from which only lines lead on with which limits begin
    stops : (place : Place) (lines : List (List ℕ)) → IsOpening place → (MayEnd place → ⊥) → LeadOn schedules Version lines place → ((bytes : List ℕ) → LeadsOn schedules place bytes → BeginsLimits (lines ++ bytes ∷ [])) → Consumes a t.1 (lines_text lines)
        → NoneTaken (λ line. BeginsLimits (lines ++ line ∷ [])) (read_fault fault) t.1 c (first + length lines) → FailsAt schedules IsOpening (read_fault fault) Version (point a first) c
    stops place lines opening more leads only taken none =
        let took : Took schedules Version place (point a first) (point t.1 (first + length lines)) lines = record { taken = taken; leads = leads; number = refl } in
        fails_at IsOpening (read_fault fault) c took (none_fails_at schedules IsOpening (λ line. BeginsLimits (lines ++ line ∷ [])) (read_fault fault) place t.1 c (first + length lines) opening more only none)

    by : (lines : List (List ℕ)) → limits_lines limits ≡ lines ++ t.3.2 → length lines < 4 → Consumes a t.1 (lines_text lines) → NoneTaken (λ line. BeginsLimits (lines ++ line ∷ [])) (read_fault fault) t.1 c (first + length lines)
        → FailsAt schedules IsOpening (read_fault fault) Version (point a first) c
    by [] e few taken none = stops Version [] tt (λ may. may) refl (λ bytes h. rw h.1.2 (begins_1 h.1.0)) taken none
    by (x ∷ []) e few taken none =
        let first_is : x ≡ version_text limits.version = sym (ap first_line e) in
        stops (Sessions limits.version) (x ∷ []) tt (λ may. may) (Sessions limits.version, (limits.version, tt, first_is, refl), refl) (λ bytes h. rw (first_is, h.1.2) (begins_2 limits.version h.1.0 h.1.1)) taken none
    by (x ∷ y ∷ []) e few taken none =
        let first_is : x ≡ version_text limits.version = sym (ap first_line e) in
        let second_is : y ≡ session_line limits.sessions = sym (ap (λ l. first_line (later_lines l)) e) in
        let fits = t.3.1 in
        stops (Queue limits.version limits.sessions) (x ∷ y ∷ []) tt (λ may. may) (Sessions limits.version, (limits.version, tt, first_is, refl), (Queue limits.version limits.sessions, (limits.sessions, fits.sessions, second_is, refl), refl))
        (λ bytes h. rw (first_is, second_is, h.1.2) (begins_3 limits.version limits.sessions h.1.0 fits.sessions h.1.1)) taken none
    by (x ∷ y ∷ z ∷ []) e few taken none =
        let first_is : x ≡ version_text limits.version = sym (ap first_line e) in
        let second_is : y ≡ session_line limits.sessions = sym (ap (λ l. first_line (later_lines l)) e) in
        let third_is : z ≡ queue_line limits.queue = sym (ap (λ l. first_line (later_lines (later_lines l))) e) in
        let fits = t.3.1 in
        stops (Keep limits.version limits.sessions limits.queue) (x ∷ y ∷ z ∷ []) tt (λ may. may)
        (Sessions limits.version, (limits.version, tt, first_is, refl), (Queue limits.version limits.sessions, (limits.sessions, fits.sessions, second_is, refl), (Keep limits.version limits.sessions limits.queue, (limits.queue, fits.queue, third_is, refl), refl)))
        (λ bytes h. rw (first_is, second_is, third_is, h.1.2) (begins_4 limits.version limits.sessions limits.queue h.1.0 fits.sessions fits.queue h.1.1)) taken none
    by (x ∷ y ∷ z ∷ w ∷ more) e few taken none = absurd (omega (arith, few))

-- ---- tables, and `steps`

one_more : (limits : Limits) (tables : List Table) (table : Table) → TablesSoFar limits.version (tables ++ table ∷ []) → Leads schedules (Tables limits tables) (table_text table) (Tables limits (tables ++ table ∷ []))
one_more limits tables table so_far = (OneTable table, so_far, refl, refl)

abbrev pub SchemaFits : Limits → Schema → Type 0
SchemaFits limits schema = (check_tables schema ≡ None) × KindsFit limits.version schema

abbrev pub schema_lines : Schema → List (List ℕ)
schema_lines schema = map table_text schema ++ codes "steps" ∷ []

abbrev pub SchemaTaken : Limits → Result Schema ReadFault → Position → Position → Type 0
SchemaTaken limits result = OpeningTaken result (Tables limits []) (λ schema. Steps (with_tables limits schema) []) schema_lines (SchemaFits limits)

-- no line stands behind tables
pub schema_cut : (limits : Limits) (fault : ReadFault) (result : Result Schema ReadFault) (a c : Option (List ℕ)) (first last : ℕ) → IsErrAnd result (λ e. e ≡ fault) → TablesCut limits.version fault a c first → SchemaTaken limits result (point a first) (point c last)
schema_cut limits fault (Ok schema) a c first last is t = absurd is
schema_cut limits fault (Err e) a c first last is t =
    subst (λ (f : ReadFault). FailsAt schedules IsOpening f (Tables limits []) (point a first) c) (sym is) (tables_fail_at schedules {version = limits.version} (Tables limits) (one_more limits) IsOpening (λ tables. tt) fault (λ tables may. may) t)

-- `steps` stands behind tables that make a schema
pub schema_taken : {a c : Option (List ℕ)} {first last : ℕ} (limits : Limits) (tables schema : List Table) (line : List ℕ) → TablesTold limits.version tables line a c first last → line ≡ codes "steps" → (check_tables tables ≡ None) × (schema ≡ tables)
    → Took schedules (Tables limits []) (Steps (with_tables limits schema) []) (point a first) (point c last) (schema_lines schema) × SchemaFits limits schema
schema_taken {a} {c} {first} {last} limits tables schema line t is good =
    let took = tables_end schedules {version = limits.version} (Tables limits) (one_more limits) (Steps (with_tables limits tables) []) t (Behind tt, (good.0, tt), is, refl) in
    subst (λ (s : List Table). Took schedules (Tables limits []) (Steps (with_tables limits s) []) (point a first) (point c last) (schema_lines s) × SchemaFits limits s) (sym good.1)
    (spelled (ap (λ (l : List ℕ). map table_text tables ++ l ∷ []) is) took, (good.0, t.read.so_far.kinds))

-- or a line that tells no table, and that isn't `steps` behind tables that make one
pub schema_stops : {a c : Option (List ℕ)} {first last : ℕ} (limits : Limits) (tables : List Table) (line : List ℕ) (number : ℕ) → TablesTold limits.version tables line a c first last → (check_tables tables ≡ None → line ≡ codes "steps" → ⊥) → number ≡ last
    → FailsAt schedules IsOpening (faults.Malformed number) (Tables limits []) (point a first) c
schema_stops limits tables line number t other here =
    tables_stop_at schedules {version = limits.version} (Tables limits) (one_more limits) IsOpening (λ tables. tt) number t
    (λ leads. no_further limits.version steps_text (λ steps. Unit {0}) tables line t.other.none (λ steps good fits is. other good is) leads.1.0 leads.1.1 leads.1.2) here

-- ---- the whole header

module _ {V : Type 0} (shown : V → Header) where
  abbrev HeaderTaken : Result V ReadFault → Position → Position → Type 0
  HeaderTaken result = OpeningTaken result Version (λ x. Steps (shown x) []) (λ x. header_text (shown x)) (λ x. HeaderFits (shown x))

  pub header_without_limits : (fault : LineFault) (result : Result V ReadFault) (a b : Option (List ℕ)) (first last : ℕ) → IsErrAnd result (λ e. e ≡ read_fault fault) → LimitsTaken (Err fault) a b first last → HeaderTaken result (point a first) (point b last)
  header_without_limits fault (Ok x) a b first last is t = absurd is
  header_without_limits fault (Err e) a b first last is t = subst (λ (f : ReadFault). FailsAt schedules IsOpening f Version (point a first) b) (sym is) (limits_fail fault a b first last t)

  pub header_without_schema : (fault : ReadFault) (result : Result V ReadFault) (limits : Limits) (a b c : Option (List ℕ)) (first mid last : ℕ) → IsErrAnd result (λ e. e ≡ fault)
      → Consumes a b (lines_text (limits_lines limits)) × LimitsFit limits × (mid ≡ first + 4) → FailsAt schedules IsOpening fault (Tables limits []) (point b mid) c → HeaderTaken result (point a first) (point c last)
  header_without_schema fault (Ok x) limits a b c first mid last is f t = absurd is
  header_without_schema fault (Err e) limits a b c first mid last is f t = subst (λ (g : ReadFault). FailsAt schedules IsOpening g Version (point a first) c) (sym is) (fails_at IsOpening fault c (limits_took limits f) t)

header_fits : (limits : Limits) (schema : Schema) → LimitsFit limits → SchemaFits limits schema → HeaderFits (with_tables limits schema)
header_fits limits schema lf sf = record { sessions = lf.sessions; queue = lf.queue; keep = lf.keep; tables = sf.0; kinds = sf.1 }

pub header_taken : (limits : Limits) (schema : Schema) (a b c : Option (List ℕ)) (first mid last : ℕ) → Consumes a b (lines_text (limits_lines limits)) × LimitsFit limits × (mid ≡ first + 4)
    → Took schedules (Tables limits []) (Steps (with_tables limits schema) []) (point b mid) (point c last) (schema_lines schema) × SchemaFits limits schema
    → Took schedules Version (Steps (with_tables limits schema) []) (point a first) (point c last) (header_text (with_tables limits schema)) × HeaderFits (with_tables limits schema)
header_taken limits schema a b c first mid last f t = (limits_took limits f and t.0, header_fits limits schema f.1 t.1)

-- ---- the whole schedule

-- lines of steps lead on behind others
pub steps_lead : (header : Header) (before steps : List Step) → All (HasLine header.version) steps → Path schedules (Steps header before) (Steps header (before ++ steps)) (map step_text steps)
steps_lead header before [] each = record { leads = ap (Steps header) (append-nil before) }
steps_lead header before (step ∷ steps) each =
    let more = steps_lead header (before ++ step ∷ []) steps (All-tail (HasLine header.version) step steps each) in
    on {q = Steps header (before ++ step ∷ [])} (step, All-head (HasLine header.version) step steps each, refl, refl)
    (subst (λ (all : List Step). Path schedules (Steps header (before ++ step ∷ [])) (Steps header all) (map step_text steps)) (append_assoc before (step ∷ []) steps) more)

pub schedule_leads : (header : Header) (steps : List Step) → ScheduleFits header steps → LeadOn schedules Version (schedule_lines header steps) (Steps header steps)
schedule_leads header steps fits =
    let limits = limits_of header in
    let path = along (along (limits_lead limits (record { sessions = fits.opening.sessions; queue = fits.opening.queue; keep = fits.opening.keep })) tables) (steps_lead header [] steps fits.each) in
    path.leads
  where
    tables : Path schedules (Tables (limits_of header) []) (Steps header []) (schema_lines header.tables)
    tables =
        along (tables_lead {language = schedules} {version = header.version} (Tables (limits_of header)) (one_more (limits_of header)) [] header.tables (schema_so_far header.version header.tables fits.opening.tables fits.opening.kinds))
        (on {q = Steps header []} (Behind tt, (fits.opening.tables, tt), refl, refl) stay)
