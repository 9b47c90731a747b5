-- The lines of tables: each is a line, tells one table, and tables that may stand in a schema stand one after another.
use Rattle.std.proofs.Common.{◌≡◌, ℕ, ◌*◌, ◌≤◌, Bool, true, List, [], ◌∷◌, ◌++◌, map, length, Option, None, refl, sym, ap, subst, ◌∙◌, arith, append_assoc, length-append}
use Rattle.std.specs.Prelude.{All}
use Rattle.std.proofs.lemmas.List.{append-nil}
use Rattle.std.proofs.lemmas.List.Elements.{All-nil, All-cons, All-head, All-tail}
use Rattle.occ_types.specs.declared.kind.Kind.{Kind}
use Rattle.occ_types.specs.declared.kind.Kind.TheVariants as cells
use Rattle.occ_types.specs.declared.kind.KeyKind.{KeyKind}
use Rattle.occ_types.specs.declared.kind.KeyKind.TheVariants as kinds
use Rattle.occ_types.specs.declared.kind.PartKind.{PartKind}
use Rattle.occ_types.specs.declared.kind.PartKind.TheVariants as part_kinds
use Rattle.occ_types.specs.Schema.{Table, Schema, check_tables}
use Rattle.occ_text.specs.declared.versions.Version.{Version}
use Rattle.occ_text.specs.Headers.{KindFits, KindsFit, TableFits, TableHasLine, part_kind_word, key_kind_word, kind_word, table_text, table_tokens}
use Rattle.occ_text.specs.HeaderReading.{table_of_line, table_of_tokens}
use Rattle.occ_text.specs.HeaderTaking.{TablesSoFar}
use Rattle.occ_text.specs.Languages.{Language, Leads}
use Rattle.occ_text.specs.Line.{HasNoFeed, IsLine}
use Rattle.occ_text.specs.Reading.{tokens_of}
use Rattle.occ_text.specs.TableTaking.{Further, OneTable, Behind, further_text, MayFollow, to_further, further_lines}
use Rattle.occ_text.proofs.Escapes.{bind_value}
use Rattle.occ_text.proofs.Fields.{width, joined_width, words_have_no_feed}
use Rattle.occ_text.proofs.LanguageLaws.{IsRight}
use Rattle.occ_text.proofs.LinesTaken.{Path, on}
use Rattle.occ_text.proofs.SchemaLines.{IsSchema-from_check, begins_well, last_table, same_table, table_again}
use Rattle.occ_text.proofs.Words.{tokens_takes}

-- ---- one table

part_kind_width : (kind : PartKind) → length (part_kind_word kind) ≤ 4
part_kind_width part_kinds.Num = omega arith
part_kind_width part_kinds.Text = omega arith

key_kind_width : (kind : KeyKind) → length (key_kind_word kind) ≤ 9
key_kind_width kinds.Num = omega arith
key_kind_width kinds.Text = omega arith
key_kind_width (kinds.Pair first second) =
    let a = part_kind_width first in
    let b = part_kind_width second in
    omega (arith, length-append (part_kind_word first) (43 ∷ part_kind_word second))

kinds_width : (columns : List Kind) → width (map kind_word columns) ≤ 5 * length columns
kinds_width [] = omega arith
kinds_width (cells.Int ∷ columns) = let rest = kinds_width columns in omega arith
kinds_width (cells.Text ∷ columns) = let rest = kinds_width columns in omega arith

pub table_is_line : (version : Version) (table : Table) → TableHasLine version table → IsLine (table_text table)
unfolding table_of_line
table_is_line version table has =
    let t = bind_value (tokens_of (table_text table)) (table_of_tokens version) table (table_again version table has) in
    let fits = has.fits in
    let are = tokens_takes (table_text table) t.0 t.1 in
    let name = fits.name.short in
    let few = fits.few in
    let kind = key_kind_width table.key in
    let columns = kinds_width table.columns in
    let joined = joined_width 32 (table_tokens table) in
    record { no_feed = subst HasNoFeed (sym are.0) (words_have_no_feed t.0 are.1.some are.1.each); short = omega arith }

-- ---- one after another

front_all : {X : Type 0} (P : X → Type 0) (xs ys : List X) → All P (xs ++ ys) → All P xs
front_all P [] ys h = All-nil P
front_all P (x ∷ xs) ys h = All-cons P x xs (All-head P x (xs ++ ys) h) (front_all P xs ys (All-tail P x (xs ++ ys) h))

pub no_tables_yet : (version : Version) → TablesSoFar version []
no_tables_yet version = record { few = omega arith; each = refl; kinds = All-nil (λ (table : Table). KindFits version table.key) }

pub schema_so_far : (version : Version) (schema : Schema) → check_tables schema ≡ None → KindsFit version schema → TablesSoFar version schema
schema_so_far version schema good kinds = let is = IsSchema-from_check schema good in record { few = is.few; each = is.each; kinds = kinds }

-- the first ones of them may, too
fewer : (version : Version) (tables more : List Table) → TablesSoFar version (tables ++ more) → TablesSoFar version tables
fewer version tables more h =
    let few = h.few in
    record { few = omega (arith, length-append tables more); each = begins_well tables more h.each; kinds = front_all (λ (table : Table). KindFits version table.key) tables more h.kinds }

-- where lines of tables stand, and what may stand behind them, these lead on as they should
pub further_right : {Place T : Type 0} {Sound : Place → Type 0} {version : Version} {spell : T → List ℕ} {fits : T → Type 0} {behind : T → Place} (tables : List Table) (at : List Table → Place) → ((x : T) → fits x → IsLine (spell x))
    → ((x : T) (table : Table) → spell x ≡ table_text table → ⊥) → ((x y : T) → fits x → fits y → spell x ≡ spell y → behind x ≡ behind y) → ((table : Table) → TablesSoFar version (tables ++ table ∷ []) → Sound (at (tables ++ table ∷ [])))
    → ((x : T) → check_tables tables ≡ None → fits x → Sound (behind x)) → IsRight Sound (further_lines version spell fits tables at behind)
further_right {T = T} {Sound = Sound} {version = version} {spell = spell} {fits = fits} {behind = behind} tables at is_line no_table same sound_table sound_behind = record { alone = alone; one = one; sound = sound }
  where
    alone : (further : Further T) → MayFollow version fits tables further → IsLine (further_text spell further)
    alone (OneTable table) may = table_is_line version table (last_table version tables table may)
    alone (Behind x) may = is_line x may.1

    one : (x y : Further T) → MayFollow version fits tables x → MayFollow version fits tables y → further_text spell x ≡ further_text spell y → to_further tables at behind x ≡ to_further tables at behind y
    one (OneTable a) (OneTable b) f g e = ap (λ (t : Table). at (tables ++ t ∷ [])) (same_table version a b (last_table version tables a f) (last_table version tables b g) e)
    one (OneTable a) (Behind y) f g e = absurd (no_table y a (sym e))
    one (Behind x) (OneTable b) f g e = absurd (no_table x b e)
    one (Behind x) (Behind y) f g e = same x y f.1 g.1 e

    sound : (further : Further T) → MayFollow version fits tables further → Sound (to_further tables at behind further)
    sound (OneTable table) may = sound_table table may
    sound (Behind x) may = sound_behind x may.0 may.1

-- where one table more leads on from a place to the next one, the lines of many lead on
pub tables_lead : {language : Language} {version : Version} (at : List Table → language.Place) → ((tables : List Table) (table : Table) → TablesSoFar version (tables ++ table ∷ []) → Leads language (at tables) (table_text table) (at (tables ++ table ∷ [])))
    → (before after : List Table) → TablesSoFar version (before ++ after) → Path language (at before) (at (before ++ after)) (map table_text after)
tables_lead at more before [] h = record { leads = ap at (append-nil before) }
tables_lead {language} {version} at more before (table ∷ after) h =
    let turned = append_assoc before (table ∷ []) after in
    let whole = subst (TablesSoFar version) (sym turned) h in
    on (more before table (fewer version (before ++ table ∷ []) after whole))
    (subst (λ (all : List Table). Path language (at (before ++ table ∷ [])) (at all) (map table_text after)) turned (tables_lead at more (before ++ table ∷ []) after whole))
