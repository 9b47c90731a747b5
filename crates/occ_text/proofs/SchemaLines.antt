-- The lines of the tables of a schema: which line may stand behind those of some tables.
use Rattle.std.proofs.Common.{◌≡◌, ℕ, ◌<◌, ◌≤◌, ◌&&◌, ◌||◌, not, Bool, true, false, ltb, leb, List, [], ◌∷◌, ◌++◌, length, Some, None, refl, sym, ap, subst, ◌∙◌, arith, length-append}
use Rattle.std.specs.Prelude.{option_and_then, nat_eq}
use Rattle.std.specs.List.{All, list_all, list_any}
use Rattle.std.specs.Char.{is_ascii_lowercase}
use Rattle.std.specs.Cmp.Lexicographic.{pointwise}
use Rattle.std.proofs.lemmas.Bool.{ltb-true, lt-ltb, leb-true, le-leb}
use Rattle.std.proofs.lemmas.List.Folds.{list_any-append}
use Rattle.std.proofs.lemmas.List.Elements.{All-nil, All-cons, All-head, All-tail, All-append}
use Rattle.std.proofs.lemmas.List.Sums.{AllPass-from_list_all, list_all-from_AllPass}
use Rattle.occ_types.specs.declared.fault.Fault.{Fault}
use Rattle.occ_types.specs.declared.fault.Fault.TheVariants.{BadSchema}
use Rattle.occ_types.specs.Schema.{Table, fault_if, is_name, are_tables, check_tables, has_name}
use Rattle.occ_text.specs.declared.versions.Version.{Version}
use Rattle.occ_text.specs.Spelling.{IsName}
use Rattle.occ_text.specs.Headers.{table_text, KindFits, KindsFit, TableFits, TableHasLine}
use Rattle.occ_text.specs.HeaderReading.{table_of_line}
use Rattle.occ_text.specs.HeaderTaking.{TablesSoFar, if_free, table_behind}
use Rattle.occ_text.proofs.Escapes.{some_is, bind_value}
use Rattle.occ_text.proofs.Words.{both}
use Rattle.occ_text.proofs.Readers.{takes}
use Rattle.occ_text.proofs.HeaderLines.{tested, table_reads}

-- ---- what tables stand in a schema

pub neither : (a b : Bool) → (a || b) ≡ false → (a ≡ false) × (b ≡ false)
neither true b h = absurd cc
neither false b h = (refl, h)

not_either : (a b : Bool) → a ≡ false → b ≡ false → (a || b) ≡ false
not_either a b p q = rw (p, q) refl

pub is_not : (b : Bool) → not b ≡ true → b ≡ false
is_not true h = absurd cc
is_not false h = refl

no_fault : (b : Bool) (fault : Fault) → fault_if (not b) fault ≡ None → b ≡ true
no_fault true fault h = refl
no_fault false fault h = absurd cc

-- a table that may stand before others
pub record Stands (table : Table) (later : List Table) : Type 0 where
  pub named : is_name table.name ≡ true
  pub own : list_any (λ other. pointwise nat_eq table.name other.name) later ≡ false
  pub some : leb 1 (length table.columns) ≡ true
  pub few : leb (length table.columns) 8 ≡ true
  pub rest : are_tables later ≡ true

pub first_table : (table : Table) (later : List Table) → are_tables (table ∷ later) ≡ true → Stands table later
first_table table later h =
    let own = list_any (λ other. pointwise nat_eq table.name other.name) later in
    let some = leb 1 (length table.columns) in
    let few = leb (length table.columns) 8 in
    let p = both ((is_name table.name && not own) && (some && few)) (are_tables later) h in
    let q = both (is_name table.name && not own) (some && few) p.0 in
    let n = both (is_name table.name) (not own) q.0 in
    let c = both some few q.1 in
    record { named = n.0; own = is_not own n.1; some = c.0; few = c.1; rest = p.1 }

first_again : (table : Table) (later : List Table) → Stands table later → are_tables (table ∷ later) ≡ true
first_again table later s = rw (s.named, s.own, s.some, s.few, s.rest) refl

fits_of : (table : Table) (later : List Table) → Stands table later → TableFits table
fits_of table later s =
    let n = both (leb 1 (length table.name)) (leb (length table.name) 16 && list_all is_ascii_lowercase table.name) s.named in
    let m = both (leb (length table.name) 16) (list_all is_ascii_lowercase table.name) n.1 in
    let some = leb-true 1 (length table.name) n.0 in
    let columns = leb-true 1 (length table.columns) s.some in
    record {
      name = record { some = omega arith; short = leb-true (length table.name) 16 m.0; letters = AllPass-from_list_all is_ascii_lowercase table.name m.1 };
      some = omega arith;
      few = leb-true (length table.columns) 8 s.few;
    }

name_of : (name : List ℕ) → IsName name → is_name name ≡ true
name_of name fits =
    let some = fits.some in
    rw (le-leb 1 (length name) (omega arith), le-leb (length name) 16 fits.short, list_all-from_AllPass is_ascii_lowercase name fits.letters) refl

stands_alone : (table : Table) → TableFits table → Stands table []
stands_alone table fits =
    let some = fits.some in
    record {
      named = name_of table.name fits.name;
      own = refl;
      some = le-leb 1 (length table.columns) (omega arith);
      few = le-leb (length table.columns) 8 fits.few;
      rest = refl;
    }

-- a part of the tables of a schema is so far right
pub begins_well : (tables more : List Table) → are_tables (tables ++ more) ≡ true → are_tables tables ≡ true
begins_well [] more h = refl
begins_well (first ∷ tables) more h =
    let test : Table → Bool = λ other. pointwise nat_eq first.name other.name in
    let s = first_table first (tables ++ more) h in
    let own = neither (list_any test tables) (list_any test more) (sym (list_any-append test tables more) ∙ s.own) in
    first_again first tables (record { named = s.named; own = own.0; some = s.some; few = s.few; rest = begins_well tables more s.rest })

-- tables of a schema have lines
pub each_fits : (tables : List Table) → are_tables tables ≡ true → All TableFits tables
each_fits [] h = All-nil TableFits
each_fits (table ∷ tables) h =
    let s = first_table table tables h in
    All-cons TableFits table tables (fits_of table tables s) (each_fits tables s.rest)

last_kind : (version : Version) (tables : List Table) (table : Table) (more : List Table) → KindsFit version (tables ++ table ∷ more) → KindFits version table.key
last_kind version [] table more k = All-head (λ t. KindFits version t.key) table more k
last_kind version (first ∷ tables) table more k = last_kind version tables table more (All-tail (λ t. KindFits version t.key) first (tables ++ table ∷ more) k)

last_fits : (tables : List Table) (table : Table) (more : List Table) → are_tables (tables ++ table ∷ more) ≡ true → TableFits table
last_fits [] table more h = fits_of table more (first_table table more h)
last_fits (first ∷ tables) table more h = last_fits tables table more (first_table first (tables ++ table ∷ more) h).rest

-- no table before another has its name
name_is_free : (tables : List Table) (table : Table) (more : List Table) → are_tables (tables ++ table ∷ more) ≡ true → list_any (has_name table.name) tables ≡ false
name_is_free [] table more h = refl
name_is_free (first ∷ tables) table more h =
    let s = first_table first (tables ++ table ∷ more) h in
    let test : Table → Bool = λ other. pointwise nat_eq first.name other.name in
    let own = neither (list_any test tables) (list_any test (table ∷ more)) (sym (list_any-append test tables (table ∷ more)) ∙ s.own) in
    let here = neither (test table) (list_any test more) own.1 in
    not_either (has_name table.name first) (list_any (has_name table.name) tables) here.0 (name_is_free tables table more s.rest)

-- a table of another name may stand behind others
one_more : (tables : List Table) (table : Table) → are_tables tables ≡ true → TableFits table → list_any (has_name table.name) tables ≡ false → are_tables (tables ++ table ∷ []) ≡ true
one_more [] table h fits free = first_again table [] (stands_alone table fits)
one_more (first ∷ tables) table h fits free =
    let s = first_table first tables h in
    let f = neither (has_name table.name first) (list_any (has_name table.name) tables) free in
    let test : Table → Bool = λ other. pointwise nat_eq first.name other.name in
    first_again first (tables ++ table ∷ []) (record {
      named = s.named;
      own = list_any-append test tables (table ∷ []) ∙ not_either (list_any test tables) (list_any test (table ∷ [])) s.own (not_either (test table) false f.0 refl);
      some = s.some;
      few = s.few;
      rest = one_more tables table s.rest fits f.1;
    })

pub record IsSchema (tables : List Table) : Type 0 where
  pub some : 1 ≤ length tables
  pub few : length tables ≤ 32
  pub each : are_tables tables ≡ true

pub IsSchema-from_check : (tables : List Table) → check_tables tables ≡ None → IsSchema tables
IsSchema-from_check tables h =
    let p = both (leb 1 (length tables) && leb (length tables) 32) (are_tables tables) (no_fault _ BadSchema h) in
    let q = both (leb 1 (length tables)) (leb (length tables) 32) p.0 in
    record { some = leb-true 1 (length tables) q.0; few = leb-true (length tables) 32 q.1; each = p.1 }

pub check-from_IsSchema : (version : Version) (tables : List Table) → 1 ≤ length tables → TablesSoFar version tables → check_tables tables ≡ None
check-from_IsSchema version tables some so_far = rw (le-leb 1 (length tables) some, le-leb (length tables) 32 so_far.few, so_far.each) refl

-- ---- which line stands behind those of some tables

pub table_again : (version : Version) (table : Table) → TableHasLine version table → table_of_line version (table_text table) ≡ Some table
table_again version table fits = (table_reads version (table_text table)).again table fits refl

pub same_table : (version : Version) (a b : Table) → TableHasLine version a → TableHasLine version b → table_text a ≡ table_text b → a ≡ b
same_table version a b p q e = some_is a b (sym (table_again version a p) ∙ ap (table_of_line version) e ∙ table_again version b q)

abbrev pub first_line : List (List ℕ) → List ℕ
first_line [] = []
first_line (line ∷ lines) = line

abbrev pub later_lines : List (List ℕ) → List (List ℕ)
later_lines [] = []
later_lines (line ∷ lines) = lines

-- the last one of tables that may stand in a schema has a line
pub last_table : (version : Version) (tables : List Table) (table : Table) → TablesSoFar version (tables ++ table ∷ []) → TableHasLine version table
last_table version tables table so_far = record { fits = last_fits tables table [] so_far.each; key = last_kind version tables table [] so_far.kinds }

-- and its line is read behind those of the others
pub table_found : (version : Version) (tables : List Table) (table : Table) → TablesSoFar version (tables ++ table ∷ []) → table_behind version tables (table_text table) ≡ Some table
unfolding table_behind
table_found version tables table so_far =
    let few = so_far.few in
    let lt : length tables < 32 = omega (arith, length-append tables (table ∷ [])) in
    ap (option_and_then (if_free tables)) (table_again version table (last_table version tables table so_far)) ∙ rw (lt-ltb (length tables) 32 lt, name_is_free tables table [] so_far.each) refl

-- a table that was read behind others stands behind them
pub record Next (version : Version) (tables : List Table) (line : List ℕ) (table : Table) : Type 0 where
  pub spelled : line ≡ table_text table
  pub so_far : TablesSoFar version (tables ++ table ∷ [])

pub table_next : (version : Version) (tables : List Table) (line : List ℕ) (table : Table) → TablesSoFar version tables → table_behind version tables line ≡ Some table → Next version tables line table
unfolding table_behind
table_next version tables line table so_far h =
    let b = bind_value (table_of_line version line) (if_free tables) table h in
    let read = takes (table_reads version line) b.0 b.1 in
    let named = list_any (has_name b.0.name) tables in
    let t = tested (ltb (length tables) 32 && not named) (Some b.0) table b.2 in
    let p = both (ltb (length tables) 32) (not named) t.0 in
    let lt = ltb-true (length tables) 32 p.0 in
    subst (Next version tables line) (some_is b.0 table t.1) (record {
      spelled = read.0;
      so_far = record {
        few = omega (arith, length-append tables (b.0 ∷ []));
        each = one_more tables b.0 so_far.each read.1.fits (is_not named p.1);
        kinds = All-append (λ t. KindFits version t.key) tables (b.0 ∷ []) so_far.kinds (All-cons (λ t. KindFits version t.key) b.0 [] read.1.key (All-nil (λ t. KindFits version t.key)));
      };
    })
