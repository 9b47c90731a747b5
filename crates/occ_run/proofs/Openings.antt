-- The first lines of a workload and those of its tables, and where they lead.
use Rattle.std.proofs.Common.{◌≡◌, ℕ, ◌+◌, ◌≤◌, List, [], ◌∷◌, ◌++◌, map, get_or, Option, Some, None, Result, Ok, Err, refl, sym, ap, subst, ◌∙◌, arith}
use Rattle.std.specs.Prelude.{codes}
use Rattle.std.specs.Result.{IsErrAnd}
use Rattle.occ_types.specs.Schema.{Table, check_tables}
use Rattle.occ_text.specs.declared.versions.Version as versions
use Rattle.occ_text.specs.declared.versions.Version.TheVariants.{One, Two}
use Rattle.occ_text.specs.declared.faults.LineFault.{LineFault}
use Rattle.occ_text.specs.declared.faults.ReadFault.{ReadFault}
use Rattle.occ_text.specs.Faults.{read_fault, widened}
use Rattle.occ_text.specs.Headers.{table_text}
use Rattle.occ_text.specs.HeaderTaking.{TablesSoFar}
use Rattle.occ_text.specs.Languages.{Leads, Position, point, Took, Stopped, FailsFrom, TakesFrom}
use Rattle.occ_text.specs.TableTaking.{OneTable, Behind, TablesTold, TablesCut}
use Rattle.occ_text.specs.Line.{IsLine, NoneTaken, IsSpelled}
use Rattle.occ_text.specs.Reading.{Reads, is_token}
use Rattle.occ_text.proofs.Fields.{line_of_words}
use Rattle.occ_text.proofs.HeaderLines.{two_kinds}
use Rattle.occ_text.proofs.Numbers.{some_or_none}
use Rattle.occ_text.proofs.TokenLists.{one_token}
use Rattle.occ_text.proofs.Words.{IsToken-from_test}
use Rattle.occ_run.specs.declared.workloads.Settings.{Settings}
use Rattle.occ_run.specs.Workloads.{Place, Version, Tables, Transactions, begin_text, load_text, load_version, settings_lines, grammar, MayEnd, loads}
use Rattle.occ_text.proofs.LinesTaken.{spelled, fails, next_fails}
use Rattle.occ_text.proofs.TablesTaken.{no_further, tables_fail, tables_end, tables_stop}

-- ---- the version

load_takes : (line : List ℕ) (version : versions.Version) → load_version line ≡ Some version → line ≡ load_text version
unfolding load_version
load_takes line version h = two_kinds (codes "load 1") (codes "load 2") line One Two version _ _ load_text refl refl refl refl h

load_again : (version : versions.Version) → load_version (load_text version) ≡ Some version
unfolding load_version
load_again One = refl
load_again Two = refl

pub load_reads : (line : List ℕ) → Reads load_text (λ version. Unit {0}) line (load_version line)
load_reads line = record {
  found = some_or_none (load_version line) (λ version. (line ≡ load_text version) × Unit {0}) (λ version h. (load_takes line version h, tt));
  again = λ version fits e. ap load_version e ∙ load_again version;
}

-- ---- the settings

-- one of the first lines wasn't taken, behind those before it
pub settings_fail : {a : Position} {b : Option (List ℕ)} {mid : ℕ} {lines : List (List ℕ)} (place : Place) (fault : LineFault) (result : Result Settings LineFault) (c : Option (List ℕ)) (last : ℕ) → IsErrAnd result (λ e. e ≡ fault) → Took loads Version place a (point b mid) lines
    → (MayEnd place → ⊥) → NoneTaken (IsSpelled (grammar place).spell (grammar place).fits) (read_fault fault) b c mid → TakesFrom loads (widened result) Version (λ settings. Tables settings []) settings_lines (λ settings. settings.retries ≤ 16) a (point c last)
settings_fail place fault (Ok settings) c last is l more t = absurd is
settings_fail {a} {b} {mid} place fault (Err e) c last is l more t = subst (λ (f : LineFault). FailsFrom loads (read_fault f) Version a c) (sym is) (fails (read_fault fault) c l (next_fails loads place (read_fault fault) b c mid more t))

-- ---- tables

pub begin_is_no_table : (table : Table) → codes "begin" ≡ table_text table → ⊥
begin_is_no_table table e = let f : 98 ≡ 116 = ap (λ (l : List ℕ). get_or l 0 0) e in absurd (omega (arith, f))

pub IsLine-begin : IsLine (codes "begin")
unfolding is_token
IsLine-begin = line_of_words (codes "begin" ∷ []) (one_token (IsToken-from_test (codes "begin") refl)) (omega arith)

one_more : (settings : Settings) (tables : List Table) (table : Table) → TablesSoFar settings.limits.version (tables ++ table ∷ []) → Leads loads (Tables settings tables) (table_text table) (Tables settings (tables ++ table ∷ []))
one_more settings tables table so_far = (OneTable table, so_far, refl, refl)

-- no line stands behind tables
pub schema_cut : {a c : Option (List ℕ)} {first : ℕ} (settings : Settings) (fault : ReadFault) → TablesCut settings.limits.version fault a c first → FailsFrom loads fault (Tables settings []) (point a first) c
schema_cut settings fault t = tables_fail loads {version = settings.limits.version} (Tables settings) (one_more settings) fault (λ tables may. may) t

-- `begin` stands behind tables that make a schema
pub schema_taken : {a c : Option (List ℕ)} {first last : ℕ} (settings : Settings) (tables schema : List Table) (line : List ℕ) → TablesTold settings.limits.version tables line a c first last → line ≡ codes "begin" → (check_tables tables ≡ None) × (schema ≡ tables)
    → Took loads (Tables settings []) (Transactions settings schema []) (point a first) (point c last) (map table_text schema ++ codes "begin" ∷ []) × Unit {0}
schema_taken {a} {c} {first} {last} settings tables schema line t is good =
    let took = tables_end loads {version = settings.limits.version} (Tables settings) (one_more settings) (Transactions settings tables []) t (Behind tt, (good.0, tt), is, refl) in
    (subst (λ (s : List Table). Took loads (Tables settings []) (Transactions settings s []) (point a first) (point c last) (map table_text s ++ codes "begin" ∷ [])) (sym good.1) (spelled (ap (λ (l : List ℕ). map table_text tables ++ l ∷ []) is) took), tt)

-- or a line that tells no table, and that isn't `begin` behind tables that make one
pub schema_stops : {a c : Option (List ℕ)} {first last : ℕ} (settings : Settings) (tables : List Table) (line : List ℕ) (number : ℕ) → TablesTold settings.limits.version tables line a c first last → (check_tables tables ≡ None → line ≡ codes "begin" → ⊥) → number ≡ last
    → Stopped loads (Tables settings []) (point a first) number
schema_stops settings tables line number t other here =
    tables_stop loads {version = settings.limits.version} (Tables settings) (one_more settings) number t
    (λ leads. no_further settings.limits.version begin_text (λ begin. Unit {0}) tables line t.other.none (λ begin good fits is. other good is) leads.1.0 leads.1.1 leads.1.2) here
