-- Taking the lines of tables, and the line behind them.
use Rattle.std.proofs.Common.{◌≡◌, ℕ, ◌+◌, Bool, true, false, List, [], ◌∷◌, ◌++◌, map, Option, Some, None, Result, Ok, Err, refl, sym, ap, subst, ◌∙◌, arith, length-append}
use Rattle.std.specs.Prelude.{is_some}
use Rattle.std.specs.Result.{IsErrAnd}
use Rattle.std.specs.Io.KnownBytes.{Consumes}
use Rattle.std.proofs.KnownBytes.{Consumes-nil}
use Rattle.std.proofs.lemmas.List.{map-append, length-map}
use Rattle.occ_types.specs.Schema.{Table, check_tables}
use Rattle.occ_text.specs.declared.tokens.Unread.{Unread}
use Rattle.occ_text.specs.declared.tokens.Unread.TheVariants as unread
use Rattle.occ_text.specs.declared.faults.ReadFault.{ReadFault}
use Rattle.occ_text.specs.declared.faults.ReadFault.TheVariants as faults
use Rattle.occ_text.specs.declared.versions.Version.{Version}
use Rattle.occ_text.specs.Escapes.{Gives}
use Rattle.occ_text.specs.Headers.{table_text}
use Rattle.occ_text.specs.HeaderReading.{UnlessMalformed, TakesTable}
use Rattle.occ_text.specs.HeaderTaking.{TablesSoFar, table_behind}
use Rattle.occ_text.specs.Languages.{Language, Leads, LeadsOn, point, Took, Stopped, FailsFrom, FailsAt}
use Rattle.occ_text.specs.Line.{IsLine, NoneTaken, lines_text}
use Rattle.occ_text.specs.TableTaking.{Further, OneTable, Behind, further_text, MayFollow, if_read, OtherTaken, NextTaken, TablesRead, TablesTold, TablesCut, TablesTaken}
use Rattle.occ_text.proofs.LinesTaken.{one_line, ◌and◌, fails, fails_at, line_refused, line_refused_at, none_fails, none_fails_at}
use Rattle.occ_text.proofs.SchemaLines.{table_next, table_found}
use Rattle.occ_text.proofs.TableLines.{no_tables_yet, tables_lead}
use Rattle.occ_text.proofs.Taking.{taken_more}

-- ---- the line behind some tables

pub next_by : {X : Type 0} (version : Version) (view : X → Table) (read : Result X Unread) (result : Result (Option X) ReadFault) (tables : List Table) (shown line : List ℕ) (a b : Option (List ℕ)) (first last : ℕ)
    → TablesSoFar version tables → Consumes a b (line ++ 10 ∷ []) × (last ≡ first + 1) × IsLine line → shown ≡ line → Gives view read (table_behind version tables shown) → result ≡ if_read read → NextTaken version view result tables line a b first last
next_by {X} version view (Ok x) result tables shown line a b first last so_far taken same gives is =
    let n = table_next version tables shown (view x) so_far gives in
    subst (λ (r : Result (Option X) ReadFault). NextTaken version view r tables line a b first last) (sym is) (subst (λ (l : List ℕ). Consumes a b (l ++ 10 ∷ [])) (sym same ∙ n.spelled) taken.0, n.so_far, taken.1)
next_by {X} version view (Err unread.Malformed) result tables shown line a b first last so_far taken same gives is =
    subst (λ (r : Result (Option X) ReadFault). NextTaken version view r tables line a b first last) (sym is) (record { taken = taken.0; alone = taken.2; none = ap (table_behind version tables) (sym same) ∙ gives; number = taken.1 })
next_by {X} version view (Err unread.Memory) result tables shown line a b first last so_far taken same gives is =
    subst (λ (r : Result (Option X) ReadFault). NextTaken version view r tables line a b first last) (sym is) tt

-- a table is told, or takes memory, where the line is one of a table
pub read_takes : {X : Type 0} (test : Bool) (read : Result X Unread) (result : Result (Option X) ReadFault) → result ≡ if_read read → UnlessMalformed test read → TakesTable is_some test result
read_takes {X} test (Ok x) result is heads = subst (TakesTable {X = Option X} is_some test) (sym is) (λ (some : true ≡ true). heads)
read_takes {X} test (Err unread.Malformed) result is heads = subst (TakesTable {X = Option X} is_some test) (sym is) (λ (some : false ≡ true). cc some)
read_takes {X} test (Err unread.Memory) result is heads = subst (TakesTable {X = Option X} is_some test) (sym is) heads

-- ---- one after another

-- none yet
pub no_tables_read : {a : Option (List ℕ)} {first : ℕ} (version : Version) (tables : List Table) → tables ≡ [] → TablesRead version tables a a first first
no_tables_read {a} {first} version tables is =
    subst (λ (ts : List Table). TablesRead version ts a a first first) (sym is) (record { taken = Consumes-nil a; so_far = no_tables_yet version; number = omega arith })

-- one table more
pub one_read : {X : Type 0} (version : Version) (view : X → Table) (items shown pushed : List X) (x : X) {a b c : Option (List ℕ)} {first mid last : ℕ} → shown ≡ items → pushed ≡ items ++ x ∷ [] → TablesRead version (map view items) a b first mid
    → Consumes b c (table_text (view x) ++ 10 ∷ []) × TablesSoFar version (map view shown ++ view x ∷ []) × (last ≡ mid + 1) → TablesRead version (map view pushed) a c first last
one_read version view items shown pushed x {a} {b} {c} {first} {mid} {last} same is read next =
    let all : map view pushed ≡ map view items ++ view x ∷ [] = ap (map view) is ∙ map-append view items (x ∷ []) in
    let before = read.number in
    let step = next.2 in
    subst (λ (ts : List Table). TablesRead version ts a c first last) (sym all) (record {
      taken = subst (λ (l : List (List ℕ)). Consumes a c (lines_text l)) (sym (map-append table_text (map view items) (view x ∷ []))) (taken_more (map table_text (map view items)) (table_text (view x)) a b c read.taken next.0);
      so_far = subst (λ (l : List _). TablesSoFar version (map view l ++ view x ∷ [])) same next.1;
      number = omega (arith, length-append (map view items) (view x ∷ []));
    })

-- no table more
pub all_read : (version : Version) (tables shown : List Table) {line : List ℕ} {a b c : Option (List ℕ)} {first mid last : ℕ} → shown ≡ tables → TablesRead version tables a b first mid → OtherTaken version shown line b c mid last → TablesTold version tables line a c first last
all_read version tables shown {line} {a} {b} {c} {first} {mid} {last} same read other =
    record { rest = b; next = mid; read = read; other = subst (λ (ts : List Table). OtherTaken version ts line b c mid last) same other }

-- no line more
pub none_read : {X : Type 0} (version : Version) (view : X → List Table) (fault : ReadFault) (result : Result X ReadFault) (tables : List Table) (line : List ℕ) {a b : Option (List ℕ)} {first mid : ℕ} (c : Option (List ℕ)) (last : ℕ) → IsErrAnd result (λ e. e ≡ fault)
    → TablesRead version tables a b first mid → NoneTaken (λ line. Unit {0}) fault b c mid → TablesTaken version view result line a c first last
none_read version view fault (Ok x) tables line c last is read cut = absurd is
none_read version view fault (Err e) tables line {a} {b} {first} {mid} c last is read cut =
    subst (λ (f : ReadFault). TablesCut version f a c first) (sym is) (record { tables = tables; rest = b; next = mid; read = read; cut = cut })

-- ---- tables of a language

-- a line that tells no table, and nothing that may stand behind all, goes no further
pub no_further : {T : Type 0} (version : Version) (spell : T → List ℕ) (fits : T → Type 0) (tables : List Table) (line : List ℕ) → table_behind version tables line ≡ None → ((x : T) → check_tables tables ≡ None → fits x → line ≡ spell x → ⊥)
    → (further : Further T) → MayFollow version fits tables further → line ≡ further_text spell further → ⊥
no_further version spell fits tables line none other (OneTable table) may is =
    let e : None ≡ Some table = sym none ∙ ap (table_behind version tables) is ∙ table_found version tables table may in cc e
no_further version spell fits tables line none other (Behind x) may is = other x may.0 may.1 is

module _ (language : Language) {version : Version} (at : List Table → language.Place) (more : (tables : List Table) (table : Table) → TablesSoFar version (tables ++ table ∷ []) → Leads language (at tables) (table_text table) (at (tables ++ table ∷ []))) where
  tables_took : {tables : List Table} {a b : Option (List ℕ)} {first next : ℕ} → TablesRead version tables a b first next → Took language (at []) (at tables) (point a first) (point b next) (map table_text tables)
  tables_took {tables} {first = first} read =
      let path = tables_lead {language = language} {version = version} at more [] tables read.so_far in
      record { taken = read.taken; leads = path.leads; number = read.number ∙ ap (λ (k : ℕ). first + k) (sym (length-map tables table_text)) }

  -- no line stands behind them
  pub tables_fail : (fault : ReadFault) {a c : Option (List ℕ)} {first : ℕ} → ((tables : List Table) → language.MayEnd (at tables) → ⊥) → TablesCut version fault a c first → FailsFrom language fault (at []) (point a first) c
  tables_fail fault {a} {c} unended t = fails fault c (tables_took t.read) (none_fails language (λ line. Unit {0}) fault (at t.tables) t.rest c t.next (unended t.tables) (λ line leads. tt) t.cut)

  -- the line behind them leads on
  pub tables_end : {tables : List Table} {line : List ℕ} {a c : Option (List ℕ)} {first last : ℕ} (next : language.Place) → TablesTold version tables line a c first last → Leads language (at tables) line next
      → Took language (at []) next (point a first) (point c last) (map table_text tables ++ line ∷ [])
  tables_end {tables} {line} {a} {c} {first} {last} next t leads =
      let behind : Took language (at tables) next (point t.rest t.next) (point c last) (line ∷ []) = record { taken = one_line line t.rest c t.other.taken; leads = (next, leads, refl); number = t.other.number } in
      tables_took t.read and behind

  -- or can't stand
  pub tables_stop : {tables : List Table} {line : List ℕ} {a c : Option (List ℕ)} {first last : ℕ} (number : ℕ) → TablesTold version tables line a c first last → (LeadsOn language (at tables) line → ⊥) → number ≡ last → Stopped language (at []) (point a first) number
  tables_stop {tables} {line} {a} {c} {first} {last} number t other here =
      fails (faults.Malformed number) c (tables_took t.read) (line_refused language (at tables) line t.rest c t.next last number (t.other.taken, t.other.number, t.other.alone) other here)

  -- the same of places of a kind
  module _ (IsKind : language.Place → Type 0) (each : (tables : List Table) → IsKind (at tables)) where
    pub tables_fail_at : (fault : ReadFault) {a c : Option (List ℕ)} {first : ℕ} → ((tables : List Table) → language.MayEnd (at tables) → ⊥) → TablesCut version fault a c first → FailsAt language IsKind fault (at []) (point a first) c
    tables_fail_at fault {a} {c} unended t =
        fails_at IsKind fault c (tables_took t.read) (none_fails_at language IsKind (λ line. Unit {0}) fault (at t.tables) t.rest c t.next (each t.tables) (unended t.tables) (λ line leads. tt) t.cut)

    pub tables_stop_at : {tables : List Table} {line : List ℕ} {a c : Option (List ℕ)} {first last : ℕ} (number : ℕ) → TablesTold version tables line a c first last → (LeadsOn language (at tables) line → ⊥) → number ≡ last
        → FailsAt language IsKind (faults.Malformed number) (at []) (point a first) c
    tables_stop_at {tables} {line} {a} {c} {first} {last} number t other here =
        fails_at IsKind (faults.Malformed number) c (tables_took t.read) (line_refused_at language IsKind (at tables) line t.rest c t.next last number (t.other.taken, t.other.number, t.other.alone) (each tables) other here)
