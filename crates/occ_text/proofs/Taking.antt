-- Taking the lines of a header.
use Rattle.std.proofs.Common.{◌≡◌, ℕ, ◌+◌, ◌<◌, Bool, true, false, List, [], ◌∷◌, ◌++◌, length, map, Option, Some, None, Result, Ok, Err, refl, sym, ap, subst, ◌∙◌, arith}
use Rattle.std.specs.Prelude.{IfErr, ok_or, option_and_then}
use Rattle.std.specs.List.{list_any}
use Rattle.std.specs.Result.{IsErrAnd}
use Rattle.std.specs.Io.KnownBytes.{Consumes}
use Rattle.std.proofs.KnownBytes.{Consumes-trans}
use Rattle.std.proofs.lemmas.Bool.{lt-ltb}
use Rattle.std.proofs.lemmas.List.{append-nil, length-map}
use Rattle.std.proofs.lemmas.Grind.{flat_map-append}
use Rattle.occ_types.proofs.Walks.{list_any-map}
use Rattle.occ_types.specs.Schema.{Table, has_name}
use Rattle.occ_text.specs.declared.tokens.Unread.{Unread}
use Rattle.occ_text.specs.declared.faults.LineFault.{LineFault}
use Rattle.occ_text.specs.declared.faults.LineFault.TheVariants as line_faults
use Rattle.occ_text.specs.declared.faults.ReadFault.{ReadFault}
use Rattle.occ_text.specs.declared.faults.ReadFault.TheVariants as faults
use Rattle.occ_text.specs.declared.versions.Version.{Version}
use Rattle.occ_text.specs.Reading.{Reads}
use Rattle.occ_text.specs.HeaderReading.{table_of_line, line_heads_table, UnlessMalformed, TakesTable}
use Rattle.occ_text.specs.Faults.{read_fault, widened}
use Rattle.occ_text.specs.Line.{IsLine, CannotStand, AtEnd, NoLine, OtherLine, NoneTaken, Taken, lines_text}
use Rattle.occ_text.specs.HeaderTaking.{if_free, table_behind}

-- what is no line of a kind is none of a narrower kind
CannotStand-narrower : (P Q : List ℕ → Type 0) (rest : Option (List ℕ)) → ((line : List ℕ) → Q line → P line) → CannotStand P rest → CannotStand Q rest
CannotStand-narrower P Q rest h (AtEnd ended) = AtEnd ended
CannotStand-narrower P Q rest h (NoLine none) = NoLine none
CannotStand-narrower P Q rest h (OtherLine line after taken alone other) = OtherLine line after taken alone (λ q. other (h line q))

pub NoneTaken-narrower : (P Q : List ℕ → Type 0) (fault : ReadFault) (a b : Option (List ℕ)) (taken : ℕ) → ((line : List ℕ) → Q line → P line) → NoneTaken P fault a b taken → NoneTaken Q fault a b taken
NoneTaken-narrower P Q (faults.Malformed n) a b taken h t = (CannotStand-narrower P Q a h t.0, t.1)
NoneTaken-narrower P Q faults.Read a b taken h t = t
NoneTaken-narrower P Q faults.TooManyLines a b taken h t = t
NoneTaken-narrower P Q faults.Memory a b taken h t = tt

-- a line that was taken is shown by the input, and numbered
pub record ShownLine (shown : List ℕ) (a b : Option (List ℕ)) (n first last : ℕ) : Type 0 where
  pub line : List ℕ
  pub taken : Consumes a b (line ++ 10 ∷ []) × (last ≡ first + 1) × IsLine line
  pub same : shown ≡ line
  pub here : n ≡ last

-- a line is read, or it can't stand
pub line_found : {Y : Type 0} (spell : Y → List ℕ) (fits : Y → Type 0) (read : Option Y) (result : Result Y LineFault) (shown : List ℕ) (a b : Option (List ℕ)) (n first last : ℕ)
    → ShownLine shown a b n first last → Reads spell fits shown read → result ≡ ok_or read (line_faults.Malformed n) → Taken (λ y. y) spell fits (widened result) a b first last
line_found {Y} spell fits (Some y) result shown a b n first last line reads is =
    subst (λ (r : Result Y LineFault). Taken (λ y. y) spell fits (widened r) a b first last) (sym is)
    (subst (λ (l : List ℕ). Consumes a b (l ++ 10 ∷ [])) (sym line.same ∙ reads.found.0) line.taken.0, reads.found.1, line.taken.1)
line_found {Y} spell fits None result shown a b n first last line reads is =
    subst (λ (r : Result Y LineFault). Taken (λ y. y) spell fits (widened r) a b first last) (sym is)
    (OtherLine line.line b line.taken.0 line.taken.2 (λ p. let e = reads.again p.0 p.1 (line.same ∙ p.2) in cc e), line.here ∙ line.taken.1)

-- ---- the table of a line behind others

pub behind_read : {X : Type 0} (version : Version) (view : X → Table) (tables : List X) (line name : List ℕ) (table : Table) (taken : Bool) → table_of_line version line ≡ Some table → length tables < 32 → name ≡ table.name
    → taken ≡ list_any (λ t. has_name name (view t)) tables → taken ≡ false → table_behind version (map view tables) line ≡ Some table
unfolding table_behind
behind_read version view tables line name table taken read few called is free =
    let none : list_any (has_name table.name) (map view tables) ≡ false =
    list_any-map (has_name table.name) view tables ∙ ap (λ (n : List ℕ). list_any (λ t. has_name n (view t)) tables) (sym called) ∙ sym is ∙ free in
    let n = length-map tables view in
    ap (option_and_then (if_free (map view tables))) read ∙ rw (none, lt-ltb (length (map view tables)) 32 (omega arith)) refl

pub behind_taken : {X : Type 0} (version : Version) (view : X → Table) (tables : List X) (line name : List ℕ) (table : Table) (taken : Bool) → table_of_line version line ≡ Some table → length tables < 32 → name ≡ table.name
    → taken ≡ list_any (λ t. has_name name (view t)) tables → taken ≡ true → table_behind version (map view tables) line ≡ None
unfolding table_behind
behind_taken version view tables line name table taken read few called is clash =
    let some : list_any (has_name table.name) (map view tables) ≡ true =
    list_any-map (has_name table.name) view tables ∙ ap (λ (n : List ℕ). list_any (λ t. has_name n (view t)) tables) (sym called) ∙ sym is ∙ clash in
    let n = length-map tables view in
    ap (option_and_then (if_free (map view tables))) read ∙ rw (some, lt-ltb (length (map view tables)) 32 (omega arith)) refl

-- ---- what takes memory

-- a line that wasn't taken takes none
pub none_takes : {X : Type 0} (is_table : X → Bool) (test : Bool) (fault : LineFault) (result : Result X ReadFault) → IsErrAnd result (λ e. e ≡ read_fault fault) → TakesTable is_table test result
none_takes is_table test fault (Ok x) is = elim is [ ]
none_takes is_table test line_faults.Read (Err e) is = subst (λ (f : ReadFault). TakesTable is_table test (Err f)) (sym is) tt
none_takes is_table test line_faults.TooManyLines (Err e) is = subst (λ (f : ReadFault). TakesTable is_table test (Err f)) (sym is) tt
none_takes is_table test (line_faults.Malformed n) (Err e) is = subst (λ (f : ReadFault). TakesTable is_table test (Err f)) (sym is) tt

-- a line is as the one that is shown
pub heads_here : {Y : Type 0} (version : Version) (shown line : List ℕ) (read : Result Y Unread) → shown ≡ line → UnlessMalformed (line_heads_table version shown) read → UnlessMalformed (line_heads_table version line) read
heads_here version shown line read same heads = subst (λ (l : List ℕ). UnlessMalformed (line_heads_table version l) read) same heads

-- a fault that is handed on is one of memory where it was
pub memory_takes : {X Y : Type 0} (is_table : X → Bool) (test : Bool) (fault : ReadFault) (result : Result Y ReadFault) → IsErrAnd result (λ e. e ≡ fault) → TakesTable is_table test (Err fault) → IfErr result (λ e. e ≡ faults.Memory → test ≡ true)
memory_takes is_table test fault (Ok y) is heads = tt
memory_takes {X} is_table test fault (Err e) is heads = λ memory. subst (λ (f : ReadFault). TakesTable {X = X} is_table test (Err f)) (sym is ∙ memory) heads

-- ---- lines behind lines

lines_more : (lines : List (List ℕ)) (line : List ℕ) → lines_text (lines ++ line ∷ []) ≡ lines_text lines ++ (line ++ 10 ∷ [])
lines_more lines line = flat_map-append (λ (l : List ℕ). l ++ 10 ∷ []) lines (line ∷ []) ∙ ap (λ (l : List ℕ). lines_text lines ++ l) (append-nil (line ++ 10 ∷ []))

-- one line more was taken
pub taken_more : (lines : List (List ℕ)) (line : List ℕ) (a b c : Option (List ℕ)) → Consumes a b (lines_text lines) → Consumes b c (line ++ 10 ∷ []) → Consumes a c (lines_text (lines ++ line ∷ []))
taken_more lines line a b c p q = subst (Consumes a c) (sym (lines_more lines line)) (Consumes-trans a b c (lines_text lines) (line ++ 10 ∷ []) p q)
