-- What clauses see of the code's types: the plain data of the other files.
use Rattle.std.specs.Prelude.{◌≡◌, ℕ, List, [], ◌∷◌, map, Option, None, Some, refl}
use Rattle.std.proofs.Common.{ap}
use Rattle.std.specs.Borrow.{Bor}
use Rattle.std.specs.Option.{option_map}
use Rattle.occ_types.specs.declared.cells.Cell as code_cell
use Rattle.occ_types.specs.declared.cells.Cell.TheVariants as cells
use Rattle.occ_types.specs.declared.cells.CellRef as code_cell_ref
use Rattle.occ_types.specs.declared.cells.CellRef.TheVariants as lent
use Rattle.occ_types.specs.declared.key_parts.KeyPart as code_part
use Rattle.occ_types.specs.declared.key_parts.KeyPart.TheVariants as code_parts
use Rattle.occ_types.specs.declared.keys.Key as code_key
use Rattle.occ_types.specs.declared.keys.Key.TheVariants as keys
use Rattle.occ_types.specs.declared.kind.KeyKind.{KeyKind}
use Rattle.occ_types.specs.declared.kind.Kind.{Kind}
use Rattle.occ_types.specs.declared.objects.Object as code_object
use Rattle.occ_types.specs.declared.questions.Question as code_question
use Rattle.occ_types.specs.declared.rows.Cells as code_cells
use Rattle.occ_types.specs.declared.rows.Cells.TheVariants as kept
use Rattle.occ_types.specs.declared.questions.Question.TheVariants as questions
use Rattle.occ_types.specs.declared.tables.TableDef as code_table
use Rattle.occ_types.specs.Key.{Key, Num, Text as KeyText, Pair}
use Rattle.occ_types.specs.KeyPart as parts
use Rattle.occ_types.specs.KeyPart.{KeyPart}
use Rattle.occ_types.specs.Row.{Cell, Int, Text as CellText, Row}
use Rattle.occ_types.specs.Object.{Object}
use Rattle.occ_types.specs.Question.{Question, One, Span}
use Rattle.occ_types.specs.Schema.{Table, Schema}

-- the place of the table that a question asks
abbrev pub table_asked : Question → ℕ
table_asked (One table key) = table
table_asked (Span table lower upper) = table

-- the table of a name, the kind of its keys and the kinds of its columns
abbrev pub named_table : Bor (List ℕ) × KeyKind × Bor (List Kind) → Table
named_table t = record { name = t.0.now; key = t.1; columns = t.2.now }

module _ {Z : Type 0} where
  -- the plain cell
  abbrev pub cell_of : code_cell.Cell Z → Cell
  cell_of (cells.Int z) = Int z
  cell_of (cells.Text t) = CellText t

  -- the plain cell that a row lends
  abbrev pub cell_lent : code_cell_ref.CellRef Z → Cell
  cell_lent (lent.Int z) = Int z
  cell_lent (lent.Text t) = CellText t.now

  -- the plain part of a key
  abbrev pub part_of : code_part.KeyPart Z → KeyPart
  part_of (code_parts.Num n) = parts.Num n
  part_of (code_parts.Text t) = parts.Text t

  -- the plain parts of a key of two parts
  abbrev pub both_parts : List (code_part.KeyPart Z) → KeyPart × KeyPart
  both_parts [] = (parts.Num 0, parts.Num 0)
  both_parts (first ∷ []) = (part_of first, parts.Num 0)
  both_parts (first ∷ second ∷ _) = (part_of first, part_of second)

  -- the plain key
  abbrev pub key_of : code_key.Key Z → Key
  key_of (keys.Num n) = Num n
  key_of (keys.Text t) = KeyText t
  key_of (keys.Pair p) = Pair p.0 p.1

  -- the plain object
  abbrev pub object_of : code_object.Object Z → Object
  object_of o = (o.table, key_of o.key)

  -- the plain cells, in their order
  abbrev pub row_of : List (code_cell.Cell Z) → Row
  row_of = map cell_of

  -- the plain cells that a row keeps
  abbrev pub row_in : code_cells.Cells Z → Row
  row_in (kept.Int z) = Int z ∷ []
  row_in (kept.Text t) = CellText t ∷ []
  row_in (kept.List cells) = row_of cells.value.items

  -- the plain end of a range
  abbrev pub end_of : Option (code_key.Key Z) → Option Key
  end_of = option_map key_of

  -- the plain question
  abbrev pub question_of : code_question.Question Z → Question
  question_of (questions.One object) = One object.table (key_of object.key)
  question_of (questions.Span table lower upper) = Span table (end_of lower) (end_of upper)

  -- the plain table
  abbrev pub table_of : code_table.TableDef Z → Table
  table_of t = record { name = t.name; key = t.key; columns = t.columns.items }

  -- the plain tables, in their order
  abbrev pub tables_of : List (code_table.TableDef Z) → Schema
  tables_of = map table_of

  -- cells that are seen alike are equal
  pub cell_of-injective : (a b : code_cell.Cell Z) → cell_of a ≡ cell_of b → a ≡ b
  cell_of-injective (cells.Int y) (cells.Int z) e = cc
  cell_of-injective (cells.Int y) (cells.Text t) e = cc
  cell_of-injective (cells.Text s) (cells.Int z) e = cc
  cell_of-injective (cells.Text s) (cells.Text t) e = cc

  -- keys that are seen alike are equal
  pub key_of-injective : (a b : code_key.Key Z) → key_of a ≡ key_of b → a ≡ b
  key_of-injective (keys.Pair p) (keys.Pair q) e =
      let first : p.0 ≡ q.0 = cc in
      let second : p.1 ≡ q.1 = cc in
      λ i. keys.Pair (first i, second i)
  key_of-injective (keys.Num m) (keys.Num n) e = cc
  key_of-injective (keys.Num m) (keys.Text t) e = cc
  key_of-injective (keys.Num m) (keys.Pair q) e = cc
  key_of-injective (keys.Text s) (keys.Num n) e = cc
  key_of-injective (keys.Text s) (keys.Text t) e = cc
  key_of-injective (keys.Text s) (keys.Pair q) e = cc
  key_of-injective (keys.Pair p) (keys.Num n) e = cc
  key_of-injective (keys.Pair p) (keys.Text t) e = cc

  -- objects that are seen alike are equal
  pub object_of-injective : (a b : code_object.Object Z) → object_of a ≡ object_of b → a ≡ b
  object_of-injective a b e =
      let key = key_of-injective a.key b.key (ap (λ o. o.1) e) in
      λ i. record { table = (e i).0; key = key i }

  -- ends of ranges that are seen alike are equal
  pub end_of-injective : (a b : Option (code_key.Key Z)) → end_of a ≡ end_of b → a ≡ b
  end_of-injective None None e = refl
  end_of-injective None (Some l) e = cc
  end_of-injective (Some k) None e = cc
  end_of-injective (Some k) (Some l) e = ap Some (key_of-injective k l (cc))

  -- questions that are seen alike are equal
  pub question_of-injective : (a b : code_question.Question Z) → question_of a ≡ question_of b → a ≡ b
  question_of-injective (questions.One o) (questions.One p) e =
      let table : o.table ≡ p.table = cc in
      let key : key_of o.key ≡ key_of p.key = cc in
      ap questions.One (object_of-injective o p (λ i. (table i, key i)))
  question_of-injective (questions.One o) (questions.Span u c d) e = cc
  question_of-injective (questions.Span t a b) (questions.One p) e = cc
  question_of-injective (questions.Span t a b) (questions.Span u c d) e =
      let table : t ≡ u = cc in
      let lower = end_of-injective a c (cc) in
      let upper = end_of-injective b d (cc) in
      λ i. questions.Span (table i) (lower i) (upper i)

  -- lists of cells that are seen alike are equal
  pub row_of-injective : (a b : List (code_cell.Cell Z)) → row_of a ≡ row_of b → a ≡ b
  row_of-injective [] [] e = refl
  row_of-injective [] (y ∷ ys) e = cc
  row_of-injective (x ∷ xs) [] e = cc
  row_of-injective (x ∷ xs) (y ∷ ys) e =
      let first = cell_of-injective x y (cc) in
      let rest = row_of-injective xs ys (cc) in
      λ i. first i ∷ rest i
