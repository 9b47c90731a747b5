-- How keys and cells are stored in a code, from which a model over them gets its own.
use Rattle.std.specs.Prelude.{◌≡◌, ℕ, ℤ, ◌⊎◌, List, refl}
use Rattle.std.proofs.Common.{inl, inr}
use Rattle.std.specs.Coded.{Coded, code_by, coded×, coded⊎, coded_ℕ, coded_ℤ, coded_list}
use Rattle.occ_types.specs.Key.{Key, Num, Text as KeyText, Pair}
use Rattle.occ_types.specs.KeyPart as parts
use Rattle.occ_types.specs.KeyPart.{KeyPart}
use Rattle.occ_types.specs.Row.{Cell, Int, Text as CellText}

abbrev part_value : KeyPart → ℕ ⊎ List ℕ
part_value (parts.Num n) = inl n
part_value (parts.Text t) = inr t

abbrev part_whole : ℕ ⊎ List ℕ → KeyPart
part_whole (inl n) = parts.Num n
part_whole (inr t) = parts.Text t

pub part_whole-value : (p : KeyPart) → part_whole (part_value p) ≡ p
part_whole-value (parts.Num n) = refl
part_whole-value (parts.Text t) = refl

-- a part of a key is stored as its number or its bytes
abbrev pub part_code : Coded KeyPart
part_code = code_by (ℕ ⊎ List ℕ) (coded⊎ coded_ℕ (coded_list coded_ℕ)) part_value part_whole part_whole-value

abbrev key_value : Key → ℕ ⊎ (List ℕ ⊎ (KeyPart × KeyPart))
key_value (Num n) = inl n
key_value (KeyText t) = inr (inl t)
key_value (Pair a b) = inr (inr (a, b))

abbrev key_whole : ℕ ⊎ (List ℕ ⊎ (KeyPart × KeyPart)) → Key
key_whole (inl n) = Num n
key_whole (inr (inl t)) = KeyText t
key_whole (inr (inr pair)) = Pair pair.0 pair.1

pub key_whole-value : (k : Key) → key_whole (key_value k) ≡ k
key_whole-value (Num n) = refl
key_whole-value (KeyText t) = refl
key_whole-value (Pair a b) = refl

-- a key is stored as its number, its bytes or its parts
abbrev pub key_code : Coded Key
key_code = code_by (ℕ ⊎ (List ℕ ⊎ (KeyPart × KeyPart))) (coded⊎ coded_ℕ (coded⊎ (coded_list coded_ℕ) (coded× part_code part_code))) key_value key_whole key_whole-value

abbrev cell_parts : Cell → ℤ ⊎ List ℕ
cell_parts (Int z) = inl z
cell_parts (CellText t) = inr t

abbrev cell_whole : ℤ ⊎ List ℕ → Cell
cell_whole (inl z) = Int z
cell_whole (inr t) = CellText t

pub cell_whole-parts : (c : Cell) → cell_whole (cell_parts c) ≡ c
cell_whole-parts (Int z) = refl
cell_whole-parts (CellText t) = refl

-- a cell is stored as its number or its bytes
abbrev pub cell_code : Coded Cell
cell_code = code_by (ℤ ⊎ List ℕ) (coded⊎ coded_ℤ (coded_list coded_ℕ)) cell_parts cell_whole cell_whole-parts
