-- Copies of tables.
use Rattle.std.proofs.Common.{◌≡◌, List, [], ◌∷◌, refl, ap, BTreeMap}
use Rattle.occ_book.proofs.Common.{entries_from_clone, IsClone, AllZip, Key, Row, content_of}
use Rattle.occ_types.specs.declared.keys.Key as code_key

module _ {Z : Type 0} where
  -- a copy of a map has its entries
  pub same_entries : (m n : BTreeMap (code_key.Key Z) Row) → IsClone (λ a b. b ≡ a) (λ a b. b ≡ a) m n → n.entries ≡ m.entries
  same_entries m n are = entries_from_clone (λ a b. b ≡ a) (λ a b. b ≡ a) (λ x y e. e) (λ v w e. e) m.entries n.entries are

-- copies of the tables hold the same
same_tables : (tables copies : List (List (Key × Row))) → AllZip (λ a b. b ≡ a) tables copies → copies ≡ tables
same_tables [] [] are = refl
same_tables [] (n ∷ ns) are = absurd are
same_tables (m ∷ ms) [] are = absurd are
same_tables (m ∷ ms) (n ∷ ns) are = λ i. are.0 i ∷ same_tables ms ns are.1 i

pub content-cloned : (tables copies : List (List (Key × Row))) → AllZip (λ a b. b ≡ a) tables copies → content_of copies ≡ content_of tables
content-cloned tables copies are = ap content_of (same_tables tables copies are)
