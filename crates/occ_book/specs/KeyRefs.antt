-- What clauses see of a key that is lent: the plain key.
use Rattle.occ_types.specs.Key.{Key, Num}
use Rattle.occ_types.specs.PlainData.{key_of}
use Rattle.occ_book.specs.declared.key_refs.KeyRef as code
use Rattle.occ_book.specs.declared.key_refs.KeyRef.TheVariants as refs

module _ {Z : Type 0} where
  abbrev pub key_lent : code.KeyRef Z → Key
  key_lent (refs.Num number) = Num number
  key_lent (refs.Other key) = key_of key.now
