-- What a transaction asks of the table: one key, or a half-open range of one table (our own choice).
use Rattle.std.specs.Prelude.{◌≡◌, ℕ, Bool, true, ◌&&◌, not, ◌==◌, Option, None, Some, IfSome}
use Rattle.std.specs.declared.cmp.Ordering.TheVariants.{Less}
use Rattle.std.specs.Ordering.{is_eq, is_le}
use Rattle.occ_types.specs.Key.{Key, key_cmp}
use Rattle.occ_types.specs.Object.{Object, object_cmp}

pub data Question : Type 0 where
  -- the row of one key of a table
  One : ℕ → Key → Question
  -- the rows of a table from the lower end on and below the upper end; either end may be missing
  Span : ℕ → Option Key → Option Key → Question

-- what a range is: the keys from its lower end on, and below its upper end
pub record InRange (lower upper : Option Key) (key : Key) : Type 0 where
  pub from : IfSome lower (λ end. is_le (key_cmp end key) ≡ true)
  pub below : IfSome upper (λ end. key_cmp key end ≡ Less)

-- the tests of the two ends
abbrev pub is_from : Option Key → Key → Bool
is_from None key = true
is_from (Some end) key = is_le (key_cmp end key)

abbrev pub is_below : Option Key → Key → Bool
is_below None key = true
is_below (Some end) key = not (is_le (key_cmp end key))

-- whether a question asks for an object
unfoldable pub asks : Question → Object → Bool
asks (One table key) object = is_eq (object_cmp (table, key) object)
asks (Span table lower upper) object =
    (object.0 == table) && (is_from lower object.1 && is_below upper object.1)
