-- What the parts of the search for the first difference of two states answer.
use Rattle.std.specs.Prelude.{◌≡◌, ◌≢◌, ℕ, cond, List, Option, None, Some, MatchOption, IsSomeAnd}
use Rattle.std.specs.declared.cmp.Ordering.TheVariants.{Less}
use Rattle.std.specs.Ordering.{is_lt}
use Rattle.std.specs.FinMap.{get}
use Rattle.occ_types.specs.Key.{Key, key_cmp}
use Rattle.occ_types.specs.Object.{Object, object_cmp}
use Rattle.occ_types.specs.Row.{Row}
use Rattle.occ_book.specs.KeyRefs.{key_lent}
use Rattle.occ_book.specs.Table.{row_under}
use Rattle.occ_book.specs.declared.key_refs.KeyRef as refs
use Rattle.occ_model.specs.State.{State}
use Rattle.occ_audit.specs.Findings.{IsFirstApart}
use Rattle.occ_audit.specs.declared.first_difference.Spot as spots

-- a state has each row of another one
abbrev pub AgreeOn : State → State → Type 0
AgreeOn state other = (p : Object) (row : Row) → get state p ≡ Some row → get other p ≡ Some row

-- a state has each of these rows of a table
abbrev pub AgreeIn : List (Key × Row) → ℕ → State → Type 0
AgreeIn rows table other = (k : Key) (row : Row) → row_under rows k ≡ Some row → get other (table, k) ≡ Some row

module _ {Z : Type 0} where
  -- the plain object of a name
  abbrev pub spot_of : spots.Spot Z → Object
  spot_of spot = (spot.table, key_lent spot.key)

  -- the first of these rows of a table that a state has not
  abbrev pub IsFirstIn : List (Key × Row) → ℕ → State → refs.KeyRef Z → Type 0
  IsFirstIn rows table other key =
      IsSomeAnd (row_under rows (key_lent key)) (λ row. get other (table, key_lent key) ≢ Some row)
      × ((k : Key) (row : Row) → key_cmp k (key_lent key) ≡ Less → row_under rows k ≡ Some row → get other (table, k) ≡ Some row)

  -- the first row of a state that another one has not
  abbrev pub IsFirstOf : State → State → spots.Spot Z → Type 0
  IsFirstOf state other spot =
      IsSomeAnd (get state (spot_of spot)) (λ row. get other (spot_of spot) ≢ Some row)
      × ((p : Object) (row : Row) → object_cmp p (spot_of spot) ≡ Less → get state p ≡ Some row → get other p ≡ Some row)

  -- the earlier of two names, where there is one
  abbrev pub IsEarlier : Option (spots.Spot Z) → Option (spots.Spot Z) → Option (spots.Spot Z) → Type 0
  IsEarlier None other result = result ≡ other
  IsEarlier (Some first) None result = result ≡ Some first
  IsEarlier (Some first) (Some second) result =
      result ≡ Some (cond (is_lt (object_cmp (spot_of second) (spot_of first))) second first)

  -- two states are the same, or this is the first object of which they have different rows
  abbrev pub FirstGives : State → State → Option (spots.Spot Z) → Type 0
  FirstGives one other result = MatchOption result (one ≡ other) (λ spot. IsFirstApart one other (spot_of spot))
