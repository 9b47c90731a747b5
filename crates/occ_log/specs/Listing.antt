-- What clauses see of the places that are kept of each session's rows.
use Rattle.std.specs.Prelude.{◌≡◌, ℕ, zero, suc, Bool, false, nat_lt, List, [], map, length, get_or, Vec, vec_len, vec_capacity}

-- the places of a session's rows, and whether one more of them takes no memory
pub record Listed : Type 0 where
  pub places : List ℕ
  pub free : Bool

-- what is kept of no session
abbrev pub unlisted : Listed
unlisted = record { places = []; free = false }

-- what is kept of a session, in a list that has them in order, from 1 on
abbrev pub listed_at : List Listed → ℕ → Listed
listed_at lists zero = unlisted
listed_at lists (suc place) = get_or lists place unlisted

-- so many sessions, of which no place is kept
pub record IsNew (count : ℕ) (lists : List Listed) : Type 0 where
  pub sessions : length lists ≡ count
  pub none : (session : ℕ) → (listed_at lists session).places ≡ []

module _ {Z : Type 0} where
  -- a vector has room for one more
  abbrev pub has_room : {X : Type 0} → Vec X Z → Bool
  has_room items = nat_lt (vec_len items) (vec_capacity items)

  abbrev pub listed_of : Vec ℕ Z → Listed
  listed_of places = record { places = places.items; free = has_room places }

  abbrev pub all_listed : List (Vec ℕ Z) → List Listed
  all_listed = map listed_of
