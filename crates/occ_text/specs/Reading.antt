-- What is read of a token, and when a reader is right.
use Rattle.std.specs.Prelude.{◌≡◌, ◌^◌, ◌-◌, ◌==◌, ◌&&◌, ◌||◌, not, ℕ, zero, suc, ℤ, pos, negsuc, Bool, false, List, [], ◌∷◌, Option, Some, None, IfSome, nat_le, nat_lt, if◌then◌else◌, option_map, option_and_then, length, drop}
use Rattle.std.specs.List.{slice_split, list_all}
use Rattle.std.specs.Char.{is_ascii_digit, is_ascii_graphic, is_ascii_lowercase}
use Rattle.std.specs.Str.Parse.{digits_value}

-- a reader is right: what it reads is spelled so and fits, and what fits and is spelled so is read again
pub record Reads {X : Type 0} (spell : X → List ℕ) (fits : X → Type 0) (token : List ℕ) (read : Option X) : Type 0 where
  pub found : IfSome read (λ x. (token ≡ spell x) × fits x)
  pub again : (x : X) → fits x → token ≡ spell x → read ≡ Some x

-- what is read first, and then the rest
infixl 10 ◌>>=◌
abbrev pub ◌>>=◌ : {X Y : Type 0} → Option X → (X → Option Y) → Option Y
read >>= rest = option_and_then rest read

-- at least one byte, and only bytes 33 to 126
unfoldable pub is_token : List ℕ → Bool
is_token token = nat_lt 0 (length token) && list_all is_ascii_graphic token

-- the tokens of a line
unfoldable pub tokens_of : List ℕ → Option (List (List ℕ))
tokens_of line = if list_all is_token (slice_split (λ byte. byte == 32) line) then Some (slice_split (λ byte. byte == 32) line) else None

-- the first byte is this one
abbrev pub begins_with : List ℕ → ℕ → Bool
begins_with [] byte = false
begins_with (c ∷ cs) byte = c == byte

-- `0`, or digits that don't begin with it
unfoldable pub is_decimal : List ℕ → Bool
is_decimal token = nat_lt 0 (length token) && list_all is_ascii_digit token && (not (begins_with token 48) || (length token == 1))

-- a number of 64 bits
unfoldable pub decimal_of : List ℕ → Option ℕ
decimal_of token = if is_decimal token && nat_lt (digits_value 10 token) (2 ^ 64) then Some (digits_value 10 token) else None

abbrev pub at_most : ℕ → ℕ → Option ℕ
at_most limit n = if nat_le n limit then Some n else None

-- a number up to a limit
unfoldable pub number_of : ℕ → List ℕ → Option ℕ
number_of limit token = option_and_then (at_most limit) (decimal_of token)

-- minus a number other than 0
abbrev pub negated : ℕ → Option ℤ
negated zero = None
negated (suc n) = Some (negsuc n)

-- a whole number of 64 bits
unfoldable pub int_of : List ℕ → Option ℤ
int_of token = if begins_with token 45 then option_and_then negated (number_of (2 ^ 63) (drop 1 token)) else option_map pos (number_of (2 ^ 63 - 1) token)

-- 1 to 16 letters a to z
unfoldable pub is_name : List ℕ → Bool
is_name token = nat_lt 0 (length token) && nat_le (length token) 16 && list_all is_ascii_lowercase token

-- a name, which is its own spelling
unfoldable pub name_of : List ℕ → Option (List ℕ)
name_of token = if is_name token then Some token else None
