-- The bytes of a decimal, one after another (our own choice).
use Rattle.std.specs.Prelude.{ℕ, ◌+◌, ◌-◌, ◌*◌, ◌^◌, ◌==◌, ◌&&◌, ◌||◌, not, nat_lt, if◌then◌else◌, Bool, List, length, Option, None, Some}
use Rattle.std.specs.Char.{is_ascii_digit}
use Rattle.occ_text.specs.Reading.{begins_with}

-- the bytes may be a decimal by the first one: `0` stands alone
abbrev pub begins_decimal : List ℕ → Bool
begins_decimal token = nat_lt 0 (length token) && (not (begins_with token 48) || (length token == 1))

-- a number with one more digit behind it, where the byte is one and the number fits 64 bits
abbrev pub with_digit : ℕ → ℕ → Option ℕ
with_digit number byte = if is_ascii_digit byte && nat_lt (number * 10 + (byte - 48)) (2 ^ 64) then Some (number * 10 + (byte - 48)) else None
