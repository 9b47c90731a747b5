-- The next key in the order of all keys.
use Rattle.std.specs.Prelude.{◌≡◌, ◌+◌, ◌-◌, ◌^◌, Bool, true, nat_lt, ◌&&◌, if◌then◌else◌, [], ◌∷◌, ◌++◌}
use Rattle.std.specs.Ordering.{is_lt, is_le}
use Rattle.occ_types.specs.Key.{Key, Num, Text as KeyText, Pair, key_cmp}
use Rattle.occ_types.specs.KeyPart as parts
use Rattle.occ_types.specs.KeyPart.{KeyPart}

-- the next part: the next number, the empty text behind the last one of 64 bits, and a text with a byte 0 at its end
abbrev pub part_after : KeyPart → KeyPart
part_after (parts.Num n) = if nat_lt n (2 ^ 64 - 1) then parts.Num (n + 1) else parts.Text []
part_after (parts.Text t) = parts.Text (t ++ 0 ∷ [])

-- the next key: as the next part, and of two parts the second one is taken further
abbrev pub key_after : Key → Key
key_after (Num n) = if nat_lt n (2 ^ 64 - 1) then Num (n + 1) else KeyText []
key_after (KeyText t) = KeyText (t ++ 0 ∷ [])
key_after (Pair a b) = Pair a (part_after b)

-- whether a part is no number, or one of 64 bits
abbrev pub part_has_64_bits : KeyPart → Bool
part_has_64_bits (parts.Num n) = nat_lt n (2 ^ 64)
part_has_64_bits (parts.Text t) = true

-- whether each number of a key has 64 bits, as in every key of a program
abbrev pub has_64_bits : Key → Bool
has_64_bits (Num n) = nat_lt n (2 ^ 64)
has_64_bits (KeyText t) = true
has_64_bits (Pair a b) = part_has_64_bits a && part_has_64_bits b

-- the keys behind a key are those from the next one on, so that none lies between the two
abbrev pub NoKeyBetween : Type 0
NoKeyBetween = (key other : Key) → has_64_bits other ≡ true → is_le (key_cmp (key_after key) other) ≡ is_lt (key_cmp key other)
