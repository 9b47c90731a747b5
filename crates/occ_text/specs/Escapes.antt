-- Reading texts with escapes, keys, cells and rows.
use Rattle.std.specs.Prelude.{◌≡◌, ◌+◌, ◌-◌, ◌*◌, ◌^◌, ◌==◌, ◌&&◌, ℕ, Bool, true, false, List, [], ◌∷◌, Option, Some, None, Result, Ok, Err, nat_le, if◌then◌else◌, option_map, option_and_then, drop, codes}
use Rattle.std.specs.List.{slice_split}
use Rattle.std.specs.Str.{is_utf8, bytes_eq}
use Rattle.occ_types.specs.Key.{Key}
use Rattle.occ_types.specs.Key as keys
use Rattle.occ_types.specs.KeyPart.{KeyPart}
use Rattle.occ_types.specs.KeyPart as parts
use Rattle.occ_types.specs.Row.{Cell, Row}
use Rattle.occ_types.specs.Row as rows
use Rattle.occ_text.specs.declared.tokens.Unread.{Unread}
use Rattle.occ_text.specs.declared.tokens.Unread.TheVariants.{Malformed, Memory}
use Rattle.occ_text.specs.declared.versions.Version.{Version}
use Rattle.occ_text.specs.declared.versions.Version.TheVariants.{One, Two}
use Rattle.occ_types.specs.Spelling.{is_plain}
use Rattle.occ_text.specs.Reading.{begins_with, number_of, int_of}

-- what a call gave, seen by view, is what reading gives, unless memory was refused
abbrev pub Gives : {X Y : Type 0} → (X → Y) → Result X Unread → Option Y → Type 0
Gives view (Ok x) read = read ≡ Some (view x)
Gives view (Err Malformed) read = read ≡ None
Gives view (Err Memory) read = Unit {0}

-- the value of a lower-case hexadecimal digit
abbrev pub hex_value : ℕ → Option ℕ
hex_value c = if nat_le 48 c && nat_le c 57 then Some (c - 48) else (if nat_le 97 c && nat_le c 102 then Some (c - 87) else None)

-- a byte that doesn't stand for itself
abbrev pub unless_plain : ℕ → Option ℕ
unless_plain byte = if is_plain byte then None else Some byte

-- the byte of two digits
unfoldable pub escape_of : ℕ → ℕ → Option ℕ
escape_of high low = option_and_then (λ h. option_and_then (λ l. unless_plain (16 * h + l)) (hex_value low)) (hex_value high)

-- one more byte before the others
abbrev pub before : ℕ → Option (List ℕ) → Option (List ℕ)
before byte bytes = option_map (λ l. byte ∷ l) bytes

-- a byte with what stands behind its spelling
abbrev pub with_rest : List ℕ → Option ℕ → Option (ℕ × List ℕ)
with_rest rest byte = option_map (λ b. (b, rest)) byte

-- the first byte of an escaped text
unfoldable pub front_of : List ℕ → Option (ℕ × List ℕ)
front_of [] = None
front_of (a ∷ []) = if is_plain a then Some (a, []) else None
front_of (a ∷ b ∷ []) = if is_plain a then Some (a, b ∷ []) else None
front_of (a ∷ b ∷ c ∷ cs) = if is_plain a then Some (a, b ∷ c ∷ cs) else (if a == 37 then with_rest cs (escape_of b c) else None)

-- the bytes of an escaped text
unfoldable pub unescaped : List ℕ → Option (List ℕ)
unescaped [] = Some []
unescaped (a ∷ []) = if is_plain a then Some (a ∷ []) else None
unescaped (a ∷ b ∷ []) = if is_plain a then before a (unescaped (b ∷ [])) else None
unescaped (a ∷ b ∷ c ∷ cs) = if is_plain a then before a (unescaped (b ∷ c ∷ cs))
    else (if a == 37 then option_and_then (λ byte. before byte (unescaped cs)) (escape_of b c) else None)

abbrev pub if_text : List ℕ → Option (List ℕ)
if_text bytes = if is_utf8 bytes then Some bytes else None

-- the bytes of a text
unfoldable pub text_of : List ℕ → Option (List ℕ)
text_of token = if begins_with token 39 then option_and_then if_text (unescaped (drop 1 token)) else None

-- one part of a key of two parts
unfoldable pub read_part : List ℕ → Option KeyPart
read_part token = if begins_with token 39 then option_map parts.Text (text_of token) else option_map parts.Num (number_of (2 ^ 64 - 1) token)

-- the key that is this part alone
abbrev pub key_of_part : KeyPart → Key
key_of_part (parts.Num n) = keys.Num n
key_of_part (parts.Text bytes) = keys.Text bytes

-- a key that is no pair
unfoldable pub simple_key : List ℕ → Option Key
simple_key token = option_map key_of_part (read_part token)

-- a key of two parts
unfoldable pub pair_key : List ℕ → List ℕ → Option Key
pair_key first second = option_and_then (λ a. option_map (λ b. keys.Pair a b) (read_part second)) (read_part first)

-- the key of what stands between the signs: one part, or two
unfoldable pub key_of_parts : List (List ℕ) → Option Key
key_of_parts [] = None
key_of_parts (first ∷ []) = simple_key first
key_of_parts (first ∷ second ∷ []) = pair_key first second
key_of_parts (first ∷ second ∷ other ∷ more) = None

-- a key: in version 1 no pair is read
unfoldable pub read_key : Version → List ℕ → Option Key
read_key One token = simple_key token
read_key Two token = key_of_parts (slice_split (λ byte. byte == 43) token)

-- what is read of one part takes memory: a text does, a number doesn't (our own choice)
abbrev pub part_takes : List ℕ → Bool
part_takes token = begins_with token 39

-- what is read of so many parts takes memory: two parts do, and more are no key
abbrev pub parts_take : List (List ℕ) → Bool
parts_take [] = false
parts_take (first ∷ []) = part_takes first
parts_take (first ∷ second ∷ []) = true
parts_take (first ∷ second ∷ other ∷ more) = false

-- what is read of a key takes memory
unfoldable pub key_takes : Version → List ℕ → Bool
key_takes One token = part_takes token
key_takes Two token = parts_take (slice_split (λ byte. byte == 43) token)

-- an end that a range lacks, which version 1 can't say
abbrev pub is_missing : Version → List ℕ → Bool
is_missing One token = false
is_missing Two token = bytes_eq token (codes "*")

-- an end of a range
unfoldable pub read_end : Version → List ℕ → Option (Option Key)
read_end version token = if is_missing version token then Some None else option_map Some (read_key version token)

-- a cell
unfoldable pub read_cell : List ℕ → Option Cell
read_cell token = if begins_with token 39 then option_map rows.Text (text_of token) else option_map rows.Int (int_of token)

-- cells, one for each part
abbrev pub read_cells : List (List ℕ) → Option Row
read_cells [] = Some []
read_cells (part ∷ parts) = option_and_then (λ cell. option_map (λ cells. cell ∷ cells) (read_cells parts)) (read_cell part)

-- a row
unfoldable pub read_row : List ℕ → Option Row
read_row token = read_cells (slice_split (λ byte. byte == 44) token)
