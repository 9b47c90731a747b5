-- The range of the keys of two parts that have the same first part (our own choice).
use Rattle.std.specs.Prelude.{◌≡◌, ℕ, ◌+◌, ◌-◌, ◌^◌, Bool, true, false, not, nat_le, nat_lt, ◌&&◌, if◌then◌else◌, [], ◌∷◌, ◌++◌, length, Option, None, Some, IfSome, slice_get}
use Rattle.occ_types.specs.After.{has_64_bits}
use Rattle.occ_types.specs.Key.{Key, Num, Text as KeyText, Pair}
use Rattle.occ_types.specs.KeyPart as parts
use Rattle.occ_types.specs.KeyPart.{KeyPart}
use Rattle.occ_types.specs.Question.{is_from, is_below}
use Rattle.occ_types.specs.Same.{part_same}
use Rattle.occ_types.specs.Schema.{Table, Schema, fault_if, first_fault, part_has_kind, key_has_kind, in_table, check_range}
use Rattle.occ_types.specs.declared.fault.Fault.{Fault}
use Rattle.occ_types.specs.declared.fault.Fault.TheVariants.{WrongKind, TooLong}
use Rattle.occ_types.specs.declared.kind.KeyKind.{KeyKind}
use Rattle.occ_types.specs.declared.kind.KeyKind.TheVariants as keys
use Rattle.occ_types.specs.declared.kind.PartKind.{PartKind}
use Rattle.occ_types.specs.declared.kind.PartKind.TheVariants as part_kinds
use Rattle.occ_types.specs.declared.limits.TheConstants.{MAX_KEY_BYTES}

-- the least part of a kind
abbrev pub least_part : PartKind → KeyPart
least_part part_kinds.Num = parts.Num 0
least_part part_kinds.Text = parts.Text []

-- the kind of the second parts; any where a key is no pair
abbrev pub second_kind : KeyKind → PartKind
second_kind (keys.Pair first second) = second
second_kind kind = part_kinds.Num

-- whether a part may be the first one of a key
abbrev pub begins_keys : KeyKind → KeyPart → Bool
begins_keys (keys.Pair first second) part = part_has_kind first part
begins_keys kind part = false

-- whether the next part is over the limit: there may be keys behind those that begin with this part, but no end of a range stands between
abbrev pub is_longest : KeyPart → Bool
is_longest (parts.Num n) = false
is_longest (parts.Text t) = nat_le MAX_KEY_BYTES (length t)

-- whether a part has a range of keys in a table
abbrev pub check_prefix_in : Table → KeyPart → Option Fault
check_prefix_in table part = first_fault (
    fault_if (not (begins_keys table.key part)) WrongKind
    ∷ fault_if (is_longest part) TooLong
    ∷ [])

abbrev pub check_prefix : Schema → ℕ → KeyPart → Option Fault
check_prefix schema place part = in_table schema place (λ table. check_prefix_in table part)

-- the lower end: the part with the least second one
abbrev pub prefix_lower : KeyKind → KeyPart → Key
prefix_lower kind part = Pair part (least_part (second_kind kind))

-- the upper end: the next part with the least second one; none behind the last number, where no key of the table is left
abbrev pub prefix_upper : KeyKind → KeyPart → Option Key
prefix_upper kind (parts.Num n) = if nat_lt n (2 ^ 64 - 1) then Some (Pair (parts.Num (n + 1)) (least_part (second_kind kind))) else None
prefix_upper kind (parts.Text t) = Some (Pair (parts.Text (t ++ 0 ∷ [])) (least_part (second_kind kind)))

-- the ends of the range in the table at a place
abbrev pub IsPrefix : Schema → ℕ → KeyPart → Key → Option Key → Type 0
IsPrefix schema place part lower upper =
    IfSome (slice_get schema place) (λ table. (lower ≡ prefix_lower table.key part) × (upper ≡ prefix_upper table.key part))

-- whether a key begins with a part
abbrev pub begins_with : KeyPart → Key → Bool
begins_with part (Num n) = false
begins_with part (KeyText t) = false
begins_with part (Pair a b) = part_same part a

-- of the keys that a table may have, those between the ends are those that begin with the part
abbrev pub PrefixIsRange : Type 0
PrefixIsRange = (kind : KeyKind) (part : KeyPart) (key : Key) → begins_keys kind part ≡ true
    → key_has_kind kind key ≡ true → has_64_bits key ≡ true
    → (is_from (Some (prefix_lower kind part)) key && is_below (prefix_upper kind part) key) ≡ begins_with part key

-- the range of a part fits its table
abbrev pub PrefixFits : Type 0
PrefixFits = (table : Table) (part : KeyPart) → check_prefix_in table part ≡ None
    → check_range table (Some (prefix_lower table.key part)) (prefix_upper table.key part) ≡ None
