-- Objects: what a transaction reads and writes. Kung and Robinson (section 2) leave open what an object is; ours is a row, named by its table and its key.
use Rattle.std.specs.Prelude.{ℕ}
use Rattle.std.specs.declared.cmp.Ordering.{Ordering}
use Rattle.std.specs.Ordering.{nat_cmp, on, then_cmp}
use Rattle.std.specs.Cmp.{IsTotalOrder, nat_cmp_total, on_total, then_total}
use Rattle.std.specs.FinMap.{IsAntisymmetric, nat_cmp-IsAntisymmetric}
use Rattle.occ_types.specs.Key.{Key, key_cmp, key_cmp_total, key_cmp-IsAntisymmetric}
use Rattle.occ_types.specs.KeyPart.{both_equal}

-- a table, by its place in the schema, and a key
abbrev pub Object : Type 0
Object = ℕ × Key

-- by table, then by key
abbrev pub object_cmp : Object → Object → Ordering
object_cmp = then_cmp (on (λ o. o.0) nat_cmp) (on (λ o. o.1) key_cmp)

pub object_cmp_total : IsTotalOrder object_cmp
object_cmp_total = then_total (on_total (λ o. o.0) nat_cmp_total) (on_total (λ o. o.1) key_cmp_total)

-- objects that tie are one object
pub object_cmp-IsAntisymmetric : IsAntisymmetric object_cmp
object_cmp-IsAntisymmetric a b e =
    let parts = both_equal (nat_cmp a.0 b.0) (key_cmp a.1 b.1) e in
    λ i. (nat_cmp-IsAntisymmetric a.0 b.0 parts.0 i, key_cmp-IsAntisymmetric a.1 b.1 parts.1 i)
