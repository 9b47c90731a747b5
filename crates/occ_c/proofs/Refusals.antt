-- What refuses a call of a desk, and what it then leaves.
use Rattle.std.proofs.Common.{◌≡◌, ◌⊎◌, ℕ, ℤ, Bool, List, Option, None, Some, Result, Ok, Err, MatchOption, refl, sym, ap, subst, ◌∙◌, inl, inr, slice_get}
use Rattle.std.specs.Prelude.{IsErrAnd}
use Rattle.occ_types.specs.declared.fault.Fault.TheVariants as faults
use Rattle.occ_types.specs.Key.{Key}
use Rattle.occ_types.specs.Row.{Row}
use Rattle.occ_types.specs.Schema.{Schema, Table}
use Rattle.occ_bytes.specs.declared.reading.Unread.{Unread}
use Rattle.occ_bytes.specs.Bytes.{key_bytes, row_bytes}
use Rattle.occ_bytes.specs.Reading.{IsKey, IsRow, IsUtf8Key, IsUtf8Row, MayRefuse}
use Rattle.occ_c.specs.Codes.{fault_code, unread_code}
use Rattle.occ_c.specs.Desks.{NoneRead, IsKeyAt, IsRowAt, NoKey, NoRow, Refuses}

-- the exit of a `?`
pub refused : {D X : Type 0} (Why : ℤ → Type 0) (old new : D) (code : ℤ) (result : Result X ℤ) → IsErrAnd result (λ told. told ≡ code) → Why code → new ≡ old → Refuses Why old new result
refused Why old new code (Ok x) is why same = absurd is
refused Why old new code (Err told) is why same = record { code = told; why = subst Why (sym is) why; answer = refl; same = same }

pub key_at : (schema : Schema) (table : ℕ) (def : Table) (bytes : List ℕ) (key : Key) → slice_get schema table ≡ Some def → bytes ≡ key_bytes key → IsKey def.key key → IsKeyAt schema table bytes key
key_at schema table def bytes key there is fits = record {
  is = is;
  fits = subst (λ (o : Option Table). MatchOption o ⊥ (λ d. IsKey d.key key)) (sym there) fits;
}

pub row_at : (schema : Schema) (table : ℕ) (def : Table) (bytes : List ℕ) (row : Row) → slice_get schema table ≡ Some def → bytes ≡ row_bytes row → IsRow def.columns row → IsRowAt schema table bytes row
row_at schema table def bytes row there is fits = record {
  is = is;
  fits = subst (λ (o : Option Table). MatchOption o ⊥ (λ d. IsRow d.columns row)) (sym there) fits;
}

pub no_key_at : (schema : Schema) (table : ℕ) (def : Table) (bytes : List ℕ) (unread : Unread) (code : ℤ) → slice_get schema table ≡ Some def → code ≡ unread_code unread
    → ((key : Key) → IsKey def.key key → bytes ≡ key_bytes key → MayRefuse (IsUtf8Key key) unread) → NoKey schema table bytes code
no_key_at schema table def bytes unread code there told none =
    subst (λ (o : Option Table). MatchOption o (code ≡ fault_code faults.NoTable) (λ d. NoneRead (IsKey d.key) IsUtf8Key key_bytes bytes code)) (sym there)
    (record { unread = unread; told = told; none = none })

pub no_row_at : (schema : Schema) (table : ℕ) (def : Table) (bytes : List ℕ) (unread : Unread) (code : ℤ) → slice_get schema table ≡ Some def → code ≡ unread_code unread
    → ((row : Row) → IsRow def.columns row → bytes ≡ row_bytes row → MayRefuse (IsUtf8Row row) unread) → NoRow schema table bytes code
no_row_at schema table def bytes unread code there told none =
    subst (λ (o : Option Table). MatchOption o (code ≡ fault_code faults.NoTable) (λ d. NoneRead (IsRow d.columns) IsUtf8Row row_bytes bytes code)) (sym there)
    (record { unread = unread; told = told; none = none })

pub no_key_there : (schema : Schema) (table : ℕ) (bytes : List ℕ) (code : ℤ) → slice_get schema table ≡ None → code ≡ fault_code faults.NoTable → NoKey schema table bytes code
no_key_there schema table bytes code there told =
    subst (λ (o : Option Table). MatchOption o (code ≡ fault_code faults.NoTable) (λ d. NoneRead (IsKey d.key) IsUtf8Key key_bytes bytes code)) (sym there) told

pub no_row_there : (schema : Schema) (table : ℕ) (bytes : List ℕ) (code : ℤ) → slice_get schema table ≡ None → code ≡ fault_code faults.NoTable → NoRow schema table bytes code
no_row_there schema table bytes code there told =
    subst (λ (o : Option Table). MatchOption o (code ≡ fault_code faults.NoTable) (λ d. NoneRead (IsRow d.columns) IsUtf8Row row_bytes bytes code)) (sym there) told
