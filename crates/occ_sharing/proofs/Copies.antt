-- A copy of a schema is one.
use Rattle.std.proofs.Common.{◌≡◌, List, [], ◌++◌, Option, None, Some, refl, sym, ap, subst, ◌∙◌, append-nil}
use Rattle.occ_types.specs.declared.fault.Fault.{Fault}
use Rattle.occ_types.specs.Schema.{Table, check_tables}

pub never : (schema tables copies rest : List Table) (fault : Fault) → tables ≡ schema → copies ++ rest ≡ tables → rest ≡ [] → check_tables schema ≡ None
    → check_tables copies ≡ Some fault → ⊥
never schema tables copies rest fault is all none fits refused =
    let same : copies ≡ schema = sym (append-nil copies) ∙ ap (λ (l : List Table). copies ++ l) (sym none) ∙ all ∙ is in
    clash (sym (subst (λ (l : List Table). check_tables l ≡ Some fault) same refused) ∙ fits)
  where
    clash : Some fault ≡ None → ⊥
    clash e = cc e
