-- Lists that grow, as clauses see them.
use Rattle.std.proofs.Common.{◌≡◌, List, [], ◌∷◌, ◌++◌, map, ap, sym, ◌∙◌}
use Rattle.std.proofs.lemmas.List.{map-append}
use Rattle.occ_types.specs.Schema.{Schema}
use Rattle.occ_model.specs.Operations as model
use Rattle.occ_sets.specs.Operations.{op_of, ops_of}
use Rattle.occ_sets.specs.declared.operations.Op as code
use Rattle.occ_text.specs.Operations.{operation_of}
use Rattle.occ_text.specs.declared.operations.Operation as texts
use Rattle.occ_run.specs.Plans.{operation_named}

module _ {Z : Type 0} (schema : Schema) where
  abbrev pub named : List (texts.Operation Z) → List model.Operation
  named operations = map (operation_named schema) (map operation_of operations)

  -- one operation more has its place
  pub named_more : (so_far : List (texts.Operation Z)) (next : texts.Operation Z) (list : List (code.Op Z)) (op : code.Op Z) → ops_of list ≡ named so_far → op_of op ≡ operation_named schema (operation_of next) → ops_of (list ++ op ∷ []) ≡ named (so_far ++ next ∷ [])
  named_more so_far next list op same is =
      map-append op_of list (op ∷ []) ∙ ap (λ front. front ++ op_of op ∷ []) same ∙ ap (λ o. named so_far ++ o ∷ []) is
      ∙ sym (ap (map (operation_named schema)) (map-append operation_of so_far (next ∷ [])) ∙ map-append (operation_named schema) (map operation_of so_far) (operation_of next ∷ []))
