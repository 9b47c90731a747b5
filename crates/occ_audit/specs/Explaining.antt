-- What the parts of the explanation of a book answer.
use Rattle.std.specs.Prelude.{◌≡◌, List, Option, None, Some}
use Rattle.std.specs.FinMap.{get}
use Rattle.occ_types.specs.PlainData.{object_of}
use Rattle.occ_model.specs.State.{State}
use Rattle.occ_model.specs.Log.{Explained, LogRow, serial, settled}
use Rattle.occ_sets.specs.PlainSets.{answer_of}
use Rattle.occ_audit.specs.Findings.{IsFirstApart, IsWrongRead}
use Rattle.occ_audit.specs.declared.findings.Finding as code_finding
use Rattle.occ_audit.specs.declared.findings.Finding.TheVariants as findings

-- the tables are a replayed state, or this is the first object that differs
abbrev pub IsTablesFinding : {Z : Type 0} → State → State → Option (code_finding.Finding Z) → Type 0
IsTablesFinding kept replayed None = kept ≡ replayed
IsTablesFinding kept replayed (Some (findings.Order disorder)) = ⊥
IsTablesFinding kept replayed (Some (findings.Read wrong)) = ⊥
IsTablesFinding kept replayed (Some (findings.Object apart)) =
    IsFirstApart kept replayed (object_of apart.object)
    × (apart.settled ≡ get kept (object_of apart.object))
    × (apart.replayed ≡ get replayed (object_of apart.object))

-- serial replay explains a log and leaves the tables, or this is the first that it doesn't
abbrev pub IsBehind : {Z : Type 0} → State → State → List LogRow → Option (code_finding.Finding Z) → Type 0
IsBehind state table log None = Explained state log × (settled table log ≡ serial state log)
IsBehind state table log (Some (findings.Order disorder)) = ⊥
IsBehind state table log (Some (findings.Read wrong)) = IsWrongRead state log wrong.row wrong.read (answer_of wrong.replayed)
IsBehind state table log (Some (findings.Object apart)) =
    Explained state log × IsTablesFinding (settled table log) (serial state log) (Some (findings.Object apart))
