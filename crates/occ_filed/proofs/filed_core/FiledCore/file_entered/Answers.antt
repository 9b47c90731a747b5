use Rattle.std.proofs.Common.{subst, sym}
use Rattle.boxcar.specs.Table.{Shelves, Shows}
use Rattle.occ_filed.specs.Filed.{AreTied}
use Rattle.occ_filed.proofs.Tied.{keeps}
use Rattle.occ_filed.proofs.Filing.{from_some}
use Rattle.occ_filed.proofs.filed_core.FiledCore.file_entered.Goals as goal

pub invariant_of-self : goal.invariant_of-self
invariant_of-self g c =
    subst (AreTied _ _) (sym c.keep.ensures)
    (keeps _ _ _ _ _
    (λ now is. subst (λ (file : Shelves). Shows file now) c.deref.ensures (from_some _ c.push_open-token.result c.push_open-token.ensures.file now is))
    (from_some _ c.push_open-token.result c.push_open-token.ensures.own)
    c.self.invariant)
