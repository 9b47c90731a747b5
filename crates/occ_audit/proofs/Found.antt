-- What the first finding of a log says against its claim, and how the parts of the search make it.
use Rattle.std.proofs.Common.{◌≡◌, ℕ, List, true, false, Option, None, Some, refl, ap, MatchOption, is_none, Decides}
use Rattle.std.specs.FinMap.{get}
use Rattle.std.specs.Ordering.{nat_cmp}
use Rattle.occ_types.specs.PlainData.{object_of}
use Rattle.occ_model.specs.Log.{InOrder}
use Rattle.occ_audit.proofs.Common.{Audited, Base, FinMap, LogRow, State}
use Rattle.occ_sets.specs.PlainSets.{answer_of}
use Rattle.occ_audit.specs.declared.findings.Disorder.{Disorder}
use Rattle.occ_audit.specs.declared.findings.Disorder.TheVariants as disorders
use Rattle.occ_audit.specs.declared.findings.Finding as code_finding
use Rattle.occ_audit.specs.declared.findings.Finding.TheVariants as findings
use Rattle.occ_audit.specs.Explaining.{IsBehind}
use Rattle.occ_audit.specs.Findings.{IsDisorder, IsFinding}
use Rattle.occ_audit.proofs.OrderedRows.{not-closed, not-numbered, not-placed}
use Rattle.occ_audit.proofs.WrongReads.{not-explained}

not-ordered : (base : Base) (marks : FinMap nat_cmp ℕ) (log : List LogRow) (d : Disorder) → IsDisorder base marks log d → InOrder base marks log → ⊥
not-ordered base marks log (disorders.Place row due) wrong order = not-placed base log row due wrong order.places
not-ordered base marks log (disorders.Number row due) wrong order = not-numbered base log row due wrong order.numbered
not-ordered base marks log (disorders.Mark session due) wrong order = not-closed base marks log session due wrong order

module _ {Z : Type 0} (base : Base) (marks : FinMap nat_cmp ℕ) (table : State) (log : List LogRow) where
  not-audited : (f : code_finding.Finding Z) → IsFinding base marks table log f → Audited base marks table log → ⊥
  not-audited (findings.Order d) wrong audited = not-ordered base marks log d wrong audited.in_order
  not-audited (findings.Read r) wrong audited =
      not-explained base.state log r.row r.read (answer_of r.replayed) wrong.1 audited.explained
  not-audited (findings.Object o) wrong audited =
      wrong.2.apart (ap (λ s. get s (object_of o.object)) audited.replayed)

  -- no finding is told just where the claim holds
  pub finding-decides : (found : Option (code_finding.Finding Z)) → MatchOption found (Audited base marks table log) (IsFinding base marks table log) → Decides (is_none found) (Audited base marks table log)
  finding-decides None audited = (λ e. audited, λ a. refl)
  finding-decides (Some f) wrong = (λ (e : false ≡ true). cc, λ a. absurd (not-audited f wrong a))

  -- what is found behind a log in order
  pub behind-order : InOrder base marks log → (found : Option (code_finding.Finding Z)) → IsBehind base.state table log found → MatchOption found (Audited base marks table log) (IsFinding base marks table log)
  behind-order order None behind = record { in_order = order; explained = behind.0; replayed = behind.1 }
  behind-order order (Some (findings.Order d)) behind = absurd behind
  behind-order order (Some (findings.Read r)) behind = (order, behind)
  behind-order order (Some (findings.Object o)) behind = (order, behind.0, behind.1.0, behind.1.1, behind.1.2)
