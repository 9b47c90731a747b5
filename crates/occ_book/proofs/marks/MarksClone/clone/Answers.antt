use Rattle.std.proofs.Common.{ap, ◌∙◌, rules}
use Rattle.occ_book.proofs.Common.{marked_of}
use Rattle.std.proofs.lemmas.List.Elements.{same_from_all_zip}
use Rattle.occ_book.proofs.marks.MarksClone.clone.Goals as goal

pub returns : goal.returns
returns g c =
    let same = same_from_all_zip _ c.self.inside.slots.items c.in_ok-clone.field-0.items c.in_ok-clone.ensures.cases.0 (λ slot copy e. search rules) in
    record { cases = ap marked_of same ∙ c.self.view_is }
