use Rattle.std.proofs.Common.{ap, ◌∙◌, drop, take}
use Rattle.std.proofs.lemmas.List.{take_min, drop_min}
use Rattle.occ_model.specs.Log.{Case}
use Rattle.occ_case.proofs.verdicts.opponents.Goals as goal

pub returns : goal.returns
returns g c =
    let all = c.as_slice-all.result.now in
    let count = c.case.inside.finished in
    record {
      finished = c.split_at.ensures.front ∙ ap (λ n. take n all) c.min.ensures ∙ take_min count all ∙ ap (take count) c.as_slice-all.ensures.value ∙ ap (λ (case : Case). case.finished) c.case.view_is;
      active = c.split_at.ensures.back ∙ ap (λ n. drop n all) c.min.ensures ∙ drop_min count all ∙ ap (drop count) c.as_slice-all.ensures.value ∙ ap (λ (case : Case). case.active) c.case.view_is;
    }
