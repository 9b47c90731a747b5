use Rattle.std.proofs.Common.{◌≡◌, length, sym, ap, ◌∙◌}
use Rattle.occ_types.specs.PlainData.{table_of}
use Rattle.occ_log.proofs.Changes.{length-map}
use Rattle.occ_store.proofs.EmptyBase.{lacks_memory}
use Rattle.occ_store.proofs.frames.Frame.new.Goals as goal

pub returns-in-Err-resume-clause-handed_back : goal.returns-in-Err-resume-clause-handed_back
returns-in-Err-resume-clause-handed_back g c =
    let count : length c.tables-count.result.now ≡ length c.args.schema = sym (length-map table_of c.tables-count.result.now) ∙ ap length c.tables-count.ensures.value in (
      ap (λ p. p.0) c.in-Err-resume.ensures.handed_back,
      lacks_memory c.args.schema c.args.sessions _ _ c.in-Err-resume.refused.fault c.in-Ok.ensures.empty count c.in-Err-resume.ensures.fault,
    )
