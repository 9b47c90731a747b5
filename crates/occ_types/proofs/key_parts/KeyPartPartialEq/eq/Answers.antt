use Rattle.std.proofs.Common.{ap, ◌∙◌}
use Rattle.occ_types.proofs.Alike.{same_text_parts}
use Rattle.occ_types.specs.PlainData.{part_of}
use Rattle.occ_types.proofs.key_parts.KeyPartPartialEq.eq.Goals as goal

-- texts are equal exactly where their order says so
pub returns-in-Text-Text : goal.returns-in-Text-Text
returns-in-Text-Text g c = c.eq.ensures ∙ same_text_parts c.in-Text-Text.text c.in-Text-Text.another (ap part_of c.in-Text-Text.is-0) (ap part_of c.in-Text-Text.is-1)
