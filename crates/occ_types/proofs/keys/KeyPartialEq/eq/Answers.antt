use Rattle.std.proofs.Common.{ap, ◌∙◌}
use Rattle.occ_types.proofs.Alike.{same_texts}
use Rattle.occ_types.specs.PlainData.{key_of}
use Rattle.occ_types.proofs.keys.KeyPartialEq.eq.Goals as goal

-- texts are equal exactly where their order says so
pub returns-in-Text-Text : goal.returns-in-Text-Text
returns-in-Text-Text g c = c.eq.ensures ∙ same_texts c.in-Text-Text.text c.in-Text-Text.another (ap key_of c.in-Text-Text.is-0) (ap key_of c.in-Text-Text.is-1)
