use Rattle.occ_types.specs.Spelling.{text_text}
use Rattle.occ_text.specs.Spelling.{IsText}
use Rattle.occ_text.specs.Escapes.{text_of}
use Rattle.occ_text.proofs.Values.{found_by, again_by, text_reads}
use Rattle.occ_text.proofs.texts.text.Goals as goal

pub returns-clause-found : goal.returns-clause-found
returns-clause-found g c = found_by (λ text. text) c.text_value.result (text_of c.args.token.now) text_text IsText c.args.token.now c.text_value.ensures.exact (text_reads c.args.token.now)

pub returns-clause-again : goal.returns-clause-again
returns-clause-again g c = again_by (λ text. text) c.text_value.result (text_of c.args.token.now) text_text IsText c.args.token.now c.text_value.ensures.exact (text_reads c.args.token.now)
