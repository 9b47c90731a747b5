use Rattle.occ_types.specs.PlainData.{key_of}
use Rattle.occ_types.specs.Spelling.{key_text}
use Rattle.occ_text.specs.Spelling.{KeyFits}
use Rattle.occ_text.specs.Escapes.{read_key}
use Rattle.occ_text.proofs.Values.{found_by, again_by, key_reads}
use Rattle.occ_text.proofs.texts.key.Goals as goal

pub returns-clause-found : goal.returns-clause-found
returns-clause-found g c =
    found_by key_of c.key_value.result (read_key c.args.version c.args.token.now) key_text (KeyFits c.args.version) c.args.token.now c.key_value.ensures.exact (key_reads c.args.version c.args.token.now)

pub returns-clause-again : goal.returns-clause-again
returns-clause-again g c =
    again_by key_of c.key_value.result (read_key c.args.version c.args.token.now) key_text (KeyFits c.args.version) c.args.token.now c.key_value.ensures.exact (key_reads c.args.version c.args.token.now)
