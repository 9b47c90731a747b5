use Rattle.occ_types.specs.PlainData.{end_of}
use Rattle.occ_text.specs.Spelling.{end_text, EndFits}
use Rattle.occ_text.specs.Escapes.{read_end}
use Rattle.occ_text.proofs.Values.{found_by, again_by, end_reads}
use Rattle.occ_text.proofs.texts.end.Goals as goal

pub returns-clause-found : goal.returns-clause-found
returns-clause-found g c =
    found_by end_of c.end_value.result (read_end c.args.version c.args.token.now) end_text (EndFits c.args.version) c.args.token.now c.end_value.ensures.exact (end_reads c.args.version c.args.token.now)

pub returns-clause-again : goal.returns-clause-again
returns-clause-again g c =
    again_by end_of c.end_value.result (read_end c.args.version c.args.token.now) end_text (EndFits c.args.version) c.args.token.now c.end_value.ensures.exact (end_reads c.args.version c.args.token.now)
