use Rattle.occ_text.proofs.Readers.{other_long}
use Rattle.occ_text.proofs.tokens.is_word.Goals as goal

pub returns-then-token-word : goal.returns-then-token-word
returns-then-token-word c = other_long c.args.token.now c.args.word.now c.if-token-word.true
