use Rattle.std.proofs.Common.{◌≡◌, Some, None, subst, rules}
use Rattle.occ_text.specs.Spelling.{line_text, AreTokens}
use Rattle.occ_text.specs.Reading.{Reads, tokens_of}
use Rattle.occ_text.proofs.Words.{tokens_reads}
use Rattle.occ_text.proofs.tokens.tokens.Goals as goal

pub returns-then-not-are_tokens-clause-grammar : goal.returns-then-not-are_tokens-clause-grammar
unfolding tokens_of
returns-then-not-are_tokens-clause-grammar c =
    let exact : tokens_of c.args.line.now ≡ None = search rules in
    subst (Reads line_text AreTokens c.args.line.now) exact (tokens_reads c.args.line.now)

pub returns-clause-grammar : goal.returns-clause-grammar
unfolding tokens_of
returns-clause-grammar c =
    let exact : tokens_of c.args.line.now ≡ Some c.new.result = search rules in
    subst (Reads line_text AreTokens c.args.line.now) exact (tokens_reads c.args.line.now)
