use Rattle.std.proofs.Common.{ℕ, List, ap, sym, subst}
use Rattle.occ_types.specs.PlainData.{table_of}
use Rattle.occ_text.specs.Escapes.{Gives}
use Rattle.occ_text.specs.HeaderReading.{UnlessMalformed, table_of_tokens, tokens_head_table}
use Rattle.occ_text.proofs.Readers.{behind}
use Rattle.occ_text.proofs.headers.table_of_tokens.Goals as goal

pub returns-in_default-clause-exact : goal.returns-in_default-clause-exact
unfolding table_of_tokens
returns-in_default-clause-exact g c = ap (table_of_tokens c.args.version) c.in_default.ensures.0

pub returns-in_default-take_part-clause-exact : goal.returns-in_default-take_part-clause-exact
unfolding table_of_tokens
returns-in_default-take_part-clause-exact g c = ap (table_of_tokens c.args.version) (behind c.in-Some.ensures c.in_default-take_part.ensures.0)

pub returns-in_default-take_part-2-clause-exact : goal.returns-in_default-take_part-2-clause-exact
unfolding table_of_tokens
returns-in_default-take_part-2-clause-exact g c = ap (table_of_tokens c.args.version) (behind c.in-Some.ensures (behind c.in-Some-take_part.ensures c.in_default-take_part-2.ensures.0))

pub returns-clause-exact : goal.returns-clause-exact
unfolding table_of_tokens
returns-clause-exact g c =
    let all = behind c.in-Some.ensures (behind c.in-Some-take_part.ensures c.in-Some-take_part-2.ensures) in
    subst (λ (l : List (List ℕ)). Gives table_of c.table_of_parts.result (table_of_tokens c.args.version l)) (sym all) c.table_of_parts.ensures.exact

pub returns-clause-heads : goal.returns-clause-heads
returns-clause-heads g c =
    let all = behind c.in-Some.ensures (behind c.in-Some-take_part.ensures c.in-Some-take_part-2.ensures) in
    subst (λ (l : List (List ℕ)). UnlessMalformed (tokens_head_table c.args.version l) c.table_of_parts.result) (sym all) c.table_of_parts.ensures.heads
