use Rattle.std.proofs.Common.{◌≡◌, ℕ, true, List, ap, sym, subst}
use Rattle.std.specs.Prelude.{IfErr}
use Rattle.occ_types.specs.PlainData.{key_of}
use Rattle.occ_text.specs.Escapes.{Gives, key_of_parts, parts_take}
use Rattle.occ_text.specs.declared.tokens.Unread.TheVariants.{Memory}
use Rattle.occ_text.proofs.Causes.{may_take}
use Rattle.occ_text.proofs.Readers.{behind}
use Rattle.occ_text.proofs.texts.key_of_parts.Goals as goal

pub returns-in_default-clause-exact : goal.returns-in_default-clause-exact
unfolding key_of_parts
returns-in_default-clause-exact g c = ap key_of_parts c.in_default.ensures.0

pub returns-in_default-take_part-clause-exact : goal.returns-in_default-take_part-clause-exact
unfolding key_of_parts
returns-in_default-take_part-clause-exact g c =
    let all = behind c.in-Some.ensures c.in_default-take_part.ensures.0 in
    subst (λ (l : List (List ℕ)). Gives key_of c.simple_key.result (key_of_parts l)) (sym all) c.simple_key.ensures.exact

pub returns-in_default-take_part-clause-memory : goal.returns-in_default-take_part-clause-memory
returns-in_default-take_part-clause-memory g c =
    let all = behind c.in-Some.ensures c.in_default-take_part.ensures.0 in
    subst (λ (l : List (List ℕ)). IfErr c.simple_key.result (λ unread. unread ≡ Memory → parts_take l ≡ true)) (sym all) c.simple_key.ensures.memory

pub returns-in-None-clause-memory : goal.returns-in-None-clause-memory
returns-in-None-clause-memory g c =
    let all = behind c.in-Some.ensures (behind c.in-Some-take_part.ensures c.in-None.ensures.0) in
    may_take Memory c.pair_key.result (ap parts_take all)

pub returns-in-None-clause-exact : goal.returns-in-None-clause-exact
unfolding key_of_parts
returns-in-None-clause-exact g c =
    let all = behind c.in-Some.ensures (behind c.in-Some-take_part.ensures c.in-None.ensures.0) in
    subst (λ (l : List (List ℕ)). Gives key_of c.pair_key.result (key_of_parts l)) (sym all) c.pair_key.ensures

pub returns-in-Some-take_part-2-clause-exact : goal.returns-in-Some-take_part-2-clause-exact
unfolding key_of_parts
returns-in-Some-take_part-2-clause-exact g c = ap key_of_parts (behind c.in-Some.ensures (behind c.in-Some-take_part.ensures c.in-Some-take_part-2.ensures))
