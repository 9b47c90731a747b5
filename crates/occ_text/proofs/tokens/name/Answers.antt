use Rattle.std.proofs.Common.{◌≡◌, ◌∙◌, None, List, ℕ, ap, sym, subst, rules, option_map}
use Rattle.occ_text.specs.Spelling.{IsName}
use Rattle.occ_text.specs.Reading.{Reads, name_of}
use Rattle.occ_text.proofs.Words.{name_reads, name_shown}
use Rattle.occ_text.proofs.tokens.name.Goals as goal

pub returns-then-not-is_name-clause-grammar : goal.returns-then-not-is_name-clause-grammar
unfolding name_of
returns-then-not-is_name-clause-grammar c =
    let exact : name_of c.args.token.now ≡ None = search rules in
    subst (Reads (λ (name : List ℕ). name) IsName c.args.token.now) exact (name_reads c.args.token.now)

pub returns-clause-exact : goal.returns-clause-exact
returns-clause-exact c =
    ap (option_map (λ name. name.now)) c.ok.ensures.value ∙ name_shown (λ name. name.now) c.from_utf8.result c.args.token.now _ c.from_utf8.ensures.cases (sym c.if-not-is_name.ensures)

pub returns-clause-grammar : goal.returns-clause-grammar
returns-clause-grammar c = subst (Reads (λ (name : List ℕ). name) IsName c.args.token.now) (sym (returns-clause-exact c)) (name_reads c.args.token.now)
