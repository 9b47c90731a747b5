use Rattle.std.proofs.Common.{◌∙◌, Some, ap, sym, subst}
use Rattle.std.specs.Str.{IsUtf8}
use Rattle.std.proofs.lemmas.Str.{IsUtf8-string_bytes}
use Rattle.occ_text.proofs.Values.{text_made, text_refused}
use Rattle.occ_text.proofs.texts.text_value.Goals as goal

pub returns-in-Ok-clause-exact : goal.returns-in-Ok-clause-exact
returns-in-Ok-clause-exact g c =
    let same = ap (λ v. v.items) c.in-Ok.ensures.ok in
    text_made c.args.token.now c.without_first.result.now c.in_ok-bytes.bytes.items (sym c.if-not-begins_with.ensures) c.without_first.ensures c.in_ok-bytes.ensures
    (subst IsUtf8 same (IsUtf8-string_bytes c.in-Ok.text))
    ∙ ap Some (sym same ∙ sym c.in_ok-from_string-in-Ok.ensures)

pub returns-clause-exact : goal.returns-clause-exact
returns-clause-exact g c =
    text_refused c.args.token.now c.without_first.result.now c.in_ok-bytes.bytes.items (sym c.if-not-begins_with.ensures) c.without_first.ensures c.in_ok-bytes.ensures
    (λ text. let s = c.in-Err.ensures.succeeds text in absurd cc)
