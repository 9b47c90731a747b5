use Rattle.std.proofs.Common.{◌&&◌, sym, ap, ◌∙◌}
use Rattle.std.specs.Prelude.{codes}
use Rattle.std.specs.Str.{bytes_eq}
use Rattle.occ_text.proofs.Readers.{begins_so}
use Rattle.occ_text.proofs.step_reading.is_alone.Goals as goal

pub returns-else-begins_with : goal.returns-else-begins_with
returns-else-begins_with c =
    c.if-begins_with.false ∙ sym (ap (λ b. b && bytes_eq c.args.word.now (codes "alone")) (sym c.begins_with.ensures ∙ c.if-begins_with.false)) ∙ begins_so c.args.word.now (codes "lone") 97
