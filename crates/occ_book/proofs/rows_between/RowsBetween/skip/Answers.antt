use Rattle.std.proofs.Common.{sym, ap, ◌∙◌, drop, arith}
use Rattle.std.specs.Option.{option_map}
use Rattle.std.proofs.lemmas.List.{drop-drop}
use Rattle.occ_book.specs.KeyRefs.{key_lent}
use Rattle.occ_book.proofs.PageEnds.{skipped_all}
use Rattle.occ_book.proofs.rows_between.RowsBetween.skip.Goals as goal

-- where no row is left, none is left behind so many
pub returns-in_default : goal.returns-in_default
returns-in_default g c =
    let none = sym c.next_key.ensures.key ∙ ap (option_map key_lent) c.in_default.is in
    skipped_all c.args.self.now c.loop.self c.next_key.new.self c.loop.counter c.args.count c.loop.invariant none c.next_key.ensures.rest (omega arith)

pub loop-preserved : goal.loop-preserved
loop-preserved g c = c.next_key.ensures.rest ∙ ap (drop 1) c.loop.invariant ∙ drop-drop 1 c.loop.counter c.args.self.now
