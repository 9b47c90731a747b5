use Rattle.std.proofs.Common.{sym, ap, ◌∙◌, arith}
use Rattle.std.specs.Option.{option_map}
use Rattle.occ_book.specs.KeyRefs.{key_lent}
use Rattle.occ_book.proofs.PageEnds.{backed-none, backed-all, backed-more}
use Rattle.occ_book.proofs.rows_between.RowsBackward.skip.Goals as goal

pub loop-init : goal.loop-init
loop-init g c = backed-none c.args.self.now

-- where no row is left, none is left before so many
pub returns-in_default : goal.returns-in_default
returns-in_default g c =
    let none = sym c.next_key.ensures.key ∙ ap (option_map key_lent) c.in_default.is in
    backed-all c.args.self.now c.loop.self c.next_key.new.self c.loop.counter c.args.count c.loop.invariant none c.next_key.ensures.rest (omega arith)

pub loop-preserved : goal.loop-preserved
loop-preserved g c = backed-more c.args.self.now c.loop.self c.next_key.new.self c.loop.counter c.loop.invariant c.next_key.ensures.rest
