use Rattle.std.proofs.Common.{◌++◌, [], ◌∷◌, ap, ◌∙◌}
use Rattle.std.specs.Arc.{arc_value}
use Rattle.std.specs.Prelude.{map}
use Rattle.occ_sets.specs.Entries.{seen}
use Rattle.occ_sets.specs.ShortList.{values}
use Rattle.occ_sets.proofs.Observations.{own_alike, one_more_seen}
use Rattle.occ_sets.proofs.Refusals.{told_ok, when_err}
use Rattle.occ_sets.proofs.reads.note_behind.Goals as goal

-- a handle that cannot be changed has what it had
pub returns-in_default-clause-err : goal.returns-in_default-clause-err
returns-in_default-clause-err g c =
    own_alike (arc_value c.args.entries.now) (arc_value c.make_mut.follows.lender-at-none) (when_err c.make_mut.result c.in_default.field-0 c.in_default.is c.make_mut.follows.holds-at-none)

-- one more is noted
pub returns-in-Ok-push-clause-ok : goal.returns-in-Ok-push-clause-ok
returns-in-Ok-push-clause-ok g c =
    ap (λ list. map seen (values list)) (c.make_mut.follows.holds c.push.new.self (told_ok c.make_mut.result c.in-Ok.list c.in-Ok.is))
    ∙ one_more_seen (values c.in-Ok.list.now) (values c.push.new.self) c.args.entry c.in-Ok-push.ensures.values
    ∙ ap (λ os. os ++ seen c.args.entry ∷ []) (own_alike (arc_value c.args.entries.now) c.in-Ok.list.now c.in-Ok.ensures.value)

-- and none is lost
pub returns-in-Err-clause-err : goal.returns-in-Err-clause-err
returns-in-Err-clause-err g c =
    ap (λ list. map seen (values list)) (c.make_mut.follows.holds c.push.new.self (told_ok c.make_mut.result c.in-Ok.list c.in-Ok.is))
    ∙ ap (map seen) c.in-Err.ensures.values
    ∙ own_alike (arc_value c.args.entries.now) c.in-Ok.list.now c.in-Ok.ensures.value
