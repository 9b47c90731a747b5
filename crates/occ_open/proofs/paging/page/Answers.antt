use Rattle.std.specs.Option.{option_copied}
use Rattle.occ_types.specs.PlainData.{end_of}
use Rattle.occ_open.proofs.PageScans.{plan_spans}
use Rattle.occ_open.proofs.paging.page.Goals as goal

-- a plan asks for a range, and shows one
pub rows_planned-rows-requires-clause-asked : goal.rows_planned-rows-requires-clause-asked
rows_planned-rows-requires-clause-asked g c =
    (plan_spans (g.S.Readable.world c.args.store.now) c.args.end c.args.table (end_of (option_copied c.args.lower)) (end_of (option_copied c.args.upper)) c.args.most c.in_ok-plan.plan c.in_ok-plan.ensures.plan).0

pub rows_planned-rows-requires-clause-shown : goal.rows_planned-rows-requires-clause-shown
rows_planned-rows-requires-clause-shown g c =
    (plan_spans (g.S.Readable.world c.args.store.now) c.args.end c.args.table (end_of (option_copied c.args.lower)) (end_of (option_copied c.args.upper)) c.args.most c.in_ok-plan.plan c.in_ok-plan.ensures.plan).1
