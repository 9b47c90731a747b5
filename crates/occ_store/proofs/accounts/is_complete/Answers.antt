use Rattle.std.proofs.Common.{◌+◌, ◌^◌, ◌<◌, length, sym, subst, ap, ◌∙◌}
use Rattle.std.specs.Prelude.{◌==◌, ◌&&◌}
use Rattle.occ_store.proofs.AccountLines.{other_count, same_count, other_sessions, by_hired, by_numbers}
use Rattle.occ_store.proofs.accounts.is_complete.Goals as goal

pub returns-then-not-are_as_many : goal.returns-then-not-are_as_many
returns-then-not-are_as_many g c =
    other_count g.N.Name.named c.args.workers.now c.args.lanes.now c.args.sessions.now c.are_as_many.result (c.are_as_many.ensures ∙ ap (λ n. length c.args.workers.now + length c.args.lanes.now == n) c.requires)
    c.if-not-are_as_many.true

pub returns-then-sessions-lanes : goal.returns-then-sessions-lanes
returns-then-sessions-lanes g c =
    other_sessions g.N.Name.named c.args.workers.now c.args.lanes.now c.args.sessions.now
    (same_count g.N.Name.named c.args.workers.now c.args.lanes.now c.args.sessions.now c.are_as_many.result (c.are_as_many.ensures ∙ ap (λ n. length c.args.workers.now + length c.args.lanes.now == n) c.requires)
    c.if-not-are_as_many.false) c.if-sessions-lanes.true

pub returns-then-not-are_hired : goal.returns-then-not-are_hired
returns-then-not-are_hired g c =
    by_hired g.N.Name.named c.args.workers.now c.args.lanes.now c.args.sessions.now
    (same_count g.N.Name.named c.args.workers.now c.args.lanes.now c.args.sessions.now c.are_as_many.result (c.are_as_many.ensures ∙ ap (λ n. length c.args.workers.now + length c.args.lanes.now == n) c.requires)
    c.if-not-are_as_many.false) c.if-sessions-lanes.false (sym c.if-not-are_hired.true ∙ c.are_hired.ensures)

pub are_numbered-requires-clause-fits : goal.are_numbered-requires-clause-fits
are_numbered-requires-clause-fits g c =
    let whole = same_count g.N.Name.named c.args.workers.now c.args.lanes.now c.args.sessions.now c.are_as_many.result (c.are_as_many.ensures ∙ ap (λ n. length c.args.workers.now + length c.args.lanes.now == n) c.requires) c.if-not-are_as_many.false in
    subst (λ n. n < 2 ^ 64) (c.requires ∙ sym whole) c.ranges.count.fits

pub returns : goal.returns
returns g c =
    ap (λ b. b && c.are_numbered.result) (sym c.if-not-are_hired.false)
    ∙ by_numbers g.N.Name.named c.args.workers.now c.args.lanes.now c.args.sessions.now
    (same_count g.N.Name.named c.args.workers.now c.args.lanes.now c.args.sessions.now c.are_as_many.result (c.are_as_many.ensures ∙ ap (λ n. length c.args.workers.now + length c.args.lanes.now == n) c.requires)
    c.if-not-are_as_many.false) c.if-sessions-lanes.false c.are_hired.result c.are_numbered.result c.are_hired.ensures c.are_numbered.ensures
