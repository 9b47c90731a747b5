use Rattle.std.proofs.Common.{rules, ◌≡◌, ◌+◌, ap, ◌∙◌}
use Rattle.std.specs.Arc.{arc_value}
use Rattle.occ_board.specs.Rule.{fresh}
use Rattle.occ_board.proofs.Kept.{seats_more}
use Rattle.occ_board.proofs.publishing.Publisher.seats.Goals as goal

pub loop-place-preserved : goal.loop-place-preserved
loop-place-preserved g c =
    let e : (arc_value c.in_ok-board.board).shared.table_id ≡ c.self.inside.pass.table_id = search rules in
    seats_more _ _ _ _ _ c.loop-place.invariant (c.new.ensures ∙ ap (λ b. fresh b (c.loop-place.place + 1)) (e ∙ ap (λ p. p.board) c.self.view_is)) c.in_ok-push.ensures.items
