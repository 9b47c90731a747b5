use Rattle.std.proofs.Common.{◌-◌, suc, false, drop, get_or, length, sym, ap, ◌∙◌, arith}
use Rattle.occ_log.proofs.Common.{and_true, both_true, drop-map, has_room, length-map, log_of, log_row_of}
use Rattle.occ_log.proofs.Folding.{listed-drop, room-at}
use Rattle.occ_log.proofs.log.Log.fold.Goals as goal

pub drop_front-requires : goal.drop_front-requires
drop_front-requires g c =
    let few = c.requires.count in
    let same = length-map c.self.inside.rows.items log_row_of in
    let rows = ap (λ k. length k.rows) c.self.view_is in
    omega arith

pub invariant_of-self : goal.invariant_of-self
invariant_of-self g c =
    listed-drop c.self.inside.first c.args.count (log_of c.self.inside.rows.items) (log_of c.drop_front.new.items.items) c.self.inside.places c.begin_at.new.self c.self.invariant
    (ap log_of c.drop_front.ensures.items ∙ sym (drop-map log_row_of c.args.count c.self.inside.rows.items)) c.begin_at.ensures.places

pub returns-clause-rows : goal.returns-clause-rows
returns-clause-rows g c = ap log_of c.drop_front.ensures.items ∙ sym (drop-map log_row_of c.args.count c.self.inside.rows.items) ∙ ap (λ k. drop c.args.count k.rows) c.self.view_is

pub returns-clause-room : goal.returns-clause-room
returns-clause-room g c = λ session had.
    let parts = and_true _ _ (sym (room-at (has_room c.self.inside.rows) c.self.inside.places (session - 1)) ∙ ap (λ k. get_or k.free (session - 1) false) c.self.view_is ∙ had) in
    room-at (has_room c.drop_front.new.items) c.begin_at.new.self (session - 1) ∙ both_true _ _ (c.begin_at.ensures.room (suc (session - 1)) parts.0) (c.drop_front.ensures.room parts.1)
