use Rattle.std.proofs.Common.{◌-◌, ◌+◌, false, [], ◌∷◌, ◌++◌, get_or, length, sym, ap, ◌∙◌}
use Rattle.occ_log.proofs.Common.{and_true, has_room, log_of, log_row_of, ltb-true, map-append}
use Rattle.occ_log.proofs.Folding.{listed-push, room-of}
use Rattle.occ_log.proofs.log.Log.push.Goals as goal

pub push-requires-clause-room : goal.push-requires-clause-room
push-requires-clause-room g c = (and_true _ _ (sym (room-of (has_room c.self.inside.rows) c.self.inside.places c.args.row.session c.requires.from) ∙ ap (λ k. get_or k.free (c.args.row.session - 1) false) c.self.view_is ∙ c.requires.room)).0

pub push_reserved-requires : goal.push_reserved-requires
push_reserved-requires g c =
    ltb-true _ _ (and_true _ _ (sym (room-of (has_room c.self.inside.rows) c.self.inside.places c.args.row.session c.requires.from) ∙ ap (λ k. get_or k.free (c.args.row.session - 1) false) c.self.view_is ∙ c.requires.room)).1

pub invariant_of-self : goal.invariant_of-self
invariant_of-self g c =
    listed-push c.self.inside.first (log_of c.self.inside.rows.items) (log_of c.push_reserved.new.self.items) (log_row_of c.args.row) c.self.inside.places c.push.new.self c.self.invariant
    (c.requires.place ∙ sym (ap (λ k. k.first + length k.rows) c.self.view_is))
    (ap log_of c.push_reserved.ensures.items ∙ map-append log_row_of c.self.inside.rows.items (c.args.row ∷ [])) c.push.ensures.places

pub returns-clause-rows : goal.returns-clause-rows
returns-clause-rows g c =
    ap log_of c.push_reserved.ensures.items ∙ map-append log_row_of c.self.inside.rows.items (c.args.row ∷ []) ∙ ap (λ k. k.rows ++ log_row_of c.args.row ∷ []) c.self.view_is
