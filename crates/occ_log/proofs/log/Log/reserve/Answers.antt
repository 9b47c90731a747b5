use Rattle.std.proofs.Common.{refl, ap, ◌∙◌, arith}
use Rattle.occ_log.proofs.Common.{both_true, has_room, log_of, lt-ltb, on_ok_weaker}
use Rattle.occ_log.proofs.Folding.{listed-same, room-of}
use Rattle.occ_log.proofs.log.Log.reserve.Goals as goal

pub invariant_of-self : goal.invariant_of-self
invariant_of-self g c = listed-same c.self.inside.first (log_of c.self.inside.rows.items) (log_of c.reserve.new.self.items) c.self.inside.places c.self.inside.places c.self.invariant (ap log_of c.reserve.ensures.items) (λ session. refl)

pub invariant_of-self-2 : goal.invariant_of-self-2
invariant_of-self-2 g c =
    listed-same c.self.inside.first (log_of c.self.inside.rows.items) (log_of c.reserve.new.self.items) c.self.inside.places c.reserve-2.new.self c.self.invariant (ap log_of c.reserve.ensures.items) c.reserve-2.ensures.places

pub returns-clause-room : goal.returns-clause-room
returns-clause-room g c =
    on_ok_weaker c.reserve-2.result (λ free.
    room-of (has_room c.reserve.new.self) c.reserve-2.new.self c.args.session c.requires.from ∙ both_true _ _ free (lt-ltb _ _ (omega (arith, c.in_ok-reserve.ensures.ok)))) c.reserve-2.ensures.room
