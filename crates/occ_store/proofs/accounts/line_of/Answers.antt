use Rattle.std.proofs.Common.{refl, sym, ap, subst, ◌∙◌}
use Rattle.occ_history.specs.History.{IsHere}
use Rattle.occ_store.specs.Names.{lane_of}
use Rattle.occ_store.specs.Lanes.{LaneView}
use Rattle.occ_store.specs.Sessions.{SessionView}
use Rattle.occ_store.proofs.AccountLines.{has_seen}
use Rattle.occ_store.proofs.Accounting.{line_made}
use Rattle.occ_store.proofs.accounts.line_of.Goals as goal

pub drain-requires-clause-lane : goal.drain-requires-clause-lane
drain-requires-clause-lane g c =
    let same = ap (λ (s : SessionView). s.session) c.session.view_is ∙ sym c.requires.same ∙ sym (ap (λ (l : LaneView). l.session) c.lane.view_is) in
    c.session.invariant.2 ∙ ap (lane_of g.N.Name.named) same ∙ sym c.lane.invariant.0

pub returns-clause-line : goal.returns-clause-line
returns-clause-line g c =
    line_made _ _ _ _ _ c.lane.view_is c.session.view_is c.pushed.ensures c.taken.ensures.number refl c.kept.ensures c.lane.invariant.6 c.drain.ensures

pub show_to-requires : goal.show_to-requires
show_to-requires g c = subst IsHere (sym c.lane.invariant.1) tt

pub returns-clause-saw : goal.returns-clause-saw
returns-clause-saw g c = has_seen _ _ _ _ c.show_to.ensures.before c.show_to.ensures.seen (ap (λ (l : LaneView). l.front) c.lane.view_is)
