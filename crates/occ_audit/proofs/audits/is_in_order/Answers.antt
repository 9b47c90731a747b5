use Rattle.std.proofs.Common.{◌≡◌, false, true, sym, subst}
use Rattle.occ_audit.proofs.Common.{MatchOption-at_some, MatchOption-at_none, clash, ArePlaced, AreNumbered, AreLast, log_of}
use Rattle.occ_audit.proofs.Orders.{closed-alike}
use Rattle.occ_audit.proofs.audits.is_in_order.Goals as goal

pub returns-then-not-are_placed : goal.returns-then-not-are_placed
returns-then-not-are_placed g c = (
  λ (e : false ≡ true). cc,
  λ a. clash c.are_placed.result (c.are_placed.ensures.1 (subst (λ n. ArePlaced n (log_of c.args.book.now.log.now)) (sym c.place.ensures) a.places)) c.if-not-are_placed.true,
)

pub returns-in_default : goal.returns-in_default
returns-in_default g c =
    let base = c.args.book.now.base.now.base in
    let log = log_of c.args.book.now.log.now in
    (λ (e : false ≡ true). cc, λ a. absurd (MatchOption-at_none (AreNumbered base log → ⊥) (λ last. AreNumbered base log × AreLast base last log) c.in_default.is c.in_ok-last.ensures a.numbered))

pub returns : goal.returns
returns g c =
    let log = log_of c.args.book.now.log.now in
    let base = c.args.book.now.base.now.base in
    let counted = MatchOption-at_some (AreNumbered base log → ⊥) (λ last. AreNumbered base log × AreLast base last log) c.in-Some.last c.in-Some.is c.in_ok-last.ensures in
    let alike = closed-alike base c.args.book.now.marks.now.marks c.in-Some.last log counted.1 in (
      λ e. record {
        places = subst (λ n. ArePlaced n log) c.place.ensures (c.are_placed.ensures.0 c.if-not-are_placed.false);
        numbered = counted.0;
        closed = alike.0 (c.are_closed-closed.ensures.0 e);
      },
      λ a. c.are_closed-closed.ensures.1 (alike.1 a.closed),
    )
