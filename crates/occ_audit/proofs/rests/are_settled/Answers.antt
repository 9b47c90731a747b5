use Rattle.std.proofs.Common.{◌≡◌, true, false, not, ◌∷◌, Option, sym, ap, subst, ◌∙◌, Bor, option_copied}
use Rattle.occ_audit.proofs.Common.{keys_of, get, sorted_tail, Row, object_of, put, apply, clash, not_false, writes_in, via, along, AreInOrder, distinct-writes_in}
use Rattle.occ_types.specs.declared.objects.Object.{Object}
use Rattle.occ_audit.proofs.Ranges.{option-decides}
use Rattle.occ_audit.proofs.Overlaid.{taken_back, not_back}
use Rattle.occ_audit.proofs.rests.are_settled.Goals as goal

pub returns-then-ne : goal.returns-then-ne
returns-then-ne g c =
    let table = c.args.tables.now.state in
    let state = c.loop-object.replayed in
    let entry : Bor (Object g.row.A.Denot) × Option (Bor Row) = (c.in-Some.object.now, c.in-Some.row.now) in
    let object = object_of c.in-Some.object.now.now in
    let left = along (λ es. apply table (writes_in es) ≡ state) _ _ c.in-Some.ensures.steps in
    let distinct = distinct-writes_in (entry ∷ c.next.new.self) (subst AreInOrder c.in-Some.ensures.steps c.loop-object.invariant.0) in
    let apart = λ (h : get state object ≡ option_copied entry.1). clash c.ne.result c.if-ne.true (c.ne.ensures ∙ ap not ((option-decides c.row.result entry.1).1 (c.row.ensures ∙ h))) in (
      λ (e : false ≡ true). cc,
      λ e. absurd (not_back table state (object, option_copied entry.1) (writes_in c.next.new.self) distinct apart (left.0 (c.loop-object.invariant.1.0 e))),
    )

pub loop-object-preserved : goal.loop-object-preserved
loop-object-preserved g c =
    let table = c.args.tables.now.state in
    let state = c.loop-object.replayed in
    let entry : Bor (Object g.row.A.Denot) × Option (Bor Row) = (c.in-Some.object.now, c.in-Some.row.now) in
    let object = object_of c.in-Some.object.now.now in
    let left = along (λ es. apply table (writes_in es) ≡ state) _ _ c.in-Some.ensures.steps in
    let ordered : AreInOrder (entry ∷ c.next.new.self) = subst AreInOrder c.in-Some.ensures.steps c.loop-object.invariant.0 in
    let same : get state object ≡ option_copied entry.1 = sym c.row.ensures ∙ (option-decides c.row.result entry.1).0 (not_false _ (sym c.ne.ensures ∙ c.if-ne.false)) in (
      sorted_tail _ entry.0 (keys_of c.next.new.self) ordered,
      via c.loop-object.invariant.1
          (via left (taken_back table state c.put.new.self (object, option_copied entry.1) (writes_in c.next.new.self) (distinct-writes_in (entry ∷ c.next.new.self) ordered) same (c.in_ok-put.ensures ∙ ap (λ r. put state (object, r)) c.row-in-loop-object.ensures))),
    )
