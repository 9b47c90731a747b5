use Rattle.std.proofs.Common.{◌≡◌, Some, None, refl, sym, ap, subst, ◌∙◌, IsSome}
use Rattle.occ_audit.proofs.Common.{IsPlaced, key_of, option_copied_mut, state_of, row_under, on_ok_weaker}
use Rattle.occ_audit.proofs.Lent.{table_at, rows-placed, written-put, get-in}
use Rattle.occ_audit.proofs.replica.Replica.insert.Goals as goal

pub returns-in-Some : goal.returns-in-Some
returns-in-Some g c =
    let object = c.args.object.now in
    let tables = c.self.inside.tables.entries in
    let rows = c.in-Some.rows.now in
    let at : table_at tables object.table ≡ Some rows = sym c.get_mut.ensures.value ∙ ap option_copied_mut c.in-Some.is in
    on_ok_weaker c.put.result (λ written. written-put object.table (key_of object.key) (Some c.args.row.now) rows c.put.new.self c.args.self.now _
    (rows-placed tables _ object.table c.put.new.self c.args.self.now c.self.view_is ((c.get_mut.follows.holds c.put.new.self).3 (subst IsSome (sym at) refl)).0)
    (get-in tables object.table c.args.self.now (Some rows) c.self.view_is at) written) c.put.ensures

pub returns : goal.returns
returns g c =
    let object = c.args.object.now in
    let tables = c.get_mut.follows.lender-at-none.entries in
    let same = c.get_mut.follows.holds-at-none in
    let view = ap (λ t. state_of t.entries) same ∙ c.self.view_is in
    let at : table_at tables object.table ≡ None = ap (λ t. table_at t.entries object.table) same ∙ sym c.get_mut.ensures.value ∙ ap option_copied_mut c.in_default.is in
    let rows = c.put-2.new.self in
    on_ok_weaker c.place.result (λ placed. written-put object.table (key_of object.key) (Some c.args.row.now) c.in_ok-rows.rows rows c.args.self.now c.place.new.self
    (subst (λ s. IsPlaced object.table rows s c.place.new.self) view placed)
    (λ k. get-in tables object.table c.args.self.now None view at k ∙ sym (ap (λ es. row_under es k) c.in_ok-rows.ensures)) c.in_ok-put.ensures) c.place.ensures
