use Rattle.std.proofs.Common.{◌≡◌, Option, None, Some, ap, sym, subst, ◌∙◌}
use Rattle.std.proofs.lemmas.List.Elements.{same_from_all_zip}
use Rattle.std.specs.Prelude.{IfOk}
use Rattle.occ_types.specs.Row.{Row}
use Rattle.occ_sets.specs.OwnWrites.{written}
use Rattle.occ_sets.specs.PlainSets.{writes_of}
use Rattle.occ_sets.specs.ShortList.{values}
use Rattle.occ_sets.proofs.own_writes.copied.Goals as goal

-- a copy of an entry is the same, whatever tells copies of rows apart from none
same_entry : {X : Type 0} {R : X × Option Row → X × Option Row → Type 0} → ((e copy : X × Option Row) → R e copy → copy.0 ≡ e.0) → ((x y : X) (row : Row) → R (x, None) (y, Some row) → None ≡ Some row) → ((x y : X) (row : Row) → R (x, Some row) (y, None) → None ≡ Some row)
    → ((x y : X) (row copy : Row) → R (x, Some row) (y, Some copy) → copy ≡ row) → (e copy : X × Option Row) → R e copy → copy ≡ e
same_entry first no_row no_copy rows (x, None) (y, None) h = let k = first (x, None) (y, None) h in λ i. (k i, None)
same_entry first no_row no_copy rows (x, None) (y, Some copy) h = let none = no_row x y copy h in cc
same_entry first no_row no_copy rows (x, Some row) (y, None) h = let none = no_copy x y row h in cc
same_entry first no_row no_copy rows (x, Some row) (y, Some copy) h =
    let k = first (x, Some row) (y, Some copy) h in
    let l = rows x y row copy h in
    λ i. (k i, Some (l i))

-- a copy of the list has its writes
pub returns-in_ok-clone-in-Few : goal.returns-in_ok-clone-in-Few
returns-in_ok-clone-in-Few g c =
    let same = same_from_all_zip _ (values c.in-Few.list) (values c.in_ok-clone-in-Few.field-0) c.in_ok-clone-in-Few.ensures.cases (same_entry (λ e copy h. h.0) (λ x y row h. absurd h.1) (λ x y row h. absurd h.1) (λ x y row copy h. h.1)) in
    ap writes_of same ∙ ap written (sym c.in-Few.is)

-- and one of the map its entries
pub returns-in_ok-clone-in-Many : goal.returns-in_ok-clone-in-Many
returns-in_ok-clone-in-Many g c =
    let same = same_from_all_zip _ c.as_map-map.result.now.entries c.in_ok-clone-in-Many.field-0.entries c.in_ok-clone-in-Many.ensures.cases (same_entry (λ e copy h. h.0) (λ x y row h. absurd h.1) (λ x y row h. absurd h.1) (λ x y row copy h. h.1)) in
    let seen : writes_of c.in_ok-clone-in-Many.field-0.entries ≡ written c.args.content.now = ap writes_of same ∙ c.as_map-map.ensures ∙ c.deref.ensures ∙ ap written (sym c.in-Many.is) in
    subst (λ ws. IfOk c.in_a_box.result (λ content. written content ≡ ws)) seen c.in_a_box.ensures
