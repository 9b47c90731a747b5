use Rattle.std.proofs.Common.{◌≡◌, ℕ, List, [], length, take, drop, sym, ap, ◌∙◌, arith}
use Rattle.std.proofs.lemmas.List.{nil_from_length, length-take-le, length-drop}
use Rattle.occ_pages.specs.Pages.{zipped}
use Rattle.occ_pages.proofs.Zipped.{length-zipped, zipped-take, zipped-drop}
use Rattle.occ_pages.proofs.page.Page.split.Goals as goal

-- a page without entries has no keys and no rows
none : {T : Type 0} (keys : List ℕ) (rows : List T) → length keys ≡ length rows → zipped keys rows ≡ [] → (keys ≡ []) × (rows ≡ [])
none keys rows same is =
    let long = length-zipped keys rows same in
    let short = ap length is in
    (nil_from_length keys (omega arith), nil_from_length rows (omega arith))

pub move_from-requires-clause-empty : goal.move_from-requires-clause-empty
move_from-requires-clause-empty g c = (none _ _ c.upper.invariant.same (c.upper.view_is ∙ c.requires.empty)).0

pub move_from-requires-2-clause-empty : goal.move_from-requires-2-clause-empty
move_from-requires-2-clause-empty g c = (none _ _ c.upper.invariant.same (c.upper.view_is ∙ c.requires.empty)).1

pub move_from-requires-clause-room : goal.move_from-requires-clause-room
move_from-requires-clause-room g c =
    let keys = c.self.inside.keys in
    let long = sym (ap length c.self.view_is) ∙ length-zipped keys.items c.self.inside.rows.items c.self.invariant.same in
    omega (arith, long, keys.ok.0, c.requires.full, c.upper.invariant.keys_room)

pub move_from-requires-2-clause-room : goal.move_from-requires-2-clause-room
move_from-requires-2-clause-room g c =
    let rows = c.self.inside.rows in
    let long = sym (ap length c.self.view_is) ∙ length-zipped c.self.inside.keys.items rows.items c.self.invariant.same in
    omega (arith, long, rows.ok.0, c.self.invariant.same, c.requires.full, c.upper.invariant.rows_room)

pub invariant_of-self : goal.invariant_of-self
invariant_of-self g c =
    let keys = c.self.inside.keys.items in
    let rows = c.self.inside.rows.items in
    let long = sym (ap length c.self.view_is) ∙ length-zipped keys rows c.self.invariant.same in
    let one = ap length c.move_from.ensures.items ∙ length-take-le 32 keys (omega (arith, long, c.requires.full)) in
    let two = ap length c.move_from-2.ensures.items ∙ length-take-le 32 rows (omega (arith, long, c.requires.full, c.self.invariant.same)) in
    record {
      same = one ∙ sym two;
      few = omega (arith, one);
      keys_room = omega (arith, c.move_from.ensures.items_room, c.self.invariant.keys_room);
      rows_room = omega (arith, c.move_from-2.ensures.items_room, c.self.invariant.rows_room);
    }

pub invariant_of-upper : goal.invariant_of-upper
invariant_of-upper g c =
    let keys = c.self.inside.keys.items in
    let rows = c.self.inside.rows.items in
    let one = ap length c.move_from.ensures.others ∙ length-drop 32 keys in
    let two = ap length c.move_from-2.ensures.others ∙ length-drop 32 rows in
    record {
      same = omega (arith, one, two, c.self.invariant.same);
      few = omega (arith, one, c.self.invariant.few);
      keys_room = omega (arith, c.move_from.ensures.others_room, c.upper.invariant.keys_room);
      rows_room = omega (arith, c.move_from-2.ensures.others_room, c.upper.invariant.rows_room);
    }

pub returns-clause-lower : goal.returns-clause-lower
returns-clause-lower g c =
    let keys = c.self.inside.keys.items in
    let rows = c.self.inside.rows.items in
    (λ i. zipped (c.move_from.ensures.items i) (c.move_from-2.ensures.items i)) ∙ zipped-take 32 keys rows ∙ ap (take 32) c.self.view_is

pub returns-clause-upper : goal.returns-clause-upper
returns-clause-upper g c =
    let keys = c.self.inside.keys.items in
    let rows = c.self.inside.rows.items in
    (λ i. zipped (c.move_from.ensures.others i) (c.move_from-2.ensures.others i)) ∙ zipped-drop 32 keys rows ∙ ap (drop 32) c.self.view_is
