use Rattle.std.proofs.Common.{◌≡◌, ◌≤◌, ℕ, List, [], ◌∷◌, ◌++◌, length, take, drop, reverse, refl, sym, ap, ◌∙◌, arith, append_assoc}
use Rattle.std.proofs.lemmas.List.{append-nil, append_cancel_left, take-append-drop, reverse-append, take-append-le, take_all}
use Rattle.occ_pages.proofs.page.move_from.Goals as goal

-- one more item goes over
moved : {X : Type 0} (items others : List X) (x : X) → items ++ reverse (others ++ x ∷ []) ≡ (items ++ x ∷ []) ++ reverse others
moved items others x = ap (λ ys. items ++ ys) (reverse-append others (x ∷ [])) ∙ sym (append_assoc items (x ∷ []) (reverse others))

pub loop-items-init : goal.loop-items-init
loop-items-init g c = record {
  all = ap (λ ys. c.args.items.now.items ++ reverse ys) c.requires.empty ∙ append-nil c.args.items.now.items;
  left = refl;
  room = c.requires.room;
  count = omega (arith, c.args.others.now.ok.0, ap length c.requires.empty);
  items_room = refl;
  others_room = refl;
}

pub loop-items-preserved : goal.loop-items-preserved
loop-items-preserved g c =
    let items = c.take_last-last.new.self.items in
    let is = c.take_last-last.ensures.items in
    record {
      all = ap (λ ys. items ++ reverse ys) c.push_reserved.ensures.items ∙ moved items c.loop-items.others.items c.take_last-last.result ∙ ap (λ xs. xs ++ reverse c.loop-items.others.items) (sym is) ∙ c.loop-items.invariant.all;
      left = sym (take-append-le c.args.place items (c.take_last-last.result ∷ []) (omega (arith, c.take_last-last.new.self.ok.0))) ∙ ap (take c.args.place) (sym is) ∙ c.loop-items.invariant.left;
      room = omega (arith, c.take_last-last.ensures, c.push_reserved.ensures, c.loop-items.invariant.room);
      count = omega (arith, c.take_last-last.ensures, c.push_reserved.ensures, c.loop-items.invariant.count);
      items_room = c.take_last-last.ensures.capacity ∙ c.loop-items.invariant.items_room;
      others_room = c.push_reserved.ensures.capacity ∙ c.loop-items.invariant.others_room;
    }

-- what is left are the first items, and what went over are the others
parts : {X : Type 0} (items others all : List X) (place : ℕ) → items ++ others ≡ all → take place items ≡ take place all → length items ≤ place → (items ≡ take place all) × (others ≡ drop place all)
parts items others all place is left few =
    let first = sym (take_all place items few) ∙ left in
    (first, append_cancel_left items others (drop place all) (is ∙ sym (take-append-drop place all) ∙ ap (λ xs. xs ++ drop place all) (sym first)))

pub returns : goal.returns
returns g c =
    let is = parts c.loop-items.items.items (reverse c.loop-items.others.items) c.args.items.now.items c.args.place c.loop-items.invariant.all c.loop-items.invariant.left (omega (arith, c.loop-items.items.ok.0, c.len.ensures, c.loop-items-test.false)) in
    record {
      items = is.0;
      others = c.reverse.ensures.items ∙ is.1;
      items_room = c.loop-items.invariant.items_room;
      others_room = c.reverse.ensures.capacity ∙ c.loop-items.invariant.others_room;
    }
