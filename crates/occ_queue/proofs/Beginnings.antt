-- Beginnings of lists, and of lists that are in turn.
use Rattle.std.proofs.Common.{◌≡◌, ℕ, zero, suc, ◌+◌, ◌<◌, ◌≤◌, Bool, true, false, ◌||◌, List, [], ◌∷◌, ◌++◌, map, length, refl, sym, ap, subst, ◌∙◌, arith, append_assoc}
use Rattle.std.specs.Prelude.{if◌then◌else◌, nat_le, drop, None, Some, slice_get}
use Rattle.std.specs.List.{list_any}
use Rattle.std.proofs.lemmas.Bool.{leb-true, leb-false}
use Rattle.std.proofs.lemmas.List.{append-nil, map-append, length-map, length-append, nil_from_length}
use Rattle.std.proofs.lemmas.List.Folds.{list_any-append}
use mathlib.Core.List.{IsPrefix}
use Rattle.occ_types.specs.declared.limits.TheConstants.{MAX_NUMBER}
use Rattle.occ_model.specs.Event.{Item}
use Rattle.occ_model.specs.Log.{Counts}
use Rattle.occ_model.proofs.Orders.{Counts-front}
use Rattle.occ_model.proofs.Tests as tests
use Rattle.occ_queue.specs.Items.{number_of, is_mark}
use Rattle.occ_queue.specs.Numbering.{EndsWithMark, IsInTurn}
use Rattle.occ_queue.specs.Lanes.{InTurn, AreOfOne, longer}
use Rattle.occ_queue.proofs.Turns.{behind_in_turn}

module _ {X : Type 0} where
  pub prefix_refl : (xs : List X) → IsPrefix xs xs
  prefix_refl xs = ([], append-nil xs)

  pub prefix_nil : (xs : List X) → IsPrefix [] xs
  prefix_nil xs = (xs, refl)

  pub prefix_more : (xs ys zs : List X) → IsPrefix xs ys → IsPrefix xs (ys ++ zs)
  prefix_more xs ys zs p = (p.0 ++ zs, sym (append_assoc xs p.0 zs) ∙ ap (λ l. l ++ zs) p.1)

  pub prefix_length : (xs ys : List X) → IsPrefix xs ys → length xs ≤ length ys
  prefix_length xs ys p = let e : length (xs ++ p.0) ≡ length ys = ap length p.1 in let f = length-append xs p.0 in omega arith

  cons_tail : (x y : X) (xs ys : List X) → x ∷ xs ≡ y ∷ ys → xs ≡ ys
  cons_tail x y xs ys e = ap (drop 1) e

  -- of two beginnings of one list the shorter one begins the longer one
  pub prefix_both : (xs ys zs : List X) → IsPrefix xs zs → IsPrefix ys zs → length xs ≤ length ys → IsPrefix xs ys
  prefix_both [] ys zs p q le = prefix_nil ys
  prefix_both (x ∷ xs) [] zs p q le = absurd (omega arith)
  prefix_both (x ∷ xs) (y ∷ ys) [] p q le = absurd (let e : length (x ∷ xs ++ p.0) ≡ 0 = ap length p.1 in omega arith)
  prefix_both (x ∷ xs) (y ∷ ys) (z ∷ zs) p q le =
      let rest = prefix_both xs ys zs (p.0, cons_tail x z (xs ++ p.0) zs p.1) (q.0, cons_tail y z (ys ++ q.0) zs q.1) (omega arith) in
      let same : x ≡ y = head_of x z (xs ++ p.0) zs p.1 ∙ sym (head_of y z (ys ++ q.0) zs q.1) in
      (rest.0, (λ i. same i ∷ rest.1 i))
    where
      head_of : (a b : X) (us vs : List X) → a ∷ us ≡ b ∷ vs → a ≡ b
      head_of a b us vs e = cc

  -- and one that is as long is the list itself
  pub prefix_whole : (xs ys : List X) → IsPrefix xs ys → length ys ≤ length xs → xs ≡ ys
  prefix_whole xs ys p le =
      let e : length (xs ++ p.0) ≡ length ys = ap length p.1 in
      let f = length-append xs p.0 in
      let none : p.0 ≡ [] = nil_from_length p.0 (omega arith) in
      sym (append-nil xs) ∙ ap (λ l. xs ++ l) (sym none) ∙ p.1

  pub longer_prefix : (xs ys zs : List X) → IsPrefix xs zs → IsPrefix ys zs → IsPrefix (longer xs ys) zs
  longer_prefix xs ys zs p q = go (nat_le (length ys) (length xs))
    where
      go : (b : Bool) → IsPrefix (if b then xs else ys) zs
      go true = p
      go false = q

  pub get_front : (xs ys : List X) (i : ℕ) (x : X) → slice_get xs i ≡ Some x → slice_get (xs ++ ys) i ≡ Some x
  get_front [] ys i x e = cc
  get_front (a ∷ xs) ys zero x e = e
  get_front (a ∷ xs) ys (suc i) x e = get_front xs ys i x e

  pub get_last : (xs : List X) (x : X) → slice_get (xs ++ x ∷ []) (length xs) ≡ Some x
  get_last [] x = refl
  get_last (a ∷ xs) x = get_last xs x

module _ {X Y : Type 0} (f : X → Y) where
  pub prefix_map : (xs ys : List X) → IsPrefix xs ys → IsPrefix (map f xs) (map f ys)
  prefix_map xs ys p = (map f p.0, sym (map-append f xs p.0) ∙ ap (map f) p.1)

-- a list of nothing is in turn behind each number
pub unused_in_turn : (before : ℕ) → before ≤ MAX_NUMBER → InTurn before []
unused_in_turn before within = subst (λ last. IsInTurn (record { items = []; limit = 0; before = before; pushed = last; closed = false })) (omega arith) (behind_in_turn 0 before within)

-- what has something behind it has no mark
pub unmarked_front : (closed : Bool) (xs : List Item) (y : Item) (ys : List Item) → EndsWithMark closed (xs ++ y ∷ ys) → list_any is_mark xs ≡ false
unmarked_front closed [] y ys ends = refl
unmarked_front closed (x ∷ []) y ys ends = tests.both_false (is_mark x) false ends.0 refl
unmarked_front closed (x ∷ w ∷ xs) y ys ends = tests.both_false (is_mark x) (list_any is_mark (w ∷ xs)) ends.0 (unmarked_front closed (w ∷ xs) y ys ends.1)

ends_unmarked : (xs : List Item) → list_any is_mark xs ≡ false → EndsWithMark false xs
ends_unmarked [] none = tt
ends_unmarked (x ∷ []) none = (tests.or_false (is_mark x) false none).0
ends_unmarked (x ∷ w ∷ xs) none = let parts = tests.or_false (is_mark x) (list_any is_mark (w ∷ xs)) none in (parts.0, ends_unmarked (w ∷ xs) parts.1)

-- a beginning of a list in turn is in turn
pub in_turn_front : (before : ℕ) (xs zs : List Item) → InTurn before (xs ++ zs) → InTurn before xs
in_turn_front before xs [] law = subst (InTurn before) (append-nil xs) law
in_turn_front before xs (z ∷ zs) law =
    let none = unmarked_front _ xs z zs law.ended in
    let longer : length (xs ++ z ∷ zs) ≡ length xs + suc (length zs) = length-append xs (z ∷ zs) in
    let taken = law.numbered.0 in
    let none_taken : taken ≡ before = (let e = law.numbered.1 in omega arith) in
    let all : Counts (suc before) (map number_of xs ++ map number_of (z ∷ zs)) = subst (λ n. Counts (suc n) (map number_of xs ++ map number_of (z ∷ zs))) none_taken (subst (Counts (suc taken)) (map-append number_of xs (z ∷ zs)) law.numbered.2) in
    let within = law.within in
    record {
      numbered = (before, omega arith, Counts-front (suc before) (map number_of xs) (map number_of (z ∷ zs)) all);
      begun = omega arith;
      ended = subst (λ b. EndsWithMark b xs) (sym none) (ends_unmarked xs none);
      within = omega arith;
      spare = λ _ _. omega arith;
    }

pub in_turn_prefix : (before : ℕ) (xs zs : List Item) → IsPrefix xs zs → InTurn before zs → InTurn before xs
in_turn_prefix before xs zs p law = in_turn_front before xs p.0 (subst (InTurn before) (sym p.1) law)

-- one with a mark is the list itself
pub marked_front : (before : ℕ) (xs zs : List Item) → IsPrefix xs zs → InTurn before zs → list_any is_mark xs ≡ true → xs ≡ zs
marked_front before xs zs p law marked = go p.0 p.1
  where
    go : (rest : List Item) → xs ++ rest ≡ zs → xs ≡ zs
    go [] e = sym (append-nil xs) ∙ e
    go (y ∷ rest) e = tests.clash (list_any is_mark xs) marked (unmarked_front _ xs y rest (subst (λ l. EndsWithMark (list_any is_mark zs) l) (sym e) law.ended))
