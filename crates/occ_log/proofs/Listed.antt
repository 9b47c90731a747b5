-- What is kept of each session, where one of the lists is replaced.
use Rattle.std.proofs.Common.{◌≡◌, ℕ, zero, suc, ◌+◌, ◌-◌, ◌<◌, ◌≤◌, Bool, true, false, cond, List, [], ◌∷◌, ◌++◌, filter, get_or, length, Some, refl, sym, ap, ◌∙◌, arith, ◌==◌, nat_le, nat_lt, slice_get, slice_set, Vec}
use Rattle.occ_log.proofs.Common.{IsNew, Listed, all_listed, common_steps, get_or-append-add, get_or-map, get_or-set_at, get_or-set_other, get_or_append_left, get_or_from_slice_get, get_or_past, has_room, length-map, length-set, listed_at, listed_of, map-append, map-set, nat_tests, slice_get_within, unlisted}

-- the list at a place is replaced
set-at : (lists : List Listed) (k q : ℕ) (next : Listed) → k < length lists → get_or (slice_set lists k next) q unlisted ≡ cond (q == k) next (get_or lists q unlisted)
set-at lists k q next less = grind (arith, nat_tests, get_or-set_at, get_or-set_other)

abbrev from : ℕ → List ℕ → List ℕ
from first places = filter (λ place. nat_le first place) places

-- so many lists have lost the places before the first one, and all have the room that they had
pub record Begun (first done : ℕ) (old new : List Listed) : Type 0 where
  pub count : length new ≡ length old
  pub places : (q : ℕ) → (get_or new q unlisted).places ≡ cond (nat_lt q done) (from first (get_or old q unlisted).places) (get_or old q unlisted).places
  pub room : (q : ℕ) → (get_or old q unlisted).free ≡ true → (get_or new q unlisted).free ≡ true

module _ {Z : Type 0} (items : List (Vec ℕ Z)) (k : ℕ) (was now : Vec ℕ Z) (less : k < length items) (at : was ≡ get_or items k was) where
  -- what was kept at the place
  pub listed-was : get_or (all_listed items) k unlisted ≡ listed_of was
  listed-was = get_or-map listed_of items k was unlisted less ∙ ap listed_of (sym at)

  -- what is kept of each session now
  pub listed-now : (q : ℕ) → get_or (all_listed (slice_set items k now)) q unlisted ≡ cond (q == k) (listed_of now) (get_or (all_listed items) q unlisted)
  listed-now q =
      let count = length-map items listed_of in
      ap (λ l. get_or l q unlisted) (map-set listed_of items k now) ∙ set-at (all_listed items) k q (listed_of now) (omega arith)

  -- the places of one session change so, and those of the others stay
  pub places-now : (f : List ℕ → List ℕ) (session other : ℕ) → now.items ≡ f was.items → session ≡ suc k
      → (listed_at (all_listed (slice_set items k now)) other).places ≡ cond (session == other) (f (listed_at (all_listed items) other).places) (listed_at (all_listed items) other).places
  places-now f session zero is own = grind (arith, nat_tests)
  places-now f session (suc q) is own = grind (arith, nat_tests, listed-now q, listed-was)

  pub free-now : (session : ℕ) → session ≡ suc k → has_room now ≡ true → (listed_at (all_listed (slice_set items k now)) session).free ≡ true
  free-now session own room = ap (λ s. (listed_at (all_listed (slice_set items k now)) s).free) own ∙ grind (arith, nat_tests, listed-now k)

  pub begun-next : (first : ℕ) (old : List Listed) → Begun first k old (all_listed items) → now.items ≡ from first was.items → (has_room was ≡ true → has_room now ≡ true) → Begun first (k + 1) old (all_listed (slice_set items k now))
  begun-next first old begun is still = record {
    count = length-map (slice_set items k now) listed_of ∙ length-set items k now ∙ sym (length-map items listed_of) ∙ begun.count;
    places = λ q. grind (arith, nat_tests, listed-now q, listed-was, begun.places q);
    room = λ q had. grind (arith, nat_tests, listed-now q, listed-was, begun.room q had);
  }

module _ {Z : Type 0} where
  -- a session that has room has a list
  pub room-at : (items : List (Vec ℕ Z)) (lists : List Listed) (session : ℕ) (was : Vec ℕ Z) → all_listed items ≡ lists → 1 ≤ session → (listed_at lists session).free ≡ true
      → was ≡ get_or items (session - 1) was → (session - 1 < length items) × (has_room was ≡ true)
  room-at items lists session was view up free at =
      go items (session - 1) (ap (λ n. (listed_at (all_listed items) n).free) index ∙ ap (λ l. (listed_at l session).free) view ∙ free) at
    where
      index : suc (session - 1) ≡ session
      index = omega arith

      go : (items : List (Vec ℕ Z)) (k : ℕ) → (get_or (all_listed items) k unlisted).free ≡ true → was ≡ get_or items k was → (k < length items) × (has_room was ≡ true)
      go [] k free at = cc
      go (x ∷ xs) zero free at = (omega arith, ap has_room at ∙ free)
      go (x ∷ xs) (suc k) free at = let h = go xs k free at in (let l = h.0 in omega arith, h.1)

  -- what a look-up finds
  pub listed-found : (items : List (Vec ℕ Z)) (k session before : ℕ) (list : Vec ℕ Z) → session ≡ suc k → slice_get items k ≡ Some list
      → slice_get (listed_at (all_listed items) session).places before ≡ slice_get list.items before
  listed-found items k session before list own there =
      ap (λ s. slice_get (listed_at (all_listed items) s).places before) own
      ∙ ap (λ (l : Listed). slice_get l.places before) (listed-was items k list list (slice_get_within items k list there) (sym (get_or_from_slice_get items k list list there)))

  -- one list more, without a place
  pub new-more : (count : ℕ) (items more : List (Vec ℕ Z)) (list : Vec ℕ Z) → list.items ≡ [] → more ≡ items ++ list ∷ [] → IsNew count (all_listed items) → IsNew (count + 1) (all_listed more)
  new-more count items more list empty is new = record {
    sessions = grind (arith, common_steps, length-map items listed_of, length-map more listed_of, is, new.sessions);
    none = λ session. ap (λ l. (listed_at (all_listed l) session).places) is ∙ go session;
  }
    where
      go : (session : ℕ) → (listed_at (all_listed (items ++ list ∷ [])) session).places ≡ []
      go zero = refl
      go (suc k) =
          let head = get_or-append-add (all_listed items) (listed_of list ∷ []) 0 unlisted in
          grind (arith, common_steps, map-append listed_of items (list ∷ []), new.none (suc k), empty, get_or_past, get_or_append_left, head)

pub either : {X : Type 0} (b : Bool) (x : X) → cond b x x ≡ x
either true x = refl
either false x = refl
