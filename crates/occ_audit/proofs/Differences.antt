-- The first difference of two states, from the first row of each that the other one has not.
use Rattle.std.proofs.Common.{◌≡◌, ◌≢◌, ℕ, Bool, true, false, cond, List, [], ◌∷◌, Option, None, Some, refl, sym, ap, subst, ◌∙◌, MatchOption, IsSomeAnd, nat_cmp, Less}
use Rattle.std.specs.declared.cmp.Ordering.{Ordering}
use Rattle.std.specs.declared.cmp.Ordering.TheVariants.{Equal, Greater}
use Rattle.std.specs.Ordering.{is_lt, ordering_reverse, ordering_then}
use Rattle.std.specs.Cmp.{nat_cmp_total}
use Rattle.std.specs.FinMap.{nat_cmp-IsAntisymmetric}
use Rattle.occ_types.specs.Key.{key_cmp-IsAntisymmetric, key_cmp_total}
use Rattle.occ_audit.proofs.Common.{IsStrictlySortedBy, Key, Object, Row, State, get, key_cmp, keys_of, object_cmp, object_cmp-IsAntisymmetric, object_cmp_total, row_under, same_state, state_of}
use Rattle.occ_audit.proofs.Lent.{get-in, table_at}
use Rattle.occ_book.specs.KeyRefs.{key_lent}
use Rattle.occ_book.specs.declared.key_refs.KeyRef as refs
use Rattle.occ_audit.specs.declared.first_difference.Spot as spots
use Rattle.occ_audit.specs.Differences.{AgreeIn, AgreeOn, FirstGives, IsEarlier, IsFirstIn, IsFirstOf, spot_of}
use Rattle.occ_audit.specs.Findings.{IsFirstApart}
use Rattle.occ_audit.proofs.FoundInTurn.{Walked, walked-all, walked-here, walked-more, walked-none, walked-to}

-- states that have each row of the other one are the same
agree-both : (one other : State) → AgreeOn one other → AgreeOn other one → one ≡ other
agree-both one other there back = same_state one other (λ p. by p (get one p) (get other p) refl refl)
  where
    by : (p : Object) (x y : Option Row) → get one p ≡ x → get other p ≡ y → x ≡ y
    by p None None e f = refl
    by p (Some r) y e f = sym (there p r e) ∙ f
    by p None (Some r) e f = sym e ∙ back p r f

-- an object of which they differ, while before it each has the rows of the other one
apart-first : (one other : State) (object : Object) → get one object ≢ get other object
    → ((p : Object) (row : Row) → object_cmp p object ≡ Less → get one p ≡ Some row → get other p ≡ Some row)
    → ((p : Object) (row : Row) → object_cmp p object ≡ Less → get other p ≡ Some row → get one p ≡ Some row)
    → IsFirstApart one other object
apart-first one other object apart there back = record {
  apart = apart;
  before = λ p less. by p less (get one p) (get other p) refl refl;
}
  where
    by : (p : Object) → object_cmp p object ≡ Less → (x y : Option Row) → get one p ≡ x → get other p ≡ y → get one p ≡ get other p
    by p less None None e f = e ∙ sym f
    by p less (Some r) y e f = e ∙ sym (there p r less e)
    by p less None (Some r) e f = back p r less f ∙ sym f

-- a row that the other state has not is a difference
differs : (one other : State) (object : Object) → IsSomeAnd (get one object) (λ row. get other object ≢ Some row) → get one object ≢ get other object
differs one other object has e = by (get one object) refl has
  where
    by : (x : Option Row) → get one object ≡ x → IsSomeAnd x (λ row. get other object ≢ Some row) → ⊥
    by None f h = h
    by (Some r) f h = h (sym e ∙ f)

-- what stands before a name that isn't behind another one stands before that one
not-behind : (p a b : Object) → is_lt (object_cmp b a) ≡ false → object_cmp p a ≡ Less → object_cmp p b ≡ Less
not-behind p a b late less = by (object_cmp p b) refl
  where
    never : (o : Ordering) → object_cmp b a ≡ o → o ≡ Less → ⊥
    never o e f = let g : is_lt (object_cmp b a) ≡ true = ap is_lt (e ∙ f) in cc

    by : (o : Ordering) → object_cmp p b ≡ o → object_cmp p b ≡ Less
    by Less e = e
    by Equal e = absurd (never (object_cmp b a) refl (ap (λ q. object_cmp q a) (sym (object_cmp-IsAntisymmetric p b e)) ∙ less))
    by Greater e = absurd (never (object_cmp b a) refl (object_cmp_total.trans b p a (object_cmp_total.antisymm b p ∙ ap ordering_reverse e) less))

module _ {Z : Type 0} (one other : State) where
  -- what was found on either side
  abbrev pub Found : State → State → Option (spots.Spot Z) → Type 0
  Found state against spot = MatchOption spot (AgreeOn state against) (IsFirstOf state against)

  one_side : (a : spots.Spot Z) → IsFirstOf one other a → AgreeOn other one → IsFirstApart one other (spot_of a)
  one_side a first back = apart-first one other (spot_of a) (differs one other (spot_of a) first.0) first.1 (λ p row less. back p row)

  other_side : (b : spots.Spot Z) → AgreeOn one other → IsFirstOf other one b → IsFirstApart one other (spot_of b)
  other_side b there first =
      apart-first one other (spot_of b) (λ e. differs other one (spot_of b) first.0 (sym e)) (λ p row less. there p row) first.1

  both_sides : (a b : spots.Spot Z) (t : Bool) → is_lt (object_cmp (spot_of b) (spot_of a)) ≡ t → IsFirstOf one other a → IsFirstOf other one b → IsFirstApart one other (spot_of (cond t b a))
  both_sides a b true e first second =
      let less : object_cmp (spot_of b) (spot_of a) ≡ Less = by (object_cmp (spot_of b) (spot_of a)) refl e in
      apart-first one other (spot_of b) (λ f. differs other one (spot_of b) second.0 (sym f))
      (λ p row l. first.1 p row (object_cmp_total.trans p (spot_of b) (spot_of a) l less))
      second.1
    where
      by : (o : Ordering) → object_cmp (spot_of b) (spot_of a) ≡ o → is_lt o ≡ true → object_cmp (spot_of b) (spot_of a) ≡ Less
      by Less f g = f
      by Equal f g = cc
      by Greater f g = cc
  both_sides a b false e first second =
      apart-first one other (spot_of a) (differs one other (spot_of a) first.0) first.1
      (λ p row l. second.1 p row (not-behind p (spot_of a) (spot_of b) e l))

  -- the earlier of both is the first difference
  pub first-found : (forward backward result : Option (spots.Spot Z)) → Found one other forward → Found other one backward → IsEarlier forward backward result → FirstGives one other result
  first-found None None result there back is =
      subst (FirstGives one other) (sym is) (agree-both one other there back)
  first-found None (Some b) result there second is = subst (FirstGives one other) (sym is) (other_side b there second)
  first-found (Some a) None result first back is = subst (FirstGives one other) (sym is) (one_side a first back)
  first-found (Some a) (Some b) result first second is =
      subst (FirstGives one other) (sym is) (both_sides a b (is_lt (object_cmp (spot_of b) (spot_of a))) refl first second)

module _ (table : ℕ) (other : State) where
  -- of some rows these are left, and a state has all others
  abbrev pub KeysWalked : List (Key × Row) → List (Key × Row) → Type 0
  KeysWalked = Walked key_cmp key_cmp_total key_cmp-IsAntisymmetric (λ (k : Key). k) (λ k (row : Row). get other (table, k) ≡ Some row)

  pub keys-none : (whole left : List (Key × Row)) → left ≡ whole → IsStrictlySortedBy key_cmp (keys_of whole) → KeysWalked whole left
  keys-none = walked-none key_cmp key_cmp_total key_cmp-IsAntisymmetric (λ (k : Key). k) (λ k (row : Row). get other (table, k) ≡ Some row)

  pub keys-more : (whole more : List (Key × Row)) (e : Key × Row) → KeysWalked whole (e ∷ more) → get other (table, e.0) ≡ Some e.1 → KeysWalked whole more
  keys-more = walked-more key_cmp key_cmp_total key_cmp-IsAntisymmetric (λ (k : Key). k) (λ k (row : Row). get other (table, k) ≡ Some row)

  pub keys-agree : (whole left : List (Key × Row)) → left ≡ [] → KeysWalked whole left → AgreeIn whole table other
  keys-agree whole left nothing w k row f =
      walked-all key_cmp key_cmp_total key_cmp-IsAntisymmetric (λ (k : Key). k) (λ k (row : Row). get other (table, k) ≡ Some row) whole left nothing w k row f

  pub keys-first : {Z : Type 0} (whole more : List (Key × Row)) (key : refs.KeyRef Z) (row : Row) → KeysWalked whole ((key_lent key, row) ∷ more) → get other (table, key_lent key) ≢ Some row → IsFirstIn whole table other key
  keys-first whole more key row w apart =
      let here = walked-here key_cmp key_cmp_total key_cmp-IsAntisymmetric (λ (k : Key). k) (λ k (row : Row). get other (table, k) ≡ Some row) whole more (key_lent key, row) w in (
        subst (λ o. IsSomeAnd o (λ row. get other (table, key_lent key) ≢ Some row)) (sym here) apart,
        λ k r less f. walked-to key_cmp key_cmp_total key_cmp-IsAntisymmetric (λ (k : Key). k) (λ k (row : Row). get other (table, k) ≡ Some row) whole more (key_lent key, row) w k r less f,
      )

module _ (state other : State) where
  -- of some tables these are left, and a state has all rows of the others
  abbrev pub TablesWalked : List (ℕ × List (Key × Row)) → List (ℕ × List (Key × Row)) → Type 0
  TablesWalked = Walked nat_cmp nat_cmp_total nat_cmp-IsAntisymmetric (λ u. u) (λ u (rows : List (Key × Row)). AgreeIn rows u other)

  pub tables-none : (whole left : List (ℕ × List (Key × Row))) → left ≡ whole → IsStrictlySortedBy nat_cmp (keys_of whole) → TablesWalked whole left
  tables-none = walked-none nat_cmp nat_cmp_total nat_cmp-IsAntisymmetric (λ u. u) (λ u (rows : List (Key × Row)). AgreeIn rows u other)

  pub tables-more : (whole more : List (ℕ × List (Key × Row))) (e : ℕ × List (Key × Row)) → TablesWalked whole (e ∷ more) → AgreeIn e.1 e.0 other → TablesWalked whole more
  tables-more = walked-more nat_cmp nat_cmp_total nat_cmp-IsAntisymmetric (λ u. u) (λ u (rows : List (Key × Row)). AgreeIn rows u other)

  -- a row of a state stands in its table
  in-table : (whole : List (ℕ × List (Key × Row))) (p : Object) (row : Row) (P : Type 0) → state_of whole ≡ state → get state p ≡ Some row → ((m : List (Key × Row)) → table_at whole p.0 ≡ Some m → row_under m p.1 ≡ Some row → P) → P
  in-table whole p row P view f then_so = by (table_at whole p.0) refl
    where
      by : (o : Option (List (Key × Row))) → table_at whole p.0 ≡ o → P
      by None e = let none : None ≡ Some row = sym (get-in whole p.0 state None view e p.1) ∙ f in cc
      by (Some m) e = then_so m e (sym (get-in whole p.0 state (Some m) view e p.1) ∙ f)

  pub tables-agree : (whole left : List (ℕ × List (Key × Row))) → state_of whole ≡ state → left ≡ [] → TablesWalked whole left → AgreeOn state other
  tables-agree whole left view nothing w p row f =
      in-table whole p row (get other p ≡ Some row) view f
      (λ m at g. walked-all nat_cmp nat_cmp_total nat_cmp-IsAntisymmetric (λ u. u) (λ u (rows : List (Key × Row)). AgreeIn rows u other) whole left nothing w p.0 m at p.1 row g)

  pub tables-first : {Z : Type 0} (whole more : List (ℕ × List (Key × Row))) (e : ℕ × List (Key × Row)) (spot : spots.Spot Z) → state_of whole ≡ state → TablesWalked whole (e ∷ more) → spot.table ≡ e.0 → IsFirstIn e.1 e.0 other spot.key → IsFirstOf state other spot
  tables-first whole more e spot view w at first = (
    subst (λ u. IsSomeAnd (get state (u, key)) (λ row. get other (u, key) ≢ Some row)) (sym at)
        (subst (λ o. IsSomeAnd o (λ row. get other (e.0, key) ≢ Some row)) (sym (get-in whole e.0 state (Some e.1) view here key)) first.0),
    λ p row less f. by p row f (nat_cmp p.0 e.0) refl (sym (ap (λ u. object_cmp p (u, key)) at) ∙ less),
  )
    where
      key : Key
      key = key_lent spot.key

      here : table_at whole e.0 ≡ Some e.1
      here = walked-here nat_cmp nat_cmp_total nat_cmp-IsAntisymmetric (λ u. u) (λ u (rows : List (Key × Row)). AgreeIn rows u other) whole more e w

      by : (p : Object) (row : Row) → get state p ≡ Some row → (o : Ordering) → nat_cmp p.0 e.0 ≡ o → object_cmp p (e.0, key) ≡ Less → get other p ≡ Some row
      by p row f Less t less =
          in-table whole p row (get other p ≡ Some row) view f
          (λ m there g. walked-to nat_cmp nat_cmp_total nat_cmp-IsAntisymmetric (λ u. u) (λ u (rows : List (Key × Row)). AgreeIn rows u other) whole more e w p.0 m t there p.1 row g)
      by p row f Equal t less =
          let same : p.0 ≡ e.0 = nat_cmp-IsAntisymmetric p.0 e.0 t in
          let under : row_under e.1 p.1 ≡ Some row = sym (get-in whole e.0 state (Some e.1) view here p.1) ∙ ap (λ u. get state (u, p.1)) (sym same) ∙ f in
          let before : key_cmp p.1 key ≡ Less = sym (ap (λ o. ordering_then o (key_cmp p.1 key)) t) ∙ less in
          ap (λ u. get other (u, p.1)) same ∙ first.1 p.1 row before under
      by p row f Greater t less =
          let never : Greater ≡ Less = sym (ap (λ o. ordering_then o (key_cmp p.1 key)) t) ∙ less in cc
