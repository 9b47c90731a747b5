-- How writes of which no two are of one object are taken back, and a deletion of what is not there.
use Rattle.std.proofs.Common.{◌≡◌, Bool, true, false, cond, List, ◌∷◌, None, Some, refl, sym, ap, ◌∙◌, is_eq}
use Rattle.occ_audit.proofs.Common.{tied_itself, get, Object, object_cmp_total, State, Write, put, apply, own, IsDistinctWrites, same, same_object, get-put, same_state, over, get-own, Iff}

-- One write is taken back: under its object the state gets what the table has. The table with all of the writes is the state just where that with the other ones is the state then.
pub taken_back : (table state next : State) (write : Write) (writes : List Write) → IsDistinctWrites (write ∷ writes) → get state write.0 ≡ write.1 → next ≡ put state (write.0, get table write.0) → Iff (apply table (write ∷ writes) ≡ state) (apply table writes ≡ next)
taken_back table state next write writes distinct here is = (
  λ e. same_state _ _ (λ p.
      get-own writes table p distinct.1
      ∙ onward p (same p write.0) refl (sym (get-own (write ∷ writes) table p distinct) ∙ ap (λ s. get s p) e)
      ∙ sym (get-put state (write.0, get table write.0) p)
      ∙ ap (λ s. get s p) (sym is)),
  λ e. same_state _ _ (λ p.
      get-own (write ∷ writes) table p distinct
      ∙ back p (same p write.0) refl (sym (get-own writes table p distinct.1) ∙ ap (λ s. get s p) (e ∙ is) ∙ get-put state (write.0, get table write.0) p)),
)
  where
    onward : (p : Object) (b : Bool) → same p write.0 ≡ b → over (cond b (Some write.1) (own writes p)) (get table p) ≡ get state p → over (own writes p) (get table p) ≡ cond b (get table write.0) (get state p)
    onward p true t f =
        let object = same_object p write.0 t in
        ap (λ o. over o (get table p)) (ap (own writes) object ∙ distinct.0) ∙ ap (get table) object
    onward p false t f = f

    back : (p : Object) (b : Bool) → same p write.0 ≡ b → over (own writes p) (get table p) ≡ cond b (get table write.0) (get state p) → over (cond b (Some write.1) (own writes p)) (get table p) ≡ get state p
    back p true t f = sym here ∙ ap (get state) (sym (same_object p write.0 t))
    back p false t f = f

-- and where the state has something else under that object, it is not
pub not_back : (table state : State) (write : Write) (writes : List Write) → IsDistinctWrites (write ∷ writes) → (get state write.0 ≡ write.1 → ⊥) → apply table (write ∷ writes) ≡ state → ⊥
not_back table state write writes distinct apart e =
    apart (ap (λ s. get s write.0) (sym e) ∙ get-own (write ∷ writes) table write.0 distinct ∙ ap (λ b. over (cond b (Some write.1) (own writes write.0)) (get table write.0)) (ap is_eq (tied_itself object_cmp_total write.0)))

-- to delete what is not there changes nothing
pub put-nothing : (state : State) (object : Object) → get state object ≡ None → state ≡ put state (object, None)
put-nothing state object none = same_state _ _ (λ other. by other (same other object) refl ∙ sym (get-put state (object, None) other))
  where
    by : (other : Object) (b : Bool) → same other object ≡ b → get state other ≡ cond (same other object) None (get state other)
    by other true e = ap (get state) (same_object other object e) ∙ none ∙ sym (ap (λ b. cond b None (get state other)) e)
    by other false e = sym (ap (λ b. cond b None (get state other)) e)
