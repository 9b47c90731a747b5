-- Two facts on states carry everything: writes that don't meet a question don't change its answer, and writes that are apart commute.
use Rattle.std.proofs.Common.{◌≡◌, ℕ, Bool, true, false, cond, List, [], ◌∷◌, map, drop, Option, None, Some, refl, sym, ap, subst, ◌∙◌, zero, suc}
use Rattle.std.specs.declared.cmp.Ordering.TheVariants.{Equal}
use Rattle.std.specs.Ordering.{eq_by_cmp}
use Rattle.std.specs.Cmp.{eq_by_cmp_equiv, Equal-is}
use Rattle.std.specs.FinMap.{get, retain_keys, entries, get-insert, get-remove, get-retain_keys, same_map}
use Rattle.std.specs.Prelude.{slice_get}
use Rattle.occ_types.specs.Object.{Object, object_cmp, object_cmp_total, object_cmp-IsAntisymmetric}
use Rattle.occ_types.specs.Question.{Question, One, Span, asks}
use Rattle.occ_types.specs.Row.{Row}
use Rattle.occ_model.specs.State.{State, Write, Found, Rows, answer, put, apply, meets_question, meets_reads, meets_writes, target, Observation}
use Rattle.occ_model.specs.Log.{AreAnswers}
use Rattle.occ_model.proofs.Tests.{or_false, clash, decided}

abbrev pub same : Object → Object → Bool
same = eq_by_cmp object_cmp

pub same_object : (a b : Object) → same a b ≡ true → a ≡ b
same_object a b e = object_cmp-IsAntisymmetric a b ((Equal-is (object_cmp a b)).0 e)

-- what a write leaves at an object
pub get-put : (state : State) (write : Write) (object : Object) → get (put state write) object ≡ cond (same object write.0) write.1 (get state object)
unfolding put
get-put state (written, None) object = get-remove object_cmp_total state written object
get-put state (written, Some row) object = get-insert object_cmp_total state written row object

pub same_state : (s t : State) → ((object : Object) → get s object ≡ get t object) → s ≡ t
same_state s t is = same_map object_cmp_total object_cmp-IsAntisymmetric s t is

-- a test gives one answer at equal objects
alike : (test : Object → Bool) (a b : Object) → object_cmp a b ≡ Equal → test b ≡ test a
alike test a b e = sym (ap test (object_cmp-IsAntisymmetric a b e))

kept_get : (test : Object → Bool) (state : State) (object : Object) → get (retain_keys state test) object ≡ cond (test object) (get state object) None
kept_get test state object = get-retain_keys state test object (alike test object)

-- under a test that the written object doesn't pass, a write is not seen
unseen : (test : Object → Bool) (state : State) (write : Write) → test write.0 ≡ false → (object : Object)
    → cond (test object) (get (put state write) object) None ≡ cond (test object) (get state object) None
unseen test state write out object = decided (test object)
    (λ inside. ap (λ x. cond (test object) x None) (get-put state write object
    ∙ ap (λ b. cond b write.1 (get state object)) (decided (same object write.0)
    (λ e. clash (test object) inside (ap test (same_object object write.0 e) ∙ out)) (λ e. e))))
    (λ outside. ap (λ b. cond b (get (put state write) object) None) outside ∙ sym (ap (λ b. cond b (get state object) None) outside))

-- a write that a question doesn't ask for doesn't change its answer
pub answer-put : (question : Question) (state : State) (write : Write) → asks question write.0 ≡ false → answer question (put state write) ≡ answer question state
unfolding answer asks
answer-put (One table key) state write out =
    ap Found (get-put state write (table, key) ∙ ap (λ b. cond b write.1 (get state (table, key))) out)
answer-put (Span table lower upper) state write out =
    let test : Object → Bool = asks (Span table lower upper) in
    ap (λ m. Rows (map (λ e. (e.0.1, e.1)) (entries m)))
    (same_state (retain_keys (put state write) test) (retain_keys state test)
    (λ object. kept_get test (put state write) object ∙ unseen test state write out object ∙ sym (kept_get test state object)))

pub answer-apply : (question : Question) (state : State) (writes : List Write) → meets_question writes question ≡ false → answer question (apply state writes) ≡ answer question state
answer-apply question state [] apart = refl
answer-apply question state (write ∷ writes) apart =
    let parts = or_false (asks question write.0) (meets_question writes question) apart in
    answer-apply question (put state write) writes parts.1 ∙ answer-put question state write parts.0

-- writes that don't meet what was read leave every answer as it is
pub AreAnswers-apply : (state : State) (writes : List Write) (reads : List Observation) → meets_reads writes (map (λ o. o.0) reads) ≡ false → AreAnswers state reads → AreAnswers (apply state writes) reads
AreAnswers-apply state writes [] apart are = tt
AreAnswers-apply state writes (seen ∷ others) apart are =
    let parts = or_false (meets_question writes seen.0) _ apart in
    (are.0 ∙ sym (answer-apply seen.0 state writes parts.0), AreAnswers-apply state writes others parts.1 are.1)

swapped : (a b : Bool) (x y z : Option Row) → (a ≡ true → b ≡ true → x ≡ y) → cond a x (cond b y z) ≡ cond b y (cond a x z)
swapped true true x y z e = e refl refl
swapped true false x y z e = refl
swapped false b x y z e = refl

-- two writes of different objects commute
pub put-put : (state : State) (a b : Write) → same b.0 a.0 ≡ false → put (put state a) b ≡ put (put state b) a
put-put state a b apart = same_state _ _ (λ object.
    get-put (put state a) b object ∙ ap (cond (same object b.0) b.1) (get-put state a object)
    ∙ swapped (same object b.0) (same object a.0) b.1 a.1 (get state object)
    (λ p q. clash (same b.0 a.0) ((eq_by_cmp_equiv object_cmp_total).symm b.0 a.0 ∙ subst (λ o. same a.0 o ≡ true) (same_object object b.0 p) ((eq_by_cmp_equiv object_cmp_total).symm a.0 object ∙ q)) apart)
    ∙ sym (get-put (put state b) a object ∙ ap (cond (same object a.0) a.1) (get-put state b object)))

-- writes commute with one of an object that they don't write
pub apply-put : (state : State) (writes : List Write) (write : Write) → meets_question writes (target write) ≡ false → apply (put state write) writes ≡ put (apply state writes) write
unfolding asks
apply-put state [] write apart = refl
apply-put state (first ∷ writes) write apart =
    let parts = or_false (asks (target write) first.0) (meets_question writes (target write)) apart in
    ap (λ s. apply s writes) (sym (put-put state first write parts.0)) ∙ apply-put (put state first) writes write parts.1

-- writes that are apart commute
pub apply-apply : (state : State) (writes others : List Write) → meets_writes writes others ≡ false → apply (apply state writes) others ≡ apply (apply state others) writes
apply-apply state writes [] apart = refl
apply-apply state writes (other ∷ others) apart =
    let parts = or_false (meets_question writes (target other)) _ apart in
    ap (λ s. apply s others) (sym (apply-put state writes other parts.0)) ∙ apply-apply (put state other) writes others parts.1

-- the writes still to come meet no more than all of them
pub meets_question-drop : (n : ℕ) (writes : List Write) (question : Question) → meets_question writes question ≡ false → meets_question (drop n writes) question ≡ false
meets_question-drop zero writes question apart = apart
meets_question-drop (suc n) [] question apart = apart
meets_question-drop (suc n) (write ∷ writes) question apart =
    meets_question-drop n writes question (or_false (asks question write.0) _ apart).1

pub meets_writes-drop : (n : ℕ) (writes others : List Write) → meets_writes writes others ≡ false → meets_writes writes (drop n others) ≡ false
meets_writes-drop zero writes others apart = apart
meets_writes-drop (suc n) writes [] apart = apart
meets_writes-drop (suc n) writes (other ∷ others) apart =
    meets_writes-drop n writes others (or_false (meets_question writes (target other)) _ apart).1

-- writes apart from others are apart from each one of them
pub meets_writes-one : (n : ℕ) (writes others : List Write) (one : Write) → meets_writes writes others ≡ false → slice_get others n ≡ Some one → meets_question writes (target one) ≡ false
meets_writes-one n writes [] one apart is = cc
meets_writes-one zero writes (other ∷ others) one apart is =
    let e : other ≡ one = cc in
    subst (λ w. meets_question writes (target w) ≡ false) e (or_false (meets_question writes (target other)) _ apart).0
meets_writes-one (suc n) writes (other ∷ others) one apart is =
    meets_writes-one n writes others one (or_false (meets_question writes (target other)) _ apart).1 is
