-- The laws of writes that meet questions, and that meet other writes.
use Rattle.std.proofs.Common.{◌≡◌, ◌↔◌, ◌⊎◌, zero, suc, Bool, true, false, ◌||◌, List, [], ◌∷◌, Any, refl, sym, subst, inl, inr, le_of_suc-le-suc, suc-le-suc, arith}
use Rattle.occ_types.specs.Question.{Question, asks}
use Rattle.occ_model.specs.State.{Write, meets_question, meets_reads, meets_writes, target}
use Rattle.occ_model.specs.RangeLaws.{MeetsReads, MeetsWrites}
use Rattle.occ_model.proofs.Tests.{or_left, or_right}
use Rattle.occ_model.proofs.States.{same_object}
use Rattle.occ_model.proofs.RangeAnswers.{same_of_equal}

-- Writes that meet questions and writes.

-- what holds of the head holds of some element
any_here : {X : Type 0} (P : X → Type 0) (x : X) (xs : List X) → P x → Any P (x ∷ xs)
any_here P x xs p = (0, x, omega arith, refl, p)

-- and so does what holds of some element of the tail
any_there : {X : Type 0} (P : X → Type 0) (x : X) (xs : List X) → Any P xs → Any P (x ∷ xs)
any_there P x xs a = (suc a.0, a.1, suc-le-suc a.2, a.3, a.4)

-- what holds of some element holds of the head or of one of the tail
any_cases : {X : Type 0} (P : X → Type 0) (x : X) (xs : List X) → Any P (x ∷ xs) → P x ⊎ Any P xs
any_cases P x xs (zero, y, h, e, p) = inl (subst P (sym e) p)
any_cases P x xs (suc k, y, h, e, p) = inr (k, y, le_of_suc-le-suc h, e, p)

-- nothing holds of an element of the empty list
any_of_none : {X : Type 0} (P : X → Type 0) → Any P [] → ⊥
any_of_none P a = omega (arith, a.2)

-- some x has some y just where some y has some x
turned_round : {X Y : Type 0} (R : X → Y → Type 0) (xs : List X) (ys : List Y) → Any (λ x. Any (λ y. R x y) ys) xs → Any (λ y. Any (λ x. R x y) xs) ys
turned_round R xs ys (k, x, h, e, (j, y, g, d, r)) = (j, y, g, d, (k, x, h, e, r))

-- a test of a list against `Any`: true at the head or in the tail
or_cases : (a b : Bool) → (a || b) ≡ true → (a ≡ true) ⊎ (b ≡ true)
or_cases true b e = inl refl
or_cases false b e = inr e

-- one step of a test that is true where it is so of some element
stepped : {X : Type 0} (P : X → Type 0) (x : X) (xs : List X) (a b : Bool) → (a ≡ true) ↔ P x → (b ≡ true) ↔ Any P xs → ((a || b) ≡ true) ↔ Any P (x ∷ xs)
stepped P x xs a b head tail = (λ e. go (or_cases a b e), λ any. back (any_cases P x xs any))
  where
    go : (a ≡ true) ⊎ (b ≡ true) → Any P (x ∷ xs)
    go (inl e) = any_here P x xs (head.0 e)
    go (inr e) = any_there P x xs (tail.0 e)

    back : P x ⊎ Any P xs → (a || b) ≡ true
    back (inl p) = or_left a b (head.1 p)
    back (inr any) = or_right a b (tail.1 any)

-- and its end: of no element
never : {X : Type 0} (P : X → Type 0) → (false ≡ true) ↔ Any P []
never P = (λ e. cc, λ any. absurd (any_of_none P any))

-- the test of one question
meets_one : (question : Question) (writes : List Write) → (meets_question writes question ≡ true) ↔ Any (λ (write : Write). asks question write.0 ≡ true) writes
meets_one question [] = never (λ (write : Write). asks question write.0 ≡ true)
meets_one question (write ∷ writes) =
    stepped (λ (w : Write). asks question w.0 ≡ true) write writes (asks question write.0) (meets_question writes question) (λ e. e, λ e. e) (meets_one question writes)

-- the test of many, question by question
meets_some : (writes : List Write) (reads : List Question) → (meets_reads writes reads ≡ true) ↔ Any (λ question. Any (λ (write : Write). asks question write.0 ≡ true) writes) reads
meets_some writes [] = never (λ question. Any (λ (write : Write). asks question write.0 ≡ true) writes)
meets_some writes (question ∷ reads) =
    stepped (λ q. Any (λ (write : Write). asks q write.0 ≡ true) writes) question reads (meets_question writes question) (meets_reads writes reads) (meets_one question writes) (meets_some writes reads)

-- writes meet reads just where some write is asked for
pub meets_reads_is : MeetsReads
meets_reads_is writes reads = (
  λ e. turned_round (λ (question : Question) (write : Write). asks question write.0 ≡ true) reads writes ((meets_some writes reads).0 e),
  λ any. (meets_some writes reads).1 (turned_round (λ (write : Write) (question : Question). asks question write.0 ≡ true) writes reads any),
)

-- a write is of what another's target asks for just where they write one object
asks_target : (other write : Write) → (asks (target other) write.0 ≡ true) ↔ (write.0 ≡ other.0)
unfolding asks
asks_target other write = (λ e. sym (same_object other.0 write.0 e), λ e. same_of_equal other.0 write.0 (sym e))

-- what holds of some element under one condition holds under an equivalent one
any_iff : {X : Type 0} (P Q : X → Type 0) (xs : List X) → ((x : X) → P x → Q x) → Any P xs → Any Q xs
any_iff P Q xs gives a = (a.0, a.1, a.2, a.3, gives a.1 a.4)

-- the test against other writes, one by one
meets_each : (writes others : List Write) → (meets_writes writes others ≡ true) ↔ Any (λ (other : Write). Any (λ (write : Write). write.0 ≡ other.0) writes) others
meets_each writes [] = never (λ (other : Write). Any (λ (write : Write). write.0 ≡ other.0) writes)
meets_each writes (other ∷ others) =
    stepped (λ (o : Write). Any (λ (write : Write). write.0 ≡ o.0) writes) other others (meets_question writes (target other)) (meets_writes writes others) (
      λ e. any_iff (λ (w : Write). asks (target other) w.0 ≡ true) (λ (w : Write). w.0 ≡ other.0) writes (λ w. (asks_target other w).0) ((meets_one (target other) writes).0 e),
      λ any. (meets_one (target other) writes).1 (any_iff (λ (w : Write). w.0 ≡ other.0) (λ (w : Write). asks (target other) w.0 ≡ true) writes (λ w. (asks_target other w).1) any),
    )
    (meets_each writes others)

-- writes meet writes just where some object is in both
pub meets_writes_is : MeetsWrites
meets_writes_is writes others = (
  λ e. turned_round (λ (other write : Write). write.0 ≡ other.0) others writes ((meets_each writes others).0 e),
  λ any. (meets_each writes others).1 (turned_round (λ (write other : Write). write.0 ≡ other.0) writes others any),
)
