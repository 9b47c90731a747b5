-- What a state answers to a question, from the rows of its table.
use Rattle.std.proofs.Common.{true, ◌≡◌, ℕ, Bool, false, List, [], ◌∷◌, length, Option, None, Some, refl, sym, ap, ◌∙◌, arith, Decides, ◌==◌, Bor, option_copied}
use Rattle.occ_audit.proofs.Common.{answers_range, IsStrictlySortedBy, keys_of, option_eq, get, Decides-eqb, Key, key_cmp, Object, Question, One, Span, Row, row_same, row_same-decides, State, Answer, Found, Rows, answer, row_under}
use Rattle.occ_book.proofs.TableEntries.{answer-rows}
use Rattle.occ_book.proofs.Views.{all-within}

-- the answer of a table is all of it where there are no ends
pub answer-all : (state : State) (t : ℕ) (rows : List (Key × Row)) → IsStrictlySortedBy key_cmp (keys_of rows) → ((k : Key) → get state (t, k) ≡ row_under rows k) → answer (Span t None None) state ≡ Rows rows
answer-all state t rows ordered is = answer-rows state t None None rows ordered is ∙ ap Rows (all-within rows)

-- whether there is no row
pub none-decides : (rows : List (Key × Row)) (n : ℕ) (r : Bool) → n ≡ length rows → r ≡ (n == 0) → Decides r (rows ≡ [])
none-decides [] n r e is = (λ _. refl, λ _. is ∙ (Decides-eqb n 0).1 e)
none-decides (x ∷ xs) n r e is = (λ h. let z = (Decides-eqb n 0).0 (sym is ∙ h) in absurd (omega arith), λ h. cc)

-- a test decides the same of equal values

decides-at : {s t : Answer} (x y : Answer) (r : Bool) → s ≡ x → t ≡ y → Decides r (x ≡ y) → Decides r (s ≡ t)
decides-at x y r p q d = (λ h. p ∙ d.0 h ∙ sym q, λ h. d.1 (sym p ∙ h ∙ q))

-- answers are the same where their rows are
pub rows-decide : (s t : Answer) (xs ys : List (Key × Row)) (r : Bool) → s ≡ Rows xs → t ≡ Rows ys → Decides r (xs ≡ ys) → Decides r (s ≡ t)
rows-decide s t xs ys r p q d = decides-at (Rows xs) (Rows ys) r p q (λ h. ap Rows (d.0 h), λ h. d.1 (cc))

-- the answer for one key

pub option-decides : (x y : Option (Bor Row)) → Decides (option_eq (λ a b. row_same a.now b.now) x y) (option_copied x ≡ option_copied y)
option-decides None None = (λ _. refl, λ _. refl)
option-decides None (Some b) = (λ e. cc, λ e. cc)
option-decides (Some a) None = (λ e. cc, λ e. cc)
option-decides (Some a) (Some b) =
    (λ e. ap Some ((row_same-decides a.now b.now).0 e), λ e. (row_same-decides a.now b.now).1 (cc))

pub one-decides : (given : Answer) (question : Question) (object : Object) (row : Option Row) (old : State) (x y : Option (Bor Row)) (r : Bool) → question ≡ One object.0 object.1 → given ≡ Found row → get old object ≡ option_copied x → option_copied y ≡ row → r ≡ option_eq (λ a b. row_same a.now b.now) x y → Decides r (given ≡ answer question old)
unfolding answer
one-decides given question object row old x y r q g found same is =
    let d = option-decides x y in
    decides-at (Found (option_copied y)) (Found (option_copied x)) r (g ∙ ap Found (sym same)) (ap (λ w. answer w old) q ∙ ap Found found)
    (λ e. ap Found (sym (d.0 (sym is ∙ e))), λ e. let h : option_copied y ≡ option_copied x = cc in is ∙ d.1 (sym h))

-- the row of an object is the answer for it
pub one-answered : (question : Question) (table : ℕ) (key : Key) (row : Option Row) (state : State) → question ≡ One table key → row ≡ get state (table, key) → Found row ≡ answer question state
unfolding answer
one-answered question table key row state asked is =
    ap Found is ∙ sym (ap (λ q. answer q state) asked)

-- rows are no answer for one key, and a row none to a range

pub one-not-rows : (given : Answer) (question : Question) (table : ℕ) (key : Key) (rows : List (Key × Row)) (old : State) → question ≡ One table key → given ≡ Rows rows → Decides false (given ≡ answer question old)
unfolding answer
one-not-rows given question table key rows old q g =
    decides-at (Rows rows) (Found (get old (table, key))) false g (ap (λ w. answer w old) q) (λ (e : false ≡ true). cc, λ e. cc)

pub span-not-found : (given : Answer) (question : Question) (table : ℕ) (a b : Option Key) (row : Option Row) (old : State) → question ≡ Span table a b → given ≡ Found row → Decides false (given ≡ answer question old)
span-not-found given question table a b row old q g =
    let range = answers_range old table a b in
    decides-at (Found row) (Rows range.0) false g (ap (λ w. answer w old) q ∙ range.1.answered) (λ (e : false ≡ true). cc, λ e. cc)
