-- Rows that come in one after another: the first fault of them, and what the state has when there is none.
use Rattle.std.proofs.Common.{◌≡◌, ℕ, Bool, true, false, cond, ◌||◌, List, [], ◌∷◌, Option, None, Some, is_some, refl, sym, ap, subst, ◌∙◌, inl, inr}
use Rattle.std.specs.List.{list_any}
use Rattle.std.proofs.lemmas.List.Elements.{All-from_recursion}
use Rattle.occ_types.specs.Schema.{first_fault}
use Rattle.occ_types.specs.declared.fault.Fault.{Fault}
use Rattle.occ_types.specs.declared.fault.Fault.TheVariants.{BadSchema}
use Rattle.occ_book.specs.Loaded.{row_fault, fault_behind, rows_fault, IsToldAs, puts_of, loaded, renumbered, HasEach}
use Rattle.occ_book.proofs.Common.{get, get-empty, empty, Object, object_cmp, object_cmp_total, eq_by_cmp_equiv, Row, State, apply, put, get-put, same, same_object, decided, clash, AllByRecursion, Base, Question, One, Found, answer}

-- a state has rows of these objects and no others
abbrev pub HasTaken : State → List Object → Type 0
HasTaken state taken = (object : Object) → is_some (get state object) ≡ list_any (same object) taken

pub none-taken : (state : State) → state ≡ empty → HasTaken state []
none-taken state is = λ object. ap (λ s. is_some (get s object)) is ∙ ap is_some (get-empty object_cmp object)

-- one more row takes its object
pub one-taken : (state : State) (taken : List Object) (object : Object) (row : Row) → HasTaken state taken → HasTaken (put state (object, Some row)) (object ∷ taken)
one-taken state taken object row has = λ other.
    ap is_some (get-put state (object, Some row) other) ∙ by (same other object) (get state other) (list_any (same other) taken) (has other)
  where
    by : (b : Bool) (found : Option Row) (among : Bool) → is_some found ≡ among → is_some (cond b (Some row) found) ≡ (b || among)
    by true found among is = refl
    by false found among is = is

-- the fault of a row that has one is the first
fault-here : (here later : Option Fault) (fault : Fault) → here ≡ Some fault → first_fault (here ∷ later ∷ []) ≡ Some fault
fault-here None later fault is = cc
fault-here (Some x) later fault is = is

-- and where it has none, that of the rows behind it is
fault-later : (here later : Option Fault) → here ≡ None → first_fault (here ∷ later ∷ []) ≡ later
fault-later None None is = refl
fault-later None (Some x) is = refl
fault-later (Some x) later is = cc

-- tables have a state that the rows that are left lead on from, and the first fault is among them
pub record IsLeft (tables : ℕ) (state : State) (rows all : List (Object × Row)) : Type 0 where
  pub taken : List Object
  pub has : HasTaken state taken
  pub leads : apply state (puts_of rows) ≡ apply empty (puts_of all)
  pub fault : fault_behind tables taken rows ≡ rows_fault tables all

pub all-left : (tables : ℕ) (state : State) (all : List (Object × Row)) → state ≡ empty → IsLeft tables state all all
all-left tables state all is = record {
  taken = [];
  has = none-taken state is;
  leads = ap (λ s. apply s (puts_of all)) is;
  fault = refl;
}

-- a row without a fault has come in
pub left-more : (tables count : ℕ) (state new : State) (e : Object × Row) (rows all : List (Object × Row)) → count ≡ tables → IsLeft tables state (e ∷ rows) all → row_fault count e.0 (is_some (get state e.0)) ≡ None → new ≡ put state (e.0, Some e.1) → IsLeft tables new rows all
left-more tables count state new e rows all counted left none is = record {
  taken = e.0 ∷ left.taken;
  has = subst (λ s. HasTaken s (e.0 ∷ left.taken)) (sym is) (one-taken state left.taken e.0 e.1 left.has);
  leads = ap (λ s. apply s (puts_of rows)) is ∙ left.leads;
  fault =
      sym (fault-later _ (fault_behind tables (e.0 ∷ left.taken) rows) ((λ i. row_fault (sym counted i) e.0 (sym (left.has e.0) i)) ∙ none))
      ∙ left.fault;
}

-- what is told of a row is told of all
pub left-told : (tables count : ℕ) (state : State) (e : Object × Row) (rows all : List (Object × Row)) (told : Fault) → count ≡ tables → IsLeft tables state (e ∷ rows) all → IsToldAs (row_fault count e.0 (is_some (get state e.0))) told → IsToldAs (rows_fault tables all) told
left-told tables count state e rows all told counted left (inl is) =
    inl (sym left.fault ∙ fault-here _ (fault_behind tables (e.0 ∷ left.taken) rows) told ((λ i. row_fault (sym counted i) e.0 (sym (left.has e.0) i)) ∙ is))
left-told tables count state e rows all told counted left (inr memory) = inr memory

-- a row without a fault has an object that is not taken
free : (tables : ℕ) (object : Object) (b : Bool) → row_fault tables object b ≡ None → b ≡ false
free tables object true is = absurd (busy _ is)
  where
    busy : (here : Option Fault) → first_fault (here ∷ Some BadSchema ∷ []) ≡ None → ⊥
    busy None is = cc
    busy (Some x) is = cc
free tables object false is = refl

both-none : (here later : Option Fault) → first_fault (here ∷ later ∷ []) ≡ None → (here ≡ None) × (later ≡ None)
both-none None None is = (refl, refl)
both-none None (Some x) is = cc
both-none (Some x) later is = cc

-- rows that come in later leave a taken object as it is
stays : (tables : ℕ) (state : State) (taken : List Object) (rows : List (Object × Row)) (object : Object) → list_any (same object) taken ≡ true → fault_behind tables taken rows ≡ None → get (apply state (puts_of rows)) object ≡ get state object
stays tables state taken [] object among none = refl
stays tables state taken (e ∷ rows) object among none =
    let parts = both-none _ _ none in
    let new = free tables e.0 _ parts.0 in
    let apart : same object e.0 ≡ false = decided (same object e.0) (λ tied. clash (list_any (same e.0) taken) (subst (λ o. list_any (same o) taken ≡ true) (same_object object e.0 tied) among) new) (λ apart. apart) in
    stays tables (put state (e.0, Some e.1)) (e.0 ∷ taken) rows object (ap (λ b. b || list_any (same object) taken) apart ∙ among) parts.1
    ∙ get-put state (e.0, Some e.1) object
    ∙ ap (λ b. cond b (Some e.1) (get state object)) apart

each-stands : (tables : ℕ) (state : State) (taken : List Object) (rows : List (Object × Row)) → fault_behind tables taken rows ≡ None → AllByRecursion (λ e. get (apply state (puts_of rows)) e.0 ≡ Some e.1) rows
each-stands tables state taken [] none = tt
each-stands tables state taken (e ∷ rows) none =
    let parts = both-none _ _ none in
    let tied : same e.0 e.0 ≡ true = (eq_by_cmp_equiv object_cmp_total).refl e.0 in
    let here = stays tables (put state (e.0, Some e.1)) (e.0 ∷ taken) rows e.0 (ap (λ b. b || list_any (same e.0) taken) tied) parts.1
    ∙ get-put state (e.0, Some e.1) e.0
    ∙ ap (λ b. cond b (Some e.1) (get state e.0)) tied in
    (here, each-stands tables (put state (e.0, Some e.1)) (e.0 ∷ taken) rows parts.1)

-- rows without a fault all stand
pub has-each : (tables : ℕ) (rows : List (Object × Row)) → rows_fault tables rows ≡ None → HasEach (apply empty (puts_of rows)) rows
has-each tables rows none = All-from_recursion (λ e. get (apply empty (puts_of rows)) e.0 ≡ Some e.1) rows (each-stands tables empty [] rows none)

-- and each is answered to the question for it
pub each-answered : (tables : ℕ) (rows : List (Object × Row)) → rows_fault tables rows ≡ None → AllByRecursion (λ e. answer (One e.0.0 e.0.1) (loaded rows).state ≡ Found (Some e.1)) rows
unfolding answer
each-answered tables rows none = found rows (each-stands tables empty [] rows none)
  where
    found : (some : List (Object × Row)) → AllByRecursion (λ e. get (loaded rows).state e.0 ≡ Some e.1) some → AllByRecursion (λ e. Found (get (loaded rows).state e.0) ≡ Found (Some e.1)) some
    found [] stand = tt
    found (e ∷ some) stand = (ap Found stand.0, found some stand.1)

-- a base without numbers answers as the one that had them
pub answers-renumbered : (question : Question) (base : Base) → answer question (renumbered base).state ≡ answer question base.state
answers-renumbered question base = refl
