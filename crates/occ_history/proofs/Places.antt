-- At which place of a serial order a transaction stands, and what it read there.
use Rattle.std.proofs.Common.{◌≡◌, ⊎_elim, Bool, true, false, List, [], ◌∷◌, ◌++◌, sym, ap, subst, ◌∙◌, append_assoc}
use Rattle.std.proofs.lemmas.List.{append-nil}
use Rattle.occ_model.specs.State.{State}
use Rattle.occ_model.specs.Log.{LogRow, is_committed, after, serial, AreAnswers, Explained}
use Rattle.occ_model.specs.Event.{Event}
use Rattle.occ_history.specs.History.{Happened}
use Rattle.occ_history.specs.Orders.{enters, EntersBy, AreEntries, IsRequested}
use Rattle.occ_history.specs.Laws.{AnswersAreOfTheirPlace}
use Rattle.occ_history.proofs.EntryRows.{Entering}

-- A row stands in the order that entered by an event, after these.
abbrev Placed : Happened → List Happened → List LogRow → Type 0
Placed happened these order = (before : List LogRow) × (row : LogRow) × (others : List LogRow) × (order ≡ before ++ row ∷ others) × EntersBy these happened.0 happened.1 row

placed : (earlier pre : List Happened) (happened : Happened) (later : List Happened) (order : List LogRow) → enters happened.0 happened.1 ≡ true → AreEntries pre (earlier ++ happened ∷ later) order
    → Placed happened (pre ++ earlier) order
placed [] pre happened later order is are =
    let e : Entering pre happened later order true = subst (λ (b : Bool). Entering pre happened later order b) is are in
    ([], e.0, e.1, e.2, subst (λ (l : List Happened). EntersBy l happened.0 happened.1 e.0) (sym (append-nil pre)) e.3)
placed (x ∷ xs) pre happened later order is are = go (enters x.0 x.1) (λ rows these. placed xs (pre ++ x ∷ []) happened later rows is these) are
  where
    back : (row : LogRow) → EntersBy ((pre ++ x ∷ []) ++ xs) happened.0 happened.1 row → EntersBy (pre ++ x ∷ xs) happened.0 happened.1 row
    back row by = subst (λ (l : List Happened). EntersBy l happened.0 happened.1 row) (append_assoc pre (x ∷ []) xs) by

    go : (b : Bool) → ((rows : List LogRow) → AreEntries (pre ++ x ∷ []) (xs ++ happened ∷ later) rows → Placed happened ((pre ++ x ∷ []) ++ xs) rows)
        → Entering pre x (xs ++ happened ∷ later) order b → Placed happened (pre ++ x ∷ xs) order
    go true onward e = let r = onward e.1 e.4 in (e.0 ∷ r.0, r.1, r.2, e.2 ∙ ap (λ (l : List LogRow). e.0 ∷ l) r.3, back r.1 r.4)
    go false onward e = let r = onward order e in (r.0, r.1, r.2, r.3, back r.1 r.4)

-- what a committed transaction read at its place
read_there : (state : State) (before : List LogRow) (row : LogRow) (others : List LogRow) → Explained state (before ++ row ∷ others) → is_committed row.standing ≡ true → AreAnswers (serial state before) row.reads
read_there state [] row others are is = are.0 is
read_there state (x ∷ xs) row others are is = read_there (after state x) xs row others are.1 is

pub answers_are_of_their_place : AnswersAreOfTheirPlace
answers_are_of_their_place state log earlier later world order session number start writes event reply is_order split either is_one =
    let enters_is : enters event reply ≡ true = ⊎_elim
    (λ e. ap (λ (v : Event). enters v reply) e ∙ is_one)
    (λ e. ap (λ (v : Event). enters v reply) e ∙ is_one)
    either in
    let at = placed earlier [] (event, reply) later order enters_is (subst (λ (l : List Happened). AreEntries [] l order) split is_order.entries) in
    let requested : IsRequested earlier session number start writes at.1 = ⊎_elim
    (λ e. subst (λ (v : Event). EntersBy earlier v reply at.1) e at.4)
    (λ e. subst (λ (v : Event). EntersBy earlier v reply at.1) e at.4)
    either in (
      at.0,
      at.1,
      at.2,
      at.3,
      requested,
      λ committed. subst (AreAnswers (serial state at.0)) requested.reads_are
          (read_there state at.0 at.1 at.2 (subst (Explained state) at.3 is_order.explained) committed),
    )
