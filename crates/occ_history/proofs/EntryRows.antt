-- Lists of entries: one more, and one that takes another standing.
use Rattle.std.proofs.Common.{◌≡◌, ℕ, Bool, true, false, List, [], ◌∷◌, ◌++◌, refl, sym, ap, subst, append_assoc}
use Rattle.std.proofs.lemmas.List.{append-nil}
use Rattle.occ_model.specs.State.{State, Write}
use Rattle.occ_model.specs.Operations.{Operation}
use Rattle.occ_model.specs.Log.{LogRow, Standing, Explained, after, serial}
use Rattle.occ_model.specs.Event.{Item, Request, Alone, Close, Event, Read, Forget, Enter, Decide, WriteOne, Finish, BackUp, SerialEnd, RunAlone, Checkpoint, Reply}
use Rattle.occ_model.proofs.Logs.{standing_at}
use Rattle.occ_history.specs.History.{Happened}
use Rattle.occ_history.specs.Orders.{enters, EntersItem, EntersBy, IsPerformed, IsRequested, AreEntries}

abbrev head_or : {A : Type 0} → A → List A → A
head_or d [] = d
head_or d (x ∷ xs) = x

abbrev tail_of : {A : Type 0} → List A → List A
tail_of [] = []
tail_of (x ∷ xs) = xs

-- what the first event of a history asks of the rows
abbrev pub Entering : List Happened → Happened → List Happened → List LogRow → Bool → Type 0
Entering earlier first others rows b = elim b as (λ _. Type 0) [
  | true ↦ (row : LogRow) × (later : List LogRow) × (rows ≡ row ∷ later) × EntersBy earlier first.0 first.1 row × AreEntries (earlier ++ first ∷ []) others later
  | false ↦ AreEntries (earlier ++ first ∷ []) others rows
]

-- one history after another
pub entries-append : (xs ys earlier : List Happened) (rows more : List LogRow) → AreEntries earlier xs rows → AreEntries (earlier ++ xs) ys more → AreEntries earlier (xs ++ ys) (rows ++ more)
entries-append [] ys earlier rows more none these =
    subst (λ (l : List LogRow). AreEntries earlier ys (l ++ more)) (sym none) (subst (λ (l : List Happened). AreEntries l ys more) (append-nil earlier) these)
entries-append (x ∷ xs) ys earlier rows more those these =
    go (enters x.0 x.1) (λ later are. entries-append xs ys (earlier ++ x ∷ []) later more are (subst (λ (l : List Happened). AreEntries l ys more) (sym (append_assoc earlier (x ∷ []) xs)) these)) those
  where
    go : (b : Bool) → ((later : List LogRow) → AreEntries (earlier ++ x ∷ []) xs later → AreEntries (earlier ++ x ∷ []) (xs ++ ys) (later ++ more))
        → Entering earlier x xs rows b → Entering earlier x (xs ++ ys) (rows ++ more) b
    go true onward e = (e.0, e.1 ++ more, ap (λ (l : List LogRow). l ++ more) e.2, e.3, onward e.1 e.4)
    go false onward e = onward rows e

-- an event by which nothing enters
pub none_more : (log : List Happened) (happened : Happened) (rows : List LogRow) → AreEntries [] log rows → enters happened.0 happened.1 ≡ false → AreEntries [] (log ++ happened ∷ []) rows
none_more log happened rows are none =
    subst (λ (l : List LogRow). AreEntries [] (log ++ happened ∷ []) l) (append-nil rows)
    (entries-append log (happened ∷ []) [] rows [] are (subst (λ (b : Bool). Entering log happened [] [] b) (sym none) refl))

-- an event by which a row enters
pub one_more : (log : List Happened) (happened : Happened) (rows : List LogRow) (row : LogRow) → AreEntries [] log rows → enters happened.0 happened.1 ≡ true → EntersBy log happened.0 happened.1 row
    → AreEntries [] (log ++ happened ∷ []) (rows ++ row ∷ [])
one_more log happened rows row are enters_is by =
    entries-append log (happened ∷ []) [] rows (row ∷ []) are (subst (λ (b : Bool). Entering log happened [] (row ∷ []) b) (sym enters_is) (row, [], refl, by, refl))

-- how a row stands is no matter of how it entered
requested_turned : (earlier : List Happened) (session number start : ℕ) (row : LogRow) (standing : Standing) (writes : List Write)
    → IsRequested earlier session number start writes row → IsRequested earlier session number start writes (standing_at row standing)
requested_turned earlier session number start row standing writes is = record {
  session_is = is.session_is;
  number_is = is.number_is;
  start_is = is.start_is;
  reads_are = is.reads_are;
  writes_are = is.writes_are;
}

performed_turned : (session number : ℕ) (operations : List Operation) (reply : Reply) (row : LogRow) (standing : Standing)
    → IsPerformed session number operations reply row → IsPerformed session number operations reply (standing_at row standing)
performed_turned session number operations reply row standing is = record {
  session_is = is.session_is;
  number_is = is.number_is;
  state = is.state;
  tn = is.tn;
  reads_are = is.reads_are;
  writes_are = is.writes_are;
  answers_are = is.answers_are;
}

item_turned : (earlier : List Happened) (session : ℕ) (item : Item) (reply : Reply) (row : LogRow) (standing : Standing) → EntersItem earlier session item reply row → EntersItem earlier session item reply (standing_at row standing)
item_turned earlier session (Request number start writes) reply row standing is = requested_turned earlier session number start row standing writes is
item_turned earlier session (Alone number operations) reply row standing is = performed_turned session number operations reply row standing is
item_turned earlier session (Close number) reply row standing is = is

by_turned : (earlier : List Happened) (event : Event) (reply : Reply) (row : LogRow) (standing : Standing) → EntersBy earlier event reply row → EntersBy earlier event reply (standing_at row standing)
by_turned earlier (Read s n start question) reply row standing is = is
by_turned earlier (Forget s n) reply row standing is = is
by_turned earlier (Enter s item) reply row standing is = item_turned earlier s item reply row standing is
by_turned earlier (Decide s) reply row standing is = is
by_turned earlier (WriteOne s) reply row standing is = is
by_turned earlier (Finish s) reply row standing is = is
by_turned earlier (BackUp s) reply row standing is = is
by_turned earlier (SerialEnd s item) reply row standing is = item_turned earlier s item reply row standing is
by_turned earlier (RunAlone s n operations) reply row standing is = performed_turned s n operations reply row standing is
by_turned earlier Checkpoint reply row standing is = is

not_empty : {A : Type 0} (before : List A) (x : A) (later : List A) → before ++ x ∷ later ≡ [] → ⊥
not_empty [] x later e = cc e
not_empty (y ∷ ys) x later e = cc e

pub entries_turned : (log earlier : List Happened) (before : List LogRow) (row : LogRow) (later : List LogRow) (standing : Standing)
    → AreEntries earlier log (before ++ row ∷ later) → AreEntries earlier log (before ++ standing_at row standing ∷ later)
entries_turned [] earlier before row later standing none = absurd (not_empty before row later none)
entries_turned (x ∷ xs) earlier before row later standing are =
    go (enters x.0 x.1) (λ front rows. entries_turned xs (earlier ++ x ∷ []) front row later standing rows) before are
  where
    go : (b : Bool) → ((front : List LogRow) → AreEntries (earlier ++ x ∷ []) xs (front ++ row ∷ later) → AreEntries (earlier ++ x ∷ []) xs (front ++ standing_at row standing ∷ later))
        → (before : List LogRow) → Entering earlier x xs (before ++ row ∷ later) b → Entering earlier x xs (before ++ standing_at row standing ∷ later) b
    go true onward [] e =
        let same : e.0 ≡ row = ap (head_or row) (sym e.2) in
        let rest : e.1 ≡ later = ap tail_of (sym e.2) in (
          standing_at row standing,
          later,
          refl,
          by_turned earlier x.0 x.1 row standing (subst (EntersBy earlier x.0 x.1) same e.3),
          subst (AreEntries (earlier ++ x ∷ []) xs) rest e.4,
        )
    go true onward (y ∷ ys) e =
        let same : e.0 ≡ y = ap (head_or y) (sym e.2) in
        let rest : e.1 ≡ ys ++ row ∷ later = ap tail_of (sym e.2) in (
          y,
          ys ++ standing_at row standing ∷ later,
          refl,
          subst (EntersBy earlier x.0 x.1) same e.3,
          onward ys (subst (AreEntries (earlier ++ x ∷ []) xs) rest e.4),
        )
    go false onward before e = onward before e

-- what explains a log
pub explained-append : (state : State) (xs ys : List LogRow) → Explained state xs → Explained (serial state xs) ys → Explained state (xs ++ ys)
explained-append state [] ys these those = those
explained-append state (x ∷ xs) ys these those = (these.0, explained-append (after state x) xs ys these.1 those)

pub explained-front : (state : State) (xs ys : List LogRow) → Explained state (xs ++ ys) → Explained state xs
explained-front state [] ys are = tt
explained-front state (x ∷ xs) ys are = (are.0, explained-front (after state x) xs ys are.1)
