-- How the log's properties stand when a row is added, turns, or is folded.
use Rattle.std.proofs.Common.{◌≡◌, ℕ, true, false, cond, List, [], ◌∷◌, ◌++◌, map, Some, refl, sym, ap, subst, ◌∙◌}
use Rattle.std.specs.Prelude.{slice_get}
use Rattle.occ_types.specs.Question.{Question}
use Rattle.occ_model.specs.State.{State, Write, put, apply, meets_question, meets_reads, meets_writes, target}
use Rattle.occ_model.specs.Log.{LogRow, Standing, Open, Writing, Done, Back, is_committed, is_active, remaining, rest, after, serial, settled, AreAnswers}
use Rattle.occ_model.specs.Invariant.{is_sound, IsApart, ApartFromSound, Chained}
use Rattle.occ_model.proofs.Tests.{decided}
use Rattle.occ_model.proofs.States.{AreAnswers-apply, apply-put, apply-apply, meets_question-drop, meets_writes-drop, meets_writes-one}

-- what is committed is sound, and so is what is in its write phase
pub committed_sound : (s : Standing) → is_committed s ≡ true → is_sound s ≡ true
committed_sound (Open index case) e = cc
committed_sound (Writing done) e = refl
committed_sound (Done number) e = refl
committed_sound (Back cause) e = cc

-- a row with another standing
abbrev pub standing_at : LogRow → Standing → LogRow
standing_at row standing = record row { standing = standing }

-- one row after another

pub serial-append : (state : State) (xs ys : List LogRow) → serial state (xs ++ ys) ≡ serial (serial state xs) ys
serial-append state [] ys = refl
serial-append state (x ∷ xs) ys = serial-append (after state x) xs ys

pub settled-append : (table : State) (xs ys : List LogRow) → settled table (xs ++ ys) ≡ settled (settled table xs) ys
settled-append table [] ys = refl
settled-append table (x ∷ xs) ys = settled-append (apply table (rest x)) xs ys

pub ApartFromSound-push : (writes : List Write) (rows : List LogRow) (row : LogRow) → ApartFromSound writes rows → (is_sound row.standing ≡ true → IsApart writes row) → ApartFromSound writes (rows ++ row ∷ [])
ApartFromSound-push writes [] row apart last = (last, tt)
ApartFromSound-push writes (x ∷ xs) row apart last = (apart.0, ApartFromSound-push writes xs row apart.1 last)

-- the writes of every active row are apart from one row
abbrev pub ActiveAreApart : List LogRow → LogRow → Type 0
ActiveAreApart [] row = Unit {0}
ActiveAreApart (x ∷ xs) row = (is_active x.standing ≡ true → IsApart x.writes row) × ActiveAreApart xs row

-- a row that enters
pub Chained-push : (state : State) (rows : List LogRow) (row : LogRow) → Chained state rows
    → (is_sound row.standing ≡ true → AreAnswers (serial state rows) row.reads)
    → (is_sound row.standing ≡ true → ActiveAreApart rows row)
    → Chained state (rows ++ row ∷ [])
Chained-push state [] row chained reads apart = (reads, λ active. tt, tt)
Chained-push state (x ∷ xs) row chained reads apart = (
  chained.0,
  λ active. ApartFromSound-push x.writes xs row (chained.1 active) (λ sound. (apart sound).0 active),
  Chained-push (after state x) xs row chained.2 reads (λ sound. (apart sound).1),
)

-- writes among rows that they are apart from

meets_writes-remaining : (writes theirs : List Write) (s : Standing) → meets_writes writes theirs ≡ false → meets_writes writes (remaining theirs s) ≡ false
meets_writes-remaining writes theirs (Open index case) apart = refl
meets_writes-remaining writes theirs (Writing done) apart = meets_writes-drop done writes theirs apart
meets_writes-remaining writes theirs (Done number) apart = refl
meets_writes-remaining writes theirs (Back cause) apart = refl

-- the rest of a row commutes with writes that are apart from it where it is sound
apply-rest : (state : State) (writes : List Write) (row : LogRow) → (is_sound row.standing ≡ true → IsApart writes row) → apply (apply state writes) (rest row) ≡ apply (apply state (rest row)) writes
apply-rest state writes row apart = go row.standing refl
  where
    go : (s : Standing) → row.standing ≡ s → apply (apply state writes) (remaining row.writes row.standing) ≡ apply (apply state (remaining row.writes row.standing)) writes
    go (Open index case) e = rw e refl
    go (Writing done) e = apply-apply state writes (remaining row.writes row.standing)
        (meets_writes-remaining writes row.writes row.standing (apart (ap is_sound e)).writes_too)
    go (Done number) e = rw e refl
    go (Back cause) e = rw e refl

pub settled-apply : (table : State) (writes : List Write) (rows : List LogRow) → ApartFromSound writes rows → settled (apply table writes) rows ≡ apply (settled table rows) writes
settled-apply table writes [] apart = refl
settled-apply table writes (row ∷ rows) apart =
    ap (λ s. settled s rows) (apply-rest table writes row apart.0) ∙ settled-apply (apply table (rest row)) writes rows apart.1

after-apply : (state : State) (writes : List Write) (row : LogRow) → (is_sound row.standing ≡ true → IsApart writes row) → after (apply state writes) row ≡ apply (after state row) writes
after-apply state writes row apart = decided (is_committed row.standing)
    (λ is. ap (λ b. cond b (apply (apply state writes) row.writes) (apply state writes)) is
    ∙ apply-apply state writes row.writes (apart (committed_sound row.standing is)).writes_too
    ∙ ap (λ b. apply (cond b (apply state row.writes) state) writes) (sym is))
    (λ not. ap (λ b. cond b (apply (apply state writes) row.writes) (apply state writes)) not
    ∙ ap (λ b. apply (cond b (apply state row.writes) state) writes) (sym not))

pub serial-apply : (state : State) (writes : List Write) (rows : List LogRow) → ApartFromSound writes rows → serial (apply state writes) rows ≡ apply (serial state rows) writes
serial-apply state writes [] apart = refl
serial-apply state writes (row ∷ rows) apart =
    ap (λ s. serial s rows) (after-apply state writes row apart.0) ∙ serial-apply (after state row) writes rows apart.1

pub Chained-apply : (state : State) (writes : List Write) (rows : List LogRow) → ApartFromSound writes rows → Chained state rows → Chained (apply state writes) rows
Chained-apply state writes [] apart chained = tt
Chained-apply state writes (row ∷ rows) apart chained = (
  λ sound. AreAnswers-apply state writes row.reads (apart.0 sound).reads (chained.0 sound),
  chained.1,
  subst (λ s. Chained s rows) (sym (after-apply state writes row apart.0))
      (Chained-apply (after state row) writes rows apart.1 chained.2),
)

-- a row that turns

-- The row keeps what it read and writes. It is no sooner sound or active than it was.
pub record TurnsDown (row turned : LogRow) : Type 0 where
  pub reads : turned.reads ≡ row.reads
  pub writes : turned.writes ≡ row.writes
  pub sound : is_sound turned.standing ≡ true → is_sound row.standing ≡ true
  pub active : is_active turned.standing ≡ true → is_active row.standing ≡ true

IsApart-turn : (writes : List Write) (row turned : LogRow) → TurnsDown row turned → IsApart writes row → IsApart writes turned
IsApart-turn writes row turned down apart = record {
  reads = ap (λ r. meets_reads writes (map (λ o. o.0) r)) down.reads ∙ apart.reads;
  writes_too = ap (meets_writes writes) down.writes ∙ apart.writes_too;
}

pub ApartFromSound-turn : (writes : List Write) (before later : List LogRow) (row turned : LogRow) → TurnsDown row turned → ApartFromSound writes (before ++ row ∷ later) → ApartFromSound writes (before ++ turned ∷ later)
ApartFromSound-turn writes [] later row turned down apart =
    (λ sound. IsApart-turn writes row turned down (apart.0 (down.sound sound)), apart.1)
ApartFromSound-turn writes (x ∷ xs) later row turned down apart =
    (apart.0, ApartFromSound-turn writes xs later row turned down apart.1)

-- the rows up to the one that turns, and the state before it
pub Chained-turn : (state : State) (before later : List LogRow) (row turned : LogRow) → TurnsDown row turned
    → (Chained (after (serial state before) row) later → Chained (after (serial state before) turned) later)
    → Chained state (before ++ row ∷ later) → Chained state (before ++ turned ∷ later)
Chained-turn state [] later row turned down onward chained = (
  λ sound. subst (AreAnswers state) (sym down.reads) (chained.0 (down.sound sound)),
  λ active. subst (λ w. ApartFromSound w later) (sym down.writes) (chained.1 (down.active active)),
  onward chained.2,
)
Chained-turn state (x ∷ xs) later row turned down onward chained = (
  chained.0,
  λ active. ApartFromSound-turn x.writes xs later row turned down (chained.1 active),
  Chained-turn (after state x) xs later row turned down onward chained.2,
)

-- what is known of a row in the middle
pub Chained-at : (state : State) (before later : List LogRow) (row : LogRow) → Chained state (before ++ row ∷ later)
    → (is_active row.standing ≡ true → ApartFromSound row.writes later) × Chained (after (serial state before) row) later
Chained-at state [] later row chained = (chained.1, chained.2)
Chained-at state (x ∷ xs) later row chained = Chained-at (after state x) xs later row chained.2

ApartFromSound-at : (writes : List Write) (before later : List LogRow) (row : LogRow) → ApartFromSound writes (before ++ row ∷ later) → is_sound row.standing ≡ true → IsApart writes row
ApartFromSound-at writes [] later row apart sound = apart.0 sound
ApartFromSound-at writes (x ∷ xs) later row apart sound = ApartFromSound-at writes xs later row apart.1 sound

-- the active rows before a sound one are apart from it
pub active_before : (state : State) (before later : List LogRow) (row : LogRow) → Chained state (before ++ row ∷ later) → is_sound row.standing ≡ true → ActiveAreApart before row
active_before state [] later row chained sound = tt
active_before state (x ∷ xs) later row chained sound = (
  λ active. ApartFromSound-at x.writes xs later row (chained.1 active) sound,
  active_before (after state x) xs later row chained.2 sound,
)

pub meets_question-remaining : (writes : List Write) (s : Standing) (question : Question) → (is_active s ≡ true → meets_question writes question ≡ false) → meets_question (remaining writes s) question ≡ false
meets_question-remaining writes (Open index case) question apart = refl
meets_question-remaining writes (Writing done) question apart = meets_question-drop done writes question (apart refl)
meets_question-remaining writes (Done number) question apart = refl
meets_question-remaining writes (Back cause) question apart = refl

-- a single write of a row commutes with the rests of the rows before it
pub settled-put : (table : State) (before : List LogRow) (row : LogRow) (n : ℕ) (write : Write) → ActiveAreApart before row → slice_get row.writes n ≡ Some write → settled (put table write) before ≡ put (settled table before) write
settled-put table [] row n write apart is = refl
settled-put table (x ∷ xs) row n write apart is =
    ap (λ s. settled s xs) (apply-put table (rest x) write (meets_question-remaining x.writes x.standing (target write)
    (λ active. meets_writes-one n x.writes row.writes write (apart.0 active).writes_too is)))
    ∙ settled-put (apply table (rest x)) xs row n write apart.1 is
