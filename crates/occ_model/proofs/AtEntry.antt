-- What an entry knows: the case and the textbook agree, and a valid transaction read what serial replay answers.
use Rattle.std.proofs.Common.{◌≡◌, ℕ, ◌<◌, ◌≤◌, ◌⊎◌, Bool, true, false, cond, ◌&&◌, ◌||◌, List, [], ◌∷◌, map, refl, sym, ap, ◌∙◌, inl, inr, arith}
use Rattle.std.specs.Prelude.{nat_lt, nat_le, filter}
use Rattle.std.specs.List.{list_any}
use Rattle.std.proofs.lemmas.Bool.{ltb-true, ltb-false, lt-ltb, le-leb}
use Rattle.occ_types.specs.Question.{Question}
use Rattle.occ_model.specs.State.{State, Write, Observation, apply, meets_question, meets_reads, meets_writes}
use Rattle.occ_model.specs.Log.{LogRow, Standing, Open, Writing, Done, Back, Case, questions, is_writing, is_active, remaining, rest, settled, AreAnswers}
use Rattle.occ_model.specs.Validity.{finished_within, is_in_the_way, validity, writes_of, finished_opponents, active_opponents, IsCaseAt, verdict}
use Rattle.occ_model.specs.Invariant.{commits, finished_after, is_touched, AreFresh, NumberIsBelow, NumbersAreBelow}
use Rattle.occ_model.specs.declared.verdict.Verdict.{Verdict}
use Rattle.occ_model.specs.declared.verdict.Verdict.TheVariants.{Commit, BackUp}
use Rattle.occ_model.specs.declared.verdict.Cause.TheVariants.{Conflict, TooOld}
use Rattle.occ_model.proofs.Tests.{or_false, both_false, and_true, both_true, clash, decided}
use Rattle.occ_model.proofs.States.{AreAnswers-apply}
use Rattle.occ_model.proofs.Logs.{ActiveAreApart, meets_question-remaining}

and-false : (a : Bool) → (a && false) ≡ false
and-false true = refl
and-false false = refl

-- from the lower end of the window on, finishing after the start is finishing in the window
within_window : (low start finish : ℕ) (s : Standing) → low ≤ start → (finished_within low finish s && finished_within start finish s) ≡ finished_within start finish s
within_window low start finish (Open index case) up = refl
within_window low start finish (Writing done) up = refl
within_window low start finish (Back cause) up = refl
within_window low start finish (Done number) up = decided (nat_lt start number && nat_le number finish)
    (λ yes.
    let parts = and_true (nat_lt start number) (nat_le number finish) yes in
    let after : start < number = ltb-true start number parts.0 in
    let wider : low < number = omega arith in
    ap (λ b. (nat_lt low number && nat_le number finish) && b) yes
    ∙ both_true _ true (both_true _ _ (lt-ltb low number wider) parts.1) refl ∙ sym yes)
    (λ no. ap (λ b. (nat_lt low number && nat_le number finish) && b) no ∙ and-false _ ∙ sym no)

-- the two lists of opponents, taken one row further
shuffle : (p q others f a : Bool) → others ≡ (f || a) → ((p || q) || others) ≡ ((p || f) || (q || a))
shuffle true q others f a e = refl
shuffle false true others true a e = refl
shuffle false true others false a e = refl
shuffle false false others f a e = e

-- some row of a filtered list passes a test of its writes
any-cond : (test : List Write → Bool) (c : Bool) (row : LogRow) (rows : List LogRow) → list_any test (writes_of (cond c (row ∷ rows) rows)) ≡ ((c && test row.writes) || list_any test (writes_of rows))
any-cond test true row rows = refl
any-cond test false row rows = refl

module _ (low start finish : ℕ) (reads : List Question) (writes : List Write) (up : low ≤ start) where
  abbrev by_finished : List Write → Bool
  by_finished theirs = meets_reads theirs reads

  abbrev by_active : List Write → Bool
  by_active theirs = meets_reads theirs reads || meets_writes theirs writes

  abbrev in_window : LogRow → Bool
  in_window row = finished_within low finish row.standing && finished_within start finish row.standing

  -- some row is in the way exactly where the case's two lists say so
  opponents_agree : (log : List LogRow) → list_any (is_in_the_way start finish reads writes) log
      ≡ (list_any by_finished (writes_of (filter in_window log)) || list_any by_active (writes_of (filter (λ row. is_active row.standing) log)))
  opponents_agree [] = refl
  opponents_agree (row ∷ rows) =
      shuffle (finished_within start finish row.standing && by_finished row.writes) (is_active row.standing && by_active row.writes) _
      (list_any by_finished (writes_of (filter in_window rows))) (list_any by_active (writes_of (filter (λ row. is_active row.standing) rows)))
      (opponents_agree rows)
      ∙ ap (λ b. ((b && by_finished row.writes) || list_any by_finished (writes_of (filter in_window rows)))
      || ((is_active row.standing && by_active row.writes) || list_any by_active (writes_of (filter (λ row. is_active row.standing) rows))))
      (sym (within_window low start finish row.standing up))
      ∙ sym (λ i. any-cond by_finished (in_window row) row (filter in_window rows) i
      || any-cond by_active (is_active row.standing) row (filter (λ row. is_active row.standing) rows) i)

-- a verdict by its three tests
abbrev verdict_by : Bool → Bool → Bool → Verdict
verdict_by old finished active = cond old (BackUp TooOld) (cond (finished || active) (BackUp Conflict) Commit)

-- the verdict on the case that an entry fixes is validity at that entry
pub verdict-validity : (log : List LogRow) (finish low start : ℕ) (reads : List Question) (writes : List Write) (case : Case) → IsCaseAt log finish low start reads writes case → verdict case ≡ validity log finish low start reads writes
verdict-validity log finish low start reads writes case is =
    (λ i. verdict_by (nat_lt (is.start_is i) (is.low_is i))
    (list_any (λ theirs. meets_reads theirs (is.reads_are i)) case.finished)
    (list_any (λ theirs. meets_reads theirs (is.reads_are i) || meets_writes theirs (is.writes_are i)) case.active))
    ∙ (λ i. verdict_by (nat_lt start low) (is.finished (λ theirs. meets_reads theirs reads) i) (is.active (λ theirs. meets_reads theirs reads || meets_writes theirs writes) i))
    ∙ decided (nat_lt start low)
    (λ old. ap (λ b. cond b (BackUp TooOld) (verdict_by false by_finished by_active)) old
    ∙ ap (λ b. cond b (BackUp TooOld) (cond (list_any (is_in_the_way start finish reads writes) log) (BackUp Conflict) Commit)) (sym old))
    (λ young. ap (λ b. cond (nat_lt start low) (BackUp TooOld) (cond b (BackUp Conflict) Commit))
    (sym (opponents_agree low start finish reads writes (ltb-false start low young) log)))
  where
    by_finished : Bool
    by_finished = list_any (λ theirs. meets_reads theirs reads) (finished_opponents log finish low start)

    by_active : Bool
    by_active = list_any (λ theirs. meets_reads theirs reads || meets_writes theirs writes) (active_opponents log)

-- What a valid entry knows.

-- no row of the log is in the way
abbrev pub NoneInTheWay : ℕ → ℕ → List Question → List Write → List LogRow → Type 0
NoneInTheWay start finish reads writes log = list_any (is_in_the_way start finish reads writes) log ≡ false

pub commit_means : (log : List LogRow) (finish low start : ℕ) (reads : List Question) (writes : List Write) → commits (validity log finish low start reads writes) ≡ true
    → (low ≤ start) × NoneInTheWay start finish reads writes log
commit_means log finish low start reads writes = go (nat_lt start low) refl (list_any (is_in_the_way start finish reads writes) log) refl
  where
    go : (old : Bool) → nat_lt start low ≡ old → (way : Bool) → list_any (is_in_the_way start finish reads writes) log ≡ way
        → commits (cond old (BackUp TooOld) (cond way (BackUp Conflict) Commit)) ≡ true
        → (low ≤ start) × NoneInTheWay start finish reads writes log
    go true o way w e = cc
    go false o true w e = cc
    go false o false w e = (ltb-false start low o, w)

and_false : (a b : Bool) → (a && b) ≡ false → a ≡ true → b ≡ false
and_false true b e is = e
and_false false b e is = cc

-- each active row is apart from a row with these reads and writes
pub none_active : (log : List LogRow) (row : LogRow) (start finish : ℕ) → NoneInTheWay start finish (questions row) row.writes log → ActiveAreApart log row
none_active [] row start finish none = tt
none_active (x ∷ xs) row start finish none =
    let parts = or_false _ (list_any (is_in_the_way start finish (questions row) row.writes) xs) none in
    let tests = or_false _ (is_active x.standing && (meets_reads x.writes (questions row) || meets_writes x.writes row.writes)) parts.0 in (
      λ active. let both = or_false _ _ (and_false (is_active x.standing) _ tests.1 active) in record { reads = both.0; writes_too = both.1 },
      none_active xs row start finish parts.1,
    )

-- whether a row could have touched what was read since start
abbrev touches : ℕ → LogRow → Bool
touches start row = finished_after start row.standing || is_writing row.standing

-- no row that could have touched what was read did
abbrev TouchNone : ℕ → List Question → List LogRow → Type 0
TouchNone start reads [] = Unit {0}
TouchNone start reads (row ∷ rows) = (touches start row ≡ true → meets_reads row.writes reads ≡ false) × TouchNone start reads rows

-- a row that could have touched it is an opponent
touches_way : (start finish : ℕ) (s : Standing) → NumberIsBelow finish s → (finished_after start s || is_writing s) ≡ true → (finished_within start finish s ≡ true) ⊎ (is_active s ≡ true)
touches_way start finish (Open index case) below e = cc
touches_way start finish (Writing done) below e = inr refl
touches_way start finish (Done number) below e = inl (both_true (nat_lt start number) (nat_le number finish) (ap_or (nat_lt start number) e) (le-leb number finish below))
  where
    ap_or : (a : Bool) → (a || false) ≡ true → a ≡ true
    ap_or true e = refl
    ap_or false e = cc
touches_way start finish (Back cause) below e = cc

none_touch : (start finish : ℕ) (reads : List Question) (writes : List Write) (log : List LogRow) → NumbersAreBelow finish log → NoneInTheWay start finish reads writes log → TouchNone start reads log
none_touch start finish reads writes [] below none = tt
none_touch start finish reads writes (row ∷ rows) below none =
    let parts = or_false _ (list_any (is_in_the_way start finish reads writes) rows) none in
    let tests = or_false _ (is_active row.standing && (meets_reads row.writes reads || meets_writes row.writes writes)) parts.0 in (
      λ could. elim (touches_way start finish row.standing below.0 could) [
        | inl within ↦ and_false (finished_within start finish row.standing) _ tests.0 within
        | inr active ↦ (or_false _ _ (and_false (is_active row.standing) _ tests.1 active)).0
      ],
      none_touch start finish reads writes rows below.1 parts.1,
    )

-- so the first question is untouched, and the others are as well off
first_untouched : (start : ℕ) (question : Question) (others : List Question) (log : List LogRow) → TouchNone start (question ∷ others) log → (is_touched start question log ≡ false) × TouchNone start others log
first_untouched start question others [] none = (refl, tt)
first_untouched start question others (row ∷ rows) none =
    let onward = first_untouched start question others rows none.1 in (
      decided (touches start row)
          (λ could. ap (λ b. (touches start row && b) || is_touched start question rows) (or_false _ _ (none.0 could)).0
          ∙ ap (λ b. b || is_touched start question rows) (and-false (touches start row)) ∙ onward.0)
          (λ could_not. ap (λ b. (b && meets_question row.writes question) || is_touched start question rows) could_not ∙ onward.0),
      (λ could. (or_false (meets_question row.writes question) _ (none.0 could)).1, onward.1),
    )

-- what was read is still what the table answers
still_answers : (log : List LogRow) (table : State) (start : ℕ) (reads : List Observation) → TouchNone start (map (λ o. o.0) reads) log → AreFresh log table start reads → AreAnswers table reads
still_answers log table start [] none fresh = tt
still_answers log table start (seen ∷ others) none fresh =
    let parts = first_untouched start seen.0 (map (λ o. o.0) others) log none in (
      elim fresh.0 [ inl is ↦ is | inr touched ↦ clash (is_touched start seen.0 log) touched parts.0 ],
      still_answers log table start others parts.1 fresh.1,
    )

-- an active row that doesn't meet a question leaves its answer, and so do all rests
abbrev ActiveMissRead : List Question → List LogRow → Type 0
ActiveMissRead reads [] = Unit {0}
ActiveMissRead reads (row ∷ rows) = (is_active row.standing ≡ true → meets_reads row.writes reads ≡ false) × ActiveMissRead reads rows

miss_read : (log : List LogRow) (row : LogRow) → ActiveAreApart log row → ActiveMissRead (questions row) log
miss_read [] row apart = tt
miss_read (x ∷ xs) row apart = (λ active. (apart.0 active).reads, miss_read xs row apart.1)

meets_reads-remaining : (writes : List Write) (s : Standing) (reads : List Question) → (is_active s ≡ true → meets_reads writes reads ≡ false) → meets_reads (remaining writes s) reads ≡ false
meets_reads-remaining writes s [] apart = refl
meets_reads-remaining writes s (question ∷ others) apart =
    both_false _ _ (meets_question-remaining writes s question (λ active. (or_false _ _ (apart active)).0))
    (meets_reads-remaining writes s others (λ active. (or_false (meets_question writes question) _ (apart active)).1))

AreAnswers-settled : (table : State) (log : List LogRow) (reads : List Observation) → ActiveMissRead (map (λ o. o.0) reads) log → AreAnswers table reads → AreAnswers (settled table log) reads
AreAnswers-settled table [] reads miss are = are
AreAnswers-settled table (row ∷ rows) reads miss are =
    AreAnswers-settled (apply table (rest row)) rows reads miss.1
    (AreAnswers-apply table (rest row) reads (meets_reads-remaining row.writes row.standing (map (λ o. o.0) reads) miss.0) are)

-- A valid transaction read what the settled table answers.
pub valid_reads : (log : List LogRow) (table : State) (row : LogRow) (start finish : ℕ) → NumbersAreBelow finish log → NoneInTheWay start finish (questions row) row.writes log
    → AreFresh log table start row.reads → AreAnswers (settled table log) row.reads
valid_reads log table row start finish below none fresh =
    AreAnswers-settled table log row.reads (miss_read log row (none_active log row start finish none))
    (still_answers log table start row.reads (none_touch start finish (questions row) row.writes log below none) fresh)
