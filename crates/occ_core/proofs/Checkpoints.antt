-- What a checkpoint has to show, over plain parts.
use Rattle.std.proofs.Common.{◌≡◌, ℕ, zero, suc, ◌+◌, ◌-◌, ◌<◌, ◌≤◌, Bool, true, false, cond, ◌&&◌, ◌||◌, List, [], ◌∷◌, ◌++◌, take, drop, length, Option, None, Some, refl, sym, ap, subst, ◌∙◌, arith, length-append, inl, inr, ◌==◌, nat_lt, nat_le, filter, if◌then◌else◌}
use Rattle.std.specs.List.{list_any, AllByRecursion}
use Rattle.std.proofs.lemmas.Bool.{ltb-true, ltb-false}
use Rattle.std.proofs.lemmas.Bool.Decides.{nat_tests}
use Rattle.std.proofs.lemmas.List.{length-take-le}
use Rattle.std.proofs.lemmas.List.Elements.{filter-append}
use Rattle.occ_types.specs.declared.fault.Fault.TheVariants as faults
use Rattle.occ_types.specs.Schema.{Schema, fault_if}
use Rattle.occ_model.specs.State.{Write}
use Rattle.occ_model.specs.Log.{Case, LogRow, Standing, Open, Writing, Done, Back, Base, last_folded, is_active, is_open, is_writing, Quiet, serial}
use Rattle.occ_model.specs.Content.{QuestionFits, RowFits, WriteIs, RowIs}
use Rattle.occ_model.specs.Event.{Checkpoint, Folded, Refused}
use Rattle.occ_model.specs.Refusal.{refusal, foldable}
use Rattle.occ_model.specs.Step.{Step, refused, starved, taken, foldable_part, folded}
use Rattle.occ_model.specs.Validity.{finished_within}
use Rattle.occ_model.specs.World.{World, latest, low, last_entered, active_count}
use Rattle.occ_model.proofs.Checkpoints.{checkpoint_folds}
use Rattle.occ_model.proofs.Folds.{AreFoldable, part_foldable, part_rest}
use Rattle.occ_model.proofs.InSchema.{keeps_lawful}
use Rattle.occ_model.proofs.Steps.{settled_quiet}
use Rattle.occ_model.proofs.Tests as tests
use Rattle.occ_book.specs.Base.{AllFitIn}
use Rattle.occ_sets.specs.Sets.{ArePlaced}
use Rattle.occ_sets.specs.declared.log_rows.LogRow as code_row
use Rattle.occ_log.specs.Rows.{log_of, log_row_of}
use Rattle.occ_log.specs.SessionStates.{Hold, IsHeldAt}
use Rattle.occ_log.proofs.Opponents.{some_finished, any-finished}
use Rattle.occ_log.proofs.Places.{none-later}
use Rattle.occ_core.specs.declared.checkpoint.TheConstants.{MAX_PLACE}
use Rattle.occ_core.specs.Folding.{AllFit}
use Rattle.occ_core.specs.CoreParts.{Parts, world_of, low_of, HasRow, AreSound}
use Rattle.occ_core.proofs.RunsAlone.{key_placed}

-- The rows of a session, after a beginning of the log went.

none-drop : (session n : ℕ) (log : List LogRow) → latest session log ≡ None → latest session (drop n log) ≡ None
none-drop session zero log none = none
none-drop session (suc n) [] none = none
none-drop session (suc n) (x ∷ xs) none = none-drop session n xs (none-later session x xs none).0

-- the row that is held goes, and none of its session stays
held-gone : (session index n : ℕ) (log : List LogRow) (row : LogRow) → IsHeldAt session index log row → index < n → latest session (drop n log) ≡ None
held-gone session index n [] row at less = absurd at
held-gone session index zero (first ∷ rows) row at less = absurd (omega arith)
held-gone session zero (suc n) (first ∷ rows) row at less = none-drop session n rows at.2
held-gone session (suc index) (suc n) (first ∷ rows) row at less = held-gone session index n rows row at (omega arith)

-- or it stays, so many places nearer to the first
held-drop : (session n index k : ℕ) (log : List LogRow) (row : LogRow) → index ≡ n + k → IsHeldAt session index log row → IsHeldAt session k (drop n log) row
held-drop session n index k [] row is at = absurd at
held-drop session zero index k (first ∷ rows) row is at = let same : index ≡ k = omega arith in subst (λ i. IsHeldAt session i (first ∷ rows) row) same at
held-drop session (suc n) zero k (first ∷ rows) row is at = absurd (omega arith)
held-drop session (suc n) (suc index) k (first ∷ rows) row is at = held-drop session n index k rows row (omega arith) at

has_fold : (first session n : ℕ) (hold : Hold) (log : List LogRow) → HasRow first log session hold → HasRow (first + n) (drop n log) session hold
has_fold first session n hold log (inl s) = tests.decided (nat_lt s.index n)
    (λ goes. let less = ltb-true s.index n goes in
    let is = s.place_is in
    inr (record { before = omega arith; none = held-gone session s.index n log s.row s.there less }))
    (λ stays. let up = ltb-false s.index n stays in
    let is = s.place_is in
    inl (record {
      index = s.index - n;
      place_is = omega arith;
      row = s.row;
      there = held-drop session n s.index (s.index - n) log s.row (omega arith) s.there;
      writes_are = s.writes_are;
    }))
has_fold first session n hold log (inr g) = let less = g.before in inr (record { before = omega arith; none = none-drop session n log g.none })

latest-append : (session : ℕ) (xs ys : List LogRow) → latest session (xs ++ ys) ≡ (elim (latest session ys) as (λ _. Option LogRow) [ None ↦ latest session xs | Some row ↦ Some row ])
latest-append session [] ys = go (latest session ys)
  where
    go : (o : Option LogRow) → o ≡ (elim o as (λ _. Option LogRow) [ None ↦ None | Some row ↦ Some row ])
    go None = refl
    go (Some row) = refl
latest-append session (x ∷ xs) ys =
    ap (λ l. elim l as (λ _. Option LogRow) [ None ↦ if x.session == session then Some x else None | Some r ↦ Some r ]) (latest-append session xs ys) ∙ go (latest session ys)
  where
    go : (o : Option LogRow) → (elim (elim o as (λ _. Option LogRow) [ None ↦ latest session xs | Some row ↦ Some row ]) as (λ _. Option LogRow) [ None ↦ if x.session == session then Some x else None | Some r ↦ Some r ])
        ≡ (elim o as (λ _. Option LogRow) [ None ↦ latest session (x ∷ xs) | Some row ↦ Some row ])
    go None = refl
    go (Some row) = refl

-- The other facts on the rows that stay.

-- a folded row had not finished within the window
outside : (low counter : ℕ) (s : Standing) → foldable low s ≡ true → finished_within low counter s ≡ false
outside low counter (Open index case) can = cc
outside low counter (Writing done) can = cc
outside low counter (Done number) can = grind (arith, nat_tests)
outside low counter (Back cause) can = refl

finished-later : (test : List Write → Bool) (xs ys : List LogRow) (counter low start : ℕ) → AreFoldable low xs → some_finished test (xs ++ ys) counter low start ≡ some_finished test ys counter low start
finished-later test [] ys counter low start are = refl
finished-later test (x ∷ xs) ys counter low start are =
    grind (arith, any-finished test x (xs ++ ys) counter low start, outside low counter x.standing are.0, finished-later test xs ys counter low start are.1)

count-later : (xs ys : List LogRow) → length (filter (λ row. is_active row.standing) ys) ≤ length (filter (λ row. is_active row.standing) (xs ++ ys))
count-later xs ys = simp (filter-append, length-append) (omega arith)

-- a base into which nothing is folded is as it was
unfolded : (base : Base) → folded base [] ≡ base
unfolded base = let same : base.place + 0 ≡ base.place = omega arith in ap (λ n. record base { place = n }) same

-- What a checkpoint does.
module _ (old : Parts) (sound : AreSound old) (none : refusal (world_of old) Checkpoint ≡ None) where
  abbrev part : List LogRow
  part = foldable_part (low_of old) old.log

  abbrev later : List LogRow
  later = drop (length part) old.log

  abbrev folded_parts : Parts
  folded_parts = record old { base = folded old.base part; log = later }

  folded_step : Step (world_of old) Checkpoint (Folded (length part)) (world_of folded_parts)
  folded_step = taken none (refl, refl)

  whole : old.log ≡ part ++ later
  whole = part_rest (low_of old) old.log

  number_kept : (session : ℕ) → last_entered (world_of folded_parts) session ≡ last_entered (world_of old) session
  number_kept session =
      let f = checkpoint_folds (world_of old) (world_of folded_parts) (length part) folded_step in
      ap (λ n. elim (latest session later) as (λ _. ℕ) [ None ↦ n | Some row ↦ row.number ]) (f.7 session)
      ∙ go f.0 (latest session later)
      ∙ ap (λ l. elim l as (λ _. ℕ) [ None ↦ last_folded old.base session | Some row ↦ row.number ]) (sym (latest-append session f.0 later) ∙ ap (latest session) (sym f.1))
    where
      go : (front : List LogRow) (o : Option LogRow) → (elim o as (λ _. ℕ) [ None ↦ elim (latest session front) as (λ _. ℕ) [ None ↦ last_folded old.base session | Some row ↦ row.number ] | Some row ↦ row.number ])
          ≡ (elim (elim o as (λ _. Option LogRow) [ None ↦ latest session front | Some row ↦ Some row ]) as (λ _. ℕ) [ None ↦ last_folded old.base session | Some row ↦ row.number ])
      go front None = refl
      go front (Some row) = refl

  folded_sound : old.base.place + length part ≤ MAX_PLACE → AreSound folded_parts
  folded_sound room = record {
    law = keeps_lawful (world_of old) Checkpoint (Folded (length part)) (world_of folded_parts) sound.law folded_step;
    each_session = sound.each_session;
    slots_true = λ place slot at. let s = sound.slots_true place slot at in record {
      last_is = s.last_is ∙ sym (number_kept (suc place));
      last_fits = s.last_fits;
      row_is = λ hold is. has_fold old.base.place (suc place) (length part) hold old.log (s.row_is hold is);
    };
    window_size = sound.window_size;
    window_is = λ start above test. sound.window_is start above test ∙ ap (λ l. some_finished test l old.counter (low_of old) start) whole
        ∙ finished-later test part later old.counter (low_of old) start (part_foldable (low_of old) old.log);
    log_room = shorter (length old.log) (length (part ++ later)) (length part) (length later) (ap length whole) (length-append part later) sound.log_room;
    place_room = room;
    base_begins = λ first. let none = none_folded old.base.place (length part) first in
        ap (folded old.base) (no_rows part none.1) ∙ unfolded old.base ∙ sound.base_begins none.0;
    counter_room = let r = sound.counter_room in let l = ap (λ l. length (filter (λ (row : LogRow). is_active row.standing) l)) whole in let c = count-later part later in
        fewer old.counter (length (filter (λ (row : LogRow). is_active row.standing) later)) (length (filter (λ (row : LogRow). is_active row.standing) (part ++ later))) (active_count (world_of old)) c l r;
  }
    where
      shorter : (all whole part later : ℕ) → all ≡ whole → whole ≡ part + later → all ≤ Rattle.occ_types.specs.declared.limits.TheConstants.MAX_LOG_ROWS → later ≤ Rattle.occ_types.specs.declared.limits.TheConstants.MAX_LOG_ROWS
      shorter all whole part later l a room = omega arith

      none_folded : (place count : ℕ) → place + count ≡ 0 → (place ≡ 0) × (count ≡ 0)
      none_folded place count none = (omega arith, omega arith)

      no_rows : (rows : List LogRow) → length rows ≡ 0 → rows ≡ []
      no_rows [] none = refl
      no_rows (row ∷ rows) none = absurd (omega arith)

      fewer : (counter new all was : ℕ) → new ≤ all → was ≡ all → counter + was ≤ Rattle.occ_types.specs.declared.limits.TheConstants.MAX_COUNTER → counter + new ≤ Rattle.occ_types.specs.declared.limits.TheConstants.MAX_COUNTER
      fewer counter new all was less is left = omega arith

-- the rows that are folded are the first ones
part_taken : (low : ℕ) (log : List LogRow) → take (length (foldable_part low log)) log ≡ foldable_part low log
part_taken low [] = refl
part_taken low (row ∷ rows) = go (foldable low row.standing) (part_taken low rows)
  where
    front : Bool → List LogRow
    front b = elim b [ true ↦ row ∷ foldable_part low rows | false ↦ [] ]

    go : (b : Bool) → take (length (foldable_part low rows)) rows ≡ foldable_part low rows → take (length (front b)) (row ∷ rows) ≡ front b
    go true onward = ap (λ l. row ∷ l) onward
    go false onward = refl

-- no more rows are folded than there are
pub part_within : (parts : Parts) (world : World) → world_of parts ≡ world → (count : ℕ) → count ≡ length (foldable_part (low world) world.log) → count ≤ length parts.log
part_within parts world seen count is =
    let here : count ≡ length (foldable_part (low_of parts) parts.log) = is ∙ ap (λ (w : World). length (foldable_part (low w) w.log)) (sym seen) in
    let l = ap length (part_rest (low_of parts) parts.log) in
    let a = length-append (foldable_part (low_of parts) parts.log) (drop (length (foldable_part (low_of parts) parts.log)) parts.log) in
    within count (length (foldable_part (low_of parts) parts.log)) (length parts.log) _ _ here l a
  where
    within : (count part all whole later : ℕ) → count ≡ part → all ≡ whole → whole ≡ part + later → count ≤ all
    within count part all whole later here l a = omega arith

-- Seen from outside.

pub checkpoint_busy : (parts : Parts) (world : World) → world_of parts ≡ world → true ≡ list_any (λ row. is_open row.standing) parts.log → Step world Checkpoint (Refused faults.StoreBusy) world
checkpoint_busy parts world seen busy =
    subst (λ w. Step w Checkpoint (Refused faults.StoreBusy) w) seen (refused faults.StoreBusy (ap (λ b. fault_if b faults.StoreBusy) (sym busy)) refl refl)

quiet : (parts : Parts) → false ≡ list_any (λ row. is_open row.standing) parts.log → refusal (world_of parts) Checkpoint ≡ None
quiet parts free = ap (λ b. fault_if b faults.StoreBusy) (sym free)

-- the parts with another base and log
abbrev pub shortened_parts : Parts → Base → List LogRow → Parts
shortened_parts parts base log = record parts { base = base; log = log }

pub checkpoint_whole : (parts : Parts) (world : World) → world_of parts ≡ world → AreSound parts → false ≡ list_any (λ row. is_open row.standing) parts.log
    → (count : ℕ) → count ≡ length (foldable_part (low world) world.log) → parts.base.place + count ≤ MAX_PLACE
    → (base : Base) → base ≡ folded parts.base (take count parts.log) → (log : List LogRow) → log ≡ drop count parts.log
    → Step world Checkpoint (Folded count) (world_of (shortened_parts parts base log)) × AreSound (shortened_parts parts base log)
checkpoint_whole parts world seen sound free count count_is room base base_is log log_is =
    let none = quiet parts free in
    let is : count ≡ length (foldable_part (low_of parts) parts.log) = count_is ∙ ap (λ (w : World). length (foldable_part (low w) w.log)) (sym seen) in
    let room' = subst (λ n. parts.base.place + n ≤ MAX_PLACE) is room in
    let base' : folded parts.base (foldable_part (low_of parts) parts.log) ≡ base =
    sym (base_is ∙ ap (λ n. folded parts.base (take n parts.log)) is ∙ ap (folded parts.base) (part_taken (low_of parts) parts.log)) in
    let log' : drop (length (foldable_part (low_of parts) parts.log)) parts.log ≡ log = sym (log_is ∙ ap (λ n. drop n parts.log) is) in
    let moved : folded_parts parts sound none ≡ shortened_parts parts base log = λ i. record parts { base = base' i; log = log' i } in (
      subst (λ w. Step w Checkpoint (Folded count) (world_of (shortened_parts parts base log))) seen
          (subst (λ n. Step (world_of parts) Checkpoint (Folded n) (world_of (shortened_parts parts base log))) (sym is)
          (subst (λ p. Step (world_of parts) Checkpoint (Folded (length (foldable_part (low_of parts) parts.log))) (world_of p)) moved (folded_step parts sound none))),
      subst AreSound moved (folded_sound parts sound none room'),
    )

-- The base has room for the rows of the log.

content_placed : (schema : Schema) (writes : List Write) → AllByRecursion (WriteIs (QuestionFits schema) (RowFits schema)) writes → ArePlaced (length schema) writes
content_placed schema [] all = tt
content_placed schema (w ∷ ws) all = (key_placed schema w.0.0 w.0.1 all.0.key, content_placed schema ws all.1)

content_fits : (schema : Schema) (sessions counter : ℕ) (log : List LogRow) → AllByRecursion (RowIs (QuestionFits schema) (RowFits schema) sessions counter) log → AllFit (length schema) sessions log
content_fits schema sessions counter [] all = tt
content_fits schema sessions counter (row ∷ rows) all = (
  record { session = all.0.session; placed = content_placed schema row.writes all.0.writes },
  content_fits schema sessions counter rows all.1,
)

pub rows_fit : (parts : Parts) → AreSound parts → (tables sessions : ℕ) → tables ≡ length parts.settings.schema → sessions ≡ parts.settings.sessions → AllFit tables sessions parts.log
rows_fit parts sound tables sessions same known =
    subst (λ n. AllFit n sessions parts.log) (sym same) (subst (λ n. AllFit (length parts.settings.schema) n parts.log) (sym known)
    (content_fits parts.settings.schema parts.settings.sessions parts.counter parts.log sound.law.content.log))

-- so many rows from the beginning
-- the log begins where the base ends
pub begins_later : (first place count new : ℕ) (rows : List LogRow) → count ≤ length rows → first ≡ place → new ≡ first + count → new ≡ place + length (take count rows)
begins_later first place count new rows less same is = let n = length-take-le count rows less in omega arith

module _ {Z : Type 0} where
  pub first_fit : (tables sessions n : ℕ) (rows : List (code_row.LogRow Z (ℕ × Case))) → AllFit tables sessions (log_of rows) → AllFitIn tables sessions (take n rows)
  first_fit tables sessions zero rows all = tt
  first_fit tables sessions (suc n) [] all = tt
  first_fit tables sessions (suc n) (row ∷ rows) all = (record { session = all.0.session; placed = all.0.placed }, first_fit tables sessions n rows all.1)

  pub all_fit : (tables sessions : ℕ) (rows : List (code_row.LogRow Z (ℕ × Case))) → AllFit tables sessions (log_of rows) → AllFitIn tables sessions rows
  all_fit tables sessions [] all = tt
  all_fit tables sessions (row ∷ rows) all = (record { session = all.0.session; placed = all.0.placed }, all_fit tables sessions rows all.1)

-- where no row can be folded nothing moves
pub nothing_folds : (parts : Parts) (world : World) → world_of parts ≡ world → AreSound parts → false ≡ list_any (λ row. is_open row.standing) parts.log
    → (count : ℕ) → count ≡ length (foldable_part (low world) world.log) → count ≡ 0 → Step world Checkpoint (Folded count) world
nothing_folds parts world seen sound free count count_is none =
    let room = sound.place_room in
    subst (λ new. Step world Checkpoint (Folded count) new) seen
    (checkpoint_whole parts world seen sound free count count_is (omega arith)
    parts.base (sym (ap (λ n. folded parts.base (take n parts.log)) none ∙ unfolded parts.base)) parts.log (sym (ap (λ n. drop n parts.log) none))).0

-- there is no memory for the base, which is as it was
pub checkpoint_starved : (parts : Parts) (world : World) → world_of parts ≡ world → false ≡ list_any (λ row. is_open row.standing) parts.log → (base : Base) → base ≡ parts.base → Step world Checkpoint (Refused faults.Memory) (world_of (record parts { base = base }))
checkpoint_starved parts world seen free base same =
    starved (subst (λ w. refusal w Checkpoint ≡ None) seen (quiet parts free)) refl refl (ap (λ b. world_of (record parts { base = b })) same ∙ seen)

-- What a store leaves where nothing is active.

quiet_log : (log : List LogRow) → length (filter (λ row. is_active row.standing) log) ≡ 0 → Quiet log
quiet_log [] none = tt
quiet_log (row ∷ rows) none = go row.standing refl (quiet_log rows)
  where
    left : Standing → ℕ
    left s = length (cond (is_active s) (row ∷ filter (λ row. is_active row.standing) rows) (filter (λ row. is_active row.standing) rows))

    go : (s : Standing) → row.standing ≡ s → (length (filter (λ row. is_active row.standing) rows) ≡ 0 → Quiet rows) → (is_writing row.standing ≡ false) × Quiet rows
    go (Open index case) e others = let n : left (Open index case) ≡ 0 = sym (ap left e) ∙ none in absurd (omega arith)
    go (Writing done) e others = let n : left (Writing done) ≡ 0 = sym (ap left e) ∙ none in absurd (omega arith)
    go (Done number) e others = (ap is_writing e, others (sym (ap left e) ∙ none))
    go (Back cause) e others = (ap is_writing e, others (sym (ap left e) ∙ none))

-- the table is the replay of the whole log
pub quiet_state : (parts : Parts) → AreSound parts → active_count (world_of parts) ≡ 0 → serial parts.base.state parts.log ≡ parts.table
quiet_state parts sound none = sym sound.law.invariant.replayed ∙ settled_quiet parts.table parts.log (quiet_log parts.log none)
