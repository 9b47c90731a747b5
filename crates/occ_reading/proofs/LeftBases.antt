-- What a book leaves a base for: its rows have room in the base, and its tables are what they write.
use Rattle.std.proofs.Common.{◌≡◌, ◌<◌, ◌≤◌, ◌+◌, ◌^◌, ℕ, Bool, true, false, ◌||◌, List, [], ◌∷◌, length, refl, sym, ap, subst, ◌∙◌, nat_lt}
use Rattle.occ_reading.proofs.Common.{AllByRecursion, Back, Book, Decides, Done, LogRow, LogRowFits, Open, Schema, Standing, Version, Write, WriteFits, Writing, check_key_in, length-map, list_any, log_of, log_row_of, without_case}
use Rattle.occ_reading.proofs.TableNames.{checked_place}
use Rattle.occ_model.specs.Content.{IsSession}
use Rattle.occ_model.specs.Log.{Quiet, is_active, is_writing, serial}
use Rattle.occ_model.proofs.Steps.{settled_quiet}
use Rattle.occ_model.proofs.Tests.{decided}
use Rattle.std.proofs.lemmas.Bool.{ltb-false, ltb-true}
use Rattle.occ_sets.specs.Sets.{ArePlaced}
use Rattle.occ_sets.specs.declared.log_rows.LogRow as code_row
use Rattle.occ_book.specs.Base.{AllFitIn, written}
use Rattle.occ_book.proofs.Folding.{written-serial}
use Rattle.occ_types.proofs.Walks.{list_any-map}
use Rattle.occ_reading.specs.Bases.{LeavesBase, has_active}

writes_placed : (version : Version) (schema : Schema) (writes : List Write) → AllByRecursion (WriteFits version schema) writes → ArePlaced (length schema) writes
writes_placed version schema [] fit = tt
writes_placed version schema (write ∷ writes) fit =
    (checked_place schema write.0.0 (λ table. check_key_in table write.0.1) fit.0.0.checked, writes_placed version schema writes fit.1)

quiet : (log : List LogRow) → has_active log ≡ false → Quiet log
quiet [] none = tt
quiet (row ∷ rows) none = go row.standing refl none (quiet rows)
  where
    go : (s : Standing) → row.standing ≡ s → is_active row.standing || has_active rows ≡ false → (has_active rows ≡ false → Quiet rows) → (is_writing row.standing ≡ false) × Quiet rows
    go (Open index case) is none others = let e : true || has_active rows ≡ false = ap (λ s. is_active s || has_active rows) (sym is) ∙ none in cc
    go (Writing done) is none others = let e : true || has_active rows ≡ false = ap (λ s. is_active s || has_active rows) (sym is) ∙ none in cc
    go (Done number) is none others = (ap is_writing is, others (ap (λ s. is_active s || has_active rows) (sym is) ∙ none))
    go (Back cause) is none others = (ap is_writing is, others (ap (λ s. is_active s || has_active rows) (sym is) ∙ none))

-- the tables of a book that leaves a base are the state of its folded rows
pub replayed_whole : (book : Book) → LeavesBase book → serial book.base.state book.log ≡ book.state
replayed_whole book leaves = sym leaves.audited.replayed ∙ settled_quiet book.state book.log (quiet book.log leaves.quiet)

module _ {Z : Type 0} where
  pub rows_fit : (version : Version) (schema : Schema) (sessions : ℕ) (rows : List (code_row.LogRow Z (Unit {0}))) → AllByRecursion (LogRowFits version schema sessions) (log_of rows) → AllFitIn (length schema) sessions rows
  rows_fit version schema sessions [] fit = tt
  rows_fit version schema sessions (row ∷ rows) fit = (
    record {
      session = record { first = fit.0.session.first; last = fit.0.session.last };
      placed = writes_placed version schema row.writes fit.0.writes;
    },
    rows_fit version schema sessions rows fit.1,
  )

  pub written_whole : (book : Book) (rows : List (code_row.LogRow Z (Unit {0}))) → log_of rows ≡ book.log → LeavesBase book → written book.base.state rows ≡ book.state
  written_whole book rows same leaves = written-serial without_case book.base.state rows ∙ ap (serial book.base.state) same ∙ replayed_whole book leaves

  -- whether some row is active, as the code asks it
  pub active_rows : (rows : List (code_row.LogRow Z (Unit {0}))) → list_any (λ row. is_active (log_row_of row).standing) rows ≡ has_active (log_of rows)
  active_rows rows = sym (list_any-map (λ (row : LogRow). is_active row.standing) log_row_of rows)

  pub active_is : (test wanted : Bool) (items now : List (code_row.LogRow Z (Unit {0}))) → now ≡ items → test ≡ list_any (λ row. is_active (log_row_of row).standing) now → test ≡ wanted → has_active (log_of items) ≡ wanted
  active_is test wanted items now same asked is = ap (λ l. has_active (log_of l)) (sym same) ∙ sym (active_rows now) ∙ sym asked ∙ is

  -- whether there is a place behind all rows, as the code asks it
  pub place_is : (test : Bool) (place begin : ℕ) (items now : List (code_row.LogRow Z (Unit {0}))) → now ≡ items → place ≡ begin → Decides test (place + length now < 2 ^ 64) → Decides test (begin + length (log_of items) < 2 ^ 64)
  place_is test place begin items now same at decides =
      subst (λ n. Decides test (begin + n < 2 ^ 64)) (ap length same ∙ sym (length-map items log_row_of)) (subst (λ n. Decides test (n + length now < 2 ^ 64)) at decides)

pub has_no_place : (test : Bool) (count : ℕ) → Decides test (count < 2 ^ 64) → test ≡ false → 2 ^ 64 ≤ count
has_no_place test count decides is = decided (nat_lt count (2 ^ 64))
    (λ less. let e : true ≡ false = sym (decides.1 (ltb-true count (2 ^ 64) less)) ∙ is in cc)
    (λ more. ltb-false count (2 ^ 64) more)
