-- Rows of a log, as they are folded into a base.
use Rattle.std.proofs.Common.{◌≡◌, ℕ, ◌+◌, cond, List, [], ◌∷◌, length, refl, sym, ap, ◌∙◌, nat_cmp}
use Rattle.occ_book.proofs.Common.{length-map, FinMap, State, apply, Case, is_committed, after, serial, BaseContent, base_content, commits, committed_writes, written, numbered, Content, Marked, standing_of, log_row_of, log_of}
use Rattle.std.specs.FinMap as finite
use Rattle.occ_model.specs.Step.{folded, folded_numbers}
use Rattle.occ_sets.specs.declared.log_rows.Standing as code_standing
use Rattle.occ_sets.specs.declared.log_rows.Standing.TheVariants as standings
use Rattle.occ_sets.specs.declared.log_rows.LogRow as code_row

-- whatever is held of open rows
module _ {Z O : Type 0} (opened : O → ℕ × Case) where
  after-written : (state : State) (row : code_row.LogRow Z O) → apply state (committed_writes row) ≡ after state (log_row_of opened row)
  after-written state row = by row.standing
    where
      by : (s : code_standing.Standing O) → apply state (cond (commits s) row.writes []) ≡ cond (is_committed (standing_of opened s)) (apply state row.writes) state
      by (standings.Open held) = refl
      by standing = refl

  -- what rows write is what serial replay of them makes
  pub written-serial : (state : State) (rows : List (code_row.LogRow Z O)) → written state rows ≡ serial state (log_of opened rows)
  written-serial state [] = refl
  written-serial state (row ∷ rows) =
      ap (λ s. written s rows) (after-written state row) ∙ written-serial (after state (log_row_of opened row)) rows

  pub numbered-folded : (last : FinMap nat_cmp ℕ) (rows : List (code_row.LogRow Z O)) → numbered last rows ≡ folded_numbers last (log_of opened rows)
  numbered-folded last [] = refl
  numbered-folded last (row ∷ rows) = numbered-folded (finite.insert last row.session row.number) rows

  -- a base whose parts took in some rows has them folded
  pub base-folded : (old : BaseContent) (tables more : Content) (numbers next : Marked) (place behind : ℕ) (rows : List (code_row.LogRow Z O))
      → base_content tables numbers place ≡ old
      → more ≡ record { tables = tables.tables; state = written tables.state rows }
      → next ≡ record numbers { marks = numbered numbers.marks rows }
      → behind ≡ place + length rows
      → base_content more next behind ≡ record old { base = folded old.base (log_of opened rows) }
  base-folded old tables more numbers next place behind rows view state marks places =
      let parts : base_content more next behind ≡ base_content (record { tables = tables.tables; state = written tables.state rows }) (record numbers { marks = numbered numbers.marks rows }) (place + length rows)
      = λ i. base_content (state i) (marks i) (places i) in
      let whole : base_content (record { tables = tables.tables; state = written tables.state rows }) (record numbers { marks = numbered numbers.marks rows }) (place + length rows)
      ≡ record (base_content tables numbers place) { base = folded (base_content tables numbers place).base (log_of opened rows) }
      = λ i. record {
        tables = tables.tables;
        sessions = numbers.sessions;
        base = record {
          state = written-serial tables.state rows i;
          last = numbered-folded numbers.marks rows i;
          place = place + sym (length-map rows (log_row_of opened)) i;
        };
      } in
      parts ∙ whole ∙ ap (λ (o : BaseContent). record o { base = folded o.base (log_of opened rows) }) view
