-- How a log is explained row by row, and what a wrong read says against it.
use Rattle.std.proofs.Common.{◌≡◌, ◌≢◌, ℕ, zero, suc, ◌+◌, ◌<◌, true, List, [], ◌∷◌, ◌++◌, take, length, get_or, Some, sym, ap, subst, ◌∙◌, slice_get, IsSomeAnd}
use Rattle.std.proofs.lemmas.List.{take_more}
use Rattle.std.proofs.lemmas.Option.{slice_get_within, get_or_from_slice_get}
use Rattle.occ_model.proofs.Logs.{serial-append}
use Rattle.occ_model.specs.State.{Observation}
use Rattle.occ_audit.proofs.Common.{AreAnswers, Answer, Explained, answer_of, LogRow, State, after, answer, is_committed, log_of, log_row_of, serial}
use Rattle.occ_sets.specs.declared.log_rows.LogRow as code_row
use Rattle.occ_audit.specs.Findings.{IsWrongRead}
use Rattle.occ_audit.specs.Replaying.{IsWrongAnswer, RowPlays}
use Rattle.occ_audit.specs.declared.findings.WrongRead as wrong_reads
use Rattle.occ_audit.proofs.OrderedRows.{at_some}
use Rattle.occ_audit.proofs.Prefixes.{prefix-more, prefix-next, prefix-seen}

pub answers-more : (state : State) (reads : List Observation) (seen : Observation) → AreAnswers state reads → seen.1 ≡ answer seen.0 state → AreAnswers state (reads ++ seen ∷ [])
answers-more state [] seen before is = (is, tt)
answers-more state (x ∷ xs) seen before is = (before.0, answers-more state xs seen before.1 is)

answers_at : (state : State) (reads : List Observation) (i : ℕ) (seen : Observation) → AreAnswers state reads → slice_get reads i ≡ Some seen → seen.1 ≡ answer seen.0 state
answers_at state [] i seen are at = cc
answers_at state (x ∷ xs) zero seen are at =
    let same : x ≡ seen = cc in subst (λ o. o.1 ≡ answer o.0 state) same are.0
answers_at state (x ∷ xs) (suc i) seen are at = answers_at state xs i seen are.1 at

pub explained-more : (state : State) (rows : List LogRow) (row : LogRow) → Explained state rows → (is_committed row.standing ≡ true → AreAnswers (serial state rows) row.reads) → Explained state (rows ++ row ∷ [])
explained-more state [] row before is = (is, tt)
explained-more state (x ∷ xs) row before is = (before.0, explained-more (after state x) xs row before.1 is)

explained_at : (state : State) (log : List LogRow) (i : ℕ) (row : LogRow) → Explained state log → slice_get log i ≡ Some row → is_committed row.standing ≡ true → AreAnswers (serial state (take i log)) row.reads
explained_at state [] i row explained at committed = cc
explained_at state (x ∷ xs) zero row explained at committed =
    let same : x ≡ row = cc in
    subst (λ r. is_committed r.standing ≡ true → AreAnswers state r.reads) same explained.0 committed
explained_at state (x ∷ xs) (suc i) row explained at committed = explained_at (after state x) xs i row explained.1 at committed

pub not-explained : (state : State) (log : List LogRow) (row read : ℕ) (replayed : Answer) → IsWrongRead state log row read replayed → Explained state log → ⊥
not-explained state log row read replayed wrong explained =
    let now = serial state (take row log) in
    at_some (slice_get log row) (λ at. (is_committed at.standing ≡ true) × AreAnswers now (take read at.reads) × IsSomeAnd (slice_get at.reads read) (λ seen. (seen.1 ≢ replayed) × (replayed ≡ answer seen.0 now))) wrong.apart
    (λ at there w.
    let are = explained_at state log row at explained there w.0 in
    at_some (slice_get at.reads read) (λ seen. (seen.1 ≢ replayed) × (replayed ≡ answer seen.0 now)) w.2
    (λ seen found apart. apart.0 (answers_at now at.reads read seen are found ∙ sym apart.1)))

module _ (state : State) (reads : List Observation) (i : ℕ) (seen : Observation) (at : slice_get reads i ≡ Some seen) (before : AreAnswers state (take i reads)) where
  -- one read more that is answered so
  pub read-answered : seen.1 ≡ answer seen.0 state → AreAnswers state (take (i + 1) reads)
  read-answered is =
      let next : take (i + 1) reads ≡ take i reads ++ seen ∷ [] =
      take_more reads i seen (slice_get_within reads i seen at) ∙ ap (λ o. take i reads ++ o ∷ []) (get_or_from_slice_get reads i seen seen at) in
      subst (AreAnswers state) (sym next) (answers-more state (take i reads) seen before is)

  -- one that isn't
  pub read-wrong : (replayed : Answer) → (seen.1 ≡ answer seen.0 state → ⊥) → replayed ≡ answer seen.0 state → IsWrongAnswer state reads i replayed
  read-wrong replayed apart is =
      (before, subst (λ o. IsSomeAnd o (λ s. (s.1 ≢ replayed) × (replayed ≡ answer s.0 state))) (sym at) (λ e. apart (e ∙ is), is))

module _ {Z O : Type 0} (state now : State) (log : List (code_row.LogRow Z O)) (i : ℕ) (row : code_row.LogRow Z O) (h : i < length log) (at : row ≡ get_or log i row) (before : Explained state (log_of (take i log))) (is : now ≡ serial state (log_of (take i log))) where
  -- one row more that is played
  pub row-played : (new : State) → (is_committed (log_row_of row).standing ≡ true → AreAnswers now (log_row_of row).reads) → new ≡ after now (log_row_of row) → Explained state (log_of (take (i + 1) log)) × (new ≡ serial state (log_of (take (i + 1) log)))
  row-played new answered played =
      let more = prefix-more log_row_of log i row h at in (
        subst (Explained state) more (explained-more state (log_of (take i log)) (log_row_of row) before (λ e. subst (λ s. AreAnswers s (log_row_of row).reads) is (answered e))),
        played ∙ ap (λ s. after s (log_row_of row)) is ∙ sym (serial-append state (log_of (take i log)) (log_row_of row ∷ [])) ∙ ap (serial state) more,
      )

  -- one that isn't
  pub row-wrong : (read : ℕ) (replayed : Answer) → is_committed (log_row_of row).standing ≡ true → IsWrongAnswer now (log_row_of row).reads read replayed → IsWrongRead state (log_of log) i read replayed
  row-wrong read replayed committed wrong = record {
    before = subst (Explained state) (prefix-seen log_row_of log i) before;
    apart =
        let at_once = is ∙ ap (serial state) (prefix-seen log_row_of log i) in
        subst (λ o. IsSomeAnd o (λ r. (is_committed r.standing ≡ true) × AreAnswers (serial state (take i (log_of log))) (take read r.reads) × IsSomeAnd (slice_get r.reads read) (λ seen. (seen.1 ≢ replayed) × (replayed ≡ answer seen.0 (serial state (take i (log_of log)))))))
        (sym (prefix-next log_row_of log i row h at)) (
          committed,
          subst (λ s. AreAnswers s (take read (log_row_of row).reads)) at_once wrong.0,
          subst (λ s. IsSomeAnd (slice_get (log_row_of row).reads read) (λ seen. (seen.1 ≢ replayed) × (replayed ≡ answer seen.0 s))) at_once wrong.1,
        );
  }

  -- so of what is told of it
  pub row-found : (new : State) (w : wrong_reads.WrongRead Z) → RowPlays now new i (log_row_of row) (Some w) → IsWrongRead state (log_of log) w.row w.read (answer_of w.replayed)
  row-found new w plays =
      subst (λ n. IsWrongRead state (log_of log) n w.read (answer_of w.replayed)) (sym plays.1) (row-wrong w.read (answer_of w.replayed) plays.0 plays.2)
