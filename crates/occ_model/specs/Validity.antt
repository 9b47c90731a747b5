-- Validation: who the opponents of a transaction are, and when it is valid (Kung and Robinson, sections 3 and 5).
use Rattle.std.specs.Prelude.{◌≡◌, ℕ, ◌-◌, Bool, false, cond, ◌&&◌, ◌||◌, nat_lt, nat_le, List, map, filter}
use Rattle.std.specs.List.{list_any}
use Rattle.occ_types.specs.Question.{Question}
use Rattle.occ_model.specs.State.{Write, meets_reads, meets_writes}
use Rattle.occ_model.specs.Log.{LogRow, Standing, Open, Writing, Done, Back, Case, is_active}
use Rattle.occ_model.specs.declared.verdict.Verdict.{Verdict}
use Rattle.occ_model.specs.declared.verdict.Verdict.TheVariants.{Commit, BackUp}
use Rattle.occ_model.specs.declared.verdict.Cause.TheVariants.{Conflict, TooOld}

-- whether a transaction finished after the counter stood at one value, and at the latest as it stood at the other: start < tn <= finish (Kung and Robinson, section 4)
abbrev pub finished_within : ℕ → ℕ → Standing → Bool
finished_within start finish (Open index case) = false
finished_within start finish (Writing done) = false
finished_within start finish (Done number) = nat_lt start number && nat_le number finish
finished_within start finish (Back cause) = false

-- the lower end of the window: of the write sets, those numbered above it are kept for testing (Kung and Robinson, section 3)
abbrev pub window_low : ℕ → ℕ → ℕ
window_low counter keep = counter - keep

-- Whether an opponent stands in the way. One that finished within (start, finish] may not write what was read (the second of the three conditions of Kung and Robinson, section 3); one that is active at the entry may write neither what was read nor what is written (the third).
abbrev pub is_in_the_way : ℕ → ℕ → List Question → List Write → LogRow → Bool
is_in_the_way start finish reads writes row =
    (finished_within start finish row.standing && meets_reads row.writes reads)
    || (is_active row.standing && (meets_reads row.writes reads || meets_writes row.writes writes))

-- Validity at an entry: the log and the counter (finish) as they stand then, the lower end of the window, and what the transaction says. One that began before the window is too old; else none of all its opponents may stand in the way (Kung and Robinson, sections 3 and 5).
abbrev pub validity : List LogRow → ℕ → ℕ → ℕ → List Question → List Write → Verdict
validity log finish low start reads writes =
    cond (nat_lt start low) (BackUp TooOld)
    (cond (list_any (is_in_the_way start finish reads writes) log) (BackUp Conflict) Commit)

-- the writes of some rows
abbrev pub writes_of : List LogRow → List (List Write)
writes_of rows = map (λ row. row.writes) rows

-- of the opponents that finished within (start, finish], those in the window
abbrev pub finished_opponents : List LogRow → ℕ → ℕ → ℕ → List (List Write)
finished_opponents log finish low start =
    writes_of (filter (λ row. finished_within low finish row.standing && finished_within start finish row.standing) log)

abbrev pub active_opponents : List LogRow → List (List Write)
active_opponents log = writes_of (filter (λ row. is_active row.standing) log)

-- the same write sets, in whatever order: each test that one of these passes, one of those passes
abbrev pub AreSame : List (List Write) → List (List Write) → Type 0
AreSame these those = (test : List Write → Bool) → list_any test these ≡ list_any test those

-- the case that an entry fixes: its own start, reads and writes, the lower end of the window, the finished opponents in the window, and those that are active
pub record IsCaseAt (log : List LogRow) (finish low start : ℕ) (reads : List Question) (writes : List Write) (case : Case) : Type 0 where
  pub start_is : case.start ≡ start
  pub low_is : case.low ≡ low
  pub reads_are : case.reads ≡ reads
  pub writes_are : case.writes ≡ writes
  pub finished : AreSame case.finished (finished_opponents log finish low start)
  pub active : AreSame case.active (active_opponents log)

-- that case with its opponents in the order of the log
abbrev pub case_at : List LogRow → ℕ → ℕ → ℕ → List Question → List Write → Case
case_at log finish low start reads writes = record {
  start = start;
  low = low;
  reads = reads;
  writes = writes;
  finished = finished_opponents log finish low start;
  active = active_opponents log;
}

-- The verdict on a case, which needs nothing but the case.
abbrev pub verdict : Case → Verdict
verdict case =
    cond (nat_lt case.start case.low) (BackUp TooOld)
    (cond (list_any (λ theirs. meets_reads theirs case.reads) case.finished
    || list_any (λ theirs. meets_reads theirs case.reads || meets_writes theirs case.writes) case.active)
    (BackUp Conflict) Commit)
