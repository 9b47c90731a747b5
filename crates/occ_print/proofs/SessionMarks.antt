-- The marks of sessions, session by session.
use Rattle.std.proofs.Common.{◌≡◌, ℕ, zero, suc, ◌+◌, ◌-◌, ◌<◌, ◌++◌, sym, ap, ◌∙◌, append_assoc, arith}
use Rattle.std.proofs.lemmas.List.{append-nil}
use Rattle.std.specs.Ordering.{nat_cmp}
use Rattle.std.specs.FinMap.{FinMap, get}
use Rattle.occ_book.specs.Marks.{mark_at, marks_listed}

-- the marks of some sessions, and those of the sessions behind them
parted : (marks : FinMap nat_cmp ℕ) (first done left all next : ℕ) → all ≡ done + left → next ≡ first + done
    → marks_listed marks first all ≡ marks_listed marks first done ++ marks_listed marks next left
parted marks first zero left all next whole from =
    let same : all ≡ left = omega arith in
    let here : next ≡ first = omega arith in
    λ j. marks_listed marks (sym here j) (same j)
parted marks first (suc done) left zero next whole from = absurd (omega arith)
parted marks first (suc done) left (suc all) next whole from =
    ap (λ l. mark_at first (get marks first) ++ l) (parted marks (suc first) done left all next (omega arith) (omega arith))
    ∙ sym (append_assoc (mark_at first (get marks first)) (marks_listed marks (suc first) done) (marks_listed marks next left))

-- the mark of one more session
pub marks_next : (marks : FinMap nat_cmp ℕ) (done : ℕ) → marks_listed marks 1 (done + 1) ≡ marks_listed marks 1 done ++ mark_at (done + 1) (get marks (done + 1))
marks_next marks done =
    parted marks 1 done 1 (done + 1) (done + 1) (omega arith) (omega arith)
    ∙ ap (λ l. marks_listed marks 1 done ++ l) (append-nil (mark_at (done + 1) (get marks (done + 1))))

-- the mark of a session, with those before it and those behind it
pub marks_amid : (marks : FinMap nat_cmp ℕ) (done all : ℕ) → done < all
    → marks_listed marks 1 all ≡ marks_listed marks 1 done ++ (mark_at (done + 1) (get marks (done + 1)) ++ marks_listed marks (suc (done + 1)) (all - (done + 1)))
marks_amid marks done all less = parted marks 1 done (suc (all - (done + 1))) all (done + 1) (omega arith) (omega arith)
