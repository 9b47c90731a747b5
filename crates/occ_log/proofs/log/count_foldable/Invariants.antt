use Rattle.std.proofs.Common.{◌≡◌, ◌+◌, drop}
use Rattle.std.specs.List.{prefix_len}
use Rattle.occ_log.specs.Rows.{standing_of}
use Rattle.occ_model.specs.Refusal.{foldable}
use Rattle.occ_log.proofs.log.count_foldable.Given as goal

-- each row so far can be folded
abbrev pub invariant-loop-count : goal.invariant-loop-count
invariant-loop-count g l = prefix_len (λ row. foldable l.low (standing_of row.standing)) l.rows.items ≡ l.count + prefix_len (λ row. foldable l.low (standing_of row.standing)) (drop l.count l.rows.items)
