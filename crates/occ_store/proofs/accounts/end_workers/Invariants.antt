use Rattle.std.proofs.Common.{◌≡◌, ◌+◌, [], length, map}
use Rattle.std.specs.Prelude.{sum_by, vec_len, vec_capacity}
use Rattle.occ_store.specs.Workers.{WorkerView}
use Rattle.occ_store.specs.Accounts.{AreAllLines, HaveSeen, line_of, held}
use Rattle.occ_store.proofs.accounts.end_workers.Given as goal

-- so many workers have ended
abbrev pub invariant-loop-worker : goal.invariant-loop-worker
invariant-loop-worker g l = AreAllLines l.yielded [] [] (map line_of l.lines.items)
    × (vec_len l.lines ≡ length l.yielded)
    × (vec_capacity l.lines ≡ vec_capacity l.fn.lines)
    × (held (λ s. s.parts) l.parts ≡ held (λ s. s.parts) l.fn.parts + length l.yielded)
    × (held (λ s. s.amount) l.parts ≡ held (λ s. s.amount) l.fn.parts + sum_by (λ (worker : WorkerView). worker.entered) l.yielded)
    × HaveSeen l.fn.shared.story.log (λ (worker : WorkerView). worker.front) l.yielded
    × (l.shared ≡ l.fn.shared)
