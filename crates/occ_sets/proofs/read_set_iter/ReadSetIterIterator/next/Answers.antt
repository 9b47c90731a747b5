use Rattle.std.proofs.Common.{◌+◌, ◌<◌, drop, length, ap, sym, arith}
use Rattle.occ_sets.proofs.OneByOne.{left-none, left-next}
use Rattle.occ_sets.proofs.read_set_iter.ReadSetIterIterator.next.Goals as goal

-- no observation is left
pub returns-in_err-seen-clause-steps : goal.returns-in_err-seen-clause-steps
returns-in_err-seen-clause-steps g c =
    let none = left-none c.args.self.now.set.now c.args.self.now.place (sym c.in_err-seen.ensures.value) in
    rw c.from_residual.ensures (none, none)

-- the observation at the place is the first that is left
pub returns-clause-steps : goal.returns-clause-steps
returns-clause-steps g c = left-next c.args.self.now.set.now c.args.self.now.place _ (sym c.in_ok-seen.ensures.value)

-- one fewer is left
pub returns-clause-goes : goal.returns-clause-goes
returns-clause-goes g c =
    let next = left-next c.args.self.now.set.now c.args.self.now.place _ (sym c.in_ok-seen.ensures.value) in
    let fewer : length (drop (c.args.self.now.place + 1) c.args.self.now.set.now) < length (drop c.args.self.now.place c.args.self.now.set.now) = rw (ap length next) omega arith in
    record { on = λ _. (tt, tt, fewer); keeps = tt; rests = λ _. tt }
