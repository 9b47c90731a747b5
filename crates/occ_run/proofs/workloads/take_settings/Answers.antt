use Rattle.occ_run.specs.Workloads.{Version, Sessions, Queue, Keep, Validators, Retries, limits_of, loads}
use Rattle.occ_text.proofs.LinesTaken.{none, ◌and◌, next_taken}
use Rattle.occ_run.proofs.Openings.{settings_fail}
use Rattle.occ_run.proofs.workloads.take_settings.Goals as goal

pub returns-in_err-version-clause-gives : goal.returns-in_err-version-clause-gives
returns-in_err-version-clause-gives g c = settings_fail Version c.in_err-version.field-0.0 c.from_residual.result _ _ c.from_residual.ensures.1 none (λ may. may) c.in_err-version.ensures.gives

pub returns-in_err-sessions-clause-gives : goal.returns-in_err-sessions-clause-gives
returns-in_err-sessions-clause-gives g c =
    let v = c.in_ok-version.version in
    let first = (next_taken loads Version v c.in_ok-version.ensures.gives).0 in
    settings_fail (Sessions v) c.in_err-sessions.field-0.0 c.from_residual-in_err-sessions.result _ _ c.from_residual-in_err-sessions.ensures.1 first (λ may. may) c.in_err-sessions.ensures.gives

pub returns-in_err-queue-clause-gives : goal.returns-in_err-queue-clause-gives
returns-in_err-queue-clause-gives g c =
    let v = c.in_ok-version.version in
    let s = c.in_ok-sessions.sessions in
    let first = (next_taken loads Version v c.in_ok-version.ensures.gives).0 in
    let second = (next_taken loads (Sessions v) s c.in_ok-sessions.ensures.gives).0 in
    settings_fail (Queue v s) c.in_err-queue.field-0.0 c.from_residual-in_err-queue.result _ _ c.from_residual-in_err-queue.ensures.1 (first and second) (λ may. may) c.in_err-queue.ensures.gives

pub returns-in_err-keep-clause-gives : goal.returns-in_err-keep-clause-gives
returns-in_err-keep-clause-gives g c =
    let v = c.in_ok-version.version in
    let s = c.in_ok-sessions.sessions in
    let q = c.in_ok-queue.queue in
    let first = (next_taken loads Version v c.in_ok-version.ensures.gives).0 in
    let second = (next_taken loads (Sessions v) s c.in_ok-sessions.ensures.gives).0 in
    let third = (next_taken loads (Queue v s) q c.in_ok-queue.ensures.gives).0 in
    settings_fail (Keep v s q) c.in_err-keep.field-0.0 c.from_residual-in_err-keep.result _ _ c.from_residual-in_err-keep.ensures.1 (first and second and third) (λ may. may) c.in_err-keep.ensures.gives

pub returns-in_err-validators-clause-gives : goal.returns-in_err-validators-clause-gives
returns-in_err-validators-clause-gives g c =
    let v = c.in_ok-version.version in
    let s = c.in_ok-sessions.sessions in
    let q = c.in_ok-queue.queue in
    let k = c.in_ok-keep.keep in
    let first = (next_taken loads Version v c.in_ok-version.ensures.gives).0 in
    let second = (next_taken loads (Sessions v) s c.in_ok-sessions.ensures.gives).0 in
    let third = (next_taken loads (Queue v s) q c.in_ok-queue.ensures.gives).0 in
    let fourth = (next_taken loads (Keep v s q) k c.in_ok-keep.ensures.gives).0 in
    settings_fail (Validators (limits_of v s q k)) c.in_err-validators.field-0.0 c.from_residual-in_err-validators.result _ _ c.from_residual-in_err-validators.ensures.1 (first and second and third and fourth) (λ may. may) c.in_err-validators.ensures.gives

pub returns-in_err-retries-clause-gives : goal.returns-in_err-retries-clause-gives
returns-in_err-retries-clause-gives g c =
    let v = c.in_ok-version.version in
    let s = c.in_ok-sessions.sessions in
    let q = c.in_ok-queue.queue in
    let k = c.in_ok-keep.keep in
    let n = c.in_ok-validators.validators in
    let first = (next_taken loads Version v c.in_ok-version.ensures.gives).0 in
    let second = (next_taken loads (Sessions v) s c.in_ok-sessions.ensures.gives).0 in
    let third = (next_taken loads (Queue v s) q c.in_ok-queue.ensures.gives).0 in
    let fourth = (next_taken loads (Keep v s q) k c.in_ok-keep.ensures.gives).0 in
    let fifth = (next_taken loads (Validators (limits_of v s q k)) n c.in_ok-validators.ensures.gives).0 in
    settings_fail (Retries (limits_of v s q k) n) c.in_err-retries.field-0.0 c.from_residual-in_err-retries.result _ _ c.from_residual-in_err-retries.ensures.1 (first and second and third and fourth and fifth) (λ may. may) c.in_err-retries.ensures.gives

pub returns-clause-gives : goal.returns-clause-gives
returns-clause-gives g c =
    let v = c.in_ok-version.version in
    let s = c.in_ok-sessions.sessions in
    let q = c.in_ok-queue.queue in
    let k = c.in_ok-keep.keep in
    let n = c.in_ok-validators.validators in
    let first = (next_taken loads Version v c.in_ok-version.ensures.gives).0 in
    let second = (next_taken loads (Sessions v) s c.in_ok-sessions.ensures.gives).0 in
    let third = (next_taken loads (Queue v s) q c.in_ok-queue.ensures.gives).0 in
    let fourth = (next_taken loads (Keep v s q) k c.in_ok-keep.ensures.gives).0 in
    let fifth = (next_taken loads (Validators (limits_of v s q k)) n c.in_ok-validators.ensures.gives).0 in
    let last = next_taken loads (Retries (limits_of v s q k) n) c.in_ok-retries.retries c.in_ok-retries.ensures.gives in
    (first and second and third and fourth and fifth and last.0, last.1.most_count)
