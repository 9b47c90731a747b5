use Rattle.occ_text.proofs.WholeHeader.{end_version, end_sessions, end_queue, end_keep, limits_taken}
use Rattle.occ_text.proofs.headers.take_limits.Goals as goal

pub returns-in_err-version-clause-gives : goal.returns-in_err-version-clause-gives
returns-in_err-version-clause-gives g c =
    end_version c.in_err-version.field-0.0 c.from_residual.result _ _ _ _ c.from_residual.ensures.1 c.in_err-version.ensures.gives

pub returns-in_err-sessions-clause-gives : goal.returns-in_err-sessions-clause-gives
returns-in_err-sessions-clause-gives g c =
    end_sessions c.in_ok-version.version c.in_err-sessions.field-0.0 c.from_residual-in_err-sessions.result _ _ _ _ _ _ c.from_residual-in_err-sessions.ensures.1 c.in_ok-version.ensures.gives c.in_err-sessions.ensures.gives

pub returns-in_err-queue-clause-gives : goal.returns-in_err-queue-clause-gives
returns-in_err-queue-clause-gives g c =
    end_queue c.in_ok-version.version c.in_err-queue.field-0.0 c.from_residual-in_err-queue.result _ _ _ _ c.in_ok-sessions.sessions _ _ _ _ c.from_residual-in_err-queue.ensures.1 c.in_ok-version.ensures.gives c.in_ok-sessions.ensures.gives c.in_err-queue.ensures.gives

pub returns-in_err-keep-clause-gives : goal.returns-in_err-keep-clause-gives
returns-in_err-keep-clause-gives g c =
    end_keep c.in_ok-version.version c.in_err-keep.field-0.0 c.from_residual-in_err-keep.result _ _ _ _ _ c.in_ok-sessions.sessions c.in_ok-queue.queue _ _ _ _ _ c.from_residual-in_err-keep.ensures.1 c.in_ok-version.ensures.gives c.in_ok-sessions.ensures.gives
    c.in_ok-queue.ensures.gives c.in_err-keep.ensures.gives

pub returns-clause-gives : goal.returns-clause-gives
returns-clause-gives g c =
    limits_taken c.in_ok-version.version _ _ _ _ _ c.in_ok-sessions.sessions c.in_ok-queue.queue c.in_ok-keep.keep _ _ _ _ _ c.in_ok-version.ensures.gives c.in_ok-sessions.ensures.gives c.in_ok-queue.ensures.gives c.in_ok-keep.ensures.gives
