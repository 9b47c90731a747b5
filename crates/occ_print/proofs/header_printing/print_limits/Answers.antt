use Rattle.std.proofs.Common.{◌∷◌, [], Ok, refl, codes}
use Rattle.occ_text.specs.Headers.{version_text, count_text}
use Rattle.occ_print.proofs.Printing.{failed, front_line, front_amid, lines_then}
use Rattle.occ_print.proofs.header_printing.print_limits.Goals as goal

pub returns-in_err-print_version-clause-printed : goal.returns-in_err-print_version-clause-printed
returns-in_err-print_version-clause-printed g c =
    let occ = version_text c.args.limits.version in
    let sessions = count_text (codes "sessions") c.args.limits.sessions in
    let queue = count_text (codes "queue") c.args.limits.queue in
    let keep = count_text (codes "keep") c.args.limits.keep in
    failed _ c.from_residual.result _ _ _ _ _ c.from_residual.ensures.1 (front_line _ _ _ _ occ occ (sessions ∷ queue ∷ keep ∷ []) refl c.in_err-print_version.ensures.printed)

pub returns-in_err-print_count-clause-printed : goal.returns-in_err-print_count-clause-printed
returns-in_err-print_count-clause-printed g c =
    let occ = version_text c.args.limits.version in
    let sessions = count_text (codes "sessions") c.args.limits.sessions in
    let queue = count_text (codes "queue") c.args.limits.queue in
    let keep = count_text (codes "keep") c.args.limits.keep in
    failed _ c.from_residual-in_err-print_count.result _ _ _ _ _ c.from_residual-in_err-print_count.ensures.1
    (front_amid _ _ _ _ _ _ (occ ∷ []) (sessions ∷ []) (queue ∷ keep ∷ []) c.in_ok-print_version.ensures.printed c.in_err-print_count.ensures.printed)

pub returns-in_err-print_count-2-clause-printed : goal.returns-in_err-print_count-2-clause-printed
returns-in_err-print_count-2-clause-printed g c =
    let occ = version_text c.args.limits.version in
    let sessions = count_text (codes "sessions") c.args.limits.sessions in
    let queue = count_text (codes "queue") c.args.limits.queue in
    let keep = count_text (codes "keep") c.args.limits.keep in
    failed _ c.from_residual-in_err-print_count-2.result _ _ _ _ _ c.from_residual-in_err-print_count-2.ensures.1
    (front_amid _ _ _ _ _ _ (occ ∷ sessions ∷ []) (queue ∷ []) (keep ∷ [])
    (lines_then (Ok tt) _ _ _ _ _ _ (occ ∷ []) (sessions ∷ []) c.in_ok-print_version.ensures.printed c.in_ok-print_count.ensures.printed) c.in_err-print_count-2.ensures.printed)

pub returns-clause-printed : goal.returns-clause-printed
returns-clause-printed g c =
    let occ = version_text c.args.limits.version in
    let sessions = count_text (codes "sessions") c.args.limits.sessions in
    let queue = count_text (codes "queue") c.args.limits.queue in
    let keep = count_text (codes "keep") c.args.limits.keep in
    lines_then c.print_count-3.result _ _ _ _ _ _ (occ ∷ sessions ∷ queue ∷ []) (keep ∷ [])
    (lines_then (Ok tt) _ _ _ _ _ _ (occ ∷ sessions ∷ []) (queue ∷ [])
    (lines_then (Ok tt) _ _ _ _ _ _ (occ ∷ []) (sessions ∷ []) c.in_ok-print_version.ensures.printed c.in_ok-print_count.ensures.printed)
    c.in_ok-print_count-2.ensures.printed)
    c.print_count-3.ensures.printed
