use Rattle.std.proofs.Common.{◌≡◌, ◌∙◌, ◌==◌, ℕ, ap, length, arith, vec_len}
use Rattle.std.specs.FinMap.{len}
use Rattle.occ_log.proofs.Readers.{none-listed}
use Rattle.occ_log.proofs.session_phases.SessionPhases.is_empty.Goals as goal

pub returns : goal.returns
returns g c =
    let phases = c.self.inside.phases in
    let all : vec_len phases ≡ length phases.items = omega (arith, phases.ok.0) in
    c.is_empty.ensures ∙ ap (λ (n : ℕ). n == 0) all ∙ none-listed phases.items ∙ ap (λ m. len m == 0) c.self.view_is
