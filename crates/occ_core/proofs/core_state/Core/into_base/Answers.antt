use Rattle.std.proofs.Common.{◌≡◌, ℕ, sym, ap, subst, ◌∙◌, length, arith}
use Rattle.occ_book.specs.Base.{BaseContent, written}
use Rattle.occ_book.specs.Content.{Content}
use Rattle.occ_book.proofs.Folding.{written-serial}
use Rattle.occ_model.specs.Log.{LogRow, Base, serial}
use Rattle.occ_model.specs.Step.{folded}
use Rattle.occ_model.specs.World.{World, active_count}
use Rattle.occ_log.specs.Rows.{log_of, opened}
use Rattle.occ_core.specs.Core.{parts_of, Seen}
use Rattle.occ_core.specs.Folding.{AllFit}
use Rattle.occ_core.proofs.Checkpoints.{rows_fit, all_fit, quiet_state}
use Rattle.occ_core.proofs.core_state.Core.into_base.Goals as goal

pub behind-requires-clause-fits : goal.behind-requires-clause-fits
behind-requires-clause-fits g c =
    let base = c.self.inside.base in
    all_fit base.tables base.sessions c.rows.result.now
    (subst (AllFit base.tables base.sessions) (sym c.rows.ensures) (rows_fit (parts_of c.self.inside) c.self.invariant.sound base.tables base.sessions c.self.invariant.base_match.holds c.self.invariant.base_match.knows))

pub behind-requires-clause-state : goal.behind-requires-clause-state
behind-requires-clause-state g c =
    let base = c.self.inside.base in
    let seen = ap (λ (s : Seen). s.world) c.self.view_is in
    let none = c.active.ensures in
    let replay = quiet_state (parts_of c.self.inside) c.self.invariant.sound (ap active_count seen ∙ (let n : active_count c.args.self.world ≡ 0 = omega arith in n)) in
    λ i. record {
      tables = (c.self.invariant.tables_match ∙ sym c.self.invariant.base_match.holds) i;
      state = sym (written-serial opened base.base.state c.rows.result.now ∙ ap (serial base.base.state) c.rows.ensures ∙ replay) i;
    }

pub returns-clause-folded : goal.returns-clause-folded
returns-clause-folded g c =
    let seen = ap (λ (s : Seen). s.world) c.self.view_is in
    c.behind.ensures opened
    ∙ (λ i. record {
      tables = (c.self.invariant.base_match.holds ∙ ap (λ (w : World). length w.settings.schema) seen) i;
      sessions = (c.self.invariant.base_match.knows ∙ ap (λ (w : World). w.settings.sessions) seen) i;
      base = (ap (folded c.self.inside.base.base) c.rows.ensures ∙ ap (λ (w : World). folded w.base w.log) seen) i;
    })

pub returns-clause-state : goal.returns-clause-state
returns-clause-state g c =
    let seen = ap (λ (s : Seen). s.world) c.self.view_is in
    let none = c.active.ensures in
    let replay = quiet_state (parts_of c.self.inside) c.self.invariant.sound (ap active_count seen ∙ (let n : active_count c.args.self.world ≡ 0 = omega arith in n)) in
    ap (λ (b : BaseContent). b.base.state) (c.behind.ensures opened) ∙ ap (serial c.self.inside.base.base.state) c.rows.ensures ∙ replay ∙ ap (λ (w : World). w.table) seen
