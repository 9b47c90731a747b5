use Rattle.std.proofs.Common.{◌<◌, ◌≤◌, ◌-◌, refl, ap, ◌∙◌, arith}
use Rattle.occ_log.proofs.Common.{kept_of, log_of, log_row_of, row_at}
use Rattle.occ_log.proofs.Changes.{seen_at}
use Rattle.occ_log.proofs.Numbered.{before_first, row_from}
use Rattle.occ_log.proofs.log.Log.row.Goals as goal

pub returns-then-place-self : goal.returns-then-place-self
returns-then-place-self g c =
    let less : c.args.place < c.self.inside.first = omega arith in
    before_first (kept_of c.self.inside.first c.self.inside.rows c.self.inside.places) c.args.place less ∙ ap (λ k. row_at k c.args.place) c.self.view_is

pub returns : goal.returns
returns g c =
    let from : c.self.inside.first ≤ c.args.place = omega arith in
    seen_at log_row_of c.self.inside.rows.items _ (log_of c.self.inside.rows.items) (c.args.place - c.self.inside.first) c.get.result c.deref.ensures.value refl c.get.ensures.lookup
    ∙ row_from (kept_of c.self.inside.first c.self.inside.rows c.self.inside.places) c.args.place from ∙ ap (λ k. row_at k c.args.place) c.self.view_is
