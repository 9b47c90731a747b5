use Rattle.std.proofs.Common.{sym, ap, ◌∙◌, slice_get}
use Rattle.occ_log.proofs.Common.{kept_of, log_of, row_at, rows_of}
use Rattle.occ_log.proofs.Numbered.{none_is, row_is}
use Rattle.occ_log.proofs.log.Log.row_of.Goals as goal

pub returns-in_err-place : goal.returns-in_err-place
returns-in_err-place g c =
    rw c.from_residual.ensures
    (none_is c.args.session c.args.before (log_of c.self.inside.rows.items) (ap (λ l. slice_get l c.args.before) (sym (c.self.invariant.listed c.args.session)) ∙ sym c.in_err-place.ensures)
    ∙ ap (λ k. slice_get (rows_of c.args.session k.rows) c.args.before) c.self.view_is)

pub returns : goal.returns
returns g c =
    c.row.ensures ∙ ap (λ k. row_at k c.in_ok-place.place) (sym c.self.view_is)
    ∙ row_is (kept_of c.self.inside.first c.self.inside.rows c.self.inside.places) c.args.session c.args.before c.in_ok-place.place c.self.invariant.placed
    (ap (λ l. slice_get l c.args.before) (sym (c.self.invariant.listed c.args.session)) ∙ sym c.in_ok-place.ensures)
    ∙ ap (λ k. slice_get (rows_of c.args.session k.rows) c.args.before) c.self.view_is
