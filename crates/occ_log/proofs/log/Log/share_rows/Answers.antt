use Rattle.std.proofs.Common.{◌≤◌, ap, sym, ◌∙◌, arith, ◌++◌, length}
use Rattle.std.proofs.lemmas.List.{append-nil, drop_all}
use Rattle.occ_log.proofs.Common.{log_of}
use Rattle.occ_log.proofs.log.Log.share_rows.Goals as goal

pub returns : goal.returns
returns g c =
    let rows = c.self.inside.rows.items in
    let counted = c.self.inside.rows.ok.0 in
    let past = c.loop-place-test.false in
    let every : length rows ≤ c.loop-place.place = omega (arith, c.len-place-end.ensures) in
    ap log_of (sym (append-nil c.loop-place.shared.items) ∙ ap (λ l. c.loop-place.shared.items ++ l) (sym (drop_all c.loop-place.place rows every)) ∙ c.loop-place.invariant)
    ∙ ap (λ k. k.rows) c.self.view_is
