use Rattle.std.proofs.Common.{sym, ap, subst, ◌∙◌}
use Rattle.occ_log.proofs.Common.{Counts, log_of, places_of, rows_of}
use Rattle.occ_log.proofs.log.Log.new.Goals as goal

pub invariant_of-result : goal.invariant_of-result
invariant_of-result g c = record {
  placed = subst (λ rows. Counts c.args.first (places_of (log_of rows))) (sym c.new-2.ensures.items) tt;
  listed = λ session. c.in_ok-places.ensures.none session ∙ sym (ap (λ rows. places_of (rows_of session (log_of rows))) c.new-2.ensures.items);
}
