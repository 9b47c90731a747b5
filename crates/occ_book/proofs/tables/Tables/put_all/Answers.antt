use Rattle.std.proofs.Common.{refl, sym, ap, subst, ◌∙◌}
use Rattle.occ_book.proofs.Common.{apply, deletions, Replaced, kept_writes}
use Rattle.occ_book.proofs.Parted.{apply-parts}
use Rattle.occ_book.proofs.tables.Tables.put_all.Goals as goal

pub returns-in-Err-clause-err : goal.returns-in-Err-clause-err
returns-in-Err-clause-err g c =
    let old = c.args.self.now.state in
    let nothing = subst (λ es. Replaced old (kept_writes es) old) (sym c.new-kept.ensures) refl in
    let tables = c.take_back.ensures.tables ∙ c.in-Err.ensures.tables in
    let back = c.take_back.ensures.back old (c.in-Err.ensures.replaced old nothing) in
    λ i. record { tables = tables i; state = back i }

pub returns-clause-ok : goal.returns-clause-ok
returns-clause-ok g c =
    let old = c.args.self.now.state in
    let tables = c.delete_rows.ensures.tables ∙ c.in_default.ensures.tables in
    let done = c.delete_rows.ensures.state
    ∙ ap (λ s. apply s (deletions c.args.writes.now)) c.in_default.ensures.ok
    ∙ apply-parts old c.args.writes.now c.len-writes.ensures.once in
    λ i. record { tables = tables i; state = done i }
