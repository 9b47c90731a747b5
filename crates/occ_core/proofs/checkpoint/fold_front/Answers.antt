use Rattle.std.proofs.Common.{◌≡◌, ap, sym, subst, ◌∙◌, take, OnOk, arith}
use Rattle.std.proofs.lemmas.List.{length-take, take-map}
use Rattle.occ_model.specs.Step.{folded}
use Rattle.occ_log.specs.Rows.{log_row_of, opened}
use Rattle.occ_core.specs.Folding.{AllFit}
use Rattle.occ_core.proofs.Checkpoints.{first_fit}
use Rattle.occ_core.proofs.checkpoint.fold_front.Goals as goal

pub fold-requires-clause-fits : goal.fold-requires-clause-fits
fold-requires-clause-fits g c =
    first_fit c.args.base.now.tables c.args.base.now.sessions c.args.count c.rows.result.now (subst (AllFit c.args.base.now.tables c.args.base.now.sessions) (sym c.rows.ensures) c.requires.fit)

pub fold-requires-clause-places : goal.fold-requires-clause-places
fold-requires-clause-places g c =
    let within = length-take c.args.count c.rows.result.now in
    let room = c.requires.place in
    omega arith

pub returns-clause-ok : goal.returns-clause-ok
returns-clause-ok g c =
    let old = c.args.base.now in
    subst (λ l. OnOk c.fold.result (c.fold.new.self ≡ record { tables = old.tables; sessions = old.sessions; base = folded old.base l })) (sym (take-map log_row_of c.args.count c.rows.result.now) ∙ ap (take c.args.count) c.rows.ensures) (c.fold.ensures.ok opened)
