use Rattle.std.proofs.Common.{refl, sym, subst, List, ◌∷◌}
use Rattle.occ_store.specs.Serving.{AreRun}
use Rattle.occ_store.proofs.validator_threads.+groups.Goals as goal

pub run_groups-returns-in-Some : goal.run_groups-returns-in-Some
run_groups-returns-in-Some g t c =
    let parts = c.run_parts in
    subst (λ groups. AreRun g.N.Name.named (g.G.Gate.may_stop c.args.gate.now) g.N.MayStop.may_be_stopped groups (parts.new.first ∷ parts.new.others))
    (sym c.in-Some.ensures.cases.0)
    (parts.new.first, parts.new.others, refl, parts.ensures.first, parts.ensures.others)
