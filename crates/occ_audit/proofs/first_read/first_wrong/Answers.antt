use Rattle.std.proofs.Common.{◌≡◌, ◌∙◌, Some, ap, sym, subst, arith}
use Rattle.std.proofs.lemmas.List.{take_all}
use Rattle.std.specs.Option.{option_map}
use Rattle.std.specs.Prelude.{slice_get}
use Rattle.occ_audit.proofs.Common.{AreAnswers, answer_of, clash}
use Rattle.occ_sets.specs.Entries.{observation_lent}
use Rattle.occ_types.proofs.Walks.{is_there}
use Rattle.occ_audit.proofs.WrongReads.{read-answered, read-wrong}
use Rattle.occ_audit.proofs.first_read.first_wrong.Goals as goal

pub unreachable-requires : goal.unreachable-requires
unreachable-requires g c = is_there c.args.reads.now c.loop-read.read (ap (option_map observation_lent) (sym c.in_default.is) ∙ c.at.ensures.value) (omega (arith, c.loop-read-test.true, c.len-read-end.ensures.value))

pub loop-read-preserved : goal.loop-read-preserved
loop-read-preserved g c =
    let there : slice_get c.args.reads.now c.loop-read.read ≡ Some (observation_lent c.in-Some.seen) = sym (ap (option_map observation_lent) (sym c.in-Some.is) ∙ c.at.ensures.value) in
    read-answered c.args.replica.now c.args.reads.now c.loop-read.read (observation_lent c.in-Some.seen) there c.loop-read.invariant (c.agrees.ensures.0 c.if-not-agrees.false)

pub returns-then-not-agrees : goal.returns-then-not-agrees
returns-then-not-agrees g c =
    let there : slice_get c.args.reads.now c.loop-read.read ≡ Some (observation_lent c.in-Some.seen) = sym (ap (option_map observation_lent) (sym c.in-Some.is) ∙ c.at.ensures.value) in
    read-wrong c.args.replica.now c.args.reads.now c.loop-read.read (observation_lent c.in-Some.seen) there c.loop-read.invariant (answer_of c.in_ok-replayed.replayed)
    (λ e. clash c.agrees.result (c.agrees.ensures.1 e) c.if-not-agrees.true) c.in_ok-replayed.ensures

pub returns : goal.returns
returns g c = subst (AreAnswers c.args.replica.now) (take_all c.loop-read.read c.args.reads.now (omega (arith, c.loop-read-test.false, c.len-read-end.ensures.value))) c.loop-read.invariant
