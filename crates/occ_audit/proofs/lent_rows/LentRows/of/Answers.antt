use Rattle.std.proofs.Common.{rules, ◌≡◌, sym, ap, subst, ◌∙◌}
use Rattle.std.proofs.lemmas.Iterator.{items_from_drains}
use Rattle.std.proofs.lemmas.Iterator.Adapters.{YieldsList-from_vec}
use Rattle.occ_book.specs.KeyRefs.{key_lent}
use Rattle.occ_audit.proofs.Common.{map-id}
use Rattle.occ_audit.proofs.Lending.{HasOthers, gathered, gathered-none, gathered-number, gathered-other, made-found, made-of, made-others, others-none, others-pushed}
use Rattle.occ_audit.proofs.Lent.{lends-none, lends-more, lends-all}
use Rattle.occ_audit.proofs.lent_rows.LentRows.of.Goals as goal

pub loop-key-init : goal.loop-key-init
loop-key-init g c = (
  lends-none c.args.kept c.into_iter-key-iterator.result (gathered c.in_ok-numbers.numbers c.new-others.result.items) c.into_iter-key-iterator.ensures.into_iter_gives (gathered-none c.in_ok-numbers.numbers c.new-others.result.items c.in_ok-numbers.ensures c.new-others.ensures.items) c.requires,
  others-none c.new-others.result.items c.new-others.ensures.items,
)

pub loop-key-preserved-in-Ok : goal.loop-key-preserved-in-Ok
loop-key-preserved-in-Ok g c =
    let items = c.loop-key.others.items in (
      lends-more c.args.kept c.loop-key.key-iterator c.next.new.self (key_lent c.in-Some.key) c.in-Some.row.now (gathered c.loop-key.numbers items) (gathered c.insert.new.self items) c.in-Some.ensures.steps c.loop-key.invariant.0
          (gathered-number c.loop-key.numbers c.insert.new.self items (key_lent c.in-Some.key) c.in-Ok.number c.in-Some.row c.in-Ok.ensures c.in_ok-_was-in-Ok.ensures.ok),
      c.loop-key.invariant.1,
    )

pub loop-key-preserved : goal.loop-key-preserved
loop-key-preserved g c =
    let items = c.loop-key.others.items in
    let more = c.in_ok-push-in-Err.ensures.items in (
      lends-more c.args.kept c.loop-key.key-iterator c.next.new.self (key_lent c.in-Some.key) c.in-Some.row.now (gathered c.loop-key.numbers items) (gathered c.loop-key.numbers c.push.new.self.items) c.in-Some.ensures.steps c.loop-key.invariant.0
          (λ k. ap (λ es. gathered c.loop-key.numbers es k) more ∙ gathered-other c.loop-key.numbers items (key_lent c.in-Some.key) c.in-Err.key c.in-Some.row c.in-Err.ensures.0 c.in-Err.ensures.1 k),
      subst HasOthers (sym more) (others-pushed items c.in-Err.key c.in-Some.row c.in-Err.ensures.1 c.loop-key.invariant.1),
    )

pub invariant_of-result : goal.invariant_of-result
invariant_of-result g c =
    let items = c.loop-key.others.items in
    let ran = c.in_ok-others.ensures.ran in
    let same : ran.1 ≡ items = sym (map-id ran.1) ∙ items_from_drains ran.1 ran.3 (YieldsList-from_vec {s = ran.0} items (search rules) (search rules)) in
    made-others items c.in_ok-others.others (made-of items ran.1 c.in_ok-others.others same ran.4) c.loop-key.invariant.1

pub returns : goal.returns
returns g c = λ key.
    let items = c.loop-key.others.items in
    let ran = c.in_ok-others.ensures.ran in
    let same : ran.1 ≡ items = sym (map-id ran.1) ∙ items_from_drains ran.1 ran.3 (YieldsList-from_vec {s = ran.0} items (search rules) (search rules)) in
    made-found c.loop-key.numbers items c.in_ok-others.others (made-of items ran.1 c.in_ok-others.others same ran.4) c.loop-key.invariant.1 key
    ∙ lends-all c.args.kept c.loop-key.key-iterator (gathered c.loop-key.numbers items) c.in-None.ensures.steps.0 c.loop-key.invariant.0 key
