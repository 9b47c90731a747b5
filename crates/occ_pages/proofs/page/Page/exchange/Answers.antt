use Rattle.std.proofs.Common.{◌≡◌, ◌<◌, ◌++◌, ◌∷◌, suc, true, length, take, drop, set, sym, ap, subst, ◌∙◌, arith}
use Rattle.std.proofs.lemmas.List.{length-set}
use Rattle.occ_pages.specs.Page.{StandsAt}
use Rattle.occ_pages.specs.Pages.{zipped, begins_with}
use Rattle.occ_pages.proofs.Zipped.{length-zipped, stands-at, exchanged}
use Rattle.occ_pages.proofs.page.Page.exchange.Goals as goal

pub index_mut-requires : goal.index_mut-requires
index_mut-requires g c =
    let long = sym (ap length c.self.view_is) ∙ length-zipped c.self.inside.keys.items c.self.inside.rows.items c.self.invariant.same in
    omega (arith, long, c.self.invariant.same, c.self.inside.rows.ok.0, c.requires)

pub returns-clause-was : goal.returns-clause-was
returns-clause-was g c = λ key is.
    let keys = c.self.inside.keys.items in
    let rows = c.self.inside.rows.items in
    let long = sym (ap length c.self.view_is) ∙ length-zipped keys rows c.self.invariant.same in
    let there : c.args.place < length keys = omega (arith, long, c.requires) in
    subst (λ row. StandsAt c.args.self.now c.args.place key row) (sym c.replace.ensures.value)
    (subst (λ es. StandsAt es c.args.place key c.index_mut.result.now) c.self.view_is
    (stands-at keys rows c.args.place key c.self.invariant.same there c.index_mut.result.now c.index_mut.ensures.value (subst (λ es. begins_with key (drop c.args.place es) ≡ true) (sym c.self.view_is) is)))

pub returns-clause-new : goal.returns-clause-new
returns-clause-new g c = λ key is.
    let keys = c.self.inside.keys.items in
    let rows = c.self.inside.rows.items in
    let place = c.args.place in
    let long = sym (ap length c.self.view_is) ∙ length-zipped keys rows c.self.invariant.same in
    let there : place < length keys = omega (arith, long, c.requires) in
    ap (λ row. zipped keys (set rows place row)) c.replace.ensures.after
    ∙ exchanged keys rows place key c.self.invariant.same there c.args.row (subst (λ es. begins_with key (drop place es) ≡ true) (sym c.self.view_is) is)
    ∙ ap (λ es. take place es ++ (key, c.args.row) ∷ drop (suc place) es) c.self.view_is

pub invariant_of-self : goal.invariant_of-self
invariant_of-self g c = record {
  same = c.self.invariant.same ∙ sym (length-set c.self.inside.rows.items c.args.place c.replace.new.dest);
  few = c.self.invariant.few;
  keys_room = c.self.invariant.keys_room;
  rows_room = c.self.invariant.rows_room;
}
