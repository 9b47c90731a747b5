use Rattle.std.proofs.Common.{◌≡◌, ◌<◌, ◌≤◌, true, length, drop, sym, ap, subst, ◌∙◌, arith}
use Rattle.std.specs.List.{remove}
use Rattle.occ_pages.specs.Page.{StandsAt}
use Rattle.occ_pages.specs.Pages.{zipped, begins_with}
use Rattle.occ_pages.proofs.Zipped.{length-zipped, stands-at, zipped-remove}
use Rattle.occ_pages.proofs.page.Page.remove.Goals as goal

pub remove-key-requires : goal.remove-key-requires
remove-key-requires g c =
    let long = sym (ap length c.self.view_is) ∙ length-zipped c.self.inside.keys.items c.self.inside.rows.items c.self.invariant.same in
    omega (arith, long, c.self.inside.keys.ok.0, c.requires)

pub remove-requires : goal.remove-requires
remove-requires g c =
    let long = sym (ap length c.self.view_is) ∙ length-zipped c.self.inside.keys.items c.self.inside.rows.items c.self.invariant.same in
    omega (arith, long, c.self.invariant.same, c.self.inside.rows.ok.0, c.requires)

pub returns-clause-was : goal.returns-clause-was
returns-clause-was g c = λ key is.
    let keys = c.self.inside.keys.items in
    let rows = c.self.inside.rows.items in
    let long = sym (ap length c.self.view_is) ∙ length-zipped keys rows c.self.invariant.same in
    let there : c.args.place < length keys = omega (arith, long, c.requires) in
    subst (λ es. StandsAt es c.args.place key c.remove.result) c.self.view_is
    (stands-at keys rows c.args.place key c.self.invariant.same there c.remove.result c.remove.ensures.value (subst (λ es. begins_with key (drop c.args.place es) ≡ true) (sym c.self.view_is) is))

pub returns-clause-new : goal.returns-clause-new
returns-clause-new g c =
    let keys = c.self.inside.keys.items in
    let rows = c.self.inside.rows.items in
    let long = sym (ap length c.self.view_is) ∙ length-zipped keys rows c.self.invariant.same in
    let there : c.args.place ≤ length keys = omega (arith, long, c.requires) in
    (λ i. zipped (c.remove-key.ensures.items i) (c.remove.ensures.items i))
    ∙ zipped-remove keys rows c.args.place c.self.invariant.same there
    ∙ ap (λ es. remove es c.args.place) c.self.view_is

pub invariant_of-self : goal.invariant_of-self
invariant_of-self g c =
    let keys = c.self.inside.keys in
    let rows = c.self.inside.rows in
    let one = c.remove-key.new.self.ok.0 in
    let two = c.remove.new.self.ok.0 in
    record {
      same = omega (arith, one, two, c.remove-key.ensures.len, c.remove.ensures.len, keys.ok.0, rows.ok.0, c.self.invariant.same);
      few = omega (arith, one, c.remove-key.ensures.len, keys.ok.0, c.self.invariant.few);
      keys_room = omega (arith, c.remove-key.ensures.capacity, c.self.invariant.keys_room);
      rows_room = omega (arith, c.remove.ensures.capacity, c.self.invariant.rows_room);
    }
