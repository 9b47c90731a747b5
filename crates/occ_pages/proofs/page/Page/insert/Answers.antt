use Rattle.std.proofs.Common.{◌≤◌, length, sym, ap, ◌∙◌, arith}
use Rattle.std.specs.List.{insert}
use Rattle.std.proofs.lemmas.List.Edits.{length-insert}
use Rattle.occ_pages.specs.Pages.{zipped}
use Rattle.occ_pages.proofs.Zipped.{length-zipped, zipped-insert}
use Rattle.occ_pages.proofs.page.Page.insert.Goals as goal

pub insert_within-requires-clause-there : goal.insert_within-requires-clause-there
insert_within-requires-clause-there g c =
    let long = sym (ap length c.self.view_is) ∙ length-zipped c.self.inside.keys.items c.self.inside.rows.items c.self.invariant.same in
    omega (arith, long, c.self.inside.keys.ok.0, c.requires.there)

pub insert_within-requires-clause-room : goal.insert_within-requires-clause-room
insert_within-requires-clause-room g c =
    let long = sym (ap length c.self.view_is) ∙ length-zipped c.self.inside.keys.items c.self.inside.rows.items c.self.invariant.same in
    omega (arith, long, c.self.inside.keys.ok.0, c.requires.room, c.self.invariant.keys_room)

pub insert_within-requires-2-clause-there : goal.insert_within-requires-2-clause-there
insert_within-requires-2-clause-there g c =
    let long = sym (ap length c.self.view_is) ∙ length-zipped c.self.inside.keys.items c.self.inside.rows.items c.self.invariant.same in
    omega (arith, long, c.self.inside.rows.ok.0, c.self.invariant.same, c.requires.there)

pub insert_within-requires-2-clause-room : goal.insert_within-requires-2-clause-room
insert_within-requires-2-clause-room g c =
    let long = sym (ap length c.self.view_is) ∙ length-zipped c.self.inside.keys.items c.self.inside.rows.items c.self.invariant.same in
    omega (arith, long, c.self.inside.rows.ok.0, c.self.invariant.same, c.requires.room, c.self.invariant.rows_room)

pub invariant_of-self : goal.invariant_of-self
invariant_of-self g c =
    let keys = c.self.inside.keys.items in
    let rows = c.self.inside.rows.items in
    let long = sym (ap length c.self.view_is) ∙ length-zipped keys rows c.self.invariant.same in
    let there : c.args.place ≤ length keys = omega (arith, long, c.requires.there) in
    let there_too : c.args.place ≤ length rows = omega (arith, there, c.self.invariant.same) in
    let more = ap length c.insert_within.ensures.items ∙ length-insert keys c.args.place c.args.key there in
    let more_too = ap length c.insert_within-2.ensures.items ∙ length-insert rows c.args.place c.args.row there_too in
    record {
      same = omega (arith, more, more_too, c.self.invariant.same);
      few = omega (arith, more, long, c.requires.room);
      keys_room = omega (arith, c.self.invariant.keys_room, c.insert_within.ensures.capacity);
      rows_room = omega (arith, c.self.invariant.rows_room, c.insert_within-2.ensures.capacity);
    }

pub returns : goal.returns
returns g c =
    let keys = c.self.inside.keys.items in
    let rows = c.self.inside.rows.items in
    let long = sym (ap length c.self.view_is) ∙ length-zipped keys rows c.self.invariant.same in
    let there : c.args.place ≤ length keys = omega (arith, long, c.requires.there) in
    (λ i. zipped (c.insert_within.ensures.items i) (c.insert_within-2.ensures.items i))
    ∙ zipped-insert keys rows c.args.place c.args.key c.args.row c.self.invariant.same there
    ∙ ap (λ es. insert es c.args.place (c.args.key, c.args.row)) c.self.view_is
