use Rattle.std.proofs.Common.{◌≡◌, ◌∙◌, Some, ap, sym}
use Rattle.std.proofs.lemmas.Option.{slice_get-map}
use Rattle.std.specs.Prelude.{slice_get}
use Rattle.std.specs.Option.{option_map}
use Rattle.std.specs.Map.Iter.{deref_pair}
use Rattle.occ_types.specs.PlainData.{object_of}
use Rattle.occ_sets.specs.OwnWrites.{written}
use Rattle.occ_sets.specs.PlainSets.{write_of, writes_of}
use Rattle.occ_sets.specs.ShortList.{values}
use Rattle.occ_sets.proofs.own_writes.OwnWrites.write_at.Goals as goal

-- the entry at the place
pub returns-in-Some-clause-value : goal.returns-in-Some-clause-value
returns-in-Some-clause-value g c =
    let es = values c.in-Few.list in
    let seen : writes_of es ≡ c.args.self.now = ap written (sym c.in-Few.is) ∙ c.self.view_is in
    ap (λ row. Some (object_of c.in-Some.write.now.0, row)) c.as_ref.ensures.value
    ∙ ap (option_map write_of) (ap (option_map (λ write. write.now)) (sym c.in-Some.is) ∙ c.get.ensures)
    ∙ sym (slice_get-map write_of es c.args.place)
    ∙ ap (λ ws. slice_get ws c.args.place) seen

pub returns-in-Some-get_index-clause-value : goal.returns-in-Some-get_index-clause-value
returns-in-Some-get_index-clause-value g c =
    let es = c.as_map.result.now.entries in
    let seen : writes_of es ≡ c.args.self.now = c.as_map.ensures ∙ c.deref.ensures ∙ ap written (sym c.in-Many.is) ∙ c.self.view_is in
    ap (λ row. Some (object_of c.in-Some-get_index.object.now, row)) c.as_ref-in-Some-get_index.ensures.value
    ∙ ap (option_map write_of) (ap (option_map deref_pair) (sym c.in-Some-get_index.is) ∙ c.get_index.ensures.entry)
    ∙ sym (slice_get-map write_of es c.args.place)
    ∙ ap (λ ws. slice_get ws c.args.place) seen
