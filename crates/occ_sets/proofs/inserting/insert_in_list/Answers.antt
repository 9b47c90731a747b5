use Rattle.std.proofs.Common.{◌≡◌, ◌∙◌, [], ◌∷◌, None, sym, ap}
use Rattle.std.proofs.lemmas.List.{map-append}
use Rattle.occ_types.specs.PlainData.{object_of}
use Rattle.occ_sets.specs.PlainSets.{write_of, writes_of}
use Rattle.occ_sets.specs.Sets.{place_in}
use Rattle.occ_sets.specs.ShortList.{values}
use Rattle.occ_sets.proofs.Placed.{set_new, unplaced}
use Rattle.occ_sets.proofs.inserting.insert_in_list.Goals as goal

-- one that has no place goes last
pub returns-in-Ok-clause-ok : goal.returns-in-Ok-clause-ok
returns-in-Ok-clause-ok g c =
    let es = values c.args.list.now in
    let o = object_of c.args.write.0 in
    let placed : place_in (writes_of es) o ≡ None = sym c.place_of.ensures ∙ c.in-None.is in
    ap writes_of c.in-Ok.ensures.values
    ∙ map-append write_of es (c.args.write ∷ [])
    ∙ sym (set_new (writes_of es) o c.args.write.1 (unplaced (writes_of es) o placed))

-- only such a one needs memory
pub returns-in-Err-clause-only_new : goal.returns-in-Err-clause-only_new
returns-in-Err-clause-only_new g c =
    let es = values c.args.list.now in
    let o = object_of c.args.write.0 in
    let placed : place_in (writes_of es) o ≡ None = sym c.place_of.ensures ∙ c.in-None.is in
    unplaced (writes_of es) o placed
