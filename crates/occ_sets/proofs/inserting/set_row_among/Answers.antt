use Rattle.std.proofs.Common.{◌∙◌, set as put_at, ap, arith}
use Rattle.occ_types.specs.PlainData.{object_of}
use Rattle.occ_sets.specs.PlainSets.{write_of, writes_of}
use Rattle.occ_sets.proofs.WriteEntries.{length-writes_of}
use Rattle.occ_sets.proofs.Placed.{placed_within, set_at}
use Rattle.occ_sets.proofs.inserting.set_row_among.Goals as goal

-- the place is one of the list
pub index_mut-requires : goal.index_mut-requires
index_mut-requires g c =
    let es = c.args.list.now.items in
    omega (arith, placed_within (writes_of es) (object_of c.args.write.0) c.args.place (write_of c.args.write) c.requires, length-writes_of es)

-- the write there gets the row
pub returns : goal.returns
returns g c =
    let es = c.args.list.now.items in
    ap (λ e. writes_of (put_at es c.args.place (e.0, c.args.write.1))) c.index_mut.ensures.value
    ∙ set_at es c.args.write.0 c.args.write.1 c.args.place c.index_mut.result.now c.requires
