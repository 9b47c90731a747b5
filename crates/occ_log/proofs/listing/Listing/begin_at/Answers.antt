use Rattle.std.proofs.Common.{◌<◌, length, arith}
use Rattle.occ_log.proofs.Common.{all_listed, length-map, listed_of}
use Rattle.occ_log.proofs.Listed.{begun-next}
use Rattle.occ_log.proofs.listing.Listing.begin_at.Goals as goal

pub loop-place-preserved : goal.loop-place-preserved
loop-place-preserved g c =
    let items = c.loop-place.self-inside.lists.items in
    let len = c.self.inside.lists.ok.0 in
    let less : c.loop-place.place < length items = omega (arith, c.loop-place.invariant.count, length-map items listed_of, length-map c.self.inside.lists.items listed_of) in
    begun-next items c.loop-place.place c.index_mut.result.now c.keep_from.new.places less c.index_mut.ensures.value c.args.first (all_listed c.self.inside.lists.items) c.loop-place.invariant
    c.keep_from.ensures.items c.keep_from.ensures.room
