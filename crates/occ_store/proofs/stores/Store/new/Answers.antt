use Rattle.occ_store.proofs.stores.Store.new.Goals as goal

pub new-requires-4 : goal.new-requires-4
new-requires-4 g c = c.requires.cut
