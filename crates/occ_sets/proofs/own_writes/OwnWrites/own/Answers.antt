use Rattle.std.proofs.Common.{◌≡◌, ◌∙◌, ap, sym, rules}
use Rattle.std.specs.Option.{option_map, option_copied}
use Rattle.occ_types.specs.Row.{Row}
use Rattle.occ_sets.specs.OwnWrites.{written}
use Rattle.occ_sets.specs.PlainSets.{writes_of}
use Rattle.occ_sets.proofs.WriteEntries.{own_seen}
use Rattle.occ_sets.proofs.own_writes.OwnWrites.own.Goals as goal

-- the look-up answers it
pub returns-in-Many : goal.returns-in-Many
returns-in-Many g c =
    let es = c.as_map.result.now.entries in
    let seen : writes_of es ≡ c.args.self.now = c.as_map.ensures ∙ c.deref.ensures ∙ ap written (sym c.in-Many.is) ∙ c.self.view_is in
    let found : option_map (option_copied {T = Row}) c.map.result ≡ option_copied c.get.result = search rules in
    found ∙ c.get.ensures.value ∙ own_seen c.args.object.now es c.args.self.now seen
