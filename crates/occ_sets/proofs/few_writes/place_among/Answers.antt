use Rattle.std.proofs.lemmas.Iterator.{YieldsList-from_slice}
use Rattle.std.proofs.lemmas.Iterator.Search.{position_from_yields_List}
use Rattle.std.proofs.Common.{◌≡◌, ◌∙◌, rules, tests}
use Rattle.std.specs.List.{position}
use Rattle.occ_sets.proofs.WriteEntries.{tied}
use Rattle.occ_sets.proofs.Placed.{place_of_entry}
use Rattle.occ_sets.proofs.few_writes.place_among.Goals as goal

-- the first entry of the object
pub returns : goal.returns
returns g c =
    let es = c.args.writes.now in
    let o = c.args.object.now in
    let found : c.position.result ≡ position (λ e. tied o e.0) es = position_from_yields_List (λ e. tied o e.0) _ _ c.position.result c.position.ensures.ran (YieldsList-from_slice es cc) (λ x b q k. search (rules, tests)) in
    found ∙ place_of_entry es o
