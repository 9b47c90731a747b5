use Rattle.std.proofs.lemmas.Iterator.Consumers.{YieldsList-from_rest}
use Rattle.std.proofs.lemmas.Iterator.Search.{any_from_yields_List}
use Rattle.std.proofs.Common.{◌≡◌, ◌∙◌, ap, sym, is_some, rules, tests}
use Rattle.std.specs.List.{list_any}
use Rattle.std.specs.Map.{keys_of}
use Rattle.occ_types.specs.PlainData.{object_of}
use Rattle.occ_model.specs.State.{meets_writes}
use Rattle.occ_model.specs.Overlay.{own}
use Rattle.occ_sets.specs.OwnWrites.{written}
use Rattle.occ_sets.specs.PlainSets.{writes_of}
use Rattle.occ_sets.proofs.Meetings.{meets_writes-keys}
use Rattle.occ_sets.proofs.meets.writes_some.Goals as goal

-- each object of the others is looked up
pub returns-in-Many : goal.returns-in-Many
returns-in-Many g c =
    let writes = c.args.writes.now in
    let es = c.as_map.result.now.entries in
    let seen : writes_of es ≡ written c.args.others.now = c.as_map.ensures ∙ c.deref.ensures ∙ ap written (sym c.in-Many.is) in
    let found : c.any.result ≡ list_any (λ o. is_some (own writes (object_of o))) (keys_of es) = any_from_yields_List (λ o. is_some (own writes (object_of o))) _ _ c.any.result c.any.ensures.ran (YieldsList-from_rest (keys_of es) cc) (λ x b q k. search (rules, tests)) in
    found ∙ meets_writes-keys writes es ∙ ap (meets_writes writes) seen
