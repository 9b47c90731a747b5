use Rattle.std.proofs.lemmas.Iterator.{YieldsList-from_slice}
use Rattle.std.proofs.lemmas.Iterator.Search.{any_from_yields_List}
use Rattle.std.proofs.Common.{◌≡◌, ◌∙◌, is_some, rules, tests}
use Rattle.std.specs.List.{list_any}
use Rattle.occ_types.specs.PlainData.{object_of}
use Rattle.occ_model.specs.Overlay.{own}
use Rattle.occ_sets.proofs.Meetings.{meets_writes-entries}
use Rattle.occ_sets.proofs.meets.writes_some_of.Goals as goal

-- each object of the others is looked up
pub returns : goal.returns
returns g c =
    let writes = c.args.writes.now in
    let es = c.args.others.now in
    let found : c.any.result ≡ list_any (λ e. is_some (own writes (object_of e.0))) es = any_from_yields_List (λ e. is_some (own writes (object_of e.0))) _ _ c.any.result c.any.ensures.ran (YieldsList-from_slice es cc) (λ x b q k. search (rules, tests)) in
    found ∙ meets_writes-entries writes es
