use Rattle.std.proofs.lemmas.Iterator.{YieldsList-from_slice}
use Rattle.std.proofs.lemmas.Iterator.Search.{find_from_yields_List}
use Rattle.std.proofs.Common.{◌≡◌, ◌∙◌, Some, ap, sym, rules, tests}
use Rattle.std.specs.List.{find}
use Rattle.std.specs.Option.{option_map}
use Rattle.occ_sets.proofs.WriteEntries.{tied}
use Rattle.occ_sets.proofs.Placed.{own_found}
use Rattle.occ_sets.proofs.few_writes.own_among.Goals as goal

-- no entry is of the object
pub returns-in-None : goal.returns-in-None
returns-in-None g c =
    let es = c.args.writes.now in
    let o = c.args.object.now in
    let found : option_map (λ e. e.now) c.find.result ≡ find (λ e. tied o e.0) es = find_from_yields_List (λ e. tied o e.0) _ _ c.find.result c.find.ensures.ran (YieldsList-from_slice es cc) (λ x b q k. search (rules, tests)) in
    ap (option_map (λ e. e.1)) (ap (option_map (λ e. e.now)) (sym c.in-None.is) ∙ found) ∙ own_found es o

-- the first one has it
pub returns-in-Some : goal.returns-in-Some
returns-in-Some g c =
    let es = c.args.writes.now in
    let o = c.args.object.now in
    let found : option_map (λ e. e.now) c.find.result ≡ find (λ e. tied o e.0) es = find_from_yields_List (λ e. tied o e.0) _ _ c.find.result c.find.ensures.ran (YieldsList-from_slice es cc) (λ x b q k. search (rules, tests)) in
    ap Some c.as_ref.ensures.value ∙ ap (option_map (λ e. e.1)) (ap (option_map (λ e. e.now)) (sym c.in-Some.is) ∙ found) ∙ own_found es o
