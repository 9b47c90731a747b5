use Rattle.std.proofs.Common.{is_some, sym, ap, ◌∙◌}
use Rattle.occ_book.proofs.FoldedEntries.{at_place, new-same, new-placed, new-place, new-kept}
use Rattle.occ_book.proofs.folded_writes.place_of.Goals as goal

pub returns-in-Some-clause-place : goal.returns-in-Some-clause-place
returns-in-Some-clause-place g c =
    at_place c.args.object.now c.args.map.now.entries c.in-Some.place (sym c.get_index_of.ensures.index ∙ c.in-Some.is)

pub returns-clause-same : goal.returns-clause-same
returns-clause-same g c =
    new-same c.args.map.now c.insert.new.self.entries c.args.object.now c.in_ok-clone.field-0 c.in_ok-row.row c.in_ok-insert.ensures.entries c.in_ok-clone.ensures.cases
    (sym (ap is_some c.in_default.is) ∙ c.get_index_of.ensures.found) c.get_index_of.ensures.unique c.args.origin.now.state (c.in_ok-row.ensures.copied ∙ c.row.ensures)

pub returns-clause-placed : goal.returns-clause-placed
returns-clause-placed g c =
    new-placed c.args.map.now c.insert.new.self.entries c.args.object.now c.in_ok-clone.field-0 c.in_ok-row.row c.in_ok-insert.ensures.entries c.in_ok-clone.ensures.cases
    (sym (ap is_some c.in_default.is) ∙ c.get_index_of.ensures.found) c.get_index_of.ensures.unique

pub returns-clause-place : goal.returns-clause-place
returns-clause-place g c =
    new-place c.args.map.now c.insert.new.self.entries c.args.object.now c.in_ok-clone.field-0 c.in_ok-row.row c.in_ok-insert.ensures.entries c.in_ok-clone.ensures.cases
    (sym (ap is_some c.in_default.is) ∙ c.get_index_of.ensures.found) c.get_index_of.ensures.unique c.len-place.result c.len-place.ensures.len

pub returns-clause-kept : goal.returns-clause-kept
returns-clause-kept g c =
    new-kept c.args.map.now c.insert.new.self.entries c.args.object.now c.in_ok-clone.field-0 c.in_ok-row.row c.in_ok-insert.ensures.entries c.in_ok-clone.ensures.cases
    (sym (ap is_some c.in_default.is) ∙ c.get_index_of.ensures.found) c.get_index_of.ensures.unique
