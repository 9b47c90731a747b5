use Rattle.std.proofs.Common.{◌≡◌, ◌-◌, refl, sym, ap, ◌∙◌, arith, slice_set}
use Rattle.occ_log.proofs.Common.{LogRow, length-map, log_of, log_row_of, map-set, row_at, same_Some, standing_of}
use Rattle.occ_log.proofs.Changes.{row_there}
use Rattle.occ_log.proofs.Folding.{listed-set}
use Rattle.occ_log.proofs.Numbered.{found-in, at_index}
use Rattle.occ_log.proofs.log.Log.stand.Goals as goal

pub overflow_sub-place : goal.overflow_sub-place
overflow_sub-place g c = (found-in _ _ c.args.place c.self.view_is c.requires).0

pub index_mut-row-requires : goal.index_mut-row-requires
index_mut-row-requires g c =
    let within = (found-in _ _ c.args.place c.self.view_is c.requires).1 in
    let same = length-map c.self.inside.rows.items log_row_of in
    let len = c.self.inside.rows.ok.0 in
    omega arith

pub invariant_of-self : goal.invariant_of-self
invariant_of-self g c =
    let index = c.args.place - c.self.inside.first in
    let row = c.index_mut-row.result.now in
    listed-set c.self.inside.first (log_of c.self.inside.rows.items) _ index (log_row_of row) (record (log_row_of row) { standing = standing_of c.args.standing }) c.self.inside.places c.self.invariant
    (row_there c.self.inside.rows.items index row (found-in _ _ c.args.place c.self.view_is c.requires).1 c.index_mut-row.ensures.value) refl refl
    (map-set log_row_of c.self.inside.rows.items index (record row { standing = c.args.standing }))

pub returns-clause-rows : goal.returns-clause-rows
returns-clause-rows g c = λ found there.
    let index = c.args.place - c.self.inside.first in
    let row = c.index_mut-row.result.now in
    let own = row_there c.self.inside.rows.items index row (found-in _ _ c.args.place c.self.view_is c.requires).1 c.index_mut-row.ensures.value in
    let same : log_row_of row ≡ found = same_Some _ _ (sym own ∙ at_index _ c.args.place found (ap (λ k. row_at k c.args.place) c.self.view_is ∙ there)) in
    map-set log_row_of c.self.inside.rows.items index (record row { standing = c.args.standing })
    ∙ ap (λ (r : LogRow). slice_set (log_of c.self.inside.rows.items) index (record r { standing = standing_of c.args.standing })) same
    ∙ ap (λ k. slice_set k.rows (c.args.place - k.first) (record found { standing = standing_of c.args.standing })) c.self.view_is
