use Rattle.std.proofs.Common.{◌+◌, drop, sym, ap, ◌∙◌, option_copied}
use Rattle.occ_book.proofs.Common.{Row, object_of, apply, deletions}
use Rattle.occ_book.proofs.Parted.{left-none, placed-at, deletions-at}
use Rattle.occ_book.proofs.tables.Tables.delete_at.Goals as goal

-- there is no write at the place
pub returns-in_default-clause-state : goal.returns-in_default-clause-state
returns-in_default-clause-state g c =
    ap (λ ws. apply c.args.self.now.state (deletions ws)) (left-none c.args.writes.now c.args.place c.in_default.ensures.value)

pub delete_if_none-requires : goal.delete_if_none-requires
delete_if_none-requires g c =
    placed-at c.args.self.now.tables c.args.writes.now c.args.place (object_of c.in-Some.object.now) (option_copied {T = Row} c.in-Some.row) c.requires c.in-Some.ensures.value

pub returns-clause-state : goal.returns-clause-state
returns-clause-state g c =
    let here = deletions-at c.args.writes.now c.args.place (object_of c.in-Some.object.now) (option_copied {T = Row} c.in-Some.row) c.in-Some.ensures.value in
    c.delete_if_none.ensures.state (deletions (drop (c.args.place + 1) c.args.writes.now)) ∙ sym (ap (apply c.args.self.now.state) here)
