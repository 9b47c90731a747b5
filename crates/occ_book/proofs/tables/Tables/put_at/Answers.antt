use Rattle.std.proofs.Common.{◌+◌, drop, sym, ap, ◌∙◌, option_copied}
use Rattle.occ_book.proofs.Common.{on_ok_weaker, Row, object_of, apply, puts}
use Rattle.occ_book.proofs.Parted.{left-none, placed-at, puts-at, none-put}
use Rattle.occ_book.proofs.tables.Tables.put_at.Goals as goal

-- there is no write at the place
pub returns-in_default-clause-ok : goal.returns-in_default-clause-ok
returns-in_default-clause-ok g c =
    ap (λ ws. apply c.args.self.now.state (puts ws)) (left-none c.args.writes.now c.args.place c.in_default.ensures.value)

pub put_if_row-requires : goal.put_if_row-requires
put_if_row-requires g c =
    placed-at c.args.self.now.tables c.args.writes.now c.args.place (object_of c.in-Some.object.now) (option_copied {T = Row} c.in-Some.row) c.requires c.in-Some.ensures.value

pub returns-clause-ok : goal.returns-clause-ok
returns-clause-ok g c =
    let here = puts-at c.args.writes.now c.args.place (object_of c.in-Some.object.now) (option_copied {T = Row} c.in-Some.row) c.in-Some.ensures.value in
    on_ok_weaker c.put_if_row.result (λ is. is (puts (drop (c.args.place + 1) c.args.writes.now)) ∙ sym (ap (apply c.args.self.now.state) here)) c.put_if_row.ensures.ok

pub returns-clause-deletes : goal.returns-clause-deletes
returns-clause-deletes g c = λ none.
    let here = puts-at c.args.writes.now c.args.place (object_of c.in-Some.object.now) (option_copied {T = Row} c.in-Some.row) c.in-Some.ensures.value in
    c.put_if_row.ensures.deletes (none-put (object_of c.in-Some.object.now) (option_copied {T = Row} c.in-Some.row) (puts (drop (c.args.place + 1) c.args.writes.now)) (sym here ∙ none))
