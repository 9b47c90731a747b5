use Rattle.std.proofs.Common.{sym, ap, option_copied}
use Rattle.occ_book.proofs.Common.{on_ok_weaker, Row, object_of, apply, Content}
use Rattle.occ_book.proofs.Parted.{placed-at, left-none}
use Rattle.occ_book.proofs.LastNotes.{write-more}
use Rattle.occ_book.proofs.base.write_at.Goals as goal

pub put-requires : goal.put-requires
put-requires g c =
    placed-at c.args.tables.now.tables c.args.writes.now c.args.place (object_of c.in-Some.object.now) (option_copied {T = Row} c.in-Some.row) c.requires c.in-Some.ensures

pub returns-in-Some-clause-state : goal.returns-in-Some-clause-state
returns-in-Some-clause-state g c =
    on_ok_weaker c.put.result (λ is. write-more c.args.tables.now.state _ c.args.writes.now c.args.place _ (sym c.in-Some.ensures) (ap (λ (t : Content). t.state) is)) c.put.ensures.ok

pub returns-in-None-clause-state : goal.returns-in-None-clause-state
returns-in-None-clause-state g c = ap (apply c.args.tables.now.state) (left-none c.args.writes.now c.args.place c.in-None.ensures)
