use Rattle.std.proofs.Common.{Some, ap, ◌∙◌}
use Rattle.occ_types.specs.PlainData.{key_of}
use Rattle.occ_book.specs.Table.{rows_in}
use Rattle.occ_book.proofs.Common.{on_ok_weaker, on_err_weaker}
use Rattle.occ_book.proofs.TableWrites.{number-put, other-written, inserted-others, other, carried, seen-written}
use Rattle.occ_book.proofs.table.Table.insert.Goals as goal

pub returns-in-Num-clause-ok : goal.returns-in-Num-clause-ok
returns-in-Num-clause-ok g c =
    on_ok_weaker c.insert_number.result (λ is.
    carried c.args.key c.in-Num.number (Some c.args.row) c.args.self.now _ _ c.in-Num.is c.self.view_is
    (number-put c.in-Num.number c.args.row c.self.inside.numbers c.insert_number.new.map c.self.inside.others.entries c.self.invariant is)) c.insert_number.ensures.ok

pub returns : goal.returns
returns g c =
    let apart = other c.args.key c.in_default.not-Num in
    record {
      ok = on_ok_weaker c.insert_row.result (λ is.
          seen-written (key_of c.args.key) (Some c.args.row) c.args.self.now _ _ c.self.view_is
          (other-written c.self.inside.numbers c.self.inside.others c.insert_row.new.map c.args.key (Some c.args.row) apart c.self.invariant is)) c.insert_row.ensures.ok;
      err = on_err_weaker c.insert_row.result (λ is. ap (rows_in c.self.inside.numbers) is ∙ c.self.view_is) c.insert_row.ensures.err;
      handed_back = c.insert_row.ensures.handed_back;
      memory = c.insert_row.ensures.memory;
    }

pub invariant_of-self-2 : goal.invariant_of-self-2
invariant_of-self-2 g c =
    inserted-others c.self.inside.others c.insert_row.new.map c.args.key c.args.row c.insert_row.result (other c.args.key c.in_default.not-Num) c.self.invariant c.insert_row.ensures.ok c.insert_row.ensures.err
