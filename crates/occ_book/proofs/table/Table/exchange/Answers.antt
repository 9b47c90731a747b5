use Rattle.std.proofs.Common.{Some, sym, ◌∙◌}
use Rattle.occ_types.specs.PlainData.{key_of}
use Rattle.occ_book.specs.Table.{row_under}
use Rattle.occ_book.proofs.TableWrites.{found-number, found-other, number-put, other-written, still-others, other, carried, seen-written}
use Rattle.occ_book.proofs.table.Table.exchange.Goals as goal

pub returns-in-Num-clause-was : goal.returns-in-Num-clause-was
returns-in-Num-clause-was g c =
    c.in_ok-was.ensures.was
    ∙ found-number c.in-Num.number c.self.inside.numbers c.self.inside.others.entries c.self.invariant
    ∙ (λ i. row_under (c.self.view_is i) (key_of (sym c.in-Num.is i)))

pub returns-in-Num-clause-ok : goal.returns-in-Num-clause-ok
returns-in-Num-clause-ok g c =
    carried c.args.key.now c.in-Num.number (Some c.args.row) c.args.self.now _ _ c.in-Num.is c.self.view_is
    (number-put c.in-Num.number c.args.row c.self.inside.numbers c.insert.new.self c.self.inside.others.entries c.self.invariant c.in_ok-was.ensures.ok)

pub returns : goal.returns
returns g c =
    let apart = other c.args.key.now c.in_default.not-Num in
    record {
      was = c.in_ok-was-2.ensures.was
          ∙ found-other c.args.key.now c.self.inside.numbers c.self.inside.others.entries apart
          ∙ (λ i. row_under (c.self.view_is i) (key_of c.args.key.now));
      ok = seen-written (key_of c.args.key.now) (Some c.args.row) c.args.self.now _ _ c.self.view_is
          (other-written c.self.inside.numbers c.self.inside.others c.exchange_row.new.map c.args.key.now (Some c.args.row) apart c.self.invariant c.in_ok-was-2.ensures.ok);
      err = tt;
      memory = tt;
    }

pub invariant_of-self-2 : goal.invariant_of-self-2
invariant_of-self-2 g c =
    still-others c.self.inside.others c.exchange_row.new.map c.args.key.now (Some c.args.row) (other c.args.key.now c.in_default.not-Num) c.self.invariant c.in_ok-was-2.ensures.ok
