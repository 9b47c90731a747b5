use Rattle.std.proofs.Common.{Some, IsSome, sym, subst, ◌∙◌}
use Rattle.occ_types.specs.PlainData.{key_of}
use Rattle.occ_book.specs.Table.{row_under}
use Rattle.occ_book.proofs.TableWrites.{found-number, found-other, number-put, other-written, replaced-others, other, carried, seen-written, given}
use Rattle.occ_book.proofs.table.Table.set_back.Goals as goal

pub returns-in-Num : goal.returns-in-Num
returns-in-Num g c = λ there.
    let found = c.replace-was.ensures.was
    ∙ found-number c.in-Num.number c.self.inside.numbers c.self.inside.others.entries c.self.invariant
    ∙ (λ i. row_under (c.self.view_is i) (key_of (sym c.in-Num.is i))) in
    given (key_of c.args.key.now) c.args.row (Some c.in-Some.row) c.args.self.now _ c.in-Some.is
    (carried c.args.key.now c.in-Num.number (Some c.in-Some.row) c.args.self.now _ _ c.in-Num.is c.self.view_is
    (number-put c.in-Num.number c.in-Some.row c.self.inside.numbers c.replace-was.new.self c.self.inside.others.entries c.self.invariant (c.replace-was.ensures.some (subst IsSome (sym found) there))))

pub returns : goal.returns
returns g c = λ there.
    let apart = other c.args.key.now c.in_default-key.not-Num in
    let found = found-other c.args.key.now c.self.inside.numbers c.self.inside.others.entries apart
    ∙ (λ i. row_under (c.self.view_is i) (key_of c.args.key.now)) in
    given (key_of c.args.key.now) c.args.row (Some c.in-Some.row) c.args.self.now _ c.in-Some.is
    (seen-written (key_of c.args.key.now) (Some c.in-Some.row) c.args.self.now _ _ c.self.view_is
    (other-written c.self.inside.numbers c.self.inside.others c.replace_row.new.map c.args.key.now (Some c.in-Some.row) apart c.self.invariant (c.replace_row.ensures.there (subst IsSome (sym found) there))))

pub invariant_of-self-2 : goal.invariant_of-self-2
invariant_of-self-2 g c =
    replaced-others c.self.inside.others c.replace_row.new.map c.args.key.now c.in-Some.row (other c.args.key.now c.in_default-key.not-Num) c.self.invariant c.replace_row.ensures.there c.replace_row.ensures.missing
