use Rattle.std.proofs.Common.{Some, sym, ap, ◌∙◌, option_copied}
use Rattle.std.specs.Option.{option_map, option_or}
use Rattle.occ_types.specs.PlainData.{end_of}
use Rattle.occ_book.specs.KeyRefs.{key_lent}
use Rattle.occ_book.proofs.PageEnds.{none-shown, none-before, one-before}
use Rattle.occ_book.proofs.table.Table.last_cut.Goals as goal

pub returns-in_default-clause-rest : goal.returns-in_default-clause-rest
returns-in_default-clause-rest g c =
    let cut = none-shown c.args.most (end_of (option_copied c.args.lower)) _ _ _ c.up_to_page-rows.ensures c.next_key.ensures.rest
    (sym c.next_key.ensures.key ∙ ap (option_map key_lent) c.in_default.is) in
    c.none.ensures.rest ∙ cut.0

pub returns-in_default-clause-asked : goal.returns-in_default-clause-asked
returns-in_default-clause-asked g c =
    let cut = none-shown c.args.most (end_of (option_copied c.args.lower)) _ _ _ c.up_to_page-rows.ensures c.next_key.ensures.rest
    (sym c.next_key.ensures.key ∙ ap (option_map key_lent) c.in_default.is) in
    ap (λ end. option_or end (end_of (option_copied c.args.lower))) c.none.ensures.asked ∙ cut.1

pub returns-in_default-next_key-clause-rest : goal.returns-in_default-next_key-clause-rest
returns-in_default-next_key-clause-rest g c =
    let cut = none-before c.args.most (end_of (option_copied c.args.lower)) _ _ _ c.up_to_page-rows.ensures c.next_key.ensures.rest
    (sym c.next_key-2.ensures.key ∙ ap (option_map key_lent) c.in_default-next_key.is) in
    c.none-in_default-next_key.ensures.rest ∙ cut.0

pub returns-in_default-next_key-clause-asked : goal.returns-in_default-next_key-clause-asked
returns-in_default-next_key-clause-asked g c =
    let cut = none-before c.args.most (end_of (option_copied c.args.lower)) _ _ _ c.up_to_page-rows.ensures c.next_key.ensures.rest
    (sym c.next_key-2.ensures.key ∙ ap (option_map key_lent) c.in_default-next_key.is) in
    ap (λ end. option_or end (end_of (option_copied c.args.lower))) c.none-in_default-next_key.ensures.asked ∙ cut.1

pub returns-clause-rest : goal.returns-clause-rest
returns-clause-rest g c =
    let cut = one-before c.args.most (end_of (option_copied c.args.lower)) _ _ _ c.up_to_page-rows.ensures c.next_key.ensures.rest
    _ (sym c.next_key-2.ensures.key ∙ ap (option_map key_lent) c.in-Some-next_key.is) in
    ap Some c.in_ok-to_key-2.ensures ∙ sym (ap (option_map key_lent) c.in-Some.is) ∙ c.next_key.ensures.key ∙ cut.0

pub returns-clause-asked : goal.returns-clause-asked
returns-clause-asked g c =
    let cut = one-before c.args.most (end_of (option_copied c.args.lower)) _ _ _ c.up_to_page-rows.ensures c.next_key.ensures.rest
    _ (sym c.next_key-2.ensures.key ∙ ap (option_map key_lent) c.in-Some-next_key.is) in
    ap Some c.in_ok-to_key.ensures ∙ cut.1
