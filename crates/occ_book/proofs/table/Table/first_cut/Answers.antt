use Rattle.std.proofs.Common.{Some, sym, ap, ◌∙◌, option_copied}
use Rattle.std.specs.Option.{option_map, option_or}
use Rattle.occ_types.specs.PlainData.{key_of, end_of, table_of}
use Rattle.occ_model.specs.Paging.{first_key, end_behind, first_end}
use Rattle.occ_book.specs.KeyRefs.{key_lent}
use Rattle.occ_book.proofs.PageEnds.{ends-behind}
use Rattle.occ_book.proofs.table.Table.first_cut.Goals as goal

pub returns-clause-asked : goal.returns-clause-asked
returns-clause-asked g c =
    let upper = end_of (option_copied c.args.upper) in
    let definition = table_of c.args.definition.now in
    let rest = sym c.next_key.ensures.key ∙ ap (option_map key_lent) c.in-Some.is ∙ ap Some (sym c.in_ok-rest.ensures) in
    let next = c.next_key-2.ensures.key ∙ ap first_key c.next_key.ensures.rest in
    ap (λ end. option_or end upper) (c.in_ok-asked.ensures.end ∙ ap (end_behind definition (key_of c.in_ok-rest.rest)) next)
    ∙ ends-behind definition upper _ _ rest
    ∙ ap (first_end definition upper) c.behind_page-rows.ensures
