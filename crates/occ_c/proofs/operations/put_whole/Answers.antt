use Rattle.std.proofs.Common.{rules, ◌<◌, length}
use Rattle.occ_types.specs.PlainData.{key_of}
use Rattle.occ_c.proofs.Parts.{entry_put}
use Rattle.occ_c.proofs.operations.put_whole.Goals as goal

pub returns-clause-puts : goal.returns-clause-puts
returns-clause-puts c = entry_put c.args.rows.now c.args.place c.args.at c.key_size.result c.row_size.result c.saturating_add-size.result c.args.room.now c.put_key-behind.new.room c.put_row.new.room
    c.put_key-behind.result c.put_row.result (key_of c.in-Some.entry.now.0, c.in-Some.entry.now.1)
    c.in-Some.ensures c.key_size.ensures c.row_size.ensures c.saturating_add-size.ensures (search rules) (search rules) (search rules) c.put_key-behind.ensures.length
    c.put_key-behind.ensures.put c.put_row.ensures.put
