use Rattle.std.proofs.Common.{rules}
use Rattle.occ_c.proofs.Parts.{fetched}
use Rattle.occ_c.proofs.exports.occ_rt_fetch.Goals as goal

pub returns : goal.returns
returns c = fetched c.args.desk.now.desk c.replace_with.new.dest.desk c.replace_with-2.new.dest.desk c.args.room.now c.write_rows-written.new.room c.in-Some.found.0 c.in-Some.found.1
    c.write_rows-written.result.rows c.write_rows-written.result.bytes c.saturating_sub-left.result c.saturating_add.result _
    c.in-Some.ensures.0 c.in-Some.ensures.1 c.in-Some.ensures.2 c.replace_with-2.ensures c.saturating_add.ensures (search rules) (search rules) (search rules)
    (search rules) (search rules) c.write_rows-written.ensures
