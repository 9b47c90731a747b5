use Rattle.std.proofs.Common.{◌∙◌, option_copied}
use Rattle.occ_audit.proofs.Common.{end_of}
use Rattle.occ_audit.proofs.Lending.{lent-within}
use Rattle.occ_audit.proofs.lent_rows.LentRows.range.Goals as goal

pub returns-clause-rows : goal.returns-clause-rows
returns-clause-rows g c =
    c.new.ensures
    ∙ lent-within (end_of (option_copied c.args.lower)) (end_of (option_copied c.args.upper)) (end_of (option_copied c.forward_to-upper.result)) c.self.inside.numbers c.numbers_between.result c.self.inside.others.entries c.others_between.result c.args.self.now c.self.view_is c.forward_to-upper.ensures c.numbers_between.ensures c.others_between.ensures
