use Rattle.occ_text.proofs.HeaderLines.{count_reads}
use Rattle.occ_text.proofs.headers.count.Goals as goal

pub returns-clause-grammar : goal.returns-clause-grammar
returns-clause-grammar c =
    count_reads c.args.word.now c.args.least c.args.most c.args.line.now c.count_value.result c.ranges.most.fits c.requires c.count_value.ensures
