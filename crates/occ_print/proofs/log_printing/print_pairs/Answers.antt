use Rattle.occ_types.specs.PlainData.{key_of}
use Rattle.occ_print.specs.Books.{pair_line}
use Rattle.occ_print.proofs.Printing.{failed, each_more, each_front}
use Rattle.occ_text.specs.declared.faults.WriteFault.TheVariants as write_faults
use Rattle.occ_text.proofs.Causes.{caused}
use Rattle.occ_print.proofs.log_printing.print_pairs.Goals as goal

pub returns-in_err-print_pair-clause-printed : goal.returns-in_err-print_pair-clause-printed
returns-in_err-print_pair-clause-printed g c =
    failed _ c.from_residual.result _ _ _ _ _ c.from_residual.ensures.1
    (each_front pair_line (λ e. (key_of e.0, e.1)) _ _ _ _ _ _ c.args.pairs.now c.loop-key.key-index c.loop-key-item.result c.loop-key-test.true c.loop-key-item.is
    c.loop-key.invariant c.in_err-print_pair.ensures.printed)

pub loop-key-preserved : goal.loop-key-preserved
loop-key-preserved g c =
    each_more pair_line (λ e. (key_of e.0, e.1)) _ _ _ _ _ _ c.args.pairs.now c.loop-key.key-index c.loop-key-item.result c.loop-key-test.true c.loop-key-item.is
    c.loop-key.invariant c.in_ok-print_pair.ensures.printed

pub returns-in_err-print_pair-clause-cause : goal.returns-in_err-print_pair-clause-cause
returns-in_err-print_pair-clause-cause g c = caused c.in_err-print_pair.field-0.0 write_faults.Write c.from_residual.result _ c.from_residual.ensures.1 c.in_err-print_pair.ensures.cause
