use Rattle.std.proofs.Common.{inr, subst}
use Rattle.occ_types.specs.PlainData.{end_of}
use Rattle.occ_types.specs.Question.{Question, Span}
use Rattle.occ_sharing.specs.Sharing.{ScanCame}
use Rattle.occ_c.proofs.Holdings.{scanned_rows, scanned_none}
use Rattle.occ_c.proofs.desks.Desk.scan.Goals as goal

pub returns-in_err-rows : goal.returns-in_err-rows
returns-in_err-rows c =
    let came = subst (λ (q : Question). ScanCame c.args.self.now.worker c.scan.new.self q c.scan.result)
    (λ i. Span c.args.table (end_of (c.as_ref.ensures.value i)) (end_of (c.as_ref-2.ensures.value i))) c.scan.ensures in
    inr (record {
      end = end_of c.in_ok-lower.lower;
      is = c.in_ok-lower.ensures.read;
      did = inr (record {
        end = end_of c.in_ok-upper.upper;
        is = c.in_ok-upper.ensures.read;
        did = scanned_none c.args.self.now (Span c.args.table (end_of c.in_ok-lower.lower) (end_of c.in_ok-upper.upper)) c.scan.new.self c.scan.result c.in_err-rows.field-0.0 c.from_residual-in_err-rows.result
            came c.in_err-rows.ensures c.from_residual-in_err-rows.ensures.1;
      });
    })

pub returns : goal.returns
returns c =
    let came = subst (λ (q : Question). ScanCame c.args.self.now.worker c.scan.new.self q c.scan.result)
    (λ i. Span c.args.table (end_of (c.as_ref.ensures.value i)) (end_of (c.as_ref-2.ensures.value i))) c.scan.ensures in
    inr (record {
      end = end_of c.in_ok-lower.lower;
      is = c.in_ok-lower.ensures.read;
      did = inr (record {
        end = end_of c.in_ok-upper.upper;
        is = c.in_ok-upper.ensures.read;
        did = scanned_rows c.args.self.now c.keep.new.self (Span c.args.table (end_of c.in_ok-lower.lower) (end_of c.in_ok-upper.upper)) c.scan.new.self c.scan.result c.in_ok-rows.rows c.keep.result
            came c.in_ok-rows.ensures c.keep.ensures.count c.keep.ensures.kept;
      });
    })
