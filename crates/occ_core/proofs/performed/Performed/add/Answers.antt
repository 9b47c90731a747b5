use Rattle.std.proofs.Common.{◌≡◌, ap, rules}
use Rattle.occ_types.specs.PlainData.{key_of}
use Rattle.occ_core.specs.Performed.{progress_of}
use Rattle.occ_core.proofs.Performing.{added}
use Rattle.occ_core.proofs.performed.Performed.add.Goals as goal

-- the sum of what is seen and the amount is written
pub returns-clause-performed : goal.returns-clause-performed
returns-clause-performed g c =
    let key = c.args.key.now in
    let copy = c.in_ok-clone.field-0 in
    let other = c.in_ok-clone-2.field-0 in
    let same_copy : copy ≡ key = search rules in
    let same_other : other ≡ key = search rules in
    added c.args.tables.now.state (progress_of c.args.self.now) c.args.table (key_of key) (key_of copy) (key_of other) c.args.amount c.number_in-number.result c.row_of-row.result _ c.ask.new.reads c.insert.new.self
    (ap key_of same_copy) (ap key_of same_other) c.in_ok-ask.ensures.registered c.in_ok-ask.ensures.seen c.number_in-number.ensures (search rules) c.in_ok-insert.ensures.ok
