use Rattle.std.proofs.Common.{sym, ap}
use Rattle.std.specs.Prelude.{length}
use Rattle.std.specs.List.{list_any}
use Rattle.occ_queue.specs.Items.{items_of, is_mark}
use Rattle.occ_queue.proofs.Ends.{unused_of_one}
use Rattle.occ_queue.proofs.receivers.Receiver.new.Goals as goal

pub invariant_of-result : goal.invariant_of-result
invariant_of-result g c =
    let taken = ap items_of c.requires.unused.1 in (
      c.requires.pass,
      c.requires.takes,
      sym (ap length taken),
      sym (ap (list_any is_mark) taken),
      unused_of_one _ _ _ c.requires.number (ap items_of c.requires.unused.0) taken,
    )
