use Rattle.std.proofs.Common.{Some, ap, ◌∙◌}
use Rattle.occ_cli.proofs.Common.{item_of, Client}
use Rattle.occ_model.specs.Event as events
use Rattle.occ_core.specs.declared.replies.Reply.TheVariants as replies
use Rattle.occ_cli.proofs.Replaying.{by_serial_end, refused_so}
use Rattle.occ_cli.proofs.clients.Client.serial.Goals as goal

pub returns-in-RefusedItem : goal.returns-in-RefusedItem
returns-in-RefusedItem g c =
    refused_so (events.SerialEnd c.args.session) c.args.core.now.world c.args.self.now c.in-Some.item c.keep.new.self c.take.new.self.world c.in-Some.ensures.item
    c.in-RefusedItem.refused c.keep.result
    (by_serial_end c.args.core.now c.args.session c.in-Some.item (replies.RefusedItem c.in-RefusedItem.refused) c.take.new.self c.in-RefusedItem.ensures) c.keep.ensures.fault
    (c.keep.ensures.kept ∙ ap (λ (client : Client). record client { kept = Some (item_of c.in-RefusedItem.refused.value) }) c.in-Some.ensures.rest)
