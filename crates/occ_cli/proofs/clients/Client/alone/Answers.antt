use Rattle.std.proofs.Common.{◌≡◌, List, map, sym, ap, subst, ◌∙◌, inr, is_some, nat_le, nat_lt}
use Rattle.occ_cli.proofs.Common.{length-map, lt-leb, le-ltb, lt-ltb, err_from_is_err_and, MAX_NUMBER, MAX_OPERATIONS, Operation, check_operations, next, with_item, refusal_of_submit, operation_of, Client, Given, unless, operation_named, operations_named, played}
use Rattle.occ_model.specs.Event as events
use Rattle.occ_cli.specs.Answers as says
use Rattle.occ_cli.proofs.HandingIn.{listed, unlisted, too_many}
use Rattle.occ_cli.proofs.clients.Client.alone.Goals as goal

pub returns : goal.returns
returns g c =
    let schema = c.args.schema.now in
    let client = c.args.self.now in
    let list = operations_named schema (map operation_of c.args.operations.items) in
    let fits = c.in_ok-operations.ensures in
    inr (listed schema list client
    (sym (ap (λ (x : Client). x.queue.closed) c.self.view_is) ∙ (sym c.is_closed.ensures ∙ c.if-is_closed.false))
    (sym (ap (λ (x : Client). is_some x.copy) c.self.view_is) ∙ (sym c.is_open.ensures ∙ c.if-is_open.false))
    (sym (ap (λ (x : Client). nat_le MAX_NUMBER (next x.queue)) c.self.view_is) ∙ (sym (ap (nat_le MAX_NUMBER) c.next.ensures.number) ∙ lt-leb MAX_NUMBER c.next.result c.if-next-ge-MAX_NUMBER.false))
    (ap (nat_lt MAX_OPERATIONS) (length-map (map operation_of c.args.operations.items) (operation_named schema) ∙ (length-map c.args.operations.items operation_of ∙ (sym c.args.operations.ok.0 ∙ sym c.len.ensures))) ∙ le-ltb MAX_OPERATIONS c.len.result c.if-len-gt-MAX_OPERATIONS.false)
    (played c.hand_in.result) c.hand_in.new.self
    (sym (ap (check_operations schema) fits.0) ∙ fits.1)
    (subst
    (λ (l : List Operation). Given (unless (refusal_of_submit client.queue (events.Alone (next client.queue) l)) (next client.queue)) client (played c.hand_in.result) c.hand_in.new.self
    (λ number. (played c.hand_in.result ≡ says.Queued number) × (c.hand_in.new.self ≡ record client { queue = with_item client.queue (events.Alone number l) })))
    fits.0 c.hand_in.ensures))

pub returns-then-len-gt-MAX_OPERATIONS : goal.returns-then-len-gt-MAX_OPERATIONS
returns-then-len-gt-MAX_OPERATIONS g c =
    let schema = c.args.schema.now in
    too_many schema (operations_named schema (map operation_of c.args.operations.items)) c.args.self.now
    (sym (ap (λ (x : Client). x.queue.closed) c.self.view_is) ∙ (sym c.is_closed.ensures ∙ c.if-is_closed.false))
    (sym (ap (λ (x : Client). is_some x.copy) c.self.view_is) ∙ (sym c.is_open.ensures ∙ c.if-is_open.false))
    (sym (ap (λ (x : Client). nat_le MAX_NUMBER (next x.queue)) c.self.view_is) ∙ (sym (ap (nat_le MAX_NUMBER) c.next.ensures.number) ∙ lt-leb MAX_NUMBER c.next.result c.if-next-ge-MAX_NUMBER.false))
    (ap (nat_lt MAX_OPERATIONS) (length-map (map operation_of c.args.operations.items) (operation_named schema) ∙ (length-map c.args.operations.items operation_of ∙ (sym c.args.operations.ok.0 ∙ sym c.len.ensures))) ∙ lt-ltb MAX_OPERATIONS c.len.result c.if-len-gt-MAX_OPERATIONS.true) g.row.A.Denot

pub returns-in_err-operations : goal.returns-in_err-operations
returns-in_err-operations g c =
    let schema = c.args.schema.now in
    let p = err_from_is_err_and c.from_residual.result c.from_residual.ensures.1 in
    unlisted schema (operations_named schema (map operation_of c.args.operations.items)) c.args.self.now
    (sym (ap (λ (x : Client). x.queue.closed) c.self.view_is) ∙ (sym c.is_closed.ensures ∙ c.if-is_closed.false))
    (sym (ap (λ (x : Client). is_some x.copy) c.self.view_is) ∙ (sym c.is_open.ensures ∙ c.if-is_open.false))
    (sym (ap (λ (x : Client). nat_le MAX_NUMBER (next x.queue)) c.self.view_is) ∙ (sym (ap (nat_le MAX_NUMBER) c.next.ensures.number) ∙ lt-leb MAX_NUMBER c.next.result c.if-next-ge-MAX_NUMBER.false))
    (ap (nat_lt MAX_OPERATIONS) (length-map (map operation_of c.args.operations.items) (operation_named schema) ∙ (length-map c.args.operations.items operation_of ∙ (sym c.args.operations.ok.0 ∙ sym c.len.ensures))) ∙ le-ltb MAX_OPERATIONS c.len.result c.if-len-gt-MAX_OPERATIONS.false)
    c.from_residual.result p.0 c.in_err-operations.field-0.0 p.1 p.2 c.in_err-operations.ensures
