use Rattle.std.proofs.Common.{Some, ◌+◌, refl}
use Rattle.std.proofs.lemmas.Result.{IfOk-weaker, on_ok_weaker, on_err_weaker}
use Rattle.occ_queue.specs.Items.{item_of}
use Rattle.occ_store.specs.Workers.{holding, Over, LeftOver}
use Rattle.occ_store.proofs.Ending.{is_refused, goes_more, left_more, nothing_then, handed, over_at_once, ended_at_once, entered_in, still_in, on_any_err}
use Rattle.occ_store.proofs.Histories.{on_self, on_trans}
use Rattle.occ_store.proofs.workers.Worker.end.Goals as goal

-- it is over at once
pub returns-in-Ok-Some-clause-over : goal.returns-in-Ok-Some-clause-over
returns-in-Ok-Some-clause-over g c =
    over_at_once g.N.Name.named c.args.self.now c.hand_in.new.self (item_of c.args.item) c.requires.nothing c.requires.next c.in-Ok-Some.field-0 c.in-Ok-Some.ensures c.in-Ok-Some.ended c.in-Ok-Some.field-0-is

pub returns-in-Ok-Some-clause-nothing_left : goal.returns-in-Ok-Some-clause-nothing_left
returns-in-Ok-Some-clause-nothing_left g c =
    ended_at_once g.N.Name.named c.args.self.now c.hand_in.new.self (item_of c.args.item) c.requires.nothing c.requires.next c.in-Ok-Some.field-0 c.in-Ok-Some.ensures c.in-Ok-Some.ended c.in-Ok-Some.field-0-is

-- it entered
pub go_on-requires : goal.go_on-requires
go_on-requires g c =
    let first = entered_in g.N.Name.named c.args.self.now c.hand_in.new.self (item_of c.args.item) c.requires.nothing c.requires.next c.in-Ok-None.field-0 c.in-Ok-None.ensures c.in-Ok-None.field-0-is in
    first.goes.kept

pub returns-in-Ok-None-clause-over : goal.returns-in-Ok-None-clause-over
returns-in-Ok-None-clause-over g c =
    let named = g.N.Name.named in
    let first = entered_in g.N.Name.named c.args.self.now c.hand_in.new.self (item_of c.args.item) c.requires.nothing c.requires.next c.in-Ok-None.field-0 c.in-Ok-None.ensures c.in-Ok-None.field-0-is in
    IfOk-weaker c.go_on.result (λ ended. LeftOver named c.hand_in.new.self (Some ended) c.go_on.new.self.front) (λ ended. Over named c.args.self.now.session (item_of c.args.item) ended c.args.self.now.front c.go_on.new.self.front) (λ ended over. first.goes.over ended c.go_on.new.self.front over) c.go_on.ensures.over

pub returns-in-Ok-None-clause-nothing_left : goal.returns-in-Ok-None-clause-nothing_left
returns-in-Ok-None-clause-nothing_left g c =
    let named = g.N.Name.named in
    let item = item_of c.args.item in
    let first = entered_in g.N.Name.named c.args.self.now c.hand_in.new.self (item_of c.args.item) c.requires.nothing c.requires.next c.in-Ok-None.field-0 c.in-Ok-None.ensures c.in-Ok-None.field-0-is in
    on_ok_weaker c.go_on.result
    (λ is. handed named c.args.self.now c.go_on.new.self item c.requires.nothing c.requires.next (c.args.self.now.entered + 1) (nothing_then named (holding c.args.self.now item) c.hand_in.new.self c.go_on.new.self first.goes is))
    c.go_on.ensures.nothing_left

pub returns-in-Ok-None-clause-kept : goal.returns-in-Ok-None-clause-kept
returns-in-Ok-None-clause-kept g c =
    let named = g.N.Name.named in
    let item = item_of c.args.item in
    let first = entered_in g.N.Name.named c.args.self.now c.hand_in.new.self (item_of c.args.item) c.requires.nothing c.requires.next c.in-Ok-None.field-0 c.in-Ok-None.ensures c.in-Ok-None.field-0-is in
    on_err_weaker c.go_on.result
    (λ second. still_in named c.args.self.now c.go_on.new.self item c.requires.nothing c.requires.next (goes_more named (holding c.args.self.now item) c.hand_in.new.self c.go_on.new.self first.goes second))
    c.go_on.ensures.goes_on

pub returns-in-Ok-None-clause-left : goal.returns-in-Ok-None-clause-left
returns-in-Ok-None-clause-left g c =
    let named = g.N.Name.named in
    let item = item_of c.args.item in
    let first = entered_in g.N.Name.named c.args.self.now c.hand_in.new.self (item_of c.args.item) c.requires.nothing c.requires.next c.in-Ok-None.field-0 c.in-Ok-None.ensures c.in-Ok-None.field-0-is in
    on_err_weaker c.go_on.result (λ still. left_more named (holding c.args.self.now item) c.hand_in.new.self c.go_on.new.self first.goes first.left still item c.args.self.now.front (refl, on_self c.args.self.now.front)) c.go_on.ensures.left

-- it was refused
pub returns-in-Err-clause-kept : goal.returns-in-Err-clause-kept
returns-in-Err-clause-kept g c =
    let first = is_refused g.N.Name.named (holding c.args.self.now (item_of c.args.item)) c.hand_in.new.self c.in-Err.fault c.in-Err.ensures refl in
    still_in g.N.Name.named c.args.self.now c.hand_in.new.self (item_of c.args.item) c.requires.nothing c.requires.next first.goes

pub returns-in-Err-clause-left : goal.returns-in-Err-clause-left
returns-in-Err-clause-left g c =
    let item = item_of c.args.item in
    let first = is_refused g.N.Name.named (holding c.args.self.now item) c.hand_in.new.self c.in-Err.fault c.in-Err.ensures refl in first.left item c.args.self.now.front (refl, on_self c.args.self.now.front)

pub returns-in-Ok-None-clause-seen : goal.returns-in-Ok-None-clause-seen
returns-in-Ok-None-clause-seen g c =
    let first = entered_in g.N.Name.named c.args.self.now c.hand_in.new.self (item_of c.args.item) c.requires.nothing c.requires.next c.in-Ok-None.field-0 c.in-Ok-None.ensures c.in-Ok-None.field-0-is in
    on_any_err c.go_on.result (on_trans c.args.self.now.front c.hand_in.new.self.front c.go_on.new.self.front first.goes.seen c.go_on.ensures.seen)

pub returns-in-Err-clause-seen : goal.returns-in-Err-clause-seen
returns-in-Err-clause-seen g c =
    let first = is_refused g.N.Name.named (holding c.args.self.now (item_of c.args.item)) c.hand_in.new.self c.in-Err.fault c.in-Err.ensures refl in first.goes.seen
