use Rattle.occ_store.proofs.Rounds.{served_once, tells_first}
use Rattle.occ_store.proofs.validators.serve_lane.Goals as goal

pub returns-in-Ok-Settled-clause-served : goal.returns-in-Ok-Settled-clause-served
returns-in-Ok-Settled-clause-served g c = served_once g.N.Name.named (g.G.Gate.may_stop c.args.gate.now) _ _ c.serve_one.result c.serve_one.ensures

pub returns-in-Ok-Stopped-2-clause-served : goal.returns-in-Ok-Stopped-2-clause-served
returns-in-Ok-Stopped-2-clause-served g c = served_once g.N.Name.named (g.G.Gate.may_stop c.args.gate.now) _ _ c.serve_one.result c.serve_one.ensures

pub returns-in-Ok-Idle-2-clause-served : goal.returns-in-Ok-Idle-2-clause-served
returns-in-Ok-Idle-2-clause-served g c = served_once g.N.Name.named (g.G.Gate.may_stop c.args.gate.now) _ _ c.serve_one.result c.serve_one.ensures

pub returns-in-Err-clause-served : goal.returns-in-Err-clause-served
returns-in-Err-clause-served g c = served_once g.N.Name.named (g.G.Gate.may_stop c.args.gate.now) _ _ c.serve_one.result c.serve_one.ensures

pub returns-in-Err-clause-tells : goal.returns-in-Err-clause-tells
returns-in-Err-clause-tells g c = tells_first g.N.Name.named (g.G.Gate.may_stop c.args.gate.now) _ _ c.args.fault.now _ c.in-Err.met c.or.ensures c.in-Err.ensures

pub returns-in-Ok-Stopped-clause-served : goal.returns-in-Ok-Stopped-clause-served
returns-in-Ok-Stopped-clause-served g c = served_once g.N.Name.named (g.G.Gate.may_stop c.args.gate.now) _ _ c.serve_one.result c.serve_one.ensures
