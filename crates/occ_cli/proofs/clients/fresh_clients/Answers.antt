use Rattle.std.proofs.Common.{◌≡◌, ap, ◌∙◌, replicate, arith}
use Rattle.occ_cli.proofs.Common.{fresh}
use Rattle.occ_cli.proofs.clients.fresh_clients.Goals as goal

pub returns-clause-fresh : goal.returns-clause-fresh
returns-clause-fresh g c =
    let all : c.loop.counter ≡ c.args.sessions = omega arith in
    c.loop.invariant ∙ ap (λ n. replicate n (fresh c.args.queue)) all
