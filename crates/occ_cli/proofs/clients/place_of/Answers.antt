use Rattle.occ_cli.proofs.Replaying.{no_client}
use Rattle.occ_cli.proofs.clients.place_of.Goals as goal

pub returns-then-session-eq0 : goal.returns-then-session-eq0
returns-then-session-eq0 g c = no_client c.args.clients.now c.args.session c.then-session-eq0.either
