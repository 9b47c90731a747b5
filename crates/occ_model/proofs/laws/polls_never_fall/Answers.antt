use Rattle.occ_model.proofs.Polls.{polls_rise}
use Rattle.occ_model.proofs.laws.polls_never_fall.Goals as goal

pub returns : goal.returns
returns c = (λ old new event reply inv step session. polls_rise old new event reply inv step session)
