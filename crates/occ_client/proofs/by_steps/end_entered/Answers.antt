use Rattle.occ_client.proofs.StepsFollow.{can_be_backed_up}
use Rattle.occ_client.proofs.by_steps.end_entered.Goals as goal

pub back_up-number-requires : goal.back_up-number-requires
back_up-number-requires g c = record { decided = can_be_backed_up _ _ _ _ c.in-BackUp.ensures }
