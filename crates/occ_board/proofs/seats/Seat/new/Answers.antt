use Rattle.std.proofs.Common.{rules}
use Rattle.occ_board.specs.declared.rule.Known.TheVariants.{Publishes}
use Rattle.occ_board.specs.Words.{blank}
use Rattle.occ_board.proofs.Kept.{opens}
use Rattle.occ_board.proofs.seats.Seat.new.Goals as goal

pub load_new_seat-pass-requires : goal.load_new_seat-pass-requires
load_new_seat-pass-requires g c = (search rules, opens _ _ (Publishes (blank 0)))
