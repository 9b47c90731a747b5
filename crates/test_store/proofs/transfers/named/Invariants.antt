use Rattle.test_store.proofs.transfers.named.Given as goal

-- the name that the store of the frame has
abbrev pub ghosts-play_on-N-Ledger : goal.ghosts-play_on-N-Ledger
ghosts-play_on-N-Ledger g a = record { name = a.frame.ledger; parts = a.frame.parts }

abbrev pub ghosts-play_on-N-Name : goal.ghosts-play_on-N-Name
ghosts-play_on-N-Name g a = record { named = a.frame.named }
