use Rattle.test_store.proofs.desks.played.Given as goal

-- the name that the store of the frame has
abbrev pub ghosts-played_on-N-Ledger : goal.ghosts-played_on-N-Ledger
ghosts-played_on-N-Ledger g a = record { name = a.frame.ledger; parts = a.frame.parts }

abbrev pub ghosts-played_on-N-Name : goal.ghosts-played_on-N-Name
ghosts-played_on-N-Name g a = record { named = a.frame.named }
