use Rattle.demo_validators.proofs.named.Given as goal

-- the name that the store of the frame has
abbrev pub ghosts-run-N-Ledger : goal.ghosts-run-N-Ledger
ghosts-run-N-Ledger g a = record { name = a.frame.ledger; parts = a.frame.parts }

abbrev pub ghosts-run-N-Name : goal.ghosts-run-N-Name
ghosts-run-N-Name g a = record { named = a.frame.named }
