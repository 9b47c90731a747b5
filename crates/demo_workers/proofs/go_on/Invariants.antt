use Rattle.demo_workers.proofs.go_on.Given as goal

-- the name that the store of the frame has
abbrev pub ghosts-live-N-Ledger : goal.ghosts-live-N-Ledger
ghosts-live-N-Ledger g a = record { name = a.frame.ledger; parts = a.frame.parts }

abbrev pub ghosts-live-N-Name : goal.ghosts-live-N-Name
ghosts-live-N-Name g a = record { named = a.frame.named }
