use Rattle.coord_ledger.proofs.event_driver.released.forget_all.Given as goal

abbrev pub decreases-loop-place : goal.decreases-loop-place
decreases-loop-place l = goal.left-loop-place l
