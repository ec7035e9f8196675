-- `seeking::wanted_at` meets its contract. Assumes nothing.
use Rattle.lookup.specs.Seeking.{wanted_at}
use Rattle.lookup.proofs.seeking.wanted_at.Goals as goal

pub returns-in-Some : goal.returns-in-Some
unfolding wanted_at
returns-in-Some c = let h = c.in-Some.ensures.lookup in rw (← h.0) (h.3.1 0)

pub returns-in-None : goal.returns-in-None
unfolding wanted_at
returns-in-None c = let h = c.in-None.ensures.lookup in rw (← h.0)
