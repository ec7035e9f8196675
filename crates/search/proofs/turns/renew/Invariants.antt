use Rattle.storing.specs.Carrying.{Renewing}
use Rattle.storing.proofs.Renewing.{RenewLeft}
use Rattle.search.proofs.turns.renew.Given as goal

abbrev pub invariant-loop-s : goal.invariant-loop-s
invariant-loop-s l = (t : Renewing l.n l.states l.row l.initial.part) → RenewLeft t l.s l.part
