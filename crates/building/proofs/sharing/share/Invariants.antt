use Rattle.std.proofs.Common.{◌≡◌, ℕ, ◌<◌, get_or}
use Rattle.canonical.specs.Groups.{common}
use Rattle.sorting.specs.Slots.{word_at}
use Rattle.registering.specs.Register.{previous}
use Rattle.building.proofs.sharing.share.Given as goal

abbrev pub invariant-loop-i : goal.invariant-loop-i
invariant-loop-i l = (j : ℕ) → j < l.i → get_or l.shared j 0 ≡ common (previous l.words j) (word_at l.words j)
