-- The measure of `ordering::sort`: the number of places.
use Prim.Native.Nat.{◌-◌}
use Rattle.sorting.proofs.ordering.+sort.Given as goal

abbrev pub decreases-sort : goal.decreases-sort
decreases-sort l = l.hi - l.lo
