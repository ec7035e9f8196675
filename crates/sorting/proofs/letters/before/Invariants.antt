use Rattle.std.proofs.Common.{◌≡◌, ◌+◌, length}
use Rattle.std.specs.Iterator.Adapters.{zip_first, zip_second}
use Rattle.std.specs.Slice.Iter.{iter_rest}
use Rattle.canonical.specs.Dictionary.{precedes}
use Rattle.sorting.proofs.letters.before.Given as goal

abbrev pub invariant-loop-x : goal.invariant-loop-x
invariant-loop-x l = (precedes (iter_rest (zip_first l.x-iterator)) (iter_rest (zip_second l.x-iterator)) ≡ precedes l.a l.b)
    × (length l.a + length (iter_rest (zip_second l.x-iterator)) ≡ length l.b + length (iter_rest (zip_first l.x-iterator)))
