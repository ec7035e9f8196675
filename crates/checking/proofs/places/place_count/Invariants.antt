use Prim.Native.Nat.{◌+◌}
use Rattle.checking.proofs.Counting.{PlacesLeft}
use Rattle.checking.proofs.places.place_count.Given as goal

abbrev pub invariant-loop-letter : goal.invariant-loop-letter
invariant-loop-letter l = PlacesLeft l.voice l.lexicon l.count (l.letter-index + 1)
