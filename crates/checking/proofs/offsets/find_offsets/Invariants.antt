use Rattle.checking.proofs.Finding.{OffsetsFound}
use Rattle.checking.proofs.offsets.find_offsets.Given as goal

abbrev pub invariant-loop-u : goal.invariant-loop-u
invariant-loop-u l = OffsetsFound l.lexicon l.u l.at l.offsets
