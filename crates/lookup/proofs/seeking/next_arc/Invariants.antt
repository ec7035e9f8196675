use Prim.Native.Nat.{ℕ, ◌+◌}
use Rattle.lookup.specs.Seeking.{prints_column}
use Rattle.lookup.specs.Trying.{Tried}
use Rattle.lookup.proofs.seeking.next_arc.Given as goal

abbrev pub invariant-loop-index : goal.invariant-loop-index
invariant-loop-index l = (c : ℕ) → Tried l.lexicon (prints_column l.vertices) l.word l.i l.vertex l.first c
    → Tried l.lexicon (prints_column l.vertices) l.word l.i l.vertex l.index (c + l.passed)
