use Prim.Native.Nat.{◌+◌, ◌*◌}
use Rattle.lexicon.proofs.Sections.Lists.{ListLeft}
use Rattle.lexicon.proofs.fields.list.Given as goal

abbrev pub invariant-loop-i : goal.invariant-loop-i
invariant-loop-i l = ListLeft l.lexicon l.vertex l.total l.count l.seen (l.start + 2 + 2 * l.i) l.i
