-- `image::print_byte` meets its contract: it reads the letter of the node, and the print byte of the letter. Assumes
-- nothing.
use Prim.Native.Nat.{◌+◌}
use mathlib.Core.Path.{refl}
use native.Mathlib.Omega.{arith}
use Rattle.voice.specs.Voice.{print_byte}
use Rattle.lexicon.specs.Lexicon.{node_letter}
use Rattle.codes.proofs.image.print_byte.Goals as goal

pub overflow_cast-letter : goal.overflow_cast-letter
overflow_cast-letter c = omega (arith, c.type_inv.lexicon (1 + c.args.node))

pub overflow_mul-result : goal.overflow_mul-result
unfolding node_letter
overflow_mul-result c = omega (arith, c.requires.print)

pub overflow_add-result : goal.overflow_add-result
unfolding node_letter
overflow_add-result c = omega (arith, c.requires.print)

pub bounds-voice-letter : goal.bounds-voice-letter
unfolding node_letter
bounds-voice-letter c = omega (arith, c.requires.print)

pub returns : goal.returns
unfolding node_letter print_byte
returns c = refl
