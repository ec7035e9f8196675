-- `Token::has_code_of` compares the low halves. Assumes nothing.
use mathlib.Core.Path.{refl}
use Rattle.decoder.specs.Token.{code_part}
use Rattle.decoder.proofs.token.Token.has_code_of.Goals as goal

pub returns : goal.returns
unfolding code_part
returns c = refl
