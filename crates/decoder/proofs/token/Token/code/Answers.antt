-- `Token::code` meets its contract: the low half, turned round. Assumes nothing.
use mathlib.Core.Path.{refl}
use Rattle.decoder.specs.Token.{code_part}
use Rattle.decoder.proofs.token.Token.code.Goals as goal

pub returns : goal.returns
unfolding code_part
returns c = refl
