-- `put_token` writes the number's bytes over those of the slot. Assumes nothing.
use Rattle.std.proofs.Common.{◌∙◌, arith}
use Rattle.storing.proofs.Putting.{put_over}
use Rattle.search.proofs.tokens.put_token.Goals as goal

pub returns : goal.returns
returns c = put_over _ _ _ (c.copy_from_slice.ensures.after ∙ c.bytes.ensures) (omega arith) c.requires
