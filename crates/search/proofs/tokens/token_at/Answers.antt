-- `token_at` reads the number that the slot's bytes hold. Assumes nothing.
use Rattle.std.proofs.Common.{◌∙◌}
use Rattle.storing.proofs.Putting.{read_slot}
use Rattle.search.proofs.tokens.token_at.Goals as goal

pub returns : goal.returns
returns c = c.from_le_bytes.ensures ∙ rw c.as_chunks.ensures.front (read_slot c.args.part.now c.args.k c.requires)
