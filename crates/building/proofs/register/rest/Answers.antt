-- `register::rest` meets its contract: it is the part of the table behind these letters. Assumes nothing.
use Rattle.registering.proofs.RestWords.{rest_part}
use Rattle.building.proofs.register.rest.Goals as goal

pub returns : goal.returns
returns c = rest_part c.args.words.now c.args.i c.args.d
