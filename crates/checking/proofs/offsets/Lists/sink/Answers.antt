-- `Lists::sink` meets its contract: the lexicon is well formed. Assumes nothing.
use Rattle.checking.proofs.Located.{formed}
use Rattle.checking.proofs.offsets.Lists.sink.Goals as goal

pub sink_of-requires : goal.sink_of-requires
sink_of-requires c = formed c.args.self.located
