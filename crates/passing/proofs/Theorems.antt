-- The theorem of specs/Theorems.antt: the graph of an accepted lexicon is sound. Assumes nothing.
use Rattle.voice.specs.Voice.{letter_count}
use Rattle.graph.proofs.Sound.{sound}
use Rattle.graph.proofs.Accepted.{accepted}
use Rattle.passing.specs.Theorems.{GraphDecodingListsTheHits}
use Rattle.passing.proofs.Decoded.{decoded-hits}

pub graph_decoding : GraphDecodingListsTheHits
graph_decoding v x frames n h = decoded-hits v (sound (letter_count v) x (accepted h).lexicon) frames n
