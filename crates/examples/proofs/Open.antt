-- Every definition of every layer, open. Assumes nothing.
use Rattle.endian.proofs.Open as endian
use Rattle.call.proofs.Open as call
use Rattle.voice.proofs.Open as voice
use Rattle.lexicon.proofs.Open as lexicon
use Rattle.graph.proofs.Open as graph
use Rattle.image.proofs.Open as image
use Rattle.canonical.proofs.Open as canonical
use Rattle.packing.proofs.Open as packing
use Rattle.codes.proofs.Open as codes
use Rattle.ranking.proofs.Open as ranking
use Rattle.decoder.proofs.Open as decoder
use Rattle.report.proofs.Open as report
use Rattle.examples.specs.SmallLexicon.{coded, list_read}
use Rattle.examples.specs.Further.{chain, layers, check_voice, check_lexicon, hits_of}

unfoldable pub everything : Unit {0}
unfolding endian.everything call.everything voice.everything lexicon.everything graph.everything image.everything
    canonical.everything packing.everything codes.everything ranking.everything decoder.everything report.everything
    coded list_read chain layers check_voice check_lexicon hits_of
everything = tt
