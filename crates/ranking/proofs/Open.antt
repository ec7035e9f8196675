-- Every definition of this crate's specs/, open: a computed example names `everything` on its `unfolding` line in place of them all.
-- Assumes nothing.
use Rattle.ranking.specs.Hits.{outranks, insert, ranked, hit_bytes, hits_at, hits_read}
use Rattle.ranking.specs.Mean.{nearest, with_sign, mean, mean_answer}

unfoldable pub everything : Unit {0}
unfolding outranks insert ranked hit_bytes hits_at hits_read nearest with_sign mean mean_answer
everything = tt
