-- The rows of the canonical writer in their written order, 1 to 10, 17, 18, and then 16; and how many bytes it answers
-- at most. Assumes nothing.
use Prim.Native.Nat.{ℕ, ◌≤◌}
use mathlib.Core.Path.{◌≡◌, refl}
use mathlib.Core.List.{List, [], ◌∷◌}
use native.Mathlib.Omega.{arith}
use Rattle.call.specs.Table.{value, numbers}
use Rattle.call.specs.Buffers.{spaces_rows}
use Rattle.voice.specs.Voice.{voice_rows}
use Rattle.graph.specs.Graph.{graph_of}
use Rattle.graph.specs.Checking.{lexicon_rows, image_rows}
use Rattle.image.proofs.Sizes.{length-image}
use Rattle.canonical.specs.Canonical.{words_graph, sorted_words, canonical_image, long_rows, outside_rows}
use Rattle.canonical.specs.Canonical.{word_list_rows, canonical_rows, canonical_answer}
use Rattle.canonical.proofs.ReadBack.{limits_of}
use Rattle.canonical.proofs.ArcLimit.{never-by-arcs}
use Rattle.canonical.proofs.Call.{answered}

module _ (v x work further out : List ℕ) where
  pub canonical_numbers : numbers (canonical_rows v x work further out)
      ≡ 1 ∷ 2 ∷ 3 ∷ 4 ∷ 5 ∷ 6 ∷ 7 ∷ 8 ∷ 9 ∷ 10 ∷ 17 ∷ 18 ∷ 16 ∷ []
  unfolding numbers canonical_rows spaces_rows image_rows voice_rows lexicon_rows word_list_rows long_rows outside_rows
  canonical_numbers = refl

  -- an image has at most 400 nodes, and no more arcs than nodes and words together
  pub canonical_short : (k : ℕ) → canonical_answer v x work further out ≡ value k → k ≤ 6006
  unfolding canonical_image
  canonical_short k e =
      let a = answered v x work further out k e in
      let ws = sorted_words (graph_of x) in
      let limits = limits_of a.listable.limits in
      let arcs = (never-by-arcs v x a.listable.images).bounded in
      omega (arith, a.bytes, length-image (words_graph v ws), limits.few_nodes, limits.few_words, arcs)
