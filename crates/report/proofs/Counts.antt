-- An accepted lexicon has a word, so that the width of its codes is never refused, and line 1 has at most 49 bytes. Assumes nothing.
use Prim.Native.Nat.{ℕ, ◌≤◌}
use mathlib.Core.Path.{◌≡◌}
use mathlib.Core.List.{List}
use native.Mathlib.Omega.{arith}
use borrow.Author.Tests.{le-leb}
use lib.ListN.{length, length-append}
use Rattle.call.specs.Limits.{most_words}
use Rattle.call.specs.Table.{value, unless}
use Rattle.graph.specs.Graph.{graph_of, word_count}
use Rattle.graph.specs.Checking.{Accepted}
use Rattle.graph.proofs.Accepted.{accepted, sound-images, words-limit}
use Rattle.graph.proofs.Ways.{some-path}
use Rattle.packing.specs.Width.{width, bad_word_count, given_rows, width_answer}
use Rattle.packing.proofs.Laws.Width.{width-limit}
use Rattle.report.specs.Report.{first_line}
use Rattle.report.proofs.Digits.{decimal-short}

module _ (v x : List ℕ) (h : Accepted v x) where
  words-some : 1 ≤ word_count (graph_of x)
  unfolding word_count
  words-some = some-path (sound-images (accepted h)) (omega arith)

  words-few : word_count (graph_of x) ≤ most_words
  words-few = words-limit (accepted h)

  pub width-answer : width_answer (word_count (graph_of x)) ≡ value (width (word_count (graph_of x)))
  unfolding width_answer given_rows bad_word_count unless
  width-answer = rw (le-leb 1 (word_count (graph_of x)) words-some, le-leb (word_count (graph_of x)) most_words words-few)

  pub first_short : (k : ℕ) → k ≤ 8 → length (first_line k (word_count (graph_of x))) ≤ 49
  unfolding first_line
  first_short k few =
      let a = decimal-short k (omega arith) in
      let w = decimal-short (word_count (graph_of x)) (omega (arith, words-few)) in
      let b = decimal-short (width (word_count (graph_of x))) (omega (arith, width-limit (word_count (graph_of x)) words-few)) in
      simp length-append (omega arith)
