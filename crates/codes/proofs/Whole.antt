-- The listing as a whole: accepted images with their tables let the walk begin at the root and count its bytes, and what it writes is the
-- listing, at the output's start. Assumes nothing.
use mathlib.Core.Path.{◌≡◌, refl, sym, ap, ◌∙◌}
use mathlib.Core.List.Memᴰ
use mathlib.Core.List.{List, [], ◌∷◌, Memᴰ}
use Prim.Native.Nat.{ℕ, ◌≤◌, ◌<◌}
use native.Mathlib.Nat.{zero-add}
use native.Mathlib.Omega.{arith}
use lib.ListN.{length, take-append-drop}
use borrow.Author.Tests.{lt-ltb, le-ltb, ltb-false}
use Rattle.call.specs.declared.Refusal.TheVariants.{Output}
use Rattle.call.specs.Table.{value, refused, unless}
use Rattle.call.specs.Buffers.{written}
use Rattle.lexicon.specs.Lexicon.{sink_of, successors}
use Rattle.graph.specs.Graph.{graph_of, sink, full_paths, word_count}
use Rattle.graph.specs.Conditions.{many_words}
use Rattle.graph.proofs.Sound.{Sound}
use Rattle.graph.proofs.Accepted.{AcceptedImages, accepted, sound-images}
use Rattle.graph.proofs.Ways.{way_on}
use Rattle.checking.specs.declared.Vertex.{Vertex}
use Rattle.checking.proofs.Reached.{count_within_words}
use Rattle.codes.specs.Lookup.{listing}
use Rattle.codes.specs.Steps.{OpenedImages}
use Rattle.codes.specs.Lines.{lines_over, Fits, WalksFrom, Wrote, arcs_on_ways, Countable, room_rows, BytesAnswered}
use Rattle.codes.proofs.Words.{path_short, word-root}
use Rattle.codes.proofs.Lines.{lines-root, listing-lines}
use Rattle.codes.proofs.Sizes.{listing-size}

module _ {v x : List ℕ} {vertices : List Vertex} (r : OpenedImages v x vertices) where
  images : AcceptedImages v x
  images = accepted r.accepted

  ok : Sound (graph_of x)
  ok = sound-images images

  pub countable : Countable x vertices
  unfolding sink sink_of many_words
  countable = record {
    tabled = r.tabled;
    few = λ h. omega (arith, count_within_words ok images.all_reached h, ltb-false _ (word_count (graph_of x)) images.few_words);
  }

  -- at the root no letter is spelled
  root-fits : {s : ℕ} → Memᴰ s (successors x 0) → Fits v (graph_of x) 0 s
  unfolding full_paths sink
  root-fits {s} m p k =
      let word = path_short images (Memᴰ.map (λ p. 0 ∷ p) (way_on ok {u = 0} (omega arith) m k)) in
      omega (arith, word, ap length (word-root v (graph_of x) (s ∷ p)))

  pub root-passes : WalksFrom v x vertices 0 0
  root-passes = record {
    opened = r;
    below = omega arith;
    fits = root-fits;
  }

  pub root-lines : lines_over v (graph_of x) (successors x 0) [] ≡ listing v (graph_of x)
  unfolding sink
  root-lines = sym (listing-lines v (graph_of x) ∙ lines-root ok v [] (omega arith))

  pub size_is : {size : ℕ} → size ≡ arcs_on_ways (graph_of x) 0 → size ≡ length (listing v (graph_of x))
  unfolding sink
  size_is e = e ∙ sym (listing-size ok v (omega arith))

-- ---- the answer

pub no_room : {bytes out : List ℕ} → length out < length bytes → BytesAnswered bytes (refused Output) out out
unfolding room_rows unless written
no_room {bytes} {out} h = record { says = rw (lt-ltb (length out) (length bytes) h); leaves = refl }

pub all-written : {bytes word word' out out' : List ℕ} {size end : ℕ} → length bytes ≤ length out → size ≡ length bytes
    → Wrote bytes 0 0 word word' out out' end → BytesAnswered bytes (value size) out out'
unfolding room_rows unless written
all-written {bytes} {out = out} {out' = out'} {end = end} h e w = record {
  says = rw (le-ltb (length out) (length bytes) h, e);
  leaves = sym (take-append-drop end out') ∙ rw (w.before, w.after, w.ends, zero-add);
}
