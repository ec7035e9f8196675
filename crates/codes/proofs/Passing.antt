-- What `vertex_step` and `arc_step` hand to each other: a vertex goes through its arcs, each of which adds its lines; the
-- vertex that an arc leads to is entered: a node, which goes through its arcs with its letter added to the word, or the
-- sink, which has its line. Assumes nothing.
use mathlib.Core.Path.{◌≡◌, refl, ap, ◌∙◌}
use mathlib.Core.List.{List, [], ◌∷◌, ◌++◌}
use Prim.Native.Nat.{ℕ, ◌+◌, ◌≤◌, ◌<◌}
use native.Mathlib.Omega.{arith}
use lib.ListN.{length, take, set, length-append}
use lib.Seq.{take_all}
use Rattle.voice.specs.Voice.{print_byte}
use Rattle.lexicon.specs.Lexicon.{node_count, sink_of, node_letter, successors}
use Rattle.graph.specs.Graph.{graph_of, sink}
use Rattle.graph.proofs.Sound.{Sound}
use Rattle.graph.proofs.Accepted.{accepted, sound-images}
use Rattle.graph.proofs.Ways.{some-way}
use Rattle.checking.specs.declared.Vertex.{Vertex}
use Rattle.codes.specs.Steps.{Readable}
use Rattle.codes.specs.Lines.{lines_from, lines_over, WalksFrom, Enters, RoomForLines, Wrote}
use Rattle.codes.proofs.Words.{readable}
use Rattle.codes.proofs.Lines.{over_none, over-more, over-part, lines-sink, lines-node, fits-letter, fits_next, wrote_none, wrote_both, one-letter}
use Rattle.codes.proofs.Heads.{ArcHere}

-- ---- the vertex step

-- the lines over the first arcs of u are written, and the output has its length
pub record Walked (v x : List ℕ) (u depth at : ℕ) (word₀ out₀ word out : List ℕ) (end arc : ℕ) : Type 0 where
  pub size : length out ≡ length out₀
  pub wrote : Wrote (lines_over v (graph_of x) (take arc (successors x u)) (take depth word₀)) depth at word₀ word out₀ out end

module _ {v x : List ℕ} {u depth at : ℕ} {word₀ out₀ : List ℕ} where
  pub walk-starts : Walked v x u depth at word₀ out₀ word₀ out₀ at 0
  walk-starts = record { size = refl; wrote = wrote_none (over_none v (graph_of x) (take depth word₀)) }

  module _ {word out : List ℕ} {end arc : ℕ} (w : Walked v x u depth at word₀ out₀ word out end arc) where
    pub walk_ends : length (successors x u) ≤ arc → Wrote (lines_over v (graph_of x) (successors x u) (take depth word₀)) depth at word₀ word out₀ out end
    walk_ends h =
        let all : take arc (successors x u) ≡ successors x u = take_all arc (successors x u) h in rw all at w.wrote

    -- the next arc leads to s
    module _ {s : ℕ} (a : ArcHere x u arc s) where
      one_more : lines_over v (graph_of x) (take (arc + 1) (successors x u)) (take depth word₀)
          ≡ lines_over v (graph_of x) (take arc (successors x u)) (take depth word₀)
          ++ lines_from v (graph_of x) s (take depth word)
      one_more =
          rw (w.wrote.kept, ← a.entry)
          (over-more v (graph_of x) (take depth word₀) (successors x u) arc a.inside)

      -- room for the lines by way of the next arc
      pub walk-room : RoomForLines (lines_over v (graph_of x) (successors x u) (take depth word₀)) word₀ out₀ at
          → RoomForLines (lines_from v (graph_of x) s (take depth word)) word out end
      walk-room r = record {
        long = w.wrote.long ∙ r.long;
        enough = omega (
          arith,
          r.enough,
          w.size,
          w.wrote.ends,
          ap length one_more,
          length-append (lines_over v (graph_of x) (take arc (successors x u)) (take depth word₀))
              (lines_from v (graph_of x) s (take depth word)),
          over-part v (graph_of x) (take depth word₀) (successors x u) (arc + 1),
        );
      }

      pub walk-on : {word' out' : List ℕ} {end' : ℕ} → length out' ≡ length out
          → Wrote (lines_from v (graph_of x) s (take depth word)) depth end word word' out out' end'
          → Walked v x u depth at word₀ out₀ word' out' end' (arc + 1)
      walk-on e n = record { size = e ∙ w.size; wrote = wrote_both one_more w.wrote n }

-- ---- the arcs of a vertex

module _ {v x : List ℕ} {vertices : List Vertex} {u depth : ℕ} (p : WalksFrom v x vertices u depth) where
  pub enters : {i s : ℕ} → ArcHere x u i s → Enters v x vertices s depth
  enters a = record {
    opened = p.opened;
    above = omega (arith, a.rises);
    bounded = a.bounded;
    fits = p.fits a.member;
  }

-- ---- the vertex that an arc leads to

module _ {v x : List ℕ} {vertices : List Vertex} {u depth : ℕ} (e : Enters v x vertices u depth) where
  ok : Sound (graph_of x)
  ok = sound-images (accepted e.opened.accepted)

  pub fits_word : depth ≤ 32
  unfolding sink sink_of
  fits_word = let p = some-way ok {u = u} e.bounded in omega (arith, e.fits p.0 p.1)

  pub at-sink : node_count x < u → (w : List ℕ) → lines_from v (graph_of x) u w ≡ w ++ (10 ∷ [])
  unfolding sink sink_of
  at-sink h w = let q : u ≡ sink (graph_of x) = omega (arith, e.bounded) in rw q (lines-sink ok v w)

  module _ (h : u ≤ node_count x) where
    pub letter-there : Readable v x u
    unfolding sink_of
    letter-there = readable (accepted e.opened.accepted) e.above (omega arith)

    pub room : depth < 32
    unfolding sink
    room = fits-letter ok v e.above (omega arith) e.fits

    pub starts : WalksFrom v x vertices u (depth + 1)
    unfolding sink
    starts =
        record { opened = e.opened; below = h; fits = λ m. fits_next ok v depth e.above (omega arith) e.fits m }

    pub at_node : {b : ℕ} → b ≡ print_byte v (node_letter x u) → (word : List ℕ) → depth < length word
        → lines_from v (graph_of x) u (take depth word) ≡ lines_over v (graph_of x) (successors x u) (take (depth + 1) (set word depth b))
    unfolding sink
    at_node {b} k word l = lines-node ok v (take depth word) e.above (omega arith) ∙ rw (one-letter word depth b l, k)
