-- The limit on arcs never decides on 18: a canonical graph has no more arcs than nodes and words together, so with at
-- most 400 nodes and 2,000 words it has at most 2,400. Assumes nothing.
use Prim.Native.Nat.{ℕ, ◌+◌, ◌≤◌}
use mathlib.Core.Path.{◌≡◌, refl}
use mathlib.Core.Bool.{Bool, true, false, ◌||◌}
use mathlib.Core.List.{List, map}
use native.Mathlib.Omega.{arith}
use lib.ListN.{length}
use lib.Dec.{ltb}
use borrow.Author.Tests.{ltb-false, le-ltb}
use Rattle.endian.specs.Lists.{sum}
use Rattle.endian.proofs.Booleans.{or-none}
use Rattle.voice.specs.Voice.{letter_count}
use Rattle.graph.specs.Conditions.{place_count, many_places}
use Rattle.graph.proofs.Accepted.{accepted}
use Rattle.image.specs.Image.{arc_total}
use Rattle.image.proofs.ArcCount.{arcs-bounded}
use Rattle.canonical.specs.Nodes.{canonical_graph}
use Rattle.canonical.specs.Canonical.{words_graph, long_list, outside_limits}
use Rattle.canonical.specs.Theorems.{ArcsFollow, NeverByArcs}
use Rattle.canonical.proofs.Vertices.{WordList, canonical_sound, preceded}
use Rattle.canonical.proofs.Spelled.{words-counted}
use Rattle.canonical.proofs.ReadBack.{lexicon-words}

module _ {L : ℕ} {ws : List (List ℕ)} (ok : WordList L ws) where
  pub few_arcs : arc_total (canonical_graph L ws) ≤ (canonical_graph L ws).nodes + length ws
  few_arcs = omega (arith, arcs-bounded (canonical_sound ok) (preceded ok), words-counted ok)

-- a limit that is kept where another one is
skipped : (a b c : Bool) → (a ≡ false → b ≡ false) → a || b || c ≡ a || c
skipped true b c h = refl
skipped false b c h = rw (h refl)

pub arcs_follow : {v : List ℕ} {ws : List (List ℕ)} → WordList (letter_count v) ws → ArcsFollow v ws
unfolding long_list outside_limits
arcs_follow {v} {ws} ok =
    let g = words_graph v ws in
    record {
      bounded = few_arcs ok;
      judged = λ e.
          let words = ltb-false 2000 (length ws)
          (or-none (ltb 2000 (length ws)) (ltb 16000 (sum (map length ws))) e).0 in
          skipped (ltb 400 g.nodes) (ltb 4000 (arc_total g)) (many_places (place_count v g))
          (λ n. le-ltb 4000 (arc_total g) (omega (arith, few_arcs ok, words, ltb-false 400 g.nodes n)));
    }

pub never-by-arcs : NeverByArcs
never-by-arcs v x h = arcs_follow (lexicon-words (accepted h))
