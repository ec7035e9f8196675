-- Counting the places, node by node: those of the nodes from one on are left. Assumes nothing.
use mathlib.Core.Path.{◌≡◌, ap, ◌∙◌}
use mathlib.Core.List.{List, map}
use Prim.Native.Nat.{ℕ, zero, suc, ◌+◌, ◌*◌, ◌≤◌, ◌<◌}
use native.Mathlib.Nat.{zero-add, add-zero, add_assoc}
use native.Mathlib.Omega.{arith}
use native.Mathlib.Numerals.{add-one}
use lib.ListN.{length, get_or, take, drop}
use Rattle.std.proofs.lemmas.List.{get_or-take, get_or-drop}
use Rattle.endian.specs.Lists.{from, sum}
use Rattle.voice.specs.Fields.{well_formed}
use Rattle.voice.specs.Voice.{letter_count, states, voice_verdict}
use Rattle.voice.proofs.Letters.{states-range, states_there}
use Rattle.lexicon.specs.Lexicon.{node_count, node_letter, lexicon_verdict}
use Rattle.lexicon.proofs.WellFormed.{letter_known}
use Rattle.graph.specs.Graph.{graph_of}
use Rattle.graph.specs.Conditions.{place_count}
use Rattle.checking.specs.Tables.{WellFormed}
use Rattle.checking.proofs.Arcs.{nodes-there}

-- a voice model and a lexicon of words in its letters
pub record Images (v x : List ℕ) : Type 0 where
  pub voice : voice_verdict v ≡ well_formed
  pub lexicon : lexicon_verdict (letter_count v) x ≡ well_formed

pub formed : {v x : List ℕ} → Images v x → WellFormed x
formed {v} i = record { letters = letter_count v; judged = i.lexicon }

-- count is of the nodes before this one
pub record PlacesLeft (v x : List ℕ) (count node : ℕ) : Type 0 where
  pub left : ℕ
  pub size : node + left ≡ suc (node_count x)
  pub first : 1 ≤ node
  pub few : count ≤ 4 * node
  pub total : count + sum (map (λ n. states v (node_letter x n)) (from node left)) ≡ place_count v (graph_of x)

-- the letters of the nodes stand together, those of the first k here
pub letter_at : (x : List ℕ) (i k : ℕ) → i < k → get_or (take k (drop 2 x)) i 0 ≡ get_or x (1 + (i + 1)) 0
letter_at x i k h = get_or-take k (drop 2 x) i 0 h ∙ get_or-drop 2 x i 0 ∙ ap (λ (j : ℕ). get_or x j 0) (omega arith)

pub places-start : (v x : List ℕ) → PlacesLeft v x 0 1
unfolding place_count
places-start v x = record { left = node_count x; size = omega arith; first = omega arith; few = omega arith; total = rw zero-add }

-- the bytes that are read for a node
pub record NodeRead (v x : List ℕ) (node : ℕ) : Type 0 where
  pub node_there : 1 + node < length x
  pub states_there : 2 + 2 * get_or x (1 + node) 0 < length v
  pub few : get_or v (2 + 2 * get_or x (1 + node) 0) 0 ≤ 4

pub node-read : {v x : List ℕ} {node : ℕ} → Images v x → 1 ≤ node → node ≤ node_count x → NodeRead v x node
unfolding node_letter states
node-read {v} {x} {node} i l h =
    let known = letter_known (letter_count v) x i.lexicon node l h in
    record {
      node_there = omega (arith, nodes-there (formed i));
      states_there = states_there v i.voice known;
      few = (states-range v i.voice known).1;
    }

pub places-next : {v x : List ℕ} {count node : ℕ} → Images v x → PlacesLeft v x count node → node ≤ node_count x
    → PlacesLeft v x (count + get_or v (2 + 2 * get_or x (1 + node) 0) 0) (node + 1)
unfolding node_letter states from sum
places-next {v} {x} {count} {node} i p h = go p.left p.size p.total
  where
    go : (left : ℕ) → node + left ≡ suc (node_count x) → count + sum (map (λ n. states v (node_letter x n)) (from node left)) ≡ place_count v (graph_of x)
        → PlacesLeft v x (count + states v (node_letter x node)) (node + 1)
    go zero e t = absurd (omega arith)
    go (suc left) e t = rw add-one (record {
      left = left;
      size = omega arith;
      first = omega arith;
      few = omega (arith, p.few, (node-read i p.first h).few);
      total = add_assoc count _ _ ∙ t;
    })

pub places-done : {v x : List ℕ} {count node : ℕ} → PlacesLeft v x count node → node_count x < node → count ≡ place_count v (graph_of x)
unfolding from sum
places-done p h = let z : p.left ≡ 0 = omega (arith, p.size) in rw (z, add-zero) at p.total
