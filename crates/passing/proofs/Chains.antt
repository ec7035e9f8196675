-- The full paths of a sound graph by the nodes that they pass, the latest first, with the code so far: so a link of a run is one more node at
-- the front. Assumes nothing.
use Prim.Native.Nat.{ℕ, suc, ◌+◌, ◌<◌}
use mathlib.Core.Path.{◌≡◌, refl, sym, ◌∙◌, ap}
use mathlib.Core.List.Memᴰ
use mathlib.Core.List.{List, [], ◌∷◌, map, reverse_aux as onto}
use native.Mathlib.Omega.{arith}
use native.Mathlib.Decide.{ℕ_discrete}
use borrow.Author.Tests.{lt-ltb, le-leb, lt-leb}
use lib.ListN.{length, get_or}
use Rattle.endian.specs.Lists.{select}
use Rattle.graph.specs.Graph.{Graph, sink, ArcPath, arrived, along, FullPath, from_root, increment, code_from, path_code, is_node, path_letters}
use Rattle.graph.proofs.Sound.{Sound}
use Rattle.decoder.proofs.Runs.{latest, passed}
use Rattle.passing.proofs.Order.{◌∈◌}

-- ---- a list turned round, onto another

get_d_onto : (us p : List ℕ) (j : ℕ) → get_or (onto us p) (length us + j) 0 ≡ get_or p j 0
get_d_onto [] p j = ap (λ i. get_or p i 0) (omega arith)
get_d_onto (u ∷ us) p j = ap (λ i. get_or (onto us (u ∷ p)) i 0) (omega arith) ∙ get_d_onto us (u ∷ p) (suc j)

pub length_onto : (us p : List ℕ) → length (onto us p) ≡ length us + length p
length_onto [] p = omega arith
length_onto (u ∷ us) p = omega (arith, length_onto us (u ∷ p))

map_onto : (f : ℕ → ℕ) (us p : List ℕ) → map f (onto us p) ≡ onto (map f us) (map f p)
map_onto f [] p = refl
map_onto f (u ∷ us) p = map_onto f us (u ∷ p)

-- the last of those turned round, and all up to it
pub last_onto : (l : ℕ) (ls p : List ℕ) → get_or (onto (l ∷ ls) p) (length ls) 0 ≡ l
last_onto l ls p = ap (λ i. get_or (onto ls (l ∷ p)) i 0) (omega arith) ∙ get_d_onto ls (l ∷ p) 0

pub passed_onto : (l : ℕ) (ls p : List ℕ) → passed (onto (l ∷ ls) p) (length ls) ≡ l ∷ ls
passed_onto l [] p = refl
passed_onto l (m ∷ ms) p = rw (last_onto l (m ∷ ms) p, passed_onto m ms (l ∷ p))

-- ---- chains

-- the nodes follow each other from the root, the latest first; the increments up to the latest add up to c
pub data Chain (g : Graph) : List ℕ → ℕ → Type 0 where
  first : {u c : ℕ} → u ∈ g.successors 0 → c ≡ increment g 0 u → Chain g (u ∷ []) c
  next : {u w c d : ℕ} {us : List ℕ} → u ∈ g.successors w → w < sink g → Chain g (w ∷ us) d → c ≡ d + increment g w u → Chain g (u ∷ w ∷ us) c

-- a full path through these nodes
abbrev pub through : Graph → List ℕ → List ℕ
through g us = 0 ∷ onto us (sink g ∷ [])

module _ {g : Graph} where
  chain-path : {us p : List ℕ} {c : ℕ} → Chain g us c → ArcPath g (latest us) p → ArcPath g 0 (onto us p)
  unfolding sink
  chain-path (first m e) w = along {u = 0} (omega arith) m w
  chain-path (next m h c e) w = chain-path c (along h m w)

  chain-code : {us : List ℕ} {c : ℕ} → Chain g us c → (p : List ℕ) → code_from g 0 (onto us p) ≡ c + code_from g (latest us) p
  unfolding code_from
  chain-code (first m e) p = rw e
  chain-code (next {u} m h k e) p = chain-code k (u ∷ p) ∙ omega arith

module _ {g : Graph} (ok : Sound g) where
  pub chain-above : {us : List ℕ} {c : ℕ} → Chain g us c → 0 < latest us
  unfolding sink
  chain-above (first m e) = (ok.rises (omega arith) m).0
  chain-above (next m h c e) = omega (arith, ok.rises h m)

  -- a full path by its nodes
  pub record Nodes (p : List ℕ) : Type 0 where
    pub node : ℕ
    pub earlier : List ℕ
    pub code : ℕ
    pub chain : Chain g (node ∷ earlier) code
    pub below : node < sink g
    pub ends : sink g ∈ g.successors node
    pub path : p ≡ through g (node ∷ earlier)

  path_end : {s : ℕ} {p : List ℕ} → ArcPath g s p → s ≡ sink g → p ≡ []
  path_end (arrived e) q = refl
  path_end (along l m w) q = absurd (omega arith)

  nodes_along : {u c : ℕ} {us p : List ℕ} → ArcPath g u p → u < sink g → Chain g (u ∷ us) c → Nodes (0 ∷ onto (u ∷ us) p)
  nodes_along (arrived e) h c = absurd (omega arith)
  nodes_along {c} {us} (along {u} {s} {p} l m w) h k = elim (ℕ_discrete s (sink g)) [
    | yes q ↦ record { node = u; earlier = us; code = c; chain = k; below = h; ends = Memᴰ.cast (sym q) m; path = rw (path_end w q, q) }
    | no n ↦ nodes_along w (omega (arith, n, ok.rises l m)) (next m l k refl)
  ]

  pub path_nodes : {p : List ℕ} → FullPath g p → Nodes p
  unfolding sink
  path_nodes (from_root (arrived e)) = absurd (omega arith)
  path_nodes (from_root (along {s} l m w)) =
      let n : ¬ (s ≡ sink g) = λ e. ok.worded (Memᴰ.cast (sym e) m) in
      nodes_along w (omega (arith, n, ok.rises l m)) (first m refl)

  module _ {u c : ℕ} {us : List ℕ} (k : Chain g (u ∷ us) c) where
    pub nodes_path : u < sink g → sink g ∈ g.successors u → FullPath g (through g (u ∷ us))
    nodes_path h m = from_root (chain-path k (along h m (arrived refl)))

    pub nodes_code : path_code g (through g (u ∷ us)) ≡ c + increment g u (sink g)
    unfolding path_code code_from
    nodes_code = chain-code k (sink g ∷ []) ∙ omega arith

  -- ---- its letters

  keep : (u : ℕ) (p : List ℕ) → 0 < u → u < sink g → select (is_node g) (u ∷ p) ≡ u ∷ select (is_node g) p
  unfolding select is_node sink
  keep u p h k = rw (lt-ltb 0 u h, le-leb u g.nodes (omega arith))

  chain_letters : {us : List ℕ} {c : ℕ} → Chain g us c → latest us < sink g → (p : List ℕ)
      → select (is_node g) (onto us p) ≡ onto us (select (is_node g) p)
  chain_letters (first {u} m e) h p = keep u p (ok.rises (omega arith) m).0 h
  chain_letters (next {u} {w} {us} m l k e) h p =
      chain_letters k l (u ∷ p) ∙ ap (onto (w ∷ us)) (keep u p (omega (arith, ok.rises l m)) h)

  root_and_sink : (us : List ℕ) → (select (is_node g) (0 ∷ us) ≡ select (is_node g) us) × (select (is_node g) (sink g ∷ []) ≡ [])
  unfolding select is_node sink
  root_and_sink us = (refl, rw (lt-leb (suc g.nodes) g.nodes (omega arith), lt-ltb 0 (suc g.nodes) (omega arith)))

  pub nodes_letters : {u c : ℕ} {us : List ℕ} → Chain g (u ∷ us) c → u < sink g
      → path_letters g (through g (u ∷ us)) ≡ onto (map g.letter (u ∷ us)) []
  unfolding path_letters
  nodes_letters {u} {us} k h =
      let ends = root_and_sink (onto (u ∷ us) (sink g ∷ [])) in
      ap (map g.letter) (ends.0 ∙ chain_letters k h (sink g ∷ []) ∙ ap (onto (u ∷ us)) ends.1) ∙ map_onto g.letter (u ∷ us) []
