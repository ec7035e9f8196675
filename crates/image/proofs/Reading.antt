-- What is read from the image of a graph is the graph: each list stands behind the lists of the vertices below it. For
-- any graph whose numbers are below 65,536. Assumes nothing.
use Prim.Native.Nat.{ℕ, zero, suc, ◌+◌, ◌*◌, ◌-◌, ◌≤◌, ◌<◌}
use mathlib.Core.Path.{◌≡◌, refl, sym, ap, ◌∙◌}
use mathlib.Core.List.{List, [], ◌∷◌, ◌++◌, map, flat_map, append_assoc, append-nil}
use mathlib.Core.List.Memᴰ.{head as here}
use mathlib.Core.List.Memᴰ.{tail as there}
use mathlib.Core.List.{Memᴰ as In}
use native.Mathlib.Nat.{add_assoc, add-zero, zero-add}
use native.Mathlib.Numerals.{add-one}
use native.Mathlib.Omega.{arith}
use lib.ListN.{length, get_or, length-append, length-map, get_or-append}
use lib.Seq.{get_or-append-add}
use Rattle.endian.specs.Lists.{from}
use Rattle.endian.specs.Bytes.{u8, u16, u16s}
use Rattle.endian.proofs.Lists.{flat_map_append, from-add, length_pieces}
use Rattle.lexicon.specs.Lexicon.{node_count, sink_of, node_letter, arcs_at, arc_count, successors, reserve_at}
use Rattle.graph.specs.Graph.{Graph, sink}
use Rattle.endian.specs.Bytes.{u16_bytes}
use Rattle.image.specs.Image.{list_bytes, image_of}

-- ---- numbers

u16-behind : (before b : List ℕ) (at : ℕ) → u16 (before ++ b) (length before + at) ≡ u16 b at
unfolding u16
u16-behind before b at = simp (add_assoc, get_or-append-add)

u16-first : (later : List ℕ) (n : ℕ) → n < 65536 → u16 (u16_bytes n ++ later) 0 ≡ n
unfolding u16 u16_bytes
u16-first later n h = omega arith

pub u16-read : {x : List ℕ} (before later : List ℕ) (n : ℕ) {at : ℕ} → x ≡ before ++ (u16_bytes n ++ later)
    → at ≡ length before → n < 65536 → u16 x at ≡ n
u16-read before later n e q h =
    rw (e, q)
    (ap (u16 (before ++ (u16_bytes n ++ later))) (sym (add-zero (length before)))
    ∙ u16-behind before (u16_bytes n ++ later) 0
    ∙ u16-first later n h)

pub length-u16 : (n : ℕ) → length (u16_bytes n) ≡ 2
unfolding u16_bytes
length-u16 n = refl

pub length-u16s : (l : List ℕ) → length (flat_map u16_bytes l) ≡ 2 * length l
length-u16s l = omega (arith, length_pieces u16_bytes 2 length-u16 l)

pub length-list : (l : List ℕ) → length (list_bytes l) ≡ 2 + 2 * length l
unfolding list_bytes
length-list l =
    omega (arith, length-append (u16_bytes (length l)) (flat_map u16_bytes l), length-u16 (length l), length-u16s l)

-- each is below 65,536
abbrev pub Small : List ℕ → Type 0
Small l = (s : ℕ) → In s l → s < 65536

u16s-read : {x : List ℕ} (before l later : List ℕ) {at : ℕ} → x ≡ before ++ (flat_map u16_bytes l ++ later)
    → at ≡ length before → Small l → u16s x at (length l) ≡ l
unfolding u16s flat_map
u16s-read before [] later e q h = refl
u16s-read {x} before (s ∷ l) later {at} e q h =
    let f : x ≡ before ++ (u16_bytes s ++ (flat_map u16_bytes l ++ later)) =
    e ∙ ap (λ b. before ++ b) (append_assoc (u16_bytes s) (flat_map u16_bytes l) later) in
    let g : x ≡ (before ++ u16_bytes s) ++ (flat_map u16_bytes l ++ later) =
    f ∙ sym (append_assoc before (u16_bytes s) (flat_map u16_bytes l ++ later)) in
    rw (
      u16-read before (flat_map u16_bytes l ++ later) s f q (h s (here refl)),
      u16s-read (before ++ u16_bytes s) l later {at = at + 2} g
          (omega (arith, length-append before (u16_bytes s), length-u16 s)) (λ t m. h t (there m)),
    )

-- ---- the image

pub length_from : (a n : ℕ) → length (from a n) ≡ n
unfolding from
length_from a zero = refl
length_from a (suc n) = ap suc (length_from (suc a) n)

pub record Fits (g : Graph) : Type 0 where
  pub nodes : g.nodes < 65536
  pub count : {u : ℕ} → u < sink g → length (g.successors u) < 65536
  pub small : {u : ℕ} → u < sink g → Small (g.successors u)

module _ (g : Graph) (fits : Fits g) where
  letters : List ℕ
  letters = map g.letter (from 1 g.nodes)

  -- the lists of n vertices from u on
  lists : ℕ → ℕ → List ℕ
  lists u n = flat_map (λ w. list_bytes (g.successors w)) (from u n)

  -- what stands before the list of u
  front : ℕ → List ℕ
  front u = (u16_bytes g.nodes ++ letters) ++ lists 0 u

  lists-more : (u : ℕ) → lists 0 (suc u) ≡ lists 0 u ++ list_bytes (g.successors u)
  unfolding lists from flat_map
  lists-more u =
      ap (λ n. flat_map (λ w. list_bytes (g.successors w)) (from 0 n)) (sym (add-one u))
      ∙ ap (flat_map (λ w. list_bytes (g.successors w))) (from-add 0 u 1)
      ∙ flat_map_append (λ w. list_bytes (g.successors w)) (from 0 u) (from (0 + u) 1)
      ∙ rw (zero-add, append-nil)

  length_front : (u : ℕ) → length (front (suc u)) ≡ length (front u) + 2 + 2 * length (g.successors u)
  unfolding front
  length_front u =
      let before = u16_bytes g.nodes ++ letters in
      omega (
        arith,
        length-append before (lists 0 (suc u)),
        length-append before (lists 0 u),
        ap length (lists-more u),
        length-append (lists 0 u) (list_bytes (g.successors u)),
        length-list (g.successors u),
      )

  length-start : length (front 0) ≡ 2 + g.nodes
  unfolding front lists from flat_map letters
  length-start =
      omega (
        arith,
        length-append (u16_bytes g.nodes ++ letters) [],
        length-append (u16_bytes g.nodes) letters,
        length-u16 g.nodes,
        length-map (from 1 g.nodes) g.letter,
        length_from 1 g.nodes,
      )

  -- the image from the list of u on
  image-at : (u n : ℕ) → u + n ≡ sink g → image_of g ≡ front u ++ (lists u n ++ u16_bytes 0)
  unfolding image_of front lists letters
  image-at u n e =
      let f : ℕ → List ℕ = λ w. list_bytes (g.successors w) in
      let before = u16_bytes g.nodes ++ map g.letter (from 1 g.nodes) in
      let s : flat_map f (from 0 (sink g)) ≡ flat_map f (from 0 u) ++ flat_map f (from u n) =
      ap (λ k. flat_map f (from 0 k)) (sym e)
      ∙ ap (flat_map f) (from-add 0 u n)
      ∙ flat_map_append f (from 0 u) (from (0 + u) n)
      ∙ rw zero-add in
      ap (λ l. (before ++ l) ++ u16_bytes 0) s ∙ simp append_assoc

  -- and the list of u itself
  image-list : {u : ℕ} → u < sink g
      → (later : List ℕ)
      × (image_of g ≡ front u
      ++ (u16_bytes (length (g.successors u)) ++ (flat_map u16_bytes (g.successors u) ++ later)))
  unfolding lists from flat_map list_bytes
  image-list {u} h =
      let n = sink g - suc u in
      let e : u + suc n ≡ sink g = omega arith in
      (lists (suc u) n ++ u16_bytes 0, image-at u (suc n) e ∙ simp append_assoc)

  read-nodes : node_count (image_of g) ≡ g.nodes
  unfolding node_count image_of
  read-nodes =
      let later = map g.letter (from 1 g.nodes)
      ++ (flat_map (λ u. list_bytes (g.successors u)) (from 0 (sink g)) ++ u16_bytes 0) in
      u16-read {x = image_of g} [] later g.nodes (simp append_assoc) refl fits.nodes

  read_count : {u at : ℕ} → u < sink g → at ≡ length (front u) → u16 (image_of g) at ≡ length (g.successors u)
  read_count {u} h e = let i = image-list h in u16-read (front u) _ (length (g.successors u)) i.1 e (fits.count h)

  arcs-at : (u : ℕ) → u ≤ sink g → arcs_at (image_of g) u ≡ length (front u)
  unfolding arcs_at
  arcs-at zero h = ap (λ n. 2 + n) read-nodes ∙ sym length-start
  arcs-at (suc u) h =
      let ih = arcs-at u (omega arith) in
      let c = read_count {u = u} (omega arith) ih in
      omega (arith, ih, c, length_front u)

  pub read-sink : sink_of (image_of g) ≡ sink g
  unfolding sink_of sink
  read-sink = ap suc read-nodes

  pub read-arc_count : {u : ℕ} → u < sink g → arc_count (image_of g) u ≡ length (g.successors u)
  unfolding arc_count
  read-arc_count {u} h = read_count h (arcs-at u (omega arith))

  pub read-successors : {u : ℕ} → u < sink g → successors (image_of g) u ≡ g.successors u
  unfolding successors
  read-successors {u} h =
      let i = image-list h in
      let b = front u ++ u16_bytes (length (g.successors u)) in
      rw (read-arc_count h)
      (u16s-read b (g.successors u) i.0
      (i.1 ∙ sym (append_assoc (front u) (u16_bytes (length (g.successors u)))
      (flat_map u16_bytes (g.successors u) ++ i.0)))
      (omega (
        arith,
        arcs-at u (omega arith),
        length-append (front u) (u16_bytes (length (g.successors u))),
        length-u16 (length (g.successors u)),
      ))
      (fits.small h))

  letter_at_lem : (a m i : ℕ) → i < m → get_or (map g.letter (from a m)) i 0 ≡ g.letter (a + i)
  unfolding from
  letter_at_lem a zero i h = absurd (omega arith)
  letter_at_lem a (suc m) zero h = ap g.letter (omega arith)
  letter_at_lem a (suc m) (suc i) h = letter_at_lem (suc a) m i (omega arith) ∙ ap g.letter (omega arith)

  pub read-letter : {n : ℕ} → 1 ≤ n → n ≤ g.nodes → node_letter (image_of g) n ≡ g.letter n
  unfolding node_letter image_of
  read-letter {n} h k =
      let l = map g.letter (from 1 g.nodes) in
      let later = flat_map (λ u. list_bytes (g.successors u)) (from 0 (sink g)) ++ u16_bytes 0 in
      let i = n - 1 in
      let q : 1 + n ≡ length (u16_bytes g.nodes) + i = omega (arith, length-u16 g.nodes) in
      let x : image_of g ≡ u16_bytes g.nodes ++ (l ++ later) = simp append_assoc in
      ap (λ b. u8 b (1 + n)) x
      ∙ ap (u8 (u16_bytes g.nodes ++ (l ++ later))) q
      ∙ get_or-append-add (u16_bytes g.nodes) (l ++ later) i 0
      ∙ get_or-append l later 0 i
      (omega (arith, length-map (from 1 g.nodes) g.letter, length_from 1 g.nodes))
      ∙ letter_at_lem 1 g.nodes i (omega arith)
      ∙ ap g.letter (omega arith)

  pub read-node_count : node_count (image_of g) ≡ g.nodes
  read-node_count = read-nodes

  whole : image_of g ≡ front (sink g) ++ (u16_bytes 0 ++ [])
  unfolding lists from flat_map
  whole = image-at (sink g) 0 (add-zero (sink g)) ∙ ap (λ l. front (sink g) ++ l) (sym (append-nil (u16_bytes 0)))

  -- the reserve is the last field, and is 0
  pub read_reserve : (reserve_at (image_of g) + 2 ≡ length (image_of g))
      × (u16 (image_of g) (reserve_at (image_of g)) ≡ 0)
  unfolding reserve_at
  read_reserve =
      let a : arcs_at (image_of g) (sink_of (image_of g)) ≡ length (front (sink g)) =
      ap (arcs_at (image_of g)) read-sink ∙ arcs-at (sink g) (omega arith) in
      let i = whole in (
        omega (
          arith,
          a,
          ap length i,
          length-append (front (sink g)) (u16_bytes 0 ++ []),
          length-append (u16_bytes 0) [],
          length-u16 0,
        ),
        u16-read (front (sink g)) [] 0 i a (omega arith),
      )
