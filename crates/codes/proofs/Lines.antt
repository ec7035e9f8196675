-- The lines that the walk writes: at the sink the word and byte 10, at a node the lines over its arcs, with its letter added to the word. From
-- the root on they are the listing. And how the lines of one call follow those of another. Assumes nothing.
use mathlib.Core.Path.{◌≡◌, refl, sym, ap, ◌∙◌}
use mathlib.Core.List.{List, [], ◌∷◌, ◌++◌, map, flat_map, append-nil, append_assoc, Memᴰ}
use Prim.Native.Nat.{ℕ, ◌+◌, ◌≤◌, ◌<◌}
use native.Mathlib.Numerals.{add-one}
use native.Mathlib.Omega.{arith}
use lib.ListN.{length, take, drop, set, get_or, length-append, length-set, take-append-drop}
use lib.Seq.{append_snoc, drop-drop, take-take, take-suc, take-set-le, drop-set-lt, take-suc-set}
use Rattle.endian.proofs.Lists.{flat_map_cong, flat_map_map, flat_map_append}
use Rattle.voice.specs.Voice.{print_byte}
use Rattle.graph.specs.Graph.{Graph, sink, ways, full_paths}
use Rattle.graph.specs.Words.{word_of_path}
use Rattle.graph.proofs.Sound.{Sound}
use Rattle.graph.proofs.Ways.{ways-sink, ways-below, way_on, some-way}
use Rattle.codes.specs.Lookup.{listing}
use Rattle.codes.specs.Lines.{lines_from, lines_over, Fits, Wrote}
use Rattle.codes.proofs.Words.{word-node, word-root, word-sink}

flat_map_flat_map : {A B C : Type 0} (f : B → List C) (h : A → List B) (l : List A) → flat_map f (flat_map h l) ≡ flat_map (λ a. flat_map f (h a)) l
unfolding flat_map
flat_map_flat_map f h [] = refl
flat_map_flat_map f h (a ∷ l) = flat_map_append f (h a) (flat_map h l) ∙ rw (flat_map_flat_map f h l)

-- ---- over the arcs of a vertex

module _ (v : List ℕ) (g : Graph) (w : List ℕ) where
  pub over_none : lines_over v g [] w ≡ []
  unfolding lines_over flat_map
  over_none = refl

  -- one vertex more
  pub over-more : (l : List ℕ) (i : ℕ) → i < length l → lines_over v g (take (i + 1) l) w ≡ lines_over v g (take i l) w ++ lines_from v g (get_or l i 0) w
  unfolding lines_over flat_map
  over-more l i h =
      rw (add-one i, take-suc l i 0 h)
      (flat_map_append (λ s. lines_from v g s w) (take i l) (get_or l i 0 ∷ []) ∙ rw (append-nil (lines_from v g (get_or l i 0) w)))

  over_both : (l : List ℕ) (i : ℕ) → lines_over v g l w ≡ lines_over v g (take i l) w ++ lines_over v g (drop i l) w
  unfolding lines_over
  over_both l i = ap (flat_map (λ s. lines_from v g s w)) (sym (take-append-drop i l)) ∙ flat_map_append (λ s. lines_from v g s w) (take i l) (drop i l)

  pub over-part : (l : List ℕ) (i : ℕ) → length (lines_over v g (take i l) w) ≤ length (lines_over v g l w)
  over-part l i = omega (arith, ap length (over_both l i), length-append (lines_over v g (take i l) w) (lines_over v g (drop i l) w))

-- ---- a vertex

module _ {g : Graph} (ok : Sound g) (v : List ℕ) (w : List ℕ) where
  pub lines-sink : lines_from v g (sink g) w ≡ w ++ (10 ∷ [])
  unfolding lines_from flat_map
  lines-sink = rw (ways-sink ok, word-sink v g, append-nil (w ++ [] ++ (10 ∷ [])), append-nil w)

  -- below the sink, where w' is the word with the letter of u, if it has one
  lines-below : {u : ℕ} → u < sink g → (w' : List ℕ) → ((p : List ℕ) → w ++ word_of_path v g (u ∷ p) ≡ w' ++ word_of_path v g p)
      → lines_from v g u w ≡ lines_over v g (g.successors u) w'
  unfolding lines_from lines_over
  lines-below {u} h w' e =
      ap (flat_map (λ p. w ++ word_of_path v g (u ∷ p) ++ (10 ∷ []))) (ways-below ok h)
      ∙ flat_map_flat_map (λ p. w ++ word_of_path v g (u ∷ p) ++ (10 ∷ [])) (λ s. map (λ p. s ∷ p) (ways g (sink g) s)) (g.successors u)
      ∙ flat_map_cong _ _ (g.successors u)
      (λ s m. flat_map_map (λ p. w ++ word_of_path v g (u ∷ p) ++ (10 ∷ [])) (λ p. s ∷ p) (ways g (sink g) s)
      ∙ flat_map_cong _ _ (ways g (sink g) s) (λ p k. ap (λ (l : List ℕ). l ++ (10 ∷ [])) (e (s ∷ p))))

  pub lines-node : {u : ℕ} → 0 < u → u < sink g → lines_from v g u w ≡ lines_over v g (g.successors u) (w ++ (print_byte v (g.letter u) ∷ []))
  lines-node {u} h k =
      lines-below k (w ++ (print_byte v (g.letter u) ∷ []))
      (λ p. ap (λ (l : List ℕ). w ++ l) (word-node v g p h k) ∙ sym (append_snoc w (print_byte v (g.letter u)) (word_of_path v g p)))

  pub lines-root : 0 < sink g → lines_from v g 0 w ≡ lines_over v g (g.successors 0) w
  lines-root h = lines-below h w (λ p. ap (λ (l : List ℕ). w ++ l) (word-root v g p))

-- from the root on, with nothing spelled, they are the listing
pub listing-lines : (v : List ℕ) (g : Graph) → listing v g ≡ lines_from v g 0 []
unfolding listing lines_from full_paths
listing-lines v g = flat_map_map (λ p. word_of_path v g p ++ (10 ∷ [])) (λ p. 0 ∷ p) (ways g (sink g) 0)

-- ---- the room for a word

module _ {g : Graph} (ok : Sound g) (v : List ℕ) where
  -- a node finds room for its letter, and its successors for theirs
  pub fits-letter : {u depth : ℕ} → 0 < u → u < sink g → Fits v g depth u → depth < 32
  fits-letter {u} h k f =
      let p = some-way ok {u = u} (omega arith) in
      omega (arith, f p.0 p.1, ap length (word-node v g p.0 h k))

  pub fits_next : {u s : ℕ} (depth : ℕ) → 0 < u → u < sink g → Fits v g depth u → Memᴰ s (g.successors u) → Fits v g (depth + 1) s
  fits_next {s = s} depth h k f m p i = omega (arith, f (s ∷ p) (way_on ok k m i), ap length (word-node v g (s ∷ p) h k))

-- ---- what a call has written

pub wrote_none : {l : List ℕ} {depth at : ℕ} {word out : List ℕ} → l ≡ [] → Wrote l depth at word word out out at
wrote_none {l} {depth} {at} {word} {out} e = record { ends = rw e (omega arith); before = rw (e, append-nil); after = refl; kept = refl; long = refl }

-- one call after another
pub wrote_both : {l l₁ l₂ : List ℕ} {depth at mid end : ℕ} {word word₁ word₂ out out₁ out₂ : List ℕ} → l ≡ l₁ ++ l₂
    → Wrote l₁ depth at word word₁ out out₁ mid → Wrote l₂ depth mid word₁ word₂ out₁ out₂ end → Wrote l depth at word word₂ out out₂ end
wrote_both {l} {l₁} {l₂} {depth} {at} {mid} {end} {word} {word₁} {word₂} {out} {out₁} {out₂} e a b = record {
  ends = omega (arith, a.ends, b.ends, ap length e, length-append l₁ l₂);
  before = b.before ∙ rw (a.before, e, append_assoc);
  after = b.after ∙ rw b.ends (sym (drop-drop (length l₂) mid out₁) ∙ ap (drop (length l₂)) a.after ∙ drop-drop (length l₂) mid out);
  kept = b.kept ∙ a.kept;
  long = b.long ∙ a.long;
}

-- one letter more of the word was stored before the call
pub wrote-letter : {l l' : List ℕ} {depth at end : ℕ} {word' out out' : List ℕ} (word : List ℕ) (b : ℕ) → l ≡ l'
    → Wrote l' (depth + 1) at (set word depth b) word' out out' end → Wrote l depth at word word' out out' end
wrote-letter {l} {l'} {depth} {at} {end} {word'} {out} {out'} word b e a = record {
  ends = rw e a.ends;
  before = rw e a.before;
  after = a.after;
  kept =
      sym (take-take depth (depth + 1) word' (omega arith)) ∙ ap (take depth) a.kept ∙ take-take depth (depth + 1) (set word depth b) (omega arith)
      ∙ take-set-le depth word depth b (omega arith);
  long = a.long ∙ length-set word depth b;
}

-- the word with one letter more
pub one-letter : (word : List ℕ) (depth b : ℕ) → depth < length word → take (depth + 1) (set word depth b) ≡ take depth word ++ (b ∷ [])
one-letter word depth b h = rw add-one (take-suc-set word depth b h)

-- one byte more, after what was written
pub wrote-more : {l : List ℕ} {depth at end : ℕ} {word word' out out' : List ℕ} (b : ℕ) → end < length out'
    → Wrote l depth at word word' out out' end → Wrote (l ++ (b ∷ [])) depth at word word' out (set out' end b) (end + 1)
wrote-more {l} {depth} {at} {end} {word} {word'} {out} {out'} b h a = record {
  ends = omega (arith, a.ends, length-append l (b ∷ []));
  before = rw (add-one end, take-suc-set out' end b h, a.before, append_assoc (take at out) l (b ∷ []));
  after = drop-set-lt (end + 1) out' end b (omega arith) ∙ sym (drop-drop 1 end out') ∙ ap (drop 1) a.after ∙ drop-drop 1 end out;
  kept = a.kept;
  long = a.long;
}
