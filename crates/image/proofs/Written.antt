-- The image of a sound graph that keeps the limits of document 01 is a well-formed lexicon: each field is in its range,
-- since what is read is the graph, and the fields fill the image. A list has no more than N + 1 successors because they
-- differ. Assumes nothing.
use Prim.Native.Nat.{ℕ, zero, suc, ◌+◌, ◌≤◌, ◌<◌}
use mathlib.Core.Path.{◌≡◌, refl, sym, ap, ◌∙◌}
use mathlib.Core.Logic.{⊎_elim}
use mathlib.Core.Bool.{Bool, true, false, not, ◌||◌}
use mathlib.Core.List.Memᴰ.{head as here}
use mathlib.Core.List.Memᴰ.{tail as there}
use mathlib.Core.List.{List, [], ◌∷◌, ◌++◌, map, Memᴰ as In}
use mathlib.Core.List.Memᴰ.{cases_cons as cases}
use mathlib.Core.List.Memᴰ.{not-nil}
use mathlib.Core.List.Memᴰ
use mathlib.Core.List.Memᴰ.{append_cases}
use native.Mathlib.Omega.{arith}
use lib.ListN.{length}
use lib.Dec.{eqb, ltb}
use borrow.Author.Tests.{eq-eqb, ne_eqb, lt-ltb, le-leb}
use Rattle.endian.specs.Lists.{from, sum, has}
use Rattle.endian.proofs.Booleans.{and_in, not_in, or_left, or_right}
use Rattle.endian.proofs.Lists.{mem_split, from_in, from_out}
use Rattle.endian.proofs.Search.{has-mem}
use Rattle.endian.proofs.Ranges.{inside}
use Rattle.endian.proofs.Pairs.{Pairs, none, next}
use Rattle.endian.proofs.Pigeonhole.{pigeonhole}
use Rattle.voice.specs.Fields.{Field, end, well_formed}
use Rattle.voice.proofs.Fields.{AllGood, end_of, Tiles, tiles_end, verdict-good}
use Rattle.lexicon.specs.Lexicon.{node_count, node_letter, sink_of, arcs_at, arc_count, successors, reserve_at}
use Rattle.lexicon.specs.Lexicon.{node_field}
use Rattle.lexicon.specs.Lexicon.{node_fields, allowed, successor_fields, arc_fields, lexicon_fields, lexicon_verdict}
use Rattle.lexicon.proofs.Tiling.{fields_tile}
use Rattle.graph.specs.Graph.{Graph, sink}
use Rattle.graph.proofs.Sound.{Sound}
use Rattle.image.specs.Image.{image_of, arc_total}
use Rattle.image.proofs.Reading.{Fits, length_from, read-node_count, read-sink, read-letter}
use Rattle.image.proofs.Reading.{read-arc_count, read-successors, read_reserve}

-- ---- successors that stand once are no more than the vertices that they may be

abbrev Differ : ℕ → ℕ → Type 0
Differ a b = ¬ (a ≡ b)

once-differ : (l : List ℕ) → ((a m : List ℕ) (s : ℕ) → l ≡ a ++ s ∷ m → In s a → ⊥) → Pairs Differ l
once-differ [] h = none
once-differ (x ∷ l) h =
    next (λ b m e. let r = mem_split m in h (x ∷ r.0) r.1 b (ap (λ k. x ∷ k) r.2) (here (sym e)))
    (once-differ l (λ a m s q i. h (x ∷ a) m s (ap (λ k. x ∷ k) q) (there i)))

-- a graph within the limits, for L letters
pub record Writable (L : ℕ) (g : Graph) : Type 0 where
  pub sound : Sound g
  pub some : 1 ≤ g.nodes
  pub few : g.nodes ≤ 400
  pub letters : {n : ℕ} → 1 ≤ n → n ≤ g.nodes → g.letter n < L
  pub total : arc_total g ≤ 4000

module _ {L : ℕ} {g : Graph} (ok : Writable L g) where
  differ : {u : ℕ} → u < sink g → Pairs Differ (g.successors u)
  differ {u} h = once-differ (g.successors u) (ok.sound.once h)

  at_most : {u : ℕ} → u < sink g → length (g.successors u) ≤ sink g
  at_most {u} h =
      omega (
        arith,
        length_from 1 (sink g),
        pigeonhole (λ (a b : ℕ). a ≡ b) (λ a b c p q. sym p ∙ q) (from 1 (sink g)) (differ h)
            (λ b m. let r = ok.sound.rises h m in
            (b, from_in 1 (sink g) b (omega (arith, r.0)) (omega (arith, r.1)), refl)),
      )

  pub fits : Fits g
  unfolding sink
  fits = record {
    nodes = omega (arith, ok.few);
    count = λ {u} h. omega (arith, ok.few, at_most {u = u} h);
    small = λ {u} h s m. let r = ok.sound.rises {u = u} h m in omega (arith, ok.few, r.1);
  }

-- ---- the fields are in their ranges

abbrev InRange : List Field → Type 0
InRange fields = (f : Field) → In f fields → f.in_range ≡ true

not-has : (s : ℕ) (l : List ℕ) → (In s l → ⊥) → has s l ≡ false
not-has s l n = go (has s l) refl
  where
    go : (t : Bool) → has s l ≡ t → t ≡ false
    go true e = absurd (n (has-mem l e))
    go false e = refl

-- the root does not lead to the sink
not-from-root : (u s b : ℕ) → (u ≡ 0 → s ≡ b → ⊥) → ltb 0 u || not (eqb s b) ≡ true
not-from-root zero s b h = or_right (ltb 0 0) (not (eqb s b)) (not_in (ne_eqb s b (h refl)))
not-from-root (suc u) s b h = or_left (ltb 0 (suc u)) (not (eqb s b)) (lt-ltb 0 (suc u) (omega arith))

-- s may stand in the list of u
record May (x : List ℕ) (u s : ℕ) : Type 0 where
  rises : u < s
  bounded : s ≤ sink_of x
  worded : u ≡ 0 → s ≡ sink_of x → ⊥

successor_ranges : (x : List ℕ) (u at : ℕ) (earlier : List ℕ) {l : List ℕ} → Pairs Differ l
    → ((s : ℕ) → In s l → May x u s × (In s earlier → ⊥)) → InRange (successor_fields x u at earlier l)
unfolding successor_fields allowed
successor_ranges x u at earlier none h f m = absurd (not-nil m)
successor_ranges x u at earlier (next {a = s} {l = l} r p) h f m = ⊎_elim
    (λ e. rw e (let k = h s (here refl) in let y = k.0 in
    and_in
    (and_in (and_in (lt-ltb u s y.rises) (le-leb s (sink_of x) y.bounded)) (not_in (not-has s earlier k.1)))
    (not-from-root u s (sink_of x) y.worded)))
    (successor_ranges x u (at + 2) (s ∷ earlier) p
    (λ t i. let k = h t (there i) in (k.0, λ j. ⊎_elim (λ e. r t i (sym e)) k.1 (cases j))) f)
    (cases m)

module _ {L : ℕ} {g : Graph} (ok : Writable L g) where
  -- the image
  abbrev x : List ℕ
  x = image_of g

  may : {u : ℕ} → u < sink g → (s : ℕ) → In s (g.successors u) → May x u s
  may {u} h s m =
      let r = ok.sound.rises h m in
      record {
        rises = r.0;
        bounded = rw (read-sink g (fits ok)) r.1;
        worded = λ z e. ok.sound.worded (from_root z (e ∙ read-sink g (fits ok)));
      }
    where
      from_root : u ≡ 0 → s ≡ sink g → In (sink g) (g.successors 0)
      from_root z e = rw (z, e) at m

  arc_ranges : (u total n : ℕ) → u + n ≡ sink g → total + sum (map (λ w. length (g.successors w)) (from u n)) ≤ 4000
      → InRange (arc_fields x u total n)
  unfolding arc_fields from sum
  arc_ranges u total zero e h f m = absurd (not-nil m)
  arc_ranges u total (suc n) e h f m =
      let below : u < sink g = omega arith in
      let c = read-arc_count g (fits ok) below in
      let own : InRange (successor_fields x u (arcs_at x u + 2) [] (successors x u)) =
      rw (read-successors g (fits ok) below)
      (successor_ranges x u (arcs_at x u + 2) [] (differ ok below) (λ s i. (may below s i, not-nil))) in
      let later : InRange (arc_fields x (suc u) (total + arc_count x u) n) =
      arc_ranges (suc u) (total + arc_count x u) n (omega arith) (rw c (omega arith)) in
      let count = length (g.successors u) in
      ⊎_elim
      (λ q. rw q (rw (c, read-sink g (fits ok))
      (and_in
      (inside 1 (sink g) count (ok.sound.onward below) (at_most ok below))
      (le-leb (total + count) 4000 (omega arith)))))
      (λ k. ⊎_elim (own f) (later f) (append_cases (successor_fields x u (arcs_at x u + 2) [] (successors x u)) k))
      (cases m)

  ranges : InRange (lexicon_fields L x)
  unfolding lexicon_fields node_fields arc_total
  ranges f m = ⊎_elim
      (λ e. rw e (rw (read-node_count g (fits ok)) (inside 1 400 g.nodes ok.some ok.few)))
      (λ k. ⊎_elim
      (λ k. ⊎_elim nodes arcs (append_cases (node_fields L x) k))
      (λ k. ⊎_elim (λ e. rw e (eq-eqb _ 0 (read_reserve g (fits ok)).1)) (λ i. absurd (not-nil i)) (cases k))
      (append_cases (node_fields L x ++ arc_fields x 0 0 (sink_of x)) k))
      (cases m)
    where
      nodes : In f (map (node_field L x) (from 1 (node_count x))) → f.in_range ≡ true
      nodes i =
          let t = Memᴰ.of_map (node_field L x) (from 1 (node_count x)) i in
          let n = t.0 in
          let b = from_out 1 (node_count x) t.1 in
          let c = read-node_count g (fits ok) in
          let high : n ≤ g.nodes = omega (arith, b.1, c) in
          rw (← t.2) (lt-ltb (node_letter x n) L (rw (read-letter g (fits ok) b.0 high) (ok.letters b.0 high)))

      arcs : In f (arc_fields x 0 0 (sink_of x)) → f.in_range ≡ true
      arcs i =
          arc_ranges 0 0 (sink_of x) (omega (arith, read-sink g (fits ok)))
          (rw (read-sink g (fits ok)) (omega (arith, ok.total))) f i

-- ---- and the image is well formed

tiles_inside : (a b : ℕ) (l : List Field) → Tiles a b l → (a ≤ b) × ((f : Field) → In f l → end f ≤ b)
tiles_inside a b [] t = (omega arith, λ f m. absurd (not-nil m))
tiles_inside a b (f ∷ l) t =
    let ih = tiles_inside (end f) b l t.1 in
    let e = t.0 in
    (omega (arith, ih.0), λ k m. ⊎_elim (λ q. rw q ih.0) (ih.1 k) (cases m))

pub formed : {L : ℕ} {g : Graph} → Writable L g → lexicon_verdict L (image_of g) ≡ well_formed
unfolding lexicon_verdict
formed {L} {g} ok =
    let x = image_of g in
    let fields = lexicon_fields L x in
    let size = (read_reserve g (fits ok)).0 in
    let t = fields_tile L x in
    let good : AllGood (length x) fields =
    λ f m. record { there = rw size at ((tiles_inside 0 (reserve_at x + 2) fields t).1 f m); in_range = ranges ok f m }
    in
    verdict-good 0 fields good
    ∙ rw (eq-eqb (end_of 0 fields) (length x) (tiles_end 0 (reserve_at x + 2) fields t ∙ size))
