-- The lines of the program arcs: numbers put one after another, the part of the image as a vertex's successors, and
-- line after line. How many bytes they take goes by where the lists stand in the image: 12 for each successor, which
-- takes two bytes there. Assumes nothing.
use Prim.Native.Nat.{ℕ, zero, suc, ◌+◌, ◌*◌, ◌/◌, ◌^◌, ◌≤◌, ◌<◌}
use mathlib.Core.Path.{◌≡◌, refl, ap, ◌∙◌}
use mathlib.Core.List.{List, [], ◌∷◌, ◌++◌, flat_map, append-nil}
use mathlib.Core.Option.{none, some}
use native.Mathlib.Nat.{zero-add, add_assoc}
use native.Mathlib.Numerals.{add-one}
use native.Mathlib.Omega.{arith}
use lib.ListN.{length, get_or, drop, length-take, length-drop}
use lib.Seq.{get_or-take, get_or-drop}
use Rattle.std.specs.Simd.{first_chunks}
use borrow.Author.Tests.{le-leb}
use Rattle.endian.specs.Lists.{from}
use Rattle.endian.specs.Bytes.{u16, u16s}
use Rattle.endian.proofs.Lists.{flat_map_append, from-add}
use Rattle.call.specs.declared.Refusal.{Refusal}
use Rattle.call.specs.Table.{number}
use Rattle.voice.specs.Fields.{well_formed}
use Rattle.lexicon.specs.Lexicon.{node_count, sink_of, node_letter, arcs_at, arc_count, successors, successor_part}
use Rattle.lexicon.specs.Lexicon.{lexicon_verdict, lexicon_refused}
use Rattle.lexicon.proofs.Readers.{part-successors}
use Rattle.lexicon.proofs.Shape.{shape, arcs-next, arcs-below}
use Rattle.report.specs.Arcs.{spaced, letter_text, vertex_line, arcs_printed, arcs_text}
use Rattle.report.specs.Report.{decimal, refused_text}
use Rattle.report.specs.Text.{TextPut, Written}
use Rattle.report.specs.declared.Page.{Page}
use Rattle.report.proofs.Digits.{labelled_short}
use Rattle.report.proofs.Putting.{put-none, put-more}

-- ---- numbers

numbers_more : (b : List ℕ) (at n : ℕ) → u16s b at (suc n) ≡ u16s b at n ++ (u16 b (at + 2 * n) ∷ [])
unfolding u16s
numbers_more b at zero = let e : at + 2 * 0 ≡ at = omega arith in rw e
numbers_more b at (suc n) =
    let e : at + 2 + 2 * n ≡ at + 2 * suc n = omega arith in
    ap (λ (l : List ℕ). u16 b at ∷ l)
    (numbers_more b (at + 2) n ∙ ap (λ (j : ℕ). u16s b (at + 2) n ++ (u16 b j ∷ [])) e)

spaced-more : (b : List ℕ) (i : ℕ) → spaced (u16s b 0 (i + 1)) ≡ spaced (u16s b 0 i) ++ (32 ∷ decimal (u16 b (2 * i)))
unfolding spaced flat_map
spaced-more b i =
    let n = u16 b (2 * i) in
    let e : 0 + 2 * i ≡ 2 * i = omega arith in
    rw (add-one i, numbers_more b 0 i, e)
    (flat_map_append (λ n. 32 ∷ decimal n) (u16s b 0 i) (n ∷ []) ∙ rw (append-nil (32 ∷ decimal n)))

-- the number of a pair is the part's at twice its place
pair_at : (i n : ℕ) (part : List ℕ) → i < n → u16 (get_or (first_chunks 2 n part) i []) 0 ≡ u16 part (2 * i)
unfolding u16
pair_at i zero part h = absurd (omega arith)
pair_at zero (suc n) part h = rw (get_or-take 2 part 0 0 (omega arith), get_or-take 2 part 1 0 (omega arith)) refl
pair_at (suc i) (suc n) part h =
    let e : 2 * suc i ≡ 2 + 2 * i = omega arith in
    rw (e, add_assoc 2 (2 * i) 1, ← get_or-drop 2 part (2 * i) 0, ← get_or-drop 2 part (2 * i + 1) 0)
    (pair_at i n (drop 2 part) (omega arith))

pub pair-number : (part : List ℕ) (i : ℕ) {pairs : List (List ℕ)} {n : ℕ}
    → pairs ≡ first_chunks 2 (length part / 2) part → i < length part / 2 → n ≡ u16 (get_or pairs i []) 0 → n ≡ u16 part (2 * i)
pair-number part i e h is = is ∙ rw e (pair_at i (length part / 2) part h)

-- the first i numbers of a part are put
pub record NumbersPut {N : ℕ} (part : List ℕ) (page₀ page : Page N) (i : ℕ) : Type 0 where
  pub inside : i ≤ length part / 2
  pub few_bytes : page.length ≤ page₀.length + 11 * i
  pub text : Written (spaced (u16s part 0 i)) page₀ page

module _ {N : ℕ} {part : List ℕ} {page₀ : Page N} where
  pub numbers-start : NumbersPut part page₀ page₀ 0
  unfolding u16s spaced flat_map
  numbers-start = record { inside = omega arith; few_bytes = omega arith; text = put-none page₀.length page₀.text }

  pub numbers-next : {page page' : Page N} {i n : ℕ} → page₀.length ≤ length page₀.text → NumbersPut part page₀ page i
      → i < length part / 2 → n ≡ u16 part (2 * i) → n < 2 ^ 32
      → Written ((32 ∷ []) ++ decimal n) page page'
      → NumbersPut part page₀ page' (i + 1)
  numbers-next {page} {page'} {i} {n} room p h e f q =
      let one : Written (32 ∷ decimal (u16 part (2 * i))) page page' = rw e at q in
      record {
        inside = omega arith;
        few_bytes = omega (arith, p.few_bytes, q.ends, labelled_short (32 ∷ []) n f);
        text = rw (spaced-more part i) (put-more room p.text one);
      }

  pub numbers_end : {page : Page N} {i : ℕ} → NumbersPut part page₀ page i → length part / 2 ≤ i
      → Written (spaced (u16s part 0 (length part / 2))) page₀ page × (page.length ≤ page₀.length + 6 * length part)
  numbers_end {i = i} p h =
      let e : i ≡ length part / 2 = omega (arith, p.inside) in
      (rw e at p.text, omega (arith, p.few_bytes))

-- ---- a vertex

-- the root has no letter
pub no-letter : (x out : List ℕ) (at u : ℕ) → u ≡ 0 → TextPut (letter_text x u) at out out at
unfolding letter_text
no-letter x out at u e = rw e (put-none at out)

pub letter-put : (x : List ℕ) (u : ℕ) → ¬ (u ≡ 0) → letter_text x u ≡ (32 ∷ []) ++ decimal (get_or x (1 + u) 0)
unfolding letter_text node_letter
letter-put x zero h = absurd (h refl)
letter-put x (suc n) h = refl

module _ (x : List ℕ) (w : lexicon_verdict 256 x ≡ well_formed) {u : ℕ} (h : u ≤ node_count x) where
  list-there : arcs_at x (suc u) ≤ length x
  unfolding sink_of
  list-there = (shape 256 x w).there (omega arith)

  -- the vertex has a byte for its letter
  pub letter-there : 2 + u ≤ length x
  unfolding arcs_at
  letter-there = omega (arith, list-there, arcs-below x {u = 0} {v = suc u} (omega arith))

  pub part-size : length (successor_part x u) ≡ 2 * arc_count x u
  unfolding successor_part
  part-size =
      let k = list-there in
      rw (le-leb u (node_count x) h, le-leb (arcs_at x (suc u)) (length x) k)
      (simp (length-take, length-drop) (omega (arith, arcs-next x u)))

  pub part-numbers : u16s (successor_part x u) 0 (length (successor_part x u) / 2) ≡ successors x u
  part-numbers =
      let e : length (successor_part x u) / 2 ≡ arc_count x u = omega (arith, part-size) in
      rw e (part-successors x u h list-there)

-- ---- line after line

-- the lines of the vertices below u are put
pub record VerticesPut {N : ℕ} (x : List ℕ) (page₀ page : Page N) (u : ℕ) : Type 0 where
  pub inside : u ≤ sink_of x
  pub few_bytes : page.length ≤ page₀.length + 11 * u + 6 * arcs_at x u
  pub text : Written (flat_map (vertex_line x) (from 0 u)) page₀ page

module _ {N : ℕ} {x : List ℕ} {page₀ : Page N} where
  pub vertices-start : VerticesPut x page₀ page₀ 0
  unfolding from flat_map
  vertices-start = record { inside = omega arith; few_bytes = omega arith; text = put-none page₀.length page₀.text }

  module _ (w : lexicon_verdict 256 x ≡ well_formed) {page : Page N} {u : ℕ} (p : VerticesPut x page₀ page u)
      (h : u ≤ node_count x) where
    -- the next line has room
    pub line-room : page₀.length ≡ 0 → page.length + 23 + 12 * arc_count x u ≤ 60000
    unfolding sink_of
    line-room r =
        let s = shape 256 x w in
        omega (arith, r, p.few_bytes, arcs-next x u, s.few, s.small {u = suc u} (omega arith))

    pub vertices-next : {page' : Page N} → page₀.length ≤ length page₀.text
        → Written (vertex_line x u) page page'
        → page'.length ≤ page.length + 23 + 12 * arc_count x u → VerticesPut x page₀ page' (u + 1)
    unfolding sink_of flat_map from
    vertices-next room q k = record {
      inside = omega arith;
      few_bytes = rw (add-one u) (omega (arith, p.few_bytes, arcs-next x u));
      text = rw more (put-more room p.text q);
    }
      where
        more : flat_map (vertex_line x) (from 0 (u + 1)) ≡ flat_map (vertex_line x) (from 0 u) ++ vertex_line x u
        more =
            rw (from-add 0 u 1, zero-add u)
            (flat_map_append (vertex_line x) (from 0 u) (u ∷ []) ∙ rw (append-nil (vertex_line x u)))

  pub vertices-end : {page : Page N} {u : ℕ} → VerticesPut x page₀ page u → node_count x < u
      → Written (flat_map (vertex_line x) (from 0 (sink_of x))) page₀ page
  unfolding sink_of
  vertices-end {u = u} p h = let e : u ≡ suc (node_count x) = omega (arith, p.inside) in rw e at p.text

-- ---- what is printed, by what the image returns

pub arcs-listed : (x : List ℕ) → lexicon_refused 256 x ≡ none → flat_map (vertex_line x) (from 0 (sink_of x)) ≡ arcs_text x
unfolding arcs_text arcs_printed
arcs-listed x e = rw e

pub arcs_refused : (x : List ℕ) (r : Refusal) (n : ℕ) → lexicon_refused 256 x ≡ some r → n ≡ number r
    → refused_text ++ decimal n ++ (10 ∷ []) ≡ arcs_text x
unfolding arcs_text arcs_printed
arcs_refused x r n e q = rw (e, q)
