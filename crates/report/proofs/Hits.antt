-- The hits that bytes hold, one after another, and their lines: a line more is put behind those before it, and a line has at most 68 bytes.
-- Assumes nothing.
use Prim.Native.Nat.{ℕ, zero, suc, ◌+◌, ◌-◌, ◌*◌, ◌^◌, ◌≤◌, ◌<◌}
use mathlib.Core.Path.{◌≡◌, refl, ap, ◌∙◌}
use mathlib.Core.Bool.{Bool, true, false}
use mathlib.Core.List.Memᴰ.{head as here}
use mathlib.Core.List.Memᴰ.{tail as there}
use mathlib.Core.List.{List, [], ◌∷◌, ◌++◌, flat_map, append-nil, Memᴰ}
use native.Mathlib.Numerals.{add-one}
use native.Mathlib.Omega.{arith}
use borrow.Author.Tests.{ltb-true, ltb-false}
use lib.Dec.{ltb}
use lib.IntN.{ℤ, pos, negsuc}
use lib.ListN.{length, get_or, length-append}
use lib.Signed.{mag}
use mir.Syntax.{w32}
use mir.Val.{SFits, sel, to_z, of_z}
use mir.Facts.{to_z-of_z}
use Rattle.endian.specs.Bytes.{u16, u32, i32}
use Rattle.endian.proofs.Lists.{flat_map_append}
use Rattle.graph.specs.Graph.{graph_of, word_count}
use Rattle.graph.specs.Conditions.{many_words}
use Rattle.graph.specs.Checking.{Accepted}
use Rattle.graph.proofs.Accepted.{accepted}
use Rattle.ranking.specs.Mean.{mean}
use Rattle.ranking.specs.Hits.{Hit, hit, hits_at, hits_read}
use Rattle.ranking.proofs.Rounding.{mean-range}
use Rattle.codes.proofs.Words.{word_short}
use Rattle.report.specs.Lines.{AcceptedArguments, HoldsHits}
use Rattle.report.specs.Text.{Written}
use Rattle.report.specs.declared.Page.{Page}
use Rattle.report.specs.Report.{hit_line}
use Rattle.report.proofs.Putting.{put-none, put-more}
use Rattle.report.proofs.Digits.{decimal-short, signed_short}

-- ---- a number read byte by byte

pub u32_four : (b : List ℕ) (at : ℕ) → u32 (get_or b at 0 ∷ get_or b (at + 1) 0 ∷ get_or b (at + 2) 0 ∷ get_or b (at + 3) 0 ∷ []) 0 ≡ u32 b at
unfolding u32 u16
u32_four b at = let e : at + 2 + 1 ≡ at + 3 = omega arith in rw e

pub i32_four : (b : List ℕ) (at : ℕ) → i32 (get_or b at 0 ∷ get_or b (at + 1) 0 ∷ get_or b (at + 2) 0 ∷ get_or b (at + 3) 0 ∷ []) 0 ≡ i32 b at
unfolding i32
i32_four b at = rw (u32_four b at)

-- whatever the bytes are
pub i32-range : (b : List ℕ) (at : ℕ) → mag (i32 b at) < 2 ^ 31
unfolding i32
i32-range b at = go (ltb (u32 b at) (2 ^ 31)) refl
  where
    go : (t : Bool) → ltb (u32 b at) (2 ^ 31) ≡ t → mag (sel t (pos (u32 b at)) (negsuc (2 ^ 32 - suc (u32 b at)))) < 2 ^ 31
    go true e = ltb-true (u32 b at) (2 ^ 31) e
    go false e = omega (arith, ltb-false (u32 b at) (2 ^ 31) e)

-- so it is what its own bits say
pub i32-again : (z : ℤ) (b : List ℕ) (at : ℕ) → z ≡ i32 b at → to_z w32 (of_z w32 z) ≡ i32 b at
i32-again z b at e = rw e (to_z-of_z {w = w32} (record { sfits = i32-range b at }))

-- ---- the hits, one by one

-- the hit at an offset
abbrev pub one_at : List ℕ → ℕ → Hit
one_at b at = hit (i32 b at) (u32 b (at + 4))

pub hits_more : (b : List ℕ) (at k : ℕ) → hits_at b at (suc k) ≡ hits_at b at k ++ (one_at b (at + 8 * k) ∷ [])
unfolding hits_at
hits_more b at zero = let e : at + 8 * 0 ≡ at = omega arith in rw e
hits_more b at (suc k) =
    let e : at + 8 + 8 * k ≡ at + 8 * suc k = omega arith in
    ap (λ (l : List Hit). one_at b at ∷ l) (hits_more b (at + 8) k ∙ ap (λ (j : ℕ). hits_at b (at + 8) k ++ (one_at b j ∷ [])) e)

pub hit_in : (b : List ℕ) (at i k : ℕ) → i < k → Memᴰ (one_at b (at + 8 * i)) (hits_at b at k)
unfolding hits_at
hit_in b at zero (suc k) h = let e : at + 8 * 0 ≡ at = omega arith in here (ap (one_at b) e)
hit_in b at (suc i) (suc k) h =
    let e : at + 8 + 8 * i ≡ at + 8 * suc i = omega arith in
    there (rw e at (hit_in b (at + 8) i k (omega arith)))
hit_in b at i zero h = absurd (omega arith)

pub lines_more : (line : Hit → List ℕ) (b : List ℕ) (i : ℕ)
    → flat_map line (hits_read b (i + 1)) ≡ flat_map line (hits_read b i) ++ line (one_at b (8 * i))
unfolding hits_read flat_map
lines_more line b i =
    let e : 0 + 8 * i ≡ 8 * i = omega arith in
    rw (add-one i, hits_more b 0 i, e) (flat_map_append line (hits_at b 0 i) (one_at b (8 * i) ∷ []) ∙ rw (append-nil (line (one_at b (8 * i)))))

-- ---- how long a line is

pub mean-again : (z score : ℤ) (T : ℕ) → SFits w32 score → z ≡ mean score T → to_z w32 (of_z w32 z) ≡ mean score T
mean-again z score T f e = rw e (to_z-of_z {w = w32} (record { sfits = omega (arith, mean-range score T, f.sfits) }))

pub line-short : (v x : List ℕ) (T : ℕ) (h : Hit) → Accepted v x → h.code < word_count (graph_of x) → mag h.score < 2 ^ 31
    → length (hit_line v (graph_of x) T h) ≤ 68
unfolding hit_line many_words
line-short v x T h ok below small =
    let few = ltb-false 1048576 (word_count (graph_of x)) (accepted ok).few_words in
    let a = decimal-short h.code (omega arith) in
    let s = signed_short h.score (omega arith) in
    let m = signed_short (mean h.score T) (omega (arith, mean-range h.score T)) in
    let w = word_short (accepted ok) below in
    simp length-append (omega arith)

-- ---- line after line

-- the lines of the first i hits are put
pub record Lined {N : ℕ} (v x : List ℕ) (T : ℕ) (list : List ℕ) (k : ℕ) (work₀ : List ℕ) (page₀ : Page N)
    (work : List ℕ) (page : Page N) (i : ℕ) : Type 0 where
  pub inside : i ≤ k
  pub work_long : length work ≡ length work₀
  pub few_bytes : page.length ≤ page₀.length + 68 * i
  pub lines : Written (flat_map (hit_line v (graph_of x) T) (hits_read list i)) page₀ page

-- each of them names a word
pub hit-named : {x list : List ℕ} {k : ℕ} → HoldsHits x list k → (i : ℕ) → i < k
    → u32 list (8 * i + 4) < word_count (graph_of x)
unfolding hits_read
hit-named {list = list} {k} l i h =
    let e : 0 + 8 * i ≡ 8 * i = omega arith in
    l.named (one_at list (8 * i)) (rw e at (hit_in list 0 i k h))

module _ {N : ℕ} {v x : List ℕ} {T : ℕ} {list : List ℕ} {k : ℕ} {work₀ : List ℕ} {page₀ : Page N} where
  pub lines_start : Lined v x T list k work₀ page₀ work₀ page₀ 0
  unfolding hits_read hits_at flat_map
  lines_start = record {
    inside = omega arith;
    work_long = refl;
    few_bytes = omega arith;
    lines = put-none page₀.length page₀.text;
  }

  module _ {work : List ℕ} {page : Page N} {i : ℕ} (r : AcceptedArguments v x T work₀) (l : HoldsHits x list k)
      (room : page₀.length ≤ length page₀.text) (p : Lined v x T list k work₀ page₀ work page i) where
    pub still_accepted : AcceptedArguments v x T work
    still_accepted =
        record { images = r.images; some_frames = r.some_frames; few_frames = r.few_frames; space = omega (arith, r.space, p.work_long) }

    pub lines_next : {work' : List ℕ} {page' : Page N} {score : ℤ} {code : ℕ} → i < k → score ≡ i32 list (8 * i)
        → code ≡ u32 list (8 * i + 4) → length work' ≡ length work
        → Written (hit_line v (graph_of x) T (hit score code)) page page'
        → Lined v x T list k work₀ page₀ work' page' (i + 1)
    lines_next {page' = page'} h s c w q =
        let one : Written (hit_line v (graph_of x) T (one_at list (8 * i))) page page' = rw (s, c) at q in
        let short = line-short v x T (one_at list (8 * i)) r.images (hit-named l i h) (i32-range list (8 * i)) in
        record {
          inside = omega arith;
          work_long = w ∙ p.work_long;
          few_bytes = omega (arith, p.few_bytes, one.ends);
          lines = rw (lines_more (hit_line v (graph_of x) T) list i) (put-more room p.lines one);
        }

    pub lines_end : k ≤ i → Written (flat_map (hit_line v (graph_of x) T) (hits_read list k)) page₀ page
    lines_end h = let e : i ≡ k = omega (arith, p.inside) in rw e at p.lines
