-- The arcs of a vertex, tried one after the other: what the arcs that are left give, behind the path counts of those
-- passed, is what all gave at the beginning. Assumes nothing.
use Prim.Native.Nat.{ℕ, suc, ◌+◌, ◌≤◌, ◌<◌}
use mathlib.Core.Path.{◌≡◌, refl, sym, ap, ◌∙◌}
use mathlib.Core.List.{List, [], ◌∷◌, map, map-append}
use Rattle.std.proofs.Common.{None, Some}
use native.Mathlib.Omega.{arith}
use native.Mathlib.Decide.{ℕ_discrete, dec_lt}
use native.Mathlib.Numerals.{add-one}
use lib.ListN.{length, get_or, take, drop, drop_of_length-le, take-append-drop}
use lib.Seq.{drop-cons, get_or-drop, take-suc}
use borrow.Author.Tests.{eq-eqb, ne_eqb, lt-ltb, le-ltb}
use Rattle.endian.specs.Bytes.{Bytes}
use Rattle.endian.specs.Lists.{sum}
use Rattle.endian.proofs.Lists.{index_of, sum-append}
use Rattle.lexicon.specs.Lexicon.{node_count, sink_of, successors}
use Rattle.lexicon.proofs.Shape.{arcs-next}
use Rattle.lexicon.proofs.Readers.{length-successors}
use Rattle.graph.specs.Graph.{Graph, graph_of, sink, path_count}
use Rattle.graph.proofs.Codes.{path_count-below}
use Rattle.checking.specs.Tables.{WellFormed}
use Rattle.checking.proofs.Arcs.{shape_of, sound_of}
use Rattle.lookup.specs.Seeking.{wanted_at, code_or, first_code, code_by, code_after}
use Rattle.lookup.specs.Marks.{pair_of, Marks, PairMarked}
use Rattle.lookup.specs.Trying.{Tried}

-- ---- an arc that fits, and one that doesn't

module _ (word : List ℕ) (i : ℕ) where
  wanted_letter : i < length word → wanted_at word i ≡ get_or word i 0
  unfolding wanted_at
  wanted_letter h = rw (lt-ltb i (length word) h) refl

  wanted_end : length word ≤ i → wanted_at word i ≡ 256
  unfolding wanted_at
  wanted_end h = rw (le-ltb i (length word) h) refl

  pub letter_left : ¬ (wanted_at word i ≡ 256) → i < length word
  letter_left d = elim (dec_lt i (length word)) [
    | yes h ↦ h
    | no n ↦ absurd (d (wanted_end (omega arith)))
  ]

  pub wanted_past : get_or word i 0 < 256 → wanted_at word i ≡ 256 → length word ≤ i
  wanted_past low e = elim (dec_lt i (length word)) [
    | yes h ↦ absurd (omega (arith, wanted_letter h))
    | no n ↦ omega arith
  ]

  pub wanted_low : i < length word → get_or word i 0 < 256 → wanted_at word i < 256
  wanted_low h low = rw (wanted_letter h) low

module _ (prints : List ℕ) (g : Graph) (word : List ℕ) (i s : ℕ) where
  pub fits_not : ¬ (get_or prints s 0 ≡ wanted_at word i) → code_by prints g (drop i word) s ≡ None
  unfolding code_by
  fits_not d = elim (dec_lt i (length word)) [
    | yes h ↦ rw (
      drop-cons word i 0 h,
      ne_eqb (get_or prints s 0) (get_or word i 0) (λ e. d (e ∙ sym (wanted_letter word i h))),
    ) refl
    | no n ↦ rw (
      drop_of_length-le word {i = i} (omega arith),
      ne_eqb (get_or prints s 0) 256 (λ e. d (e ∙ sym (wanted_end word i (omega arith)))),
    ) refl
  ]

  module _ (fits : get_or prints s 0 ≡ wanted_at word i) where
    -- no byte is 256
    pub fits-end : get_or word i 0 < 256 → wanted_at word i ≡ 256 → code_by prints g (drop i word) s ≡ Some 0
    unfolding code_by
    fits-end low e = elim (dec_lt i (length word)) [
      | yes h ↦ absurd (omega (arith, wanted_letter word i h))
      | no n ↦ rw (drop_of_length-le word {i = i} (omega arith), eq-eqb (get_or prints s 0) 256 (fits ∙ e)) refl
    ]

    pub fits-letter : i < length word → code_by prints g (drop i word) s ≡ code_after prints g s (drop (i + 1) word)
    unfolding code_by code_after
    fits-letter h =
        rw (drop-cons word i 0 h, eq-eqb (get_or prints s 0) (get_or word i 0) (fits ∙ wanted_letter word i h), add-one i)
        refl

-- the bytes of a word, from each of them on
pub low-bytes : (word : List ℕ) → ((j : ℕ) → get_or word j 0 < 256) → (i : ℕ) → Bytes (drop i word)
low-bytes word low i x m =
    let u = index_of 0 m in
    omega (arith, u.holds, get_or-drop i word u.index 0, low (i + u.index))

-- ---- while they are tried

-- no list is long
pub arcs-few : {x : List ℕ} → WellFormed x → {u : ℕ} → u ≤ node_count x → length (successors x u) ≤ 4601
unfolding sink_of
arcs-few {x} w {u} h =
    omega (arith, length-successors x u, arcs-next x u, (shape_of w).small {u = suc u} (omega arith))

module _ {x prints word : List ℕ} (w : WellFormed x) {i u : ℕ} (h : u ≤ node_count x) where
  pub try_start : Tried x prints word i u 0 0
  unfolding sum code_after
  try_start = record { inside = omega arith; passes = refl; left = refl }

  module _ {n c : ℕ} (t : Tried x prints word i u n c) where
    all-of : path_count (graph_of x) u ≡ c + sum (map (path_count (graph_of x)) (drop n (successors x u)))
    unfolding sink
    all-of =
        let counts = map (path_count (graph_of x)) in
        path_count-below (sound_of w) (omega arith)
        ∙ ap (λ (l : List ℕ). sum (counts l)) (sym (take-append-drop n (successors x u)))
        ∙ ap sum (map-append (path_count (graph_of x)) (take n (successors x u)) (drop n (successors x u)))
        ∙ sum-append (counts (take n (successors x u))) (counts (drop n (successors x u)))
        ∙ ap (λ k. k + sum (counts (drop n (successors x u)))) (sym t.passes)

    pub passed-few : c ≤ path_count (graph_of x) u
    passed-few = omega (arith, all-of)

    module _ (k : length (successors x u) ≤ n) where
      none-left : drop n (successors x u) ≡ []
      none-left = drop_of_length-le (successors x u) {i = n} k

      pub try_done : code_after prints (graph_of x) u (drop i word) ≡ None
      unfolding first_code
      try_done =
          t.left
          ∙ ap (λ (l : List ℕ). first_code (code_by prints (graph_of x) (drop i word)) (path_count (graph_of x)) l c)
          none-left

      -- all paths of the vertex are passed then
      pub all-passed : c ≡ path_count (graph_of x) u
      unfolding sum
      all-passed = let e = rw none-left at all-of in omega (arith, e)

    module _ {s : ℕ} (k : n < length (successors x u)) (e : get_or (successors x u) n 0 ≡ s) where
      first-left : drop n (successors x u) ≡ s ∷ drop (n + 1) (successors x u)
      first-left = drop-cons (successors x u) n 0 k ∙ rw (e, add-one n)

      here-left : code_after prints (graph_of x) u (drop i word)
          ≡ code_or (code_by prints (graph_of x) (drop i word) s) c
          (first_code (code_by prints (graph_of x) (drop i word)) (path_count (graph_of x)) (drop (n + 1) (successors x u))
          (c + path_count (graph_of x) s))
      unfolding first_code
      here-left =
          t.left
          ∙ ap (λ (l : List ℕ). first_code (code_by prints (graph_of x) (drop i word)) (path_count (graph_of x)) l c)
          first-left

      pub counts-below : c + path_count (graph_of x) s ≤ path_count (graph_of x) u
      unfolding sum
      counts-below = let a = rw first-left at all-of in omega (arith, a)

      pub try_found : {code : ℕ} → code_by prints (graph_of x) (drop i word) s ≡ Some code
          → code_after prints (graph_of x) u (drop i word) ≡ Some (c + code)
      unfolding code_or
      try_found q = here-left ∙ rw q refl

      pub try_next : code_by prints (graph_of x) (drop i word) s ≡ None
          → Tried x prints word i u (n + 1) (c + path_count (graph_of x) s)
      unfolding code_or sum
      try_next q =
          let counts = map (path_count (graph_of x)) in record {
            inside = omega arith;
            passes =
                rw (
                  add-one n,
                  take-suc (successors x u) n 0 k,
                  e,
                  map-append (path_count (graph_of x)) (take n (successors x u)) (s ∷ []),
                  sum-append (counts (take n (successors x u))) (path_count (graph_of x) s ∷ []),
                )
                (omega (arith, t.passes));
            left = here-left ∙ rw q refl;
          }

-- ---- none leads on: the pair is marked

pub marks-more : (i u : ℕ) {m n prints word : List ℕ} {g : Graph} {last : ℕ} → u < 402
    → PairMarked m (pair_of i u) n → Marks prints g word m last → code_after prints g u (drop i word) ≡ None
    → Marks prints g word n (pair_of i u)
marks-more i u low put marks none-leads = record {
  long = put.long ∙ marks.long;
  chained = put.chained;
  tells = λ {i = j} {u = v} a b d. elim (ℕ_discrete (pair_of j v) (pair_of i u)) [
    | yes e ↦
        let p : j ≡ i = omega arith in
        let q : v ≡ u = omega arith in
        rw (p, q) none-leads
    | no o ↦ marks.tells a b (λ z. d (put.others (pair_of j v) o ∙ z))
  ];
}
