-- The list of a vertex is that of its arcs: the words behind it are in order, so that a letter begins with each word
-- that parts from the one before it behind the vertex's letters, and the link of that word leads to the letter's
-- node. Assumes nothing.
use Prim.Native.Nat.{ℕ, zero, suc, ◌+◌, ◌-◌, ◌≤◌, ◌<◌}
use mathlib.Core.Path.{◌≡◌, refl, sym, ap, ap₂, ◌∙◌}
use mathlib.Core.Logic.{⊎_elim}
use mathlib.Core.Bool.{Bool, true, false, cond, false≢true}
use mathlib.Core.List.{List, [], ◌∷◌, ◌++◌, map, map-map, Memᴰ as In}
use mathlib.Core.List.Memᴰ.{cases_cons as cases}
use mathlib.Core.List.Memᴰ.{head as here}
use mathlib.Core.List.Memᴰ.{tail as there}
use native.Mathlib.Decide.{ℕ_discrete}
use native.Mathlib.Nat.{zero-add, suc-add}
use native.Mathlib.Numerals.{add-one}
use native.Mathlib.Omega.{arith}
use lib.ListN.{length, get_or, take, drop, length-drop, drop_of_length-le}
use lib.Seq.{length-take-le, take-suc, take_at, drop-cons}
use lib.Dec.{eqb}
use borrow.Author.Tests.{eqb-true, eq-eqb, ne_eqb}
use Rattle.endian.specs.Lists.{from, select, has_list}
use Rattle.endian.proofs.Booleans.{and-out}
use Rattle.endian.proofs.Lists.{has_list-mem, mem-has_list, select_out, from_out, map_cong}
use Rattle.endian.proofs.Pairs.{next}
use Rattle.canonical.specs.Dictionary.{precedes, after, continuations}
use Rattle.canonical.specs.Nodes.{node, node_of, nodes, place_of, next_letters, next_vertex, arcs_of}
use Rattle.canonical.specs.Groups.{begins, common}
use Rattle.canonical.proofs.Order.{Before, before-cases}
use Rattle.canonical.proofs.Sorting.{Sorted}
use Rattle.canonical.proofs.Continuations.{Below, rest_sorted, below_rest}
use Rattle.canonical.proofs.Nodes.{node-next}
use Rattle.sorting.specs.Slots.{word_at, words_from}
use Rattle.registering.specs.declared.Row.{Row}
use Rattle.registering.specs.Register.{Words, previous, Shared, Linked, rests_from}
use Rattle.registering.specs.Numbering.{Numbered}
use Rattle.registering.specs.Arcs.{partings, link_number}
use Rattle.registering.proofs.Runs.{words-sorted, ordered}
use Rattle.registering.proofs.Branches.{heads, next-heads, next-empty}

-- ---- words that begin alike

begins-split : (p w : List ℕ) → begins p w ≡ true → w ≡ p ++ drop (length p) w
unfolding begins
begins-split [] w h = refl
begins-split (a ∷ p) [] h = absurd (false≢true h)
begins-split (a ∷ p) (b ∷ w) h =
    let u = and-out (eqb a b) (begins p w) h in ap₂ ◌∷◌ (sym (eqb-true a b u.0)) (begins-split p w u.1)

before-behind : (p x y : List ℕ) → Before (p ++ x) (p ++ y) → Before x y
before-behind [] x y h = h
before-behind (a ∷ p) x y h = ⊎_elim
    (λ k. absurd (omega arith))
    (λ u. before-behind p x y u.1)
    (before-cases a a (p ++ x) (p ++ y) h)

common-behind : (p x y : List ℕ) → common (p ++ x) (p ++ y) ≡ length p + common x y
unfolding common
common-behind [] x y = sym (zero-add (common x y))
common-behind (a ∷ p) x y = rw (eq-eqb a a refl) (ap suc (common-behind p x y) ∙ sym (suc-add (length p) (common x y)))

-- what stands behind a word has a letter
behind-some : (x y : List ℕ) → Before x y → 1 ≤ length y
unfolding precedes
behind-some [] [] h = absurd (false≢true h)
behind-some (a ∷ x) [] h = absurd (false≢true h)
behind-some [] (b ∷ y) h = omega arith
behind-some (a ∷ x) (b ∷ y) h = omega arith

empty-before : (y : List ℕ) → 1 ≤ length y → Before [] y
unfolding precedes
empty-before [] h = absurd (omega arith)
empty-before (b ∷ y) h = refl

first-before : {y : List ℕ} {ws : List (List ℕ)} → Sorted (y ∷ ws) → (w : List ℕ) → In w ws → Before y w
first-before (next r p) w i = r w i

heads-cons : (y : List ℕ) {w : List ℕ} {a : ℕ} {v : List ℕ} (ws : List (List ℕ)) → w ≡ a ∷ v
    → heads y (w ∷ ws) ≡ cond (eqb (common y w) 0) (a ∷ heads w ws) (heads w ws)
unfolding heads
heads-cons y ws e = rw e

-- ---- the words behind a vertex

-- m of N words, from f on, are those with the first e letters of the word in slot f
pub record Behind (t : List ℕ) (N f m e : ℕ) : Type 0 where
  pub inside : f + m ≤ N
  pub some : 1 ≤ m
  pub letters : e ≤ length (word_at t f)
  pub have : (k : ℕ) → f ≤ k → k < f + m → begins (take e (word_at t f)) (word_at t k) ≡ true
  pub rest : rests_from t e f m ≡ continuations (take e (word_at t f)) (words_from t 0 N)

module _ {t : List ℕ} {N f m e : ℕ} (w : Words t N) (b : Behind t N f m e) where
  -- the letters before the vertex
  abbrev start : List ℕ
  start = take e (word_at t f)

  -- what follows them in a word
  abbrev end : ℕ → List ℕ
  end k = drop e (word_at t k)

  -- the first letter that does
  abbrev letter : ℕ → ℕ
  letter k = get_or (word_at t k) e 0

  start-long : length start ≡ e
  start-long = length-take-le e (word_at t f) b.letters

  word-is : (k : ℕ) → f ≤ k → k < f + m → word_at t k ≡ start ++ end k
  word-is k h i = begins-split start (word_at t k) (b.have k h i) ∙ rw start-long

  ends-before : (j k : ℕ) → f ≤ j → j < k → k < f + m → Before (end j) (end k)
  ends-before j k h i l =
      before-behind start (end j) (end k)
      (rw (word-is j h (omega arith), word-is k (omega arith) l) at (ordered w j k i (omega (arith, b.inside))))

  longer : (k : ℕ) → f < k → k < f + m → e < length (word_at t k)
  longer k h i =
      omega (arith, behind-some (end f) (end k) (ends-before f k (omega arith) h i), length-drop e (word_at t k))

  lettered : (k : ℕ) → e < length (word_at t k) → end k ≡ letter k ∷ drop (suc e) (word_at t k)
  lettered k h = drop-cons (word_at t k) e 0 h

  -- ---- where a letter begins

  module _ {shared : List ℕ} (sh : Shared t N shared) where
    shared_is : (j : ℕ) → f ≤ j → suc j < f + m → get_or shared (suc j) 0 ≡ e + common (end j) (end (suc j))
    unfolding previous
    shared_is j h i =
        sh.letters (suc j) (omega (arith, b.inside))
        ∙ ap₂ common (word-is j h (omega arith)) (word-is (suc j) (omega arith) i)
        ∙ common-behind start (end j) (end (suc j))
        ∙ ap (λ n. n + common (end j) (end (suc j))) start-long

    parts : (j : ℕ) → f ≤ j → suc j < f + m → eqb (common (end j) (end (suc j))) 0 ≡ eqb (get_or shared (suc j) 0) e
    parts j h i = elim (ℕ_discrete (common (end j) (end (suc j))) 0) [
      | yes z ↦ eq-eqb (common (end j) (end (suc j))) 0 z
          ∙ sym (eq-eqb (get_or shared (suc j) 0) e (omega (arith, shared_is j h i)))
      | no z ↦ ne_eqb (common (end j) (end (suc j))) 0 z
          ∙ sym (ne_eqb (get_or shared (suc j) 0) e (omega (arith, shared_is j h i)))
    ]

    heads-partings : (j n : ℕ) → f ≤ j → suc j + n ≤ f + m
        → heads (end j) (rests_from t e (suc j) n) ≡ map letter (partings shared e (suc j) n)
    unfolding heads rests_from partings from select
    heads-partings j zero h i = refl
    heads-partings j (suc n) h i =
        let k = suc j in
        heads-cons (end j) (rests_from t e (suc k) n) (lettered k (longer k (omega arith) (omega arith)))
        ∙ ap (λ c. cond c (letter k ∷ heads (end k) (rests_from t e (suc k) n))
        (heads (end k) (rests_from t e (suc k) n))) (parts j h (omega arith))
        ∙ go (eqb (get_or shared k 0) e) (heads-partings k n (omega arith) (omega arith))
      where
        go : (c : Bool)
            → heads (end (suc j)) (rests_from t e (suc (suc j)) n) ≡ map letter (partings shared e (suc (suc j)) n)
            → cond c (letter (suc j) ∷ heads (end (suc j)) (rests_from t e (suc (suc j)) n))
            (heads (end (suc j)) (rests_from t e (suc (suc j)) n))
            ≡ map letter (cond c (suc j ∷ partings shared e (suc (suc j)) n) (partings shared e (suc (suc j)) n))
        go true q = ap (λ l. letter (suc j) ∷ l) q
        go false q = q

  -- ---- where it leads

  abbrev ws : List (List ℕ)
  ws = words_from t 0 N

  abbrev rest : List (List ℕ)
  rest = rests_from t e f m

  -- all words have the letters before the vertex
  pub starts-alike : (k : ℕ) → f ≤ k → k < f + m → take e (word_at t k) ≡ start
  starts-alike k h i = ap (take e) (word-is k h i) ∙ take_at start (end k) e start-long

  -- the node of a letter more
  letter-node : (k : ℕ) → f ≤ k → k < f + m → e < length (word_at t k)
      → node_of ws (take (e + 1) (word_at t k)) ≡ node (letter k) (after (letter k) rest)
  letter-node k h i l =
      ap (node_of ws) (rw add-one (take-suc (word_at t k) e 0 l) ∙ ap (λ p. p ++ letter k ∷ []) (starts-alike k h i))
      ∙ node-next ws start (letter k)
      ∙ ap (λ r. node (letter k) (after (letter k) r)) (sym b.rest)

  module _ {rows : List Row} {order numbers : List ℕ} {count : ℕ}
      (num : Numbered t N rows order numbers count) where
    leads : (k place : ℕ) → f ≤ k → k < f + m → e < length (word_at t k) → Linked t N rows count place k (e + 1)
        → get_or numbers place 0 ≡ next_vertex ws rest (letter k)
    unfolding next_vertex
    leads k place h i l q =
        num.number place q.inside
        ∙ ap (λ a. suc (place_of a (nodes ws))) (q.node ∙ letter-node k h i l)

    -- the first arc: to the sink where the first word ends, else along that word
    pub data First : ℕ → Type 0 where
      ends : {head : ℕ} → length (word_at t f) ≡ e → head ≡ suc count → First head
      goes : {head : ℕ} (place : ℕ) → e < length (word_at t f) → Linked t N rows count place f (e + 1)
          → head ≡ get_or numbers place 0 → First head

    module _ {L : ℕ} (below : Below L ws) {shared : List ℕ} (sh : Shared t N shared) (links : List ℕ)
        (across : (i : ℕ) → f < i → i < f + m → get_or shared i 0 ≡ e
        → Linked t N rows count (get_or links (400 + i) 0) i (e + 1)) where
      -- the arcs by the letters of later words
      later : (n : ℕ) → suc f + n ≡ f + m
          → map (next_vertex ws rest) (heads (end f) (rests_from t e (suc f) n))
          ≡ map (link_number links numbers) (partings shared e (suc f) n)
      unfolding partings
      later n q =
          ap (map (next_vertex ws rest)) (heads-partings sh f n (omega arith) (omega arith))
          ∙ map-map (next_vertex ws rest) letter (partings shared e (suc f) n)
          ∙ map_cong (λ k. next_vertex ws rest (letter k)) (link_number links numbers) (partings shared e (suc f) n)
          (λ k i.
          let u = select_out (λ k. eqb (get_or shared k 0) e) (from (suc f) n) i in
          let r = from_out (suc f) n u.0 in
          let low : k < f + m = omega (arith, r.1) in
          sym (leads k (get_or links (400 + k) 0) (omega (arith, r.0)) low (longer k r.0 low)
          (across k r.0 low (eqb-true (get_or shared k 0) e u.1))))

      pub list-is : {head : ℕ} → First head
          → head ∷ map (link_number links numbers) (partings shared e (suc f) (m - 1)) ≡ arcs_of L ws rest
      unfolding arcs_of rests_from common
      list-is {head} first = go first (m - 1) (omega (arith, b.some))
        where
          sorted : Sorted rest
          sorted = rw b.rest (rest_sorted start ws (words-sorted w))

          letters-below : Below L rest
          letters-below = rw b.rest (below_rest start below)

          -- the words behind the first
          split : (n : ℕ) → suc f + n ≡ f + m → rest ≡ end f ∷ rests_from t e (suc f) n
          split n q = let z : m ≡ suc n = omega arith in rw z

          -- no word ends here where the first goes on
          none-ends : (n : ℕ) → suc f + n ≡ f + m → e < length (word_at t f) → (w : List ℕ) → In w rest → 1 ≤ length w
          none-ends n q l w i = ⊎_elim
              (λ p. rw p (omega (arith, length-drop e (word_at t f))))
              (λ k. behind-some (end f) w (first-before (rw (split n q) at sorted) w k))
              (cases (rw (split n q) at i))

          closed : (n : ℕ) → suc f + n ≡ f + m → e < length (word_at t f) → (c : Bool) → has_list [] rest ≡ c → c
              ≡ false
          closed n q l true p = absurd (omega (arith, none-ends n q l [] (has_list-mem [] rest p)))
          closed n q l false p = refl

          go : First head → (n : ℕ) → suc f + n ≡ f + m
              → head ∷ map (link_number links numbers) (partings shared e (suc f) n) ≡ arcs_of L ws rest
          go (ends z h) n q =
              let xs = rests_from t e (suc f) n in
              let none : end f ≡ [] = drop_of_length-le (word_at t f) {i = e} (omega arith) in
              let whole : rest ≡ [] ∷ xs = split n q ∙ ap (λ w. w ∷ xs) none in
              let has : has_list [] rest ≡ true = mem-has_list (rw whole (here refl)) in
              let letters : next_letters L rest ≡ heads (end f) xs =
              ap (next_letters L) whole
              ∙ next-empty L xs
              ∙ next-heads L xs (rw whole at sorted) (λ w i. (rw whole at letters-below) w (there i))
              ∙ ap (λ y. heads y xs) (sym none) in
              rw (has, letters) (ap₂ ◌∷◌ (h ∙ ap suc (sym num.many)) (sym (later n q)))
          go (goes place l k h) n q =
              let xs = rests_from t e (suc f) n in
              let has : has_list [] rest ≡ false = closed n q l (has_list [] rest) refl in
              let letters : next_letters L rest ≡ letter f ∷ heads (end f) xs =
              next-heads L rest (next (λ w i. empty-before w (none-ends n q l w i)) sorted) letters-below
              ∙ ap (heads []) (split n q)
              ∙ heads-cons [] xs (lettered f l) in
              rw (has, letters)
              (ap₂ ◌∷◌ (h ∙ leads f place (omega arith) (omega (arith, b.some)) l k) (sym (later n q)))
