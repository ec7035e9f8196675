-- The way that a search has gone down: at each letter the vertex that it came through and the arc that it took, with
-- the path counts of the arcs before it. What is found behind it is found of the word, behind all these counts. Assumes
-- nothing.
use Prim.Native.Nat.{ℕ, zero, suc, ◌+◌, ◌*◌, ◌-◌, ◌≤◌, ◌<◌}
use mathlib.Core.Path.{◌≡◌, refl, sym, ap, ◌∙◌}
use mathlib.Core.Bool.{Bool, true, false, cond}
use mathlib.Core.List.{List}
use Rattle.std.proofs.Common.{Option, None, Some}
use native.Mathlib.Nat.{zero-add, add_assoc}
use native.Mathlib.Omega.{arith}
use native.Mathlib.Numerals.{add-one}
use lib.ListN.{length, get_or, drop, set}
use lib.Seq.{get_or-set_same, get_or-set_other}
use lib.Dec.{eqb}
use Rattle.endian.specs.Rows.{number_at}
use Rattle.lexicon.specs.Lexicon.{node_count}
use Rattle.graph.specs.Graph.{graph_of, path_count, word_count}
use Rattle.checking.specs.Tables.{WellFormed}
use Rattle.checking.proofs.Arcs.{shape_of}
use Rattle.lookup.specs.declared.seeking.Arc.{Arc}
use Rattle.lookup.specs.Seeking.{code_after}
use Rattle.lookup.specs.Marks.{pair_of, Marks, PairMarked}
use Rattle.lookup.specs.Trying.{Tried, Onward, LedOn, nowhere, ended, onward}
use Rattle.lookup.proofs.Chains.{counted, counted-more}
use Rattle.lookup.proofs.Tries.{try_start, try_found, try_next, passed-few, counts-below, marks-more}

-- the row of a letter: the vertex that the search came through, and its arc
abbrev row_at : List (ℕ × ℕ) → ℕ → ℕ → ℕ → Type 0
row_at path i u n = get_or path i (0, 0) ≡ (u, n)

-- at letter i the search is at vertex u, and b paths are passed on the way down; no pair of the way is marked
pub data Way (x prints word m : List ℕ) (path : List (ℕ × ℕ)) : ℕ → ℕ → ℕ → Type 0 where
  begun : number_at m (pair_of 0 0) ≡ 0 → Way x prints word m path 0 0 0
  gone-down : {i u b n c s : ℕ} → Way x prints word m path i u b → u ≤ node_count x
      → Onward x prints word i u s n c → row_at path i u n → number_at m (pair_of (suc i) s) ≡ 0
      → Way x prints word m path (suc i) s (b + c)

-- the way up: the vertex before, and its arc
pub record Up (x prints word m : List ℕ) (path : List (ℕ × ℕ)) (i s b : ℕ) : Type 0 where
  pub before : ℕ
  pub base : ℕ
  pub index : ℕ
  pub c : ℕ
  pub way : Way x prints word m path i before base
  pub vertex : before ≤ node_count x
  pub arc : Onward x prints word i before s index c
  pub row : row_at path i before index
  pub sum_is : b ≡ base + c

module _ {x prints word : List ℕ} (w : WellFormed x) where
  module _ {m : List ℕ} {path : List (ℕ × ℕ)} where
    pub vertex-in : {i u b : ℕ} → Way x prints word m path i u b → u ≤ node_count x
    vertex-in (begun f) = omega arith
    vertex-in (gone-down way h arc row f) = arc.node

    pub way_free : {i u b : ℕ} → Way x prints word m path i u b → number_at m (pair_of i u) ≡ 0
    way_free (begun f) = f
    way_free (gone-down way h arc row f) = f

    -- what is found behind the way
    pub way-found : {i u b k : ℕ} → Way x prints word m path i u b
        → code_after prints (graph_of x) u (drop i word) ≡ Some k → code_after prints (graph_of x) 0 word ≡ Some (b + k)
    way-found {k = k} (begun f) q = q ∙ ap Some (sym (zero-add k))
    way-found {k = k} (gone-down {b = b} {c = c} way h arc row f) q =
        way-found way (try_found w h arc.tried arc.inside arc.leads (arc.fits ∙ q))
        ∙ ap Some (sym (add_assoc b c k))

    -- nothing is found from the root
    pub way-root : {i u b : ℕ} → Way x prints word m path i u b → i ≡ 0
        → code_after prints (graph_of x) u (drop i word) ≡ None → code_after prints (graph_of x) 0 word ≡ None
    way-root (begun f) z e = e
    way-root (gone-down way h arc row f) z e = absurd (omega arith)

    -- paths passed stay within those of the root
    pub way-within : {i u b : ℕ} → Way x prints word m path i u b → b + path_count (graph_of x) u ≤ word_count (graph_of x)
    unfolding word_count
    way-within (begun f) = omega arith
    way-within (gone-down {u = u} {b = b} {c = c} {s = s} way h arc row f) =
        omega (arith, way-within way, counts-below w h arc.tried arc.inside arc.leads)

    -- a row behind those of the way
    pub way-stored : {i u b : ℕ} (row : ℕ × ℕ) (k : ℕ) → i ≤ k → Way x prints word m path i u b
        → Way x prints word m (set path k row) i u b
    way-stored row k l (begun f) = begun f
    way-stored new k l (gone-down {i = i} way h arc row f) =
        gone-down (way-stored new k (omega arith) way) h arc
        (get_or-set_other path k i new (0, 0) (λ q. omega arith) ∙ row) f

    -- a mark of a later letter
    pub way-marked : {i u b : ℕ} (j v : ℕ) {n : List ℕ} → PairMarked m (pair_of j v) n → i < j
        → Way x prints word m path i u b → Way x prints word n path i u b
    way-marked j v put l (begun f) = begun (put.others (pair_of 0 0) (λ q. omega arith) ∙ f)
    way-marked j v put l (gone-down {i = i} {s = s} way h arc row f) =
        let few = (shape_of w).few in
        let low = arc.node in
        gone-down (way-marked j v put (omega arith) way) h arc row
        (put.others (pair_of (suc i) s) (λ q. omega arith) ∙ f)

    pub way_up : {i s b : ℕ} → Way x prints word m path (suc i) s b → Up x prints word m path i s b
    way_up (gone-down {u = u} {b = b} {n = n} {c = c} way h arc row f) = record {
      before = u;
      base = b;
      index = n;
      c = c;
      way = way;
      vertex = h;
      arc = arc;
      row = row;
      sum_is = refl;
    }

-- ---- how many pairs are not marked

counted-most : (m : List ℕ) (k : ℕ) → counted m k ≤ k
unfolding counted
counted-most m zero = omega arith
counted-most m (suc k) = go (eqb (number_at m k) 0) (counted-most m k)
  where
    go : (b : Bool) → counted m k ≤ k → cond b 0 1 + counted m k ≤ suc k
    go true h = omega arith
    go false h = omega arith

-- ---- the search, from letter to letter

-- At letter i of the word the first n arcs of u are passed; code counts all paths that are passed so far.
pub record Going (x prints word m : List ℕ) (path : List (ℕ × ℕ)) (i u n code last : ℕ) : Type 0 where
  pub marks : Marks prints (graph_of x) word m last
  pub position : i ≤ length word
  pub base : ℕ
  pub c : ℕ
  pub way : Way x prints word m path i u base
  pub tried : Tried x prints word i u n c
  pub sum_is : code ≡ base + c

module _ {x prints word m : List ℕ} {path : List (ℕ × ℕ)} (w : WellFormed x) (short : length word ≤ 32) where
  pub going_start : {last : ℕ} → Marks prints (graph_of x) word m last → number_at m (pair_of 0 0) ≡ 0
      → Going x prints word m path 0 0 0 0 last
  going_start marks free = record {
    marks = marks;
    position = omega arith;
    base = 0;
    c = 0;
    way = begun free;
    tried = try_start w (omega arith);
    sum_is = refl;
  }

  module _ {i u n code last : ℕ} (g : Going x prints word m path i u n code last) where
    pub vertex_of : u ≤ node_count x
    vertex_of = vertex-in w g.way

    pub free_of : number_at m (pair_of i u) ≡ 0
    free_of = way_free w g.way

    pub going_found : (passed : ℕ) → code_after prints (graph_of x) u (drop i word) ≡ Some (g.c + passed)
        → code_after prints (graph_of x) 0 word ≡ Some (code + passed)
    going_found passed e = way-found w g.way e ∙ ap Some (omega (arith, g.sum_is))

    -- from the root none leads on
    pub going_nowhere : i ≡ 0 → code_after prints (graph_of x) u (drop i word) ≡ None
        → code_after prints (graph_of x) 0 word ≡ None
    going_nowhere z e = way-root w g.way z e

    pub going_few : code ≤ path_count (graph_of x) 0
    unfolding word_count
    going_few =
        omega (arith, way-within w g.way, g.sum_is, passed-few w vertex_of g.tried)

    -- past an arc whose pair is marked
    pub going_past : (passed : ℕ) {next n' : ℕ} → Onward x prints word i u next n' (g.c + passed)
        → ¬ (number_at m (pair_of (i + 1) next) ≡ 0)
        → Going x prints word m path i u (n' + 1) (code + passed + path_count (graph_of x) next) last
    going_past passed {next} arc marked =
        let tells = g.marks.tells (omega (arith, arc.letter)) (omega (arith, arc.node, (shape_of w).few)) marked in
        let none-by = arc.fits ∙ ap (λ k. code_after prints (graph_of x) next (drop k word)) (sym (add-one i)) ∙ tells in
        record {
          marks = g.marks;
          position = g.position;
          base = g.base;
          c = g.c + passed + path_count (graph_of x) next;
          way = g.way;
          tried = try_next w vertex_of arc.tried arc.inside arc.leads none-by;
          sum_is = omega (arith, g.sum_is);
        }

    -- down by an arc
    pub going_down : (passed : ℕ) {next n' : ℕ} → Onward x prints word i u next n' (g.c + passed)
        → number_at m (pair_of (i + 1) next) ≡ 0 → length path ≡ 33
        → Going x prints word m (set path i (u, n')) (i + 1) next 0 (code + passed) last
    going_down passed {next} {n'} arc unmarked rows = rw (add-one i) (record {
      marks = g.marks;
      position = omega (arith, arc.letter);
      base = g.base + (g.c + passed);
      c = 0;
      way = gone-down (way-stored w _ i (omega arith) g.way) vertex_of arc
          (get_or-set_same path i (u, n') (0, 0) (omega (arith, arc.letter))) (rw (add-one i) at unmarked);
      tried = try_start w arc.node;
      sum_is = omega (arith, g.sum_is);
    })

  -- the letter before, and the arc that led from it
  pub came_from : (i : ℕ) {u n code last : ℕ} (g : Going x prints word m path i u n code last) → ¬ (i ≡ 0)
      → Up x prints word m path (i - 1) u g.base
  came_from zero g d = absurd (d refl)
  came_from (suc i) {u} g d =
      let e : suc i - 1 ≡ i = omega arith in
      rw e (way_up w g.way)

  -- back up, where none leads on
  pub going_up : (i passed : ℕ) {u n code last : ℕ} {m' : List ℕ} (g : Going x prints word m path i u n code last)
      → ¬ (i ≡ 0)
      → code_after prints (graph_of x) u (drop i word) ≡ None → g.c + passed ≡ path_count (graph_of x) u
      → PairMarked m (pair_of i u) m'
      → Going x prints word m' path (i - 1) (get_or path (i - 1) (0, 0)).0 ((get_or path (i - 1) (0, 0)).1 + 1)
      (code + passed) (pair_of i u)
  going_up i passed {u} {n} {code} g d e q put =
      let up = came_from i g d in
      let s-i : suc (i - 1) ≡ i = omega arith in
      let none-by = up.arc.fits ∙ ap (λ k. code_after prints (graph_of x) u (drop k word)) s-i ∙ e in
      rw up.row (record {
        marks = marks-more i u (omega (arith, vertex_of g, (shape_of w).few)) put g.marks e;
        position = omega (arith, g.position);
        base = up.base;
        c = up.c + path_count (graph_of x) u;
        way = way-marked w i u put (omega arith) up.way;
        tried = try_next w up.vertex up.arc.tried up.arc.inside up.arc.leads none-by;
        sum_is = omega (arith, g.sum_is, up.sum_is);
      })

-- ---- it ends

-- As many steps are left at most: each marks a pair, or goes down by a letter, or on by an arc.
unfoldable pub steps_left : List ℕ → ℕ → ℕ → ℕ
steps_left m i at = 350000 * (13267 - counted m 13267) + 10000 * (33 - i) + (10000 - at)

pub less_on : (m : List ℕ) (i n : ℕ) {n' : ℕ} → n ≤ n' → n' < 10000 → steps_left m i (n' + 1) < steps_left m i n
unfolding steps_left
less_on m i n h l = omega arith

pub less_down : (m : List ℕ) (i at at' : ℕ) → i ≤ 32 → at < 10000 → steps_left m (i + 1) at' < steps_left m i at
unfolding steps_left
less_down m i at at' h l = omega arith

pub less_up : {m n : List ℕ} (i at at' : ℕ) {p : ℕ} → PairMarked m p n → p ≤ 13266 → number_at m p ≡ 0
    → steps_left n (i - 1) at' < steps_left m i at
unfolding steps_left
less_up {m} {n} i at at' {p} put high free =
    let more = counted-more m n p put.others free put.here 13267 (omega arith) in
    let one : 13267 - counted m 13267 ≡ suc (13267 - counted n 13267) = omega (arith, more, counted-most n 13267) in
    rw one (within (13267 - counted n 13267) (33 - (i - 1)) (33 - i) (10000 - at') (10000 - at)
    (most 33 (i - 1)) (most 10000 at'))
  where
    most : (a b : ℕ) → a - b ≤ a
    most a b = omega arith

    within : (k a b c d : ℕ) → a ≤ 33 → c ≤ 10000 → 350000 * k + 10000 * a + c < 350000 * suc k + 10000 * b + d
    within k a b c d h l = omega arith

-- ---- where the arcs of a vertex led

module _ {x prints word : List ℕ} {i u first c : ℕ} {arc : Option Arc} where
  pub led-nowhere : LedOn x prints word i u first arc c → arc ≡ None
      → (code_after prints (graph_of x) u (drop i word) ≡ None) × (c ≡ path_count (graph_of x) u)
  led-nowhere (nowhere is e all) z = (e, all)
  led-nowhere (ended is past e) z = absurd (cc)
  led-nowhere (onward is l arc) z = absurd (cc)

  module _ {a : Arc} (is : arc ≡ Some a) where
    pub led-end : LedOn x prints word i u first arc c → i ≡ length word
        → code_after prints (graph_of x) u (drop i word) ≡ Some c
    led-end (nowhere z e all) p = absurd (cc)
    led-end (ended is past e) p = e
    led-end (onward is l on) p = absurd (omega (arith, on.letter))

    pub led-onward : LedOn x prints word i u first arc c → i ≤ length word → ¬ (i ≡ length word)
        → (first ≤ a.index) × Onward x prints word i u a.next a.index c
    led-onward (nowhere z e all) l p = absurd (cc)
    led-onward (ended is past e) l p = absurd (p (omega arith))
    led-onward (onward {a = b} z l on) k p = let e : b ≡ a = cc in rw (← e) (l, on)
