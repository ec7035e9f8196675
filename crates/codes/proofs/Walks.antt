-- Going down by a code. A code below a vertex's path count leads along one arc, to a successor below whose path count the rest of it is; so it
-- leads on to the sink, by the way whose code it is. Assumes nothing.
use Prim.Native.Nat.{ℕ, zero, suc, ◌+◌, ◌-◌, ◌≤◌, ◌<◌}
use mathlib.Core.Path.{◌≡◌, refl, sym, ap, ◌∙◌}
use mathlib.Core.Bool.{Bool, true, false}
use mathlib.Core.List.Memᴰ
use mathlib.Core.List.{List, [], ◌∷◌, ◌++◌, map, map-append, append-nil}
use native.Mathlib.Decide.{dec_lt}
use native.Mathlib.Omega.{arith}
use native.Mathlib.Numerals.{add-one}
use lib.ListN.{length, take, drop, set, length-set, length-append, drop_of_length-le}
use lib.Seq.{append_snoc, take-suc-set, length-take-le, drop-set-lt, drop-drop}
use lib.Dec.{ltb, eqb}
use borrow.Author.Tests.{ltb-true, ltb-false, eqb-true}
use Rattle.endian.specs.Lists.{sum}
use Rattle.endian.proofs.Lists.{sum-append}
use Rattle.lexicon.specs.Lexicon.{node_count, sink_of, node_letter, successors}
use Rattle.graph.specs.Graph.{Graph, graph_of, sink, ArcPath, arrived, along, from_root, path_count, word_count, code_from}
use Rattle.graph.specs.Graph.{path_code, path_letters}
use Rattle.graph.proofs.Sound.{Sound, below-sink}
use Rattle.graph.proofs.Codes.{path_count-sink, path_count-below, increment-at}
use Rattle.graph.proofs.Paths.{full-paths, at_code}
use Rattle.checking.specs.declared.Vertex.{Vertex}
use Rattle.checking.proofs.Arcs.{sound_of}
use Rattle.codes.proofs.Heads.{ArcHere}
use Rattle.codes.specs.Steps.{Tabled, Stepped, letters_of_code, Spellable, Spelled}
use Rattle.codes.proofs.Words.{letters-node, letters-root, letters-beyond, letters-none, letters-at, code-short}

-- ---- one arc

-- after the earlier successors of u so much of the code is left, and it is for the later ones
pub record CodePassed (g : Graph) (u code left : ℕ) (later : List ℕ) : Type 0 where
  pub earlier : List ℕ
  pub split : g.successors u ≡ earlier ++ later
  pub code_is : code ≡ sum (map (path_count g) earlier) + left
  pub below : left < sum (map (path_count g) later)

module _ {g : Graph} (ok : Sound g) {u code : ℕ} (h : u < sink g) where
  pub passed_none : code < path_count g u → CodePassed g u code code (g.successors u)
  unfolding sum
  passed_none k = record { earlier = []; split = refl; code_is = omega arith; below = rw (← path_count-below ok h) k }

  -- it is below the next one's count, and that is the arc
  pub passed_here : {left s : ℕ} {later : List ℕ} → CodePassed g u code left (s ∷ later) → left < path_count g s
      → Stepped g u code s left
  passed_here {s = s} {later = later} p k = record {
    arc = rw p.split (Memᴰ.append_right p.earlier (Memᴰ.head refl));
    split = p.code_is ∙ rw (increment-at ok h p.earlier later s p.split);
    below = k;
  }

  -- or the next one is passed as well
  pub passed_on_lem : {left s : ℕ} {later : List ℕ} → CodePassed g u code left (s ∷ later) → path_count g s ≤ left
      → CodePassed g u code (left - path_count g s) later
  unfolding sum
  passed_on_lem {left} {s} {later} p k = record {
    earlier = p.earlier ++ (s ∷ []);
    split = p.split ∙ sym (append_snoc p.earlier s later);
    code_is =
        p.code_is
        ∙ rw (map-append (path_count g) p.earlier (s ∷ []), sum-append (map (path_count g) p.earlier) (path_count g s ∷ [])) (omega arith);
    below = omega (arith, p.below);
  }

  chosen : (later : List ℕ) {left : ℕ} → CodePassed g u code left later → (s : ℕ) × (left : ℕ) × Stepped g u code s left
  unfolding sum
  chosen [] p = absurd (omega (arith, p.below))
  chosen (s ∷ later) {left} p = go (ltb left (path_count g s)) refl (λ q. chosen later q)
    where
      go : (b : Bool) → ltb left (path_count g s) ≡ b
          → (CodePassed g u code (left - path_count g s) later → (s : ℕ) × (left : ℕ) × Stepped g u code s left)
          → (s : ℕ) × (left : ℕ) × Stepped g u code s left
      go true e on = (s, left, passed_here p (ltb-true left (path_count g s) e))
      go false e on = on (passed_on_lem p (ltb-false left (path_count g s) e))

-- ---- the way to the sink

-- the way from u of this code
pub record WayOf (g : Graph) (u code : ℕ) : Type 0 where
  pub path : List ℕ
  pub arcs : ArcPath g u path
  pub code_is : code_from g u path ≡ code

module _ {g : Graph} (ok : Sound g) where
  way-within : (d : ℕ) (u code : ℕ) → u ≤ sink g → sink g ≤ u + d → code < path_count g u → WayOf g u code
  unfolding code_from
  way-within zero u code h k l =
      let e : u ≡ sink g = omega arith in
      let one : code < 1 = rw (e, path_count-sink ok) at l in
      record { path = []; arcs = arrived e; code_is = omega arith }
  way-within (suc d) u code h k l = go (eqb u (sink g)) refl (way-within d)
    where
      go : (b : Bool) → eqb u (sink g) ≡ b → ((s left : ℕ) → s ≤ sink g → sink g ≤ s + d → left < path_count g s → WayOf g s left) → WayOf g u code
      go true q on =
          let e = eqb-true u (sink g) q in
          let one : code < 1 = rw (e, path_count-sink ok) at l in
          record { path = []; arcs = arrived e; code_is = omega arith }
      go false q on =
          let below = below-sink g h q in
          let c = chosen ok below (g.successors u) (passed_none ok below l) in
          let r = ok.rises below c.2.arc in
          let w = on c.0 c.1 r.1 (omega arith) c.2.below in
          record { path = c.0 ∷ w.path; arcs = along below c.2.arc w.arcs; code_is = omega (arith, w.code_is, c.2.split) }

  pub way_of : {u code : ℕ} → u ≤ sink g → code < path_count g u → WayOf g u code
  way_of {u} {code} h l = way-within (sink g) u code h (omega arith) l

-- ---- the arcs of one vertex, in the image

module _ {x : List ℕ} {vertices : List Vertex} (t : Tabled x vertices) {u : ℕ} (h : u ≤ node_count x) where
  ok-image : Sound (graph_of x)
  ok-image = sound_of t.located.formed

  below-end : u < sink (graph_of x)
  unfolding sink
  below-end = omega arith

  pub step-rises : {code s left : ℕ} → Stepped (graph_of x) u code s left → u < s
  step-rises s = (ok-image.rises below-end s.arc).0

  pub pass_start : {code : ℕ} → code < path_count (graph_of x) u → CodePassed (graph_of x) u code code (successors x u)
  pass_start k = passed_none ok-image below-end k

  module _ {code i s left : ℕ} (a : ArcHere x u i s) (p : CodePassed (graph_of x) u code left (drop i (successors x u))) where
    pub pass_here : left < path_count (graph_of x) s → Stepped (graph_of x) u code s left
    pass_here k = passed_here ok-image below-end (rw a.first at p) k

    pub pass_on : path_count (graph_of x) s ≤ left
        → CodePassed (graph_of x) u code (left - path_count (graph_of x) s) (drop (i + 1) (successors x u))
    pass_on k = passed_on_lem ok-image below-end (rw a.first at p) k

-- some arc is to come, since some of the code is left for it
pub pass_more : (x : List ℕ) (u i : ℕ) {code left : ℕ} → CodePassed (graph_of x) u code left (drop i (successors x u))
    → i < length (successors x u)
unfolding sum
pass_more x u i {code} {left} p = elim (dec_lt i (length (successors x u))) [
  | yes h ↦ h
  | no n ↦ absurd (none (drop_of_length-le (successors x u) {i = i} (omega arith)) p.below)
]
  where
    none : {l : List ℕ} → l ≡ [] → left < sum (map (path_count (graph_of x)) l) → ⊥
    none e k = let z = rw e at k in omega arith

-- ---- the letters on the way

-- n letters of the code's word are written; u is the next vertex, and its letter comes next
pub record LettersLeft (x : List ℕ) (code : ℕ) (before letters : List ℕ) (n u left : ℕ) : Type 0 where
  pub after_root : 0 < u
  pub bounded : u ≤ sink_of x
  pub below : left < path_count (graph_of x) u
  pub long : length letters ≡ 32
  pub few : n ≤ 32
  -- whatever way of the code that is left comes next
  pub goes_on : (q : List ℕ) → ArcPath (graph_of x) u q → code_from (graph_of x) u q ≡ left
      → letters_of_code (graph_of x) code ≡ take n letters ++ path_letters (graph_of x) (u ∷ q)
  pub rest : drop n letters ≡ drop n before

module _ {x : List ℕ} {vertices : List Vertex} (spell : Spellable x vertices)
    {code : ℕ} (k : code < word_count (graph_of x)) where
  ok : Sound (graph_of x)
  ok = sound_of spell.tabled.located.formed

  pub letters-start : {letters : List ℕ} {u left : ℕ} → length letters ≡ 32 → Stepped (graph_of x) 0 code u left
      → LettersLeft x code letters letters 0 u left
  unfolding sink sink_of path_code code_from
  letters-start {letters} {u} {left} h s =
      let r = ok.rises (omega arith) s.arc in
      record {
        after_root = r.0;
        bounded = r.1;
        below = s.below;
        long = h;
        few = omega arith;
        goes_on = λ q w e.
            let full = (full-paths ok).1 (from_root (along (omega arith) s.arc w)) in
            let c : path_code (graph_of x) (0 ∷ u ∷ q) ≡ code = rw e (sym s.split) in
            letters-at (graph_of x) code
            ∙ ap (path_letters (graph_of x)) (rw c at (at_code ok full).1)
            ∙ letters-root (graph_of x) (u ∷ q);
        rest = refl;
      }

  module _ {before letters : List ℕ} {n u left : ℕ} (l : LettersLeft x code before letters n u left) where
    taken : length (take n letters) ≡ n
    taken = length-take-le n letters (omega (arith, l.few, l.long))

    way : WayOf (graph_of x) u left
    unfolding sink sink_of
    way = way_of ok l.bounded l.below

    whole : length (letters_of_code (graph_of x) code) ≡ n + length (path_letters (graph_of x) (u ∷ way.path))
    whole = ap length (l.goes_on way.path way.arcs way.code_is) ∙ length-append (take n letters) _ ∙ rw taken

    -- a letter is to come, so that there is room for it
    pub letters_room : u < sink_of x → n < 32
    unfolding sink sink_of
    letters_room h =
        let one = ap length (letters-node (graph_of x) way.path l.after_root h) in
        omega (arith, whole, one, code-short (graph_of x) spell.short k)

    pub letters_next : u < sink_of x → {s rest : ℕ} → Stepped (graph_of x) u left s rest
        → LettersLeft x code before (set letters n (node_letter x u)) (n + 1) s rest
    unfolding sink sink_of code_from
    letters_next h {s} {rest} t =
        let r = ok.rises h t.arc in
        let room = letters_room h in
        record {
          after_root = omega arith;
          bounded = r.1;
          below = t.below;
          long = length-set letters n _ ∙ l.long;
          few = omega arith;
          goes_on = λ q w e.
              l.goes_on (s ∷ q) (along h t.arc w) (rw e (sym t.split))
              ∙ rw (
                letters-node (graph_of x) (s ∷ q) l.after_root h,
                add-one,
                take-suc-set letters n (node_letter x u) (omega (arith, l.long)),
              )
              (sym (append_snoc (take n letters) (node_letter x u) (path_letters (graph_of x) (s ∷ q))));
          rest =
              drop-set-lt (n + 1) letters n (node_letter x u) (omega arith)
              ∙ sym (drop-drop 1 n letters) ∙ ap (drop 1) l.rest ∙ drop-drop 1 n before;
        }

    pub letters_done : sink_of x ≤ u → Spelled (letters_of_code (graph_of x) code) before letters n
    unfolding sink sink_of code_from
    letters_done h =
        let e : u ≡ sink (graph_of x) = omega (arith, l.bounded) in
        let z : left < 1 = rw (e, path_count-sink ok) at l.below in
        let done : letters_of_code (graph_of x) code ≡ take n letters =
        l.goes_on [] (arrived e) (omega arith)
        ∙ rw (letters-beyond (graph_of x) [] e, letters-none (graph_of x)) (append-nil (take n letters)) in
        record {
          size = sym taken ∙ ap length (sym done);
          few = l.few;
          long = l.long;
          start = sym done;
          rest = l.rest;
        }
