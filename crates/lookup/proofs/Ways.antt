-- The search finds the first way in code order that spells the bytes: by a vertex that is passed there is no such way,
-- and the path counts of those passed are the increment of the arc that is taken. Where it finds none, there is none.
-- Assumes nothing.
use Prim.Native.Nat.{ℕ, ◌+◌, ◌≤◌, ◌<◌}
use mathlib.Core.Path.{◌≡◌, refl, sym, ap, ap₂, subst, ◌∙◌}
use mathlib.Core.Bool.{Bool, true, false}
use mathlib.Core.Logic.{◌⊎◌, inl, inr}
use mathlib.Core.List.Memᴰ.{head as here}
use mathlib.Core.List.Memᴰ.{tail as there}
use mathlib.Core.List.{List, [], ◌∷◌, ◌++◌, map, Memᴰ}
use mathlib.Core.List.Memᴰ
use Rattle.std.proofs.Common.{Option, None, Some}
use native.Mathlib.Omega.{arith}
use native.Mathlib.Decide.{ℕ_discrete}
use lib.ListN.{get_or}
use lib.Dec.{eqb}
use borrow.Author.Tests.{eqb-true, eq-eqb}
use Rattle.endian.specs.Lists.{sum}
use Rattle.endian.specs.Bytes.{Bytes}
use Rattle.voice.specs.Voice.{print_byte}
use Rattle.graph.specs.Graph.{Graph, sink, ArcPath, arrived, along, path_count, code_from}
use Rattle.graph.specs.Words.{word_of_path}
use Rattle.graph.proofs.Sound.{Sound}
use Rattle.graph.proofs.Codes.{increment-at, arc-within}
use Rattle.codes.proofs.Words.{word-node, word-beyond, word_none}
use Rattle.lookup.specs.Seeking.{code_or, first_code, code_by, code_after}
use Rattle.lookup.proofs.Least.{Least, LeastWith, code_below, later-above}

some_same : {a b : ℕ} → Some a ≡ Some b → a ≡ b
some_same e = cc

-- ---- the first of a list that has a code

module _ (code : ℕ → Option ℕ) (count : ℕ → ℕ) where
  pub record FirstOf (l : List ℕ) (passed c : ℕ) : Type 0 where
    pub earlier : List ℕ
    pub one : ℕ
    pub later : List ℕ
    pub own : ℕ
    pub split : l ≡ earlier ++ one ∷ later
    pub unfound : {t : ℕ} → Memᴰ t earlier → code t ≡ None
    pub found : code one ≡ Some own
    pub adds : c ≡ passed + sum (map count earlier) + own

  pub first_member : {l : List ℕ} {passed c : ℕ} → (f : FirstOf l passed c) → Memᴰ f.one l
  first_member f =
      subst (λ (l : List ℕ). Memᴰ f.one l) (sym f.split) (Memᴰ.append_right f.earlier (here refl))

  pub first_some : (l : List ℕ) (passed : ℕ) {c : ℕ} → first_code code count l passed ≡ Some c → FirstOf l passed c
  unfolding first_code code_or sum
  first_some [] passed {c} e = absurd (cc)
  first_some (s ∷ l) passed {c} e = go (code s) refl (λ h. first_some l (passed + count s) h)
    where
      go : (o : Option ℕ) → code s ≡ o
          → (first_code code count l (passed + count s) ≡ Some c → FirstOf l (passed + count s) c)
          → FirstOf (s ∷ l) passed c
      go (Some own) q on = record {
        earlier = [];
        one = s;
        later = l;
        own = own;
        split = refl;
        unfound = λ {t} m. absurd (Memᴰ.not-nil m);
        found = q;
        adds = let f = some_same (rw q at e) in omega arith;
      }
      go None q on = let f = on (rw q at e) in record {
        earlier = s ∷ f.earlier;
        one = f.one;
        later = f.later;
        own = f.own;
        split = ap (λ (r : List ℕ). s ∷ r) f.split;
        unfound = λ {t} m. before f m;
        found = f.found;
        adds = omega (arith, f.adds);
      }
        where
          before : (f : FirstOf l (passed + count s) c) {t : ℕ} → Memᴰ t (s ∷ f.earlier) → code t ≡ None
          before f (here h) = rw h q
          before f (there m) = f.unfound m

  pub first_none : (l : List ℕ) (passed : ℕ) → first_code code count l passed ≡ None → {t : ℕ} → Memᴰ t l
      → code t ≡ None
  unfolding first_code code_or
  first_none [] passed e {t = t} m = elim m [ ]
  first_none (s ∷ l) passed e {t} m = go (code s) refl m (λ h. first_none l (passed + count s) h)
    where
      go : (o : Option ℕ) → code s ≡ o → Memᴰ t (s ∷ l)
          → (first_code code count l (passed + count s) ≡ None → Memᴰ t l → code t ≡ None) → code t ≡ None
      go (Some own) q m on = let z = (sym (rw q at e)) in absurd (cc)
      go None q (here h) on = rw h q
      go None q (there m) on = on (rw q at e) m

-- ---- ways that spell the bytes

same_head : {a b : ℕ} {l m : List ℕ} → a ∷ l ≡ b ∷ m → a ≡ b
same_head e = cc

same_tail : {a b : ℕ} {l m : List ℕ} → a ∷ l ≡ b ∷ m → l ≡ m
same_tail e = cc

cons≢nil : {a : ℕ} {l : List ℕ} → ¬ (a ∷ l ≡ [])
cons≢nil e = let z : ◌≡◌ {A = ℕ} 0 1 = cc in omega arith

-- a vertex that prints a byte is not the sink
pub not_end : (g : Graph) (prints : List ℕ) {s b : ℕ} → get_or prints (sink g) 0 ≡ 256 → s ≤ sink g → b < 256
    → get_or prints s 0 ≡ b → s < sink g
not_end g prints {s} {b} end k l e = elim (ℕ_discrete s (sink g)) [
  | yes q ↦ absurd (omega (arith, sym (ap (λ u. get_or prints u 0) q) ∙ e, end))
  | no n ↦ omega arith
]

module _ (v : List ℕ) (g : Graph) where
  -- of the ways from u that spell them, the first in code order, and its code
  pub record WayAfter (u : ℕ) (bytes : List ℕ) (c : ℕ) : Type 0 where
    pub path : List ℕ
    pub arcs : ArcPath g u path
    pub spells : word_of_path v g path ≡ bytes
    pub least : Least v g u bytes path
    pub code : c ≡ code_from g u path

  -- the same where the letter of s is spelled first
  record WayBy (s : ℕ) (bytes : List ℕ) (c : ℕ) : Type 0 where
    path : List ℕ
    arcs : ArcPath g s path
    spells : word_of_path v g (s ∷ path) ≡ bytes
    least : LeastWith v g s bytes path
    code : c ≡ code_from g s path

-- a sound graph, and what its vertices print
pub record Printing (v : List ℕ) (g : Graph) (prints : List ℕ) : Type 0 where
  pub sound : Sound g
  pub end : get_or prints (sink g) 0 ≡ 256
  pub node : {u : ℕ} → 0 < u → u < sink g → get_or prints u 0 ≡ print_byte v (g.letter u)
  pub low : {u : ℕ} → 0 < u → u < sink g → get_or prints u 0 < 256

module _ (v : List ℕ) (g : Graph) (prints : List ℕ) where
  abbrev BySome : List ℕ → Type 0
  BySome bytes = (s c : ℕ) → 0 < s → s ≤ sink g → code_by prints g bytes s ≡ Some c → WayBy v g s bytes c

  abbrev ByNone : List ℕ → Type 0
  ByNone bytes = (s : ℕ) (q : List ℕ) → 0 < s → s ≤ sink g → code_by prints g bytes s ≡ None → ArcPath g s q
      → word_of_path v g (s ∷ q) ≡ bytes → ⊥

module _ {v : List ℕ} {g : Graph} {prints : List ℕ} (printing : Printing v g prints) where
  ok : Sound g
  ok = printing.sound

  after-some : (bytes : List ℕ) → BySome v g prints bytes → ByNone v g prints bytes → (u c : ℕ) → u < sink g
      → code_after prints g u bytes ≡ Some c → WayAfter v g u bytes c
  unfolding code_after code_from
  after-some bytes by-some by-none u c h e =
      record {
        path = f.one ∷ w.path;
        arcs = along h arc w.arcs;
        spells = w.spells;
        least = λ p o m. lowest p o m;
        code = omega (arith, f.adds, w.code, increment-at ok h f.earlier f.later f.one f.split);
      }
    where
      f : FirstOf (code_by prints g bytes) (path_count g) (g.successors u) 0 c
      f = first_some (code_by prints g bytes) (path_count g) (g.successors u) 0 e

      arc : Memᴰ f.one (g.successors u)
      arc = first_member _ _ f

      w : WayBy v g f.one bytes f.own
      w = let r = ok.rises h arc in by-some f.one f.own (omega (arith, r.0)) r.1 f.found

      -- a way by an earlier arc would have a code, and one by a later arc has a greater code
      lowest : (p : List ℕ) → ArcPath g u p → word_of_path v g p ≡ bytes
          → code_from g u (f.one ∷ w.path) ≤ code_from g u p
      lowest p (arrived q) m = absurd (omega arith)
      lowest p (along {s = t} {p = r} j i o) m =
          by_arc (Memᴰ.append_cases f.earlier (subst (λ (l : List ℕ). Memᴰ t l) f.split i))
        where
          by_arc : Memᴰ t f.earlier ⊎ Memᴰ t (f.one ∷ f.later)
              → code_from g u (f.one ∷ w.path) ≤ code_from g u (t ∷ r)
          by_arc (inl a) =
              let k = ok.rises j i in absurd (by-none t r (omega (arith, k.0)) k.1 (f.unfound a) o m)
          by_arc (inr (here q)) =
              let l : code_from g f.one w.path ≤ code_from g f.one r = w.least r (rw q at o) (rw q at m) in
              rw q (omega arith)
          by_arc (inr (there a)) =
              omega (
                arith,
                code_below ok w.arcs,
                later-above ok {u = u} h f.earlier f.later f.one f.split a,
              )

  after_none : (bytes : List ℕ) → ByNone v g prints bytes → (u : ℕ) → u < sink g → code_after prints g u bytes ≡ None
      → (q : List ℕ) → ArcPath g u q → word_of_path v g q ≡ bytes → ⊥
  unfolding code_after
  after_none bytes by-none u h e q (arrived d) m = omega arith
  after_none bytes by-none u h e q (along {s = s} {p = p} k i o) m =
      let r = ok.rises k i in
      by-none s p (omega (arith, r.0)) r.1
      (first_none (code_by prints g bytes) (path_count g) (g.successors u) 0 e i) o m

  -- ---- by way of a vertex

  -- the sink prints no byte
  is_end : {s : ℕ} → 0 < s → s ≤ sink g → get_or prints s 0 ≡ 256 → s ≡ sink g
  is_end {s} h k e = elim (ℕ_discrete s (sink g)) [
    | yes q ↦ q
    | no n ↦ absurd (omega (arith, printing.low {u = s} h (omega arith)))
  ]

  no_letters : {s : ℕ} {q : List ℕ} → s ≡ sink g → ArcPath g s q → word_of_path v g (s ∷ q) ≡ []
  no_letters {s} e (arrived d) = word-beyond v g [] e ∙ word_none v g
  no_letters e (along h m w) = absurd (omega arith)

  starts_with : {s : ℕ} (q : List ℕ) → 0 < s → s < sink g
      → word_of_path v g (s ∷ q) ≡ get_or prints s 0 ∷ word_of_path v g q
  starts_with q h k = word-node v g q h k ∙ ap (λ b. b ∷ word_of_path v g q) (sym (printing.node h k))

  end_some : BySome v g prints []
  unfolding code_by code_from
  end_some s c h k e = go (eqb (get_or prints s 0) 256) refl
    where
      go : (b : Bool) → eqb (get_or prints s 0) 256 ≡ b → WayBy v g s [] c
      go true q =
          let d = is_end h k (eqb-true (get_or prints s 0) 256 q) in
          let f = some_same (rw q at e) in
          record {
            path = [];
            arcs = arrived d;
            spells = no_letters d (arrived d);
            least = λ p o m. omega arith;
            code = sym f;
          }
      go false q = let z = (rw q at e) in absurd (cc)

  end_none : ByNone v g prints []
  unfolding code_by
  end_none s q h k e o m = go (ℕ_discrete s (sink g))
    where
      go : Dec (s ≡ sink g) → ⊥
      go (yes d) =
          let f = eq-eqb (get_or prints s 0) 256 (ap (λ u. get_or prints u 0) d ∙ printing.end) in
          let z = rw f at e in absurd (cc)
      go (no d) = cons≢nil (sym (starts_with q h (omega arith)) ∙ m)

  module _ {b : ℕ} {bytes : List ℕ} (l : b < 256) (some-by : BySome v g prints bytes)
      (none-by : ByNone v g prints bytes) where
    letter_some : BySome v g prints (b ∷ bytes)
    unfolding code_by code_after
    letter_some s c h k e = go (eqb (get_or prints s 0) b) refl
      where
        go : (t : Bool) → eqb (get_or prints s 0) b ≡ t → WayBy v g s (b ∷ bytes) c
        go true q =
            let f = eqb-true (get_or prints s 0) b q in
            let n = not_end g prints printing.end k l f in
            let w = after-some bytes some-by none-by s c n (rw q at e) in
            record {
              path = w.path;
              arcs = w.arcs;
              spells = starts_with w.path h n ∙ ap₂ ◌∷◌ f w.spells;
              least = λ p o m. w.least p o (same_tail (sym (starts_with p h n) ∙ m));
              code = w.code;
            }
        go false q = let z = (rw q at e) in absurd (cc)

    letter_none : ByNone v g prints (b ∷ bytes)
    unfolding code_by code_after
    letter_none s q h k e o m = go (ℕ_discrete s (sink g))
      where
        go : Dec (s ≡ sink g) → ⊥
        go (yes d) = cons≢nil (sym m ∙ no_letters d o)
        go (no d) =
            let n : s < sink g = omega arith in
            let t = sym (starts_with q h n) ∙ m in
            let f = eq-eqb (get_or prints s 0) b (same_head t) in
            after_none bytes none-by s n (rw f at e) q o (same_tail t)

  ways_by : (bytes : List ℕ) → Bytes bytes → BySome v g prints bytes × ByNone v g prints bytes
  ways_by [] low = (end_some, end_none)
  ways_by (b ∷ bytes) low =
      let r = ways_by bytes (λ x m. low x (there m)) in
      let l = low b (here refl) in
      (letter_some l r.0 r.1, letter_none l r.0 r.1)

  -- ---- from a vertex on

  module _ (bytes : List ℕ) (low : Bytes bytes) {u : ℕ} (h : u < sink g) where
    pub found_way : {c : ℕ} → code_after prints g u bytes ≡ Some c → WayAfter v g u bytes c
    found_way {c} e = let r = ways_by bytes low in after-some bytes r.0 r.1 u c h e

    pub no_way : code_after prints g u bytes ≡ None → {q : List ℕ} → ArcPath g u q → ¬ (word_of_path v g q ≡ bytes)
    no_way e {q} o m = after_none bytes (ways_by bytes low).1 u h e q o m

-- ---- a code that is found is no more than the paths from there

module _ {g : Graph} (ok : Sound g) (prints : List ℕ) (end : get_or prints (sink g) 0 ≡ 256) where
  abbrev Within : List ℕ → Type 0
  Within bytes = (s c : ℕ) → s ≤ sink g → code_by prints g bytes s ≡ Some c → c ≤ path_count g s

  within-after : (bytes : List ℕ) → Within bytes → (u c : ℕ) → u < sink g → code_after prints g u bytes ≡ Some c
      → c ≤ path_count g u
  unfolding code_after
  within-after bytes within u c h e =
      let f = first_some (code_by prints g bytes) (path_count g) (g.successors u) 0 e in
      omega (
        arith,
        f.adds,
        within f.one f.own (ok.rises h (first_member _ _ f)).1 f.found,
        increment-at ok h f.earlier f.later f.one f.split,
        arc-within ok {u = u} h f.earlier f.later f.one f.split,
      )

  within_by : (bytes : List ℕ) → Bytes bytes → Within bytes
  unfolding code_by code_after
  within_by [] low s c k e = go (eqb (get_or prints s 0) 256) refl
    where
      go : (b : Bool) → eqb (get_or prints s 0) 256 ≡ b → c ≤ path_count g s
      go true q = let f = some_same (rw q at e) in omega arith
      go false q = let z = (rw q at e) in absurd (cc)
  within_by (b ∷ bytes) low s c k e =
      go (eqb (get_or prints s 0) b) refl (within_by bytes (λ x m. low x (there m))) (low b (here refl))
    where
      go : (t : Bool) → eqb (get_or prints s 0) b ≡ t → Within bytes → b < 256 → c ≤ path_count g s
      go true q within l =
          within-after bytes within s c (not_end g prints end k l (eqb-true (get_or prints s 0) b q)) (rw q at e)
      go false q within l = let z = (rw q at e) in absurd (cc)

  pub after-within : (bytes : List ℕ) → Bytes bytes → {u c : ℕ} → u < sink g → code_after prints g u bytes ≡ Some c
      → c ≤ path_count g u
  after-within bytes low {u} {c} h e = within-after bytes (within_by bytes low) u c h e
