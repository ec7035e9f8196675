-- Where a vertex's list stands, cut off at the end of the bytes, and the part that holds it. Once an offset is past the end it stays there,
-- so the cut offset is all that the part depends on. Assumes nothing.
use mathlib.Core.Path.{◌≡◌, refl}
use mathlib.Core.Bool.{Bool, true, false, cond, ◌&&◌}
use mathlib.Core.List.{List, []}
use Prim.Native.Nat.{ℕ, suc, ◌+◌, ◌*◌, ◌-◌, min, ◌≤◌, ◌<◌}
use native.Mathlib.Omega.{arith}
use native.Mathlib.Numerals.{add-one}
use lib.ListN.{length, take, drop}
use lib.Dec.{leb}
use borrow.Author.Tests.{leb-true, leb-false, lt-leb, le-leb}
use Rattle.endian.specs.Bytes.{u16}
use Rattle.lexicon.specs.Lexicon.{node_count, arcs_at, arc_count, successor_part}

pub arcs-step : (x : List ℕ) (u at r : ℕ) → at ≡ min (arcs_at x u) (length x) → r ≡ min (at + 2 + 2 * u16 x at) (length x) → r ≡ min (arcs_at x (u + 1)) (length x)
unfolding arcs_at
arcs-step x u at r h k = rw add-one (go (leb (arcs_at x u) (length x)) refl)
  where
    go : (b : Bool) → leb (arcs_at x u) (length x) ≡ b → r ≡ min (arcs_at x (suc u)) (length x)
    go true e =
        let l = leb-true (arcs_at x u) (length x) e in
        let a : at ≡ arcs_at x u = omega arith in
        rw a at k
    go false e = omega (arith, leb-false (arcs_at x u) (length x) e)

-- ---- the part

pub part-above : (x : List ℕ) (u : ℕ) → node_count x < u → successor_part x u ≡ []
unfolding successor_part
part-above x u h = rw (lt-leb u (node_count x) h)

part_cut : (x : List ℕ) (u : ℕ) → length x < arcs_at x (suc u) → successor_part x u ≡ []
unfolding successor_part
part_cut x u h = rw (lt-leb (arcs_at x (suc u)) (length x) h) (go (leb u (node_count x)))
  where
    go : (b : Bool) → cond (b && false) (take (2 * arc_count x u) (drop (arcs_at x u + 2) x)) [] ≡ []
    go true = refl
    go false = refl

list-end : (x : List ℕ) (u : ℕ) → arcs_at x (suc u) ≡ arcs_at x u + 2 + 2 * u16 x (arcs_at x u)
unfolding arcs_at
list-end x u = refl

-- at is where the list of u begins, or the end of the bytes; c is the count that is read there
module _ (x : List ℕ) (u at : ℕ) (h : at ≡ min (arcs_at x u) (length x)) (c : ℕ) (e : c ≡ u16 x at) where
  pub part-missing : length x - at < 2 + 2 * c → successor_part x u ≡ []
  part-missing k = go (leb (arcs_at x u) (length x)) refl
    where
      go : (b : Bool) → leb (arcs_at x u) (length x) ≡ b → successor_part x u ≡ []
      go true t =
          let l = leb-true (arcs_at x u) (length x) t in
          let a : at ≡ arcs_at x u = omega arith in
          let f : c ≡ u16 x (arcs_at x u) = rw a at e in
          part_cut x u (omega (arith, list-end x u))
      go false t = part_cut x u (omega (arith, leb-false (arcs_at x u) (length x) t, list-end x u))

  pub part-whole : u ≤ node_count x → 2 + 2 * c ≤ length x - at → take (at + 2 + 2 * c - (at + 2)) (drop (at + 2) x) ≡ successor_part x u
  unfolding successor_part arc_count
  part-whole n k =
      let q : at + 2 + 2 * c - (at + 2) ≡ 2 * c = omega arith in
      let a : at ≡ arcs_at x u = omega arith in
      let f : c ≡ u16 x (arcs_at x u) = rw a at e in
      rw (le-leb u (node_count x) n, le-leb (arcs_at x (suc u)) (length x) (omega (arith, list-end x u)))
      (rw (q, f, a))
