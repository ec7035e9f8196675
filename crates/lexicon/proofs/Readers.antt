-- The two readers of a vertex's successors agree: the part of the image that holds them, read as u16 numbers, gives the numbers, since a
-- byte of the part is the byte of the image at its place. Assumes nothing.
use mathlib.Core.Path.{◌≡◌, refl, ◌∙◌}
use mathlib.Core.List.{List}
use Prim.Native.Nat.{ℕ, zero, suc, ◌+◌, ◌*◌, ◌≤◌, ◌<◌}
use native.Mathlib.Nat.{add_assoc, add-zero}
use native.Mathlib.Omega.{arith}
use lib.ListN.{length, get_or, take, drop}
use lib.Seq.{get_or-take, get_or-drop}
use borrow.Author.Tests.{le-leb}
use Rattle.endian.specs.Bytes.{u16, u16s}
use Rattle.lexicon.specs.Lexicon.{node_count, arcs_at, arc_count, successors, successor_part}

length-u16s : (b : List ℕ) (at n : ℕ) → length (u16s b at n) ≡ n
unfolding u16s
length-u16s b at zero = refl
length-u16s b at (suc n) = rw (length-u16s b (at + 2) n)

pub length-successors : (x : List ℕ) (u : ℕ) → length (successors x u) ≡ arc_count x u
unfolding successors
length-successors x u = length-u16s x (arcs_at x u + 2) (arc_count x u)

-- a byte of a part
part-byte : (x : List ℕ) (at size i : ℕ) → i < size → get_or (take size (drop at x)) i 0 ≡ get_or x (at + i) 0
part-byte x at size i h = rw (get_or-take, get_or-drop)

part-u16s : (x : List ℕ) (at size i n : ℕ) → i + 2 * n ≤ size → u16s (take size (drop at x)) i n ≡ u16s x (at + i) n
unfolding u16s u16
part-u16s x at size i zero h = refl
part-u16s x at size i (suc n) h =
    rw (part-byte x at size i (omega arith), part-byte x at size (i + 1) (omega arith), part-u16s x at size (i + 2) n (omega arith), ← add_assoc at i 1, ← add_assoc at i 2)

pub part-successors : (x : List ℕ) (u : ℕ) → u ≤ node_count x → arcs_at x (suc u) ≤ length x → u16s (successor_part x u) 0 (arc_count x u) ≡ successors x u
unfolding successor_part successors
part-successors x u h k = rw (le-leb u (node_count x) h, le-leb (arcs_at x (suc u)) (length x) k) (part-u16s x (arcs_at x u + 2) (2 * arc_count x u) 0 (arc_count x u) (omega arith) ∙ rw add-zero)
