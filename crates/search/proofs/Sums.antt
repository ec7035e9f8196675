-- Sums that fit and measures that fall, each from few facts. `omega` reads all that is at hand, which is much in a
-- proof about a long function, so such a proof cites these. Assumes nothing.
use Prim.Native.Nat.{ℕ, ◌+◌, ◌-◌, ◌*◌, ◌<◌, ◌≤◌}
use mathlib.Core.Bool.{true}
use mathlib.Core.Path.{◌≡◌}
use native.Mathlib.Nat.{mul-le-mul}
use native.Mathlib.Omega.{arith}
use lib.Dec.{leb}
use borrow.Author.Tests.{leb-true}
use mir.Syntax.{w32, w64}
use mir.Val.{Fits}
use Rattle.storing.specs.Held.{lift}

-- a number up to or below a small one, whatever the small one is: that it is one is computed
pub most-fits : (x : ℕ) {k : ℕ} → x ≤ k → leb k 65536 ≡ true → Fits w64 x
most-fits x {k} h e = omega (arith, leb-true k 65536 e)

pub less_fits : (x : ℕ) {k : ℕ} → x < k → leb k 65536 ≡ true → Fits w64 x
less_fits x {k} h e = omega (arith, leb-true k 65536 e)

-- where entry x of a table begins whose entries have c bytes each
pub bytes-before : (x c : ℕ) {k : ℕ} → x < k → leb (k * c) 65536 ≡ true → Fits w64 (x * c)
bytes-before x c {k} h e =
    let a : x ≤ k = omega arith in
    let b : c ≤ c = omega arith in
    omega (arith, mul-le-mul {n₂ = k} {m₂ = c} a b, leb-true (k * c) 65536 e)

-- the next entry of a list of arcs
pub arc-fits : (at : ℕ) {stop : ℕ} → at + 2 ≤ stop → stop ≤ 9204 → Fits w64 (at + 2)
arc-fits at h f = omega arith

pub arc_less : {at stop : ℕ} → at < stop → stop - (at + 2) < stop - at
arc_less h = omega arith

-- a list of k arcs at an offset of the image: where it begins, what follows its count, its bytes, its end
pub list-fits : (at k : ℕ) → at + 2 + 2 * k ≤ 9204 → Fits w64 at
list-fits at k h = omega arith

pub arcs_fit : (at k : ℕ) → at + 2 + 2 * k ≤ 9204 → Fits w64 (at + 2)
arcs_fit at k h = omega arith

pub bytes_fit : (at k : ℕ) → at + 2 + 2 * k ≤ 9204 → Fits w64 (2 * k)
bytes_fit at k h = omega arith

pub end_fits : (at k : ℕ) → at + 2 + 2 * k ≤ 9204 → Fits w64 (at + 2 + 2 * k)
end_fits at k h = omega arith

-- a vertex, and the one after it
pub vertex-below : {u : ℕ} → u ≤ 401 → u < 402
vertex-below h = omega arith

pub node-below : {u : ℕ} → u ≤ 400 → u < 402
node-below h = omega arith

pub next-below : {u : ℕ} → u ≤ 400 → u + 1 < 402
next-below h = omega arith

pub after-fits : (u : ℕ) → u ≤ 400 → Fits w64 (1 + u)
after-fits u h = omega arith

-- what a token has been moved down by, with the paths before the next arc
pub paths_fit : (down p : ℕ) → down + p < lift + 4294967296 → Fits w64 p
paths_fit down p h = omega arith

pub down_fits : (down p : ℕ) → down + p < lift + 4294967296 → Fits w64 (down + p)
down_fits down p h = omega arith

-- a sum of path counts, which are within the limit of words
pub counts_fit : (total : ℕ) {a b all : ℕ} → a ≡ b → total + b ≤ all → all ≤ 1048576 → Fits w32 (total + a)
counts_fit total e h f = omega arith

-- a code, in 32 bits
pub code_fits : (increment p : ℕ) → increment + p < 4294967296 → Fits w32 (increment + p)
code_fits increment p h = omega arith

-- a place's bytes end within 64 bits, and so do its first slot, its first byte and its length
pub slot-fits : (k n : ℕ) → Fits w64 (8 * k + 8 * n) → Fits w64 k
slot-fits k n f = omega arith

pub begin-fits : (k n : ℕ) → Fits w64 (8 * k + 8 * n) → Fits w64 (8 * k)
begin-fits k n f = omega arith

pub size_fits : (k n : ℕ) → Fits w64 (8 * k + 8 * n) → Fits w64 (8 * n)
size_fits k n f = omega arith

-- a list of the same length has room for the same place
pub room-kept : (n : ℕ) {old long : ℕ} → 8 * 0 + 8 * n ≤ old → long ≡ old → 8 * n ≤ long
room-kept n h e = omega arith

-- an order of equal numbers
pub less_by : {a b c d : ℕ} → a ≡ c → b ≡ d → a < b → c < d
less_by e f h = omega arith

-- twice a letter or a symbol, and the byte of a letter's states
pub double_fits : (x : ℕ) → x ≤ 64 → Fits w64 (2 * x)
double_fits x h = omega arith

pub letter-fits : (l : ℕ) → l ≤ 64 → Fits w64 (2 + 2 * l)
letter-fits l h = omega arith

pub letter-within : {l : ℕ} → l < 64 → l ≤ 64
letter-within h = omega arith

-- an offset before a length that fits, and one of two bytes there
pub below-fits : (x : ℕ) {long : ℕ} → x < long → Fits w64 long → Fits w64 x
below-fits x h f = omega arith

pub within-fits : (x : ℕ) {long : ℕ} → x + 2 ≤ long → Fits w64 long → Fits w64 x
within-fits x h f = omega arith

-- the offset of an emission, a + 1 + 2 * (p + k), in each of its parts
pub offset-fits : (a p k : ℕ) → Fits w64 (a + 1 + 2 * (p + k))
    → Fits w64 (a + 1) × Fits w64 p × Fits w64 (p + k) × Fits w64 (2 * (p + k))
offset-fits a p k f = (omega arith, omega arith, omega arith, omega arith)
