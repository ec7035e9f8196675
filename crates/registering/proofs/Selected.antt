-- What a test selects of the numbers from one up to another, number by number. Assumes nothing.
use Prim.Native.Nat.{ℕ, suc, ◌+◌, ◌-◌, ◌≤◌, ◌<◌}
use mathlib.Core.Path.{◌≡◌}
use mathlib.Core.Bool.{Bool, true, false}
use mathlib.Core.List.{List, [], ◌∷◌}
use native.Mathlib.Numerals.{add-one}
use native.Mathlib.Omega.{arith}
use Rattle.endian.specs.Lists.{from, select}

module _ (p : ℕ → Bool) (i stop : ℕ) where
  -- those from i on
  abbrev pub selected : List ℕ
  selected = select p (from i (stop - i))

  -- those behind it
  abbrev pub behind : List ℕ
  behind = select p (from (i + 1) (stop - (i + 1)))

  pub select-here : i < stop → p i ≡ true → selected ≡ i ∷ behind
  unfolding from select
  select-here h e = let s : stop - i ≡ suc (stop - (i + 1)) = omega arith in rw (s, e, add-one)

  pub select-past : i < stop → p i ≡ false → selected ≡ behind
  unfolding from select
  select-past h e = let s : stop - i ≡ suc (stop - (i + 1)) = omega arith in rw (s, e, add-one)

  pub select-end : stop ≤ i → selected ≡ []
  unfolding from select
  select-end h = let s : stop - i ≡ 0 = omega arith in rw s
