-- An answer is read back from what C gets: a value is 0 or above, a refusal below. Assumes nothing.
use Prim.Native.Nat.{ℕ, zero, suc, ◌≤◌}
use mathlib.Core.Path.{◌≡◌, sym, ap}
use mathlib.Core.Bool.{Bool, true, false, true≢false}
use native.Mathlib.Omega.{arith}
use lib.IntN.{ℤ, pos, negsuc, neg_ℤ}
use lib.Signed.{mag}
use Rattle.call.specs.declared.Refusal.{Refusal}
use Rattle.call.specs.declared.Refusal.TheVariants.{WorkSpace, VoiceLength, VoiceRange, LexiconLength, LexiconRange}
use Rattle.call.specs.declared.Refusal.TheVariants.{Orphan, Places, LongWord, WordCount, SameLetters, Frames, Count}
use Rattle.call.specs.declared.Refusal.TheVariants.{NoWord, Packed, Code, Output, WordList, CanonicalImage, Items}
use Rattle.call.specs.Table.{Answer, value, refused, number, signed_answer}

from_one : (r : Refusal) → 1 ≤ number r
from_one WorkSpace = omega arith
from_one VoiceLength = omega arith
from_one VoiceRange = omega arith
from_one LexiconLength = omega arith
from_one LexiconRange = omega arith
from_one Orphan = omega arith
from_one Places = omega arith
from_one LongWord = omega arith
from_one WordCount = omega arith
from_one SameLetters = omega arith
from_one Frames = omega arith
from_one Count = omega arith
from_one NoWord = omega arith
from_one Packed = omega arith
from_one Code = omega arith
from_one Output = omega arith
from_one WordList = omega arith
from_one CanonicalImage = omega arith
from_one Items = omega arith

abbrev is_positive : ℤ → Bool
is_positive (pos n) = true
is_positive (negsuc n) = false

below-zero : (m k : ℕ) → 1 ≤ m → ¬ (neg_ℤ (pos m) ≡ pos k)
below-zero zero k l e = omega (arith, l)
below-zero (suc m) k l e = true≢false (ap is_positive (sym e))

pub value_signed : (a : Answer ℕ) (k : ℕ) → signed_answer a ≡ pos k → a ≡ value k
value_signed (value n) k e = ap value (ap mag e)
value_signed (refused r) k e = absurd (below-zero (number r) k (from_one r) e)
