-- What follows a prefix in words that stand in slots, by the bytes of the table: its length, its letters, and the
-- longest of a run of words. Assumes nothing.
use Prim.Native.Nat.{ℕ, zero, suc, ◌+◌, ◌*◌, ◌-◌, ◌≤◌, ◌<◌, max}
use mathlib.Core.Path.{◌≡◌, refl, sym, ap, ◌∙◌}
use borrow.Author.Rules.{rules}
use Rattle.std.proofs.lemmas.Slice.{between_is}
use mathlib.Core.List.{List}
use native.Mathlib.Omega.{arith}
use lib.ListN.{length, get_or, take, drop, length-drop}
use lib.Seq.{drop-drop}
use Rattle.canonical.specs.Dictionary.{longest}
use Rattle.sorting.specs.Slots.{word_at, Slot}
use Rattle.sorting.proofs.SlotWords.{word-length}
use Rattle.registering.specs.Register.{rests_from}

-- ---- one word

-- what follows its first d letters
pub rest-length : {t : List ℕ} {i : ℕ} → Slot t i → (d : ℕ) → length (drop d (word_at t i)) ≡ get_or t (33 * i) 0 - d
rest-length {t} {i} s d = length-drop d (word_at t i) ∙ ap (λ n. n - d) (word-length s)

-- the part of the table that it is
pub rest_part : (t : List ℕ) (i d : ℕ)
    → take (33 * i + 1 + get_or t (33 * i) 0 - (33 * i + 1 + d)) (drop (33 * i + 1 + d) t) ≡ drop d (word_at t i)
unfolding word_at
rest_part t i d =
    let e : 33 * i + 1 + get_or t (33 * i) 0 - (33 * i + 1 + d) ≡ get_or t (33 * i) 0 - d = omega arith in
    rw e (ap (take (get_or t (33 * i) 0 - d)) (sym (drop-drop d (33 * i + 1) t))
    ∙ inner (drop (33 * i + 1) t) d (get_or t (33 * i) 0))
  where
    inner : (s : List ℕ) (a b : ℕ) → take (b - a) (drop a s) ≡ drop a (take b s)
    inner s a b = search (rules, between_is)

-- ---- what follows a prefix in a run of words

pub length_rests : (t : List ℕ) (d i n : ℕ) → length (rests_from t d i n) ≡ n
unfolding rests_from
length_rests t d i zero = refl
length_rests t d i (suc n) = ap suc (length_rests t d (suc i) n)

-- the longest, with a word more
pub longest-more : (t : List ℕ) (d i n : ℕ)
    → longest (rests_from t d i (n + 1)) ≡ max (longest (rests_from t d i n)) (length (drop d (word_at t (i + n))))
unfolding rests_from longest
longest-more t d i zero = let e : i + zero ≡ i = omega arith in rw e (omega arith)
longest-more t d i (suc n) =
    let e : suc i + n ≡ i + suc n = omega arith in
    let h = rw e at (longest-more t d (suc i) n) in
    let f : suc n + 1 ≡ suc (n + 1) = omega arith in
    rw f (omega (arith, h))

-- no longer than a word
pub longest-low : (t : List ℕ) (d i n : ℕ) → ((k : ℕ) → i ≤ k → k < i + n → Slot t k)
    → longest (rests_from t d i n) ≤ 32
unfolding rests_from longest
longest-low t d i zero h = omega arith
longest-low t d i (suc n) h =
    let s = h i (omega arith) (omega arith) in
    omega (arith, rest-length s d, s.short, longest-low t d (suc i) n (λ k p q. h k (omega arith) (omega arith)))
