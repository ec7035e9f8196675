-- The items of a stock list, read one after the other, and that reading undoes writing. Assumes nothing.
use Prim.Native.Nat.{ℕ, zero, suc, ◌≤◌}
use mathlib.Core.Path.{◌≡◌, refl, sym, ap, ◌∙◌}
use mathlib.Core.Bool.{false, ◌||◌}
use mathlib.Core.Logic.{⊎_elim}
use mathlib.Core.List.Memᴰ.{tail as there}
use mathlib.Core.List.{List, [], ◌∷◌, Memᴰ}
use mathlib.Core.List.Memᴰ
use mathlib.Core.List.Memᴰ.{cases_cons as cases}
use mathlib.Core.List.Memᴰ.{not-nil}
use native.Mathlib.Omega.{arith}
use lib.ListN.{length, take, drop, length-drop, take-append-drop}
use lib.Dec.{ltb}
use Rattle.endian.specs.Bytes.{Bytes, u32_bytes}
use Rattle.endian.proofs.Lists.{take_out}
use Rattle.call.specs.Table.{Answer, value, refused}
use Rattle.codes.specs.Items.{items_within, past_within, items_of, runs_past, answer_bytes}

-- ---- one after the other

-- What is read item by item, as the items are and whether one runs past the end: a greater allowance of items changes
-- nothing.
module _ {A : Type 0} (f : ℕ → List ℕ → A) (none : A) (one : ℕ → List ℕ → A → A) (ends : (n : ℕ) → f n [] ≡ none)
    (goes_on : (n k : ℕ) (bytes : List ℕ) → f (suc n) (k ∷ bytes) ≡ one k bytes (f n (drop k bytes))) where
  enough : (n m : ℕ) (bytes : List ℕ) → length bytes ≤ n → length bytes ≤ m → f n bytes ≡ f m bytes
  enough zero m [] h k = ends zero ∙ sym (ends m)
  enough zero m (b ∷ bytes) h k = absurd (omega arith)
  enough (suc n) m [] h k = ends (suc n) ∙ sym (ends m)
  enough (suc n) zero (b ∷ bytes) h k = absurd (omega arith)
  enough (suc n) (suc m) (b ∷ bytes) h k =
      let l = length-drop b bytes in
      goes_on n b bytes ∙ ap (one b bytes) (enough n m (drop b bytes) (omega arith) (omega arith))
      ∙ sym (goes_on m b bytes)

  next : (k : ℕ) (bytes : List ℕ)
      → f (suc (length bytes)) (k ∷ bytes) ≡ one k bytes (f (length (drop k bytes)) (drop k bytes))
  next k bytes =
      let l = length-drop k bytes in
      goes_on (length bytes) k bytes
      ∙ ap (one k bytes) (enough (length bytes) (length (drop k bytes)) (drop k bytes) (omega arith) (omega arith))

items_end : (n : ℕ) → items_within n [] ≡ []
unfolding items_within
items_end zero = refl
items_end (suc n) = refl

past_end : (n : ℕ) → past_within n [] ≡ false
unfolding past_within
past_end zero = refl
past_end (suc n) = refl

pub items_none : items_of [] ≡ []
unfolding items_of
items_none = items_end 0

pub past-none : runs_past [] ≡ false
unfolding runs_past
past-none = past_end 0

module _ (k : ℕ) (bytes : List ℕ) where
  pub items_next : items_of (k ∷ bytes) ≡ take k bytes ∷ items_of (drop k bytes)
  unfolding items_of items_within
  items_next = next items_within [] (λ k b later. take k b ∷ later) items_end (λ n k b. refl) k bytes

  pub past_next : runs_past (k ∷ bytes) ≡ (ltb (length bytes) k || runs_past (drop k bytes))
  unfolding runs_past past_within
  past_next = next past_within false (λ k b later. ltb (length b) k || later) past_end (λ n k b. refl) k bytes

-- ---- the bytes of an item are bytes of the list

drop-out : (k : ℕ) (bytes : List ℕ) {x : ℕ} → Memᴰ x (drop k bytes) → Memᴰ x bytes
drop-out k bytes m = rw (take-append-drop k bytes) at (Memᴰ.append_right (take k bytes) m)

within-bytes : (n : ℕ) (bytes : List ℕ) → Bytes bytes → {word : List ℕ} → Memᴰ word (items_within n bytes)
    → Bytes word
unfolding items_within
within-bytes zero bytes low m = absurd (not-nil m)
within-bytes (suc n) [] low m = absurd (not-nil m)
within-bytes (suc n) (k ∷ bytes) low {word} m =
    ⊎_elim (λ e x i. low x (there (take_out k bytes (rw e at i))))
    (within-bytes n (drop k bytes) (λ x i. low x (there (drop-out k bytes i)))) (cases m)

pub item-bytes : (bytes : List ℕ) → Bytes bytes → {word : List ℕ} → Memᴰ word (items_of bytes) → Bytes word
unfolding items_of
item-bytes bytes low m = within-bytes (length bytes) bytes low m

-- ---- an answer takes 8 bytes

pub length-answer : (a : Answer ℕ) → length (answer_bytes a) ≡ 8
unfolding answer_bytes u32_bytes
length-answer (value code) = refl
length-answer (refused r) = refl
