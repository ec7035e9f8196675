-- Words as the bytes of their slots, in both directions: slots of a table with zeros behind the letters are the bytes
-- of their words, and where the bytes of words stand in a table its slots hold these words. Both compare byte by byte.
-- Assumes nothing.
use Prim.Native.Nat.{ℕ, zero, suc, ◌+◌, ◌*◌, ◌-◌, ◌≤◌, ◌<◌}
use mathlib.Core.Path.{◌≡◌, refl, sym, ap, ap₂, subst, ◌∙◌}
use mathlib.Core.List.{List, [], ◌∷◌, ◌++◌, flat_map, append_assoc}
use mathlib.Core.List.Memᴰ.{head as here}
use mathlib.Core.List.Memᴰ.{tail as there}
use mathlib.Core.List.{Memᴰ as In}
use native.Mathlib.Nat.{add-zero, zero-add}
use native.Mathlib.Decide.{dec_lt}
use native.Mathlib.Omega.{arith}
use lib.ListN.{length, get_or, take, drop, replicate}
use lib.ListN.{length-append, length-replicate, length-take, length-drop, get_or-append}
use lib.Seq.{get_or-take, get_or-drop, get_or-append-add, ext_get_or, take-add, drop-drop}
use Rattle.endian.proofs.Lists.{get_d_copies, mem_get_d}
use Rattle.codes.specs.Gathering.{slot_of, slot_bytes}
use Rattle.sorting.specs.Slots.{word_at, Slot, Holds, Padded, words_from}
use Rattle.sorting.proofs.SlotWords.{words-length, words-at, word-length, letter_at_lem}

-- each of the words has at most 32 letters
abbrev pub Short : List (List ℕ) → Type 0
Short ws = (w : List ℕ) → In w ws → length w ≤ 32

-- ---- one slot

slot-length : (w : List ℕ) → length w ≤ 32 → length (slot_of w) ≡ 33
unfolding slot_of
slot-length w h =
    omega (arith, length-append w (replicate (32 - length w) 0), length-replicate {A = ℕ} (32 - length w) 0)

slot-first : (w : List ℕ) → get_or (slot_of w) 0 0 ≡ length w
unfolding slot_of
slot-first w = refl

slot-letter : (w : List ℕ) (k : ℕ) → k < length w → get_or (slot_of w) (suc k) 0 ≡ get_or w k 0
unfolding slot_of
slot-letter w k h = get_or-append w (replicate (32 - length w) 0) 0 k h

slot-zero : (w : List ℕ) (k : ℕ) → length w ≤ k → get_or (slot_of w) (suc k) 0 ≡ 0
unfolding slot_of
slot-zero w k h =
    let e : k ≡ length w + (k - length w) = omega arith in
    ap (λ j. get_or (w ++ replicate (32 - length w) 0) j 0) e
    ∙ get_or-append-add w (replicate (32 - length w) 0) (k - length w) 0
    ∙ get_d_copies (32 - length w) (k - length w) 0

-- ---- from slots to bytes

module _ (t : List ℕ) where
  slot-bytes : (i : ℕ) → Slot t i → Padded t i → take 33 (drop (33 * i) t) ≡ slot_of (word_at t i)
  slot-bytes i s z =
      let room = s.room in
      let short = s.short in
      let long = word-length s in
      let l = drop (33 * i) t in
      let left : length (take 33 l) ≡ 33 = omega (arith, length-take 33 l, length-drop (33 * i) t) in
      ext_get_or 0 (take 33 l) (slot_of (word_at t i)) (left ∙ sym (slot-length (word_at t i) (omega arith)))
      (λ b h. get_or-take 33 l b 0 (omega arith) ∙ get_or-drop (33 * i) t b 0 ∙ byte b (omega arith))
    where
      byte : (b : ℕ) → b < 33 → get_or t (33 * i + b) 0 ≡ get_or (slot_of (word_at t i)) b 0
      byte zero h = ap (λ k. get_or t k 0) (add-zero (33 * i)) ∙ sym (word-length s) ∙ sym (slot-first (word_at t i))
      byte (suc b) h = elim (dec_lt b (get_or t (33 * i) 0)) [
        | yes k ↦ sym (letter_at_lem t i b k) ∙ sym (slot-letter (word_at t i) b (omega (arith, word-length s)))
        | no k ↦ z (suc b) (omega arith) h ∙ sym (slot-zero (word_at t i) b (omega (arith, word-length s)))
      ]

  bytes-from : (i n : ℕ) → ((k : ℕ) → i ≤ k → k < i + n → Slot t k) → ((k : ℕ) → i ≤ k → k < i + n → Padded t k)
      → take (33 * n) (drop (33 * i) t) ≡ slot_bytes (words_from t i n)
  unfolding slot_bytes flat_map words_from
  bytes-from i zero s z = refl
  bytes-from i (suc n) s z =
      let e : 33 * suc n ≡ 33 + 33 * n = omega arith in
      let f : 33 * i + 33 ≡ 33 * suc i = omega arith in
      ap (λ k. take k (drop (33 * i) t)) e
      ∙ take-add 33 (33 * n) (drop (33 * i) t)
      ∙ ap₂ ◌++◌ (slot-bytes i (s i (omega arith) (omega arith)) (z i (omega arith) (omega arith)))
      (ap (take (33 * n)) (drop-drop 33 (33 * i) t ∙ ap (λ k. drop k t) f)
      ∙ bytes-from (suc i) n (λ k a b. s k (omega arith) (omega arith)) (λ k a b. z k (omega arith) (omega arith)))

  -- the first n slots of a table, with zeros behind the letters, are the bytes of the words in them
  pub table-bytes : (n : ℕ) → Holds t n → ((i : ℕ) → i < n → Padded t i)
      → take (33 * n) t ≡ slot_bytes (words_from t 0 n)
  table-bytes n h z = bytes-from 0 n (λ k a b. h k (omega arith)) (λ k a b. z k (omega arith))

-- ---- from bytes to slots

pub bytes-length : (ws : List (List ℕ)) → Short ws → length (slot_bytes ws) ≡ 33 * length ws
unfolding slot_bytes flat_map
bytes-length [] s = refl
bytes-length (w ∷ ws) s =
    let e = bytes-length ws (λ a m. s a (there m)) in
    omega (arith, length-append (slot_of w) (slot_bytes ws), slot-length w (s w (here refl)))

byte_at : (ws : List (List ℕ)) (rest : List ℕ) → Short ws → (i b : ℕ) → i < length ws → b < 33
    → get_or (slot_bytes ws ++ rest) (33 * i + b) 0 ≡ get_or (slot_of (get_or ws i [])) b 0
unfolding slot_bytes flat_map
byte_at [] rest s i b h k = absurd (omega arith)
byte_at (w ∷ ws) rest s zero b h k =
    let long = slot-length w (s w (here refl)) in
    ap₂ (λ l j. get_or l j 0) (append_assoc (slot_of w) (slot_bytes ws) rest) (zero-add b)
    ∙ get_or-append (slot_of w) (slot_bytes ws ++ rest) 0 b (omega arith)
byte_at (w ∷ ws) rest s (suc i) b h k =
    let e : 33 * suc i + b ≡ length (slot_of w) + (33 * i + b) = omega (arith, slot-length w (s w (here refl))) in
    ap₂ (λ l j. get_or l j 0) (append_assoc (slot_of w) (slot_bytes ws) rest) e
    ∙ get_or-append-add (slot_of w) (slot_bytes ws ++ rest) (33 * i + b) 0
    ∙ byte_at ws rest (λ a m. s a (there m)) i b (omega arith) k

-- the bytes of the words stand in a table from slot m on
pub record BytesFrom (t : List ℕ) (m : ℕ) (ws : List (List ℕ)) : Type 0 where
  pub front : List ℕ
  pub rest : List ℕ
  pub split : t ≡ front ++ (slot_bytes ws ++ rest)
  pub far : length front ≡ 33 * m
  pub short : Short ws

module _ {t : List ℕ} {m : ℕ} {ws : List (List ℕ)} (s : BytesFrom t m ws) where
  from_byte : (i b : ℕ) → i < length ws → b < 33 → get_or t (33 * (m + i) + b) 0 ≡ get_or (slot_of (get_or ws i [])) b 0
  from_byte i b h k =
      let e : 33 * (m + i) + b ≡ length s.front + (33 * i + b) = omega (arith, s.far) in
      ap₂ (λ l j. get_or l j 0) s.split e
      ∙ get_or-append-add s.front (slot_bytes ws ++ s.rest) (33 * i + b) 0
      ∙ byte_at ws s.rest s.short i b h k

  pub from-size : (i : ℕ) → i < length ws → get_or t (33 * (m + i)) 0 ≡ length (get_or ws i [])
  from-size i h =
      ap (λ k. get_or t k 0) (sym (add-zero (33 * (m + i)))) ∙ from_byte i 0 h (omega arith)
      ∙ slot-first (get_or ws i [])

  pub from-slot : (i : ℕ) → i < length ws → Slot t (m + i)
  from-slot i h =
      let e = ap length s.split in
      let f = length-append s.front (slot_bytes ws ++ s.rest) in
      let g = length-append (slot_bytes ws) s.rest in
      record {
        room = omega (arith, s.far, bytes-length ws s.short);
        short = omega (arith, from-size i h, s.short (get_or ws i []) (mem_get_d ws i [] h));
      }

  pub from_padded : (i : ℕ) → i < length ws → Padded t (m + i)
  from_padded i h zero a k = absurd (omega arith)
  from_padded i h (suc b) a k =
      from_byte i (suc b) h k ∙ slot-zero (get_or ws i []) b (omega (arith, from-size i h))

  from_word : (i : ℕ) → (h : i < length ws) → word_at t (m + i) ≡ get_or ws i []
  from_word i h =
      let w = get_or ws i [] in
      let e : length (word_at t (m + i)) ≡ length w = word-length (from-slot i h) ∙ from-size i h in
      ext_get_or 0 (word_at t (m + i)) w e (λ k l. let d : k < length w = omega arith in
      letter_at_lem t (m + i) k (omega (arith, from-size i h))
      ∙ from_byte i (suc k) h (omega (arith, s.short w (mem_get_d ws i [] h)))
      ∙ slot-letter w k d)

  pub from_words : words_from t m (length ws) ≡ ws
  from_words = ext_get_or [] (words_from t m (length ws)) ws (words-length t m (length ws))
      (λ i h. let k : i < length ws = omega (arith, words-length t m (length ws)) in
      words-at t m (length ws) i k ∙ from_word i k)

-- ---- a table that begins with the bytes of words

module _ {t : List ℕ} (ws : List (List ℕ)) (rest : List ℕ) (short : Short ws) (e : t ≡ slot_bytes ws ++ rest) where
  begins_with : BytesFrom t 0 ws
  begins_with = record { front = []; rest = rest; split = e; far = refl; short = short }

  pub table-holds : Holds t (length ws)
  table-holds i h = subst (Slot t) (zero-add i) (from-slot begins_with i h)

  pub table-words : words_from t 0 (length ws) ≡ ws
  table-words = from_words begins_with

  pub table-size : (i : ℕ) → i < length ws → get_or t (33 * i) 0 ≡ length (get_or ws i [])
  table-size i h = ap (λ k. get_or t (33 * k) 0) (sym (zero-add i)) ∙ from-size begins_with i h
