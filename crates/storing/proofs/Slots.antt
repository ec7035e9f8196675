-- Laws of tokens in bytes: a token written is read and no other is touched; slots taken apart. Each from what the bytes
-- are. Assumes nothing.
use Prim.Native.Nat.{ℕ, zero, suc, ◌+◌, ◌-◌, ◌*◌, ◌/◌, ◌%◌, ◌^◌, ◌<◌, ◌≤◌}
use mathlib.Core.Path.{◌≡◌, refl, ap, ap₂, ◌∙◌}
use mathlib.Core.Logic.{◌⊎◌, inl, inr, ⊎_elim}
use mathlib.Core.List.{List, [], ◌∷◌, ◌++◌}
use native.Mathlib.Omega.{arith}
use native.Mathlib.Decide.{dec_lt}
use native.Mathlib.Nat.{add-zero}
use lib.ListN.{length, get_or, set, take, drop}
use lib.Seq.{sets, sets-eq, length-sets, get_or-set_other, length-take-le}
use Rattle.endian.specs.Bytes.{u16, u32, u32_bytes}
use Rattle.endian.proofs.Bytes.{u32-written}
use Rattle.storing.specs.Slots.{token_at, slots, SlotPut}

-- ---- a number written

get_d_sets-out : (vs l : List ℕ) (i j : ℕ) → (j < i) ⊎ (i + length vs ≤ j) → get_or (sets l i vs) j 0 ≡ get_or l j 0
get_d_sets-out [] l i j h = refl
get_d_sets-out (a ∷ vs) l i j h =
    get_d_sets-out vs (set l i a) (suc i) j (⊎_elim (λ p. inl (omega arith)) (λ p. inr (omega arith)) h)
    ∙ get_or-set_other l i j a 0 (⊎_elim (λ p e. omega arith) (λ p e. omega arith) h)

pub u32_ext : (a b : List ℕ) (i k : ℕ) → ((m : ℕ) → m < 4 → get_or a (i + m) 0 ≡ get_or b (k + m) 0) → u32 a i ≡ u32 b k
unfolding u32 u16
u32_ext a b i k h =
    let p : i + 2 + 1 ≡ i + 3 = omega arith in
    let q : k + 2 + 1 ≡ k + 3 = omega arith in
    let z : get_or a i 0 ≡ get_or b k 0 = rw (add-zero i, add-zero k) at (h 0 (omega arith)) in
    rw (p, q, z, h 1 (omega arith), h 2 (omega arith), h 3 (omega arith))

u32-same : (l : List ℕ) (i v : ℕ) → v < 2 ^ 32 → i + 4 ≤ length l → u32 (sets l i (u32_bytes v)) i ≡ v
unfolding u32_bytes
u32-same l i v f h =
    ap (λ b. u32 b i) (sets-eq (u32_bytes v) l i h)
    ∙ rw (length-take-le i l (omega arith)) at (u32-written (take i l) (drop (i + 4) l) v f)

u32-other : (l : List ℕ) (i j v : ℕ) → (j + 4 ≤ i) ⊎ (i + 4 ≤ j) → u32 (sets l i (u32_bytes v)) j ≡ u32 l j
unfolding u32_bytes
u32-other l i j v h =
    u32_ext (sets l i (u32_bytes v)) l j j
    (λ m b. get_d_sets-out (u32_bytes v) l i (j + m) (⊎_elim (λ p. inl (omega arith)) (λ p. inr (omega arith)) h))

-- two halves make a token
pub put-halves : (b : List ℕ) (k token : ℕ) (m b' : List ℕ) → token < 2 ^ 64 → 8 * k + 8 ≤ length b
    → m ≡ sets b (8 * k) (u32_bytes (token % 4294967296)) → b' ≡ sets m (8 * k + 4) (u32_bytes (token / 4294967296))
    → SlotPut b k token b'
unfolding token_at
put-halves b k token m b' f h p q = record {
  here = rw (low, high) (omega arith);
  others = λ j n. let s = side j n in ap₂ (λ x y. x + 4294967296 * y)
      (as_before (8 * j) (⊎_elim (λ l. inl (omega arith)) (λ l. inr (omega arith)) s))
      (as_before (8 * j + 4) (⊎_elim (λ l. inl (omega arith)) (λ l. inr (omega arith)) s));
  long = ap length q ∙ length-sets m (8 * k + 4) (u32_bytes (token / 4294967296)) ∙ long;
}
  where
    side : (j : ℕ) → ¬ (j ≡ k) → (j < k) ⊎ (k < j)
    side j n = elim (dec_lt j k) [ yes l ↦ inl l | no l ↦ inr (omega (arith, n)) ]

    long : length m ≡ length b
    long = ap length p ∙ length-sets b (8 * k) (u32_bytes (token % 4294967296))

    low : u32 b' (8 * k) ≡ token % 4294967296
    low = rw q (u32-other m (8 * k + 4) (8 * k) _ (inl (omega arith)) ∙ rw p (u32-same b (8 * k) (token % 4294967296) (omega arith) (omega arith)))

    high : u32 b' (8 * k + 4) ≡ token / 4294967296
    high = rw q (u32-same m (8 * k + 4) (token / 4294967296) (omega arith) (omega (arith, long)))

    as_before : (i : ℕ) → (i + 4 ≤ 8 * k) ⊎ (8 * k + 8 ≤ i) → u32 b' i ≡ u32 b i
    as_before i g = rw q (u32-other m (8 * k + 4) i _ (⊎_elim (λ l. inl (omega arith)) (λ l. inr (omega arith)) g)
        ∙ rw p (u32-other b (8 * k) i _ (⊎_elim (λ l. inl (omega arith)) (λ l. inr (omega arith)) g)))

-- ---- slots

pub slots_ext : (n j k : ℕ) (a b : List ℕ) → ((i : ℕ) → i < n → token_at a (j + i) ≡ token_at b (k + i)) → slots n j a ≡ slots n k b
unfolding slots
slots_ext zero j k a b h = refl
slots_ext (suc n) j k a b h =
    ap₂ ◌∷◌ (rw (add-zero j, add-zero k) at (h 0 (omega arith)))
    (slots_ext n (j + 1) (k + 1) a b (λ i l. ap (token_at a) (omega arith) ∙ h (suc i) (omega arith) ∙ ap (token_at b) (omega arith)))

slots-split : (n m k : ℕ) (b : List ℕ) → slots (n + m) k b ≡ slots n k b ++ slots m (k + n) b
unfolding slots
slots-split zero m k b = let e : 0 + m ≡ m = omega arith in rw (e, add-zero k)
slots-split (suc n) m k b =
    let e : suc n + m ≡ suc (n + m) = omega arith in
    let g : k + suc n ≡ k + 1 + n = omega arith in
    rw (e, g) (ap (λ l. token_at b k ∷ l) (slots-split n m (k + 1) b))

pub length-slots : (n k : ℕ) (b : List ℕ) → length (slots n k b) ≡ n
unfolding slots
length-slots zero k b = refl
length-slots (suc n) k b = ap suc (length-slots n (k + 1) b)

-- those before k, and those from k on
pub slots_cut : (n k : ℕ) (b : List ℕ) → k ≤ n → slots n 0 b ≡ slots k 0 b ++ slots (n - k) k b
slots_cut n k b h =
    let e : k + (n - k) ≡ n = omega arith in
    let g : 0 + k ≡ k = omega arith in
    rw (e, g) at (slots-split k (n - k) 0 b)

pub slots-step : (n k : ℕ) (b : List ℕ) → k < n → slots (n - k) k b ≡ token_at b k ∷ slots (n - (k + 1)) (k + 1) b
unfolding slots
slots-step n k b h = let e : n - k ≡ suc (n - (k + 1)) = omega arith in rw e

pub slots_snoc : (k : ℕ) (b : List ℕ) → slots (k + 1) 0 b ≡ slots k 0 b ++ (token_at b k ∷ [])
unfolding slots
slots_snoc k b = let g : 0 + k ≡ k = omega arith in rw g at (slots-split k 1 0 b)

pub slots-none : (n k : ℕ) (b : List ℕ) → n ≤ k → slots (n - k) k b ≡ []
unfolding slots
slots-none n k b h = let e : n - k ≡ 0 = omega arith in rw e

pub slots_get : (n k i : ℕ) (b : List ℕ) (d : ℕ) → i < n → get_or (slots n k b) i d ≡ token_at b (k + i)
unfolding slots
slots_get zero k i b d h = absurd (omega arith)
slots_get (suc n) k zero b d h = rw add-zero
slots_get (suc n) k (suc i) b d h = let e : k + suc i ≡ k + 1 + i = omega arith in rw e (slots_get n (k + 1) i b d (omega arith))

-- slots that a token is not put into
pub put-apart : {b : List ℕ} {k token : ℕ} {b' : List ℕ} → SlotPut b k token b' → (n j : ℕ) → (k < j) ⊎ (j + n ≤ k)
    → slots n j b' ≡ slots n j b
put-apart {b} {k} {b'} p n j h =
    slots_ext n j j b' b (λ i l. p.others (j + i) (⊎_elim (λ q e. omega arith) (λ q e. omega arith) h))
