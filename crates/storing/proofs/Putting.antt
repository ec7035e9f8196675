-- Laws of a token's eight bytes: they are written over those of its slot, and read from there. Each from what the bytes
-- are. Assumes nothing.
use Rattle.std.proofs.Common.{ℕ, zero, suc, ◌+◌, ◌-◌, ◌*◌, ◌/◌, ◌%◌, ◌^◌, ◌<◌, ◌≤◌, ◌≡◌, refl, sym, ap, ◌∙◌, arith}
use Rattle.std.proofs.Common.{List, [], append_assoc, length, get_or, take, drop}
use Rattle.std.proofs.lemmas.List.Edits.{sets-eq}
use Rattle.std.proofs.Math.Seq.{sets}
use Rattle.std.proofs.lemmas.List.{drop-drop, get_or-take, get_or-drop}
use native.Mathlib.Nat.{add-zero, add_assoc}
use Rattle.std.specs.Simd.{first_chunks}
use Rattle.std.specs.Int.{w64, from_le_bytes}
use borrow.Rule.Slice.PartMut.{put_mid}
use Rattle.endian.specs.Bytes.{u16, u32, u32_bytes}
use Rattle.endian.proofs.Stores.{sets-append}
use Rattle.decoder.specs.Token.{token_bytes}
use Rattle.storing.specs.Slots.{token_at, SlotPut}
use Rattle.storing.proofs.Slots.{put-halves}

-- bytes that are written over as many of a list
pub over : (b : List ℕ) (at c : ℕ) (bytes : List ℕ) → length bytes ≡ c → at + c ≤ length b
    → put_mid at c b bytes ≡ sets b at bytes
over b at c bytes e h =
    rw (← e, drop-drop)
    (sym (sets-eq bytes b at (omega arith) ∙ append_assoc (take at b) bytes (drop (at + length bytes) b)))

-- the bytes of a token, written over those of slot k
pub put_over : (b : List ℕ) (k token : ℕ) {bytes : List ℕ} → bytes ≡ token_bytes token → token < 2 ^ 64
    → 8 * k + 8 ≤ length b → SlotPut b k token (put_mid (8 * k) (8 * k + 8 - 8 * k) b bytes)
unfolding token_bytes u32_bytes
put_over b k token {bytes} e f long =
    let eight : 8 * k + 8 - 8 * k ≡ 8 = omega arith in
    put-halves b k token _ _ f long refl
    (rw (eight, e) (over b (8 * k) 8 (token_bytes token) refl long)
    ∙ sym (sets-append (u32_bytes (token % 4294967296)) (u32_bytes (token / 4294967296)) b (8 * k)))

-- the eight bytes of slot k, as the slice of its bytes is cut into slots
chunk_at : (m k : ℕ) (b : List ℕ) → k < m → get_or (first_chunks 8 m b) k [] ≡ take 8 (drop (8 * k) b)
chunk_at zero k b h = absurd (omega arith)
chunk_at (suc m) zero b h = refl
chunk_at (suc m) (suc k) b h =
    let next : 8 * suc k ≡ 8 + 8 * k = omega arith in
    rw next (chunk_at m k (drop 8 b) (omega arith) ∙ ap (take 8) (drop-drop (8 * k) 8 b))

byte_at : (b : List ℕ) (k i : ℕ) → i < 8 → get_or (take 8 (drop (8 * k) b)) i 0 ≡ get_or b (8 * k + i) 0
byte_at b k i h = get_or-take 8 (drop (8 * k) b) i 0 h ∙ get_or-drop (8 * k) b i 0

-- the number that they hold
pub read_slot : (b : List ℕ) (k : ℕ) → 8 * k + 8 ≤ length b
    → from_le_bytes w64 (get_or (first_chunks 8 (length b / 8) b) k []) ≡ token_at b k
unfolding token_at u32 u16
read_slot b k h =
    rw (chunk_at (length b / 8) k b (omega arith))
    (rw (
      byte_at b k 0 (omega arith),
      byte_at b k 1 (omega arith),
      byte_at b k 2 (omega arith),
      byte_at b k 3 (omega arith),
      byte_at b k 4 (omega arith),
      byte_at b k 5 (omega arith),
      byte_at b k 6 (omega arith),
      byte_at b k 7 (omega arith),
    )
    (simp (add-zero, add_assoc) (omega arith)))
