-- Packing and unpacking as calls: what an answer with a value shows, and that the two calls undo each other. Assumes nothing.
use Prim.Native.Nat.{ℕ, suc, ◌+◌, ◌*◌, ◌/◌, ◌^◌, ◌≤◌, ◌<◌}
use mathlib.Core.Path.{◌≡◌, refl, sym, ap, ◌∙◌}
use mathlib.Core.Bool.{Bool, true, false, not, cond}
use mathlib.Core.List.{List, [], ◌∷◌, ◌++◌, flat_map}
use native.Mathlib.Nat.{zero-add, add-zero, lt_of_lt_of_le, div-div-eq-div-mul, mod-eq_of_lt}
use native.Mathlib.Omega.{arith}
use borrow.Author.Tests.{leb-false, ltb-false, eqb-true, not-false, le-leb, le-ltb, eq-eqb}
use lib.Dec.{leb, eqb}
use lib.Pow.{pow_mono}
use lib.ListN.{length, get_or, take, drop, length-drop}
use lib.Seq.{take_at, get_or-take, get_or-drop, take-append-le, drop-append-le, ext_get_or}
use Rattle.endian.specs.Lists.{within, any}
use Rattle.endian.specs.Bytes.{u16, u32, u32_bytes}
use Rattle.endian.proofs.Booleans.{and-out, or-none}
use Rattle.endian.proofs.Ranges.{bounds}
use Rattle.call.specs.declared.Refusal.{Refusal}
use Rattle.call.specs.Table.{Answer, value, refused, unless}
use Rattle.call.proofs.Table.{same-value}
use Rattle.endian.proofs.Lists.{length_pieces}
use Rattle.packing.specs.Width.{width, given_rows, bad_word_count}
use Rattle.call.specs.Buffers.{written}
use Rattle.call.specs.Limits.{bad_count, bad_code}
use Rattle.packing.specs.Packing.{packed_size, packed, unpacked, bad_packed, padded_with_zeros, pack_answer, pack_out, unpack_answer, unpack_out, pack_rows, unpack_rows}
use Rattle.packing.specs.Offsets.{overlay}
use Rattle.packing.proofs.Laws.Width.{width-enough, width-limit}
use Rattle.packing.proofs.Laws.Stretches.{Below, flat_at}
use Rattle.packing.proofs.Laws.Packing.{length-packed, packed-padded, unpack_pack, pack_unpack, length-unpacked, unpacked-at}
use Rattle.packing.proofs.Laws.Chunks.{read_below}

pub inside : (lo hi x : ℕ) → not (within lo hi x) ≡ false → (lo ≤ x) × (x ≤ hi)
inside lo hi x e = bounds lo hi x (not-false (within lo hi x) e)

-- a row that does not apply, and the rows after it
passed : (t : Bool) (r : Refusal) (k : ℕ) (x : Answer ℕ) → cond t (refused r) x ≡ value k → (t ≡ false) × (x ≡ value k)
passed true r k x e = absurd (let z : ◌≡◌ {A = ℕ} 0 1 = cc in omega arith)
passed false r k x e = (refl, e)

-- packing that answers k: no row applies, and k is the size
pub record Packs (W : ℕ) (codes out : List ℕ) (k : ℕ) : Type 0 where
  pub words : (1 ≤ W) × (W ≤ 1048576)
  pub count : (1 ≤ length codes) × (length codes ≤ 8)
  pub low : any (bad_code W) codes ≡ false
  pub room : packed_size (width W) (length codes) ≤ length out
  pub size : packed_size (width W) (length codes) ≡ k

pub packs : (W : ℕ) (codes out : List ℕ) (k : ℕ) → pack_answer W codes out ≡ value k → Packs W codes out k
unfolding pack_answer pack_rows given_rows unless bad_word_count bad_count
packs W codes out k e =
    let a = passed _ _ k _ e in
    let b = passed _ _ k _ a.1 in
    let d = passed _ _ k _ b.1 in
    let f = passed _ _ k _ d.1 in
    record {
      words = inside 1 1048576 W a.0;
      count = inside 1 8 (length codes) b.0;
      low = d.0;
      room = ltb-false (length out) (packed_size (width W) (length codes)) f.0;
      size = same-value f.1;
    }

-- what packing leaves in the output
pub pack_written : (W : ℕ) (codes out : List ℕ) (k : ℕ) → pack_answer W codes out ≡ value k
    → pack_out W codes out ≡ packed (width W) codes ++ drop (packed_size (width W) (length codes)) out
unfolding pack_out written
pack_written W codes out k e = rw (e, length-packed)

pub pack_refused : (W : ℕ) (codes out : List ℕ) (r : Refusal) → pack_answer W codes out ≡ refused r → pack_out W codes out ≡ out
unfolding pack_out written
pack_refused W codes out r e = rw e

-- packed bytes that row 14 takes
pub good-packed : (b n : ℕ) (bytes : List ℕ) → bad_packed b n bytes ≡ false → (length bytes ≡ packed_size b n) × (padded_with_zeros b n bytes ≡ true)
unfolding bad_packed
good-packed b n bytes e =
    let h = and-out (eqb (length bytes) (packed_size b n)) (padded_with_zeros b n bytes) (not-false _ e) in
    (eqb-true _ _ h.0, h.1)

-- unpacking that answers k: no row applies, and k is n
pub record Unpacks (W n : ℕ) (bytes out : List ℕ) (k : ℕ) : Type 0 where
  pub words : (1 ≤ W) × (W ≤ 1048576)
  pub count : (1 ≤ n) × (n ≤ 8)
  pub size : length bytes ≡ packed_size (width W) n
  pub padded : padded_with_zeros (width W) n bytes ≡ true
  pub low : any (bad_code W) (unpacked (width W) n bytes) ≡ false
  pub room : 4 * n ≤ length out
  pub all : n ≡ k

pub unpacks : (W n : ℕ) (bytes out : List ℕ) (k : ℕ) → unpack_answer W n bytes out ≡ value k → Unpacks W n bytes out k
unfolding unpack_answer unpack_rows given_rows unless bad_word_count bad_count
unpacks W n bytes out k e =
    let a = passed _ _ k _ e in
    let b = passed _ _ k _ a.1 in
    let d = passed _ _ k _ b.1 in
    let f = passed _ _ k _ d.1 in
    let g = passed _ _ k _ f.1 in
    let p = good-packed (width W) n bytes d.0 in
    record {
      words = inside 1 1048576 W a.0;
      count = inside 1 8 n b.0;
      size = p.0;
      padded = p.1;
      low = f.0;
      room = ltb-false (length out) (4 * n) g.0;
      all = same-value g.1;
    }

-- what unpacking leaves in the output
pub unpack_written : (W n : ℕ) (bytes out : List ℕ) (k : ℕ) → unpack_answer W n bytes out ≡ value k
    → unpack_out W n bytes out ≡ overlay 0 (flat_map u32_bytes (unpacked (width W) n bytes)) out
unfolding unpack_out written overlay
unpack_written W n bytes out k e =
    let codes = flat_map u32_bytes (unpacked (width W) n bytes) in
    rw e (ap (λ (m : ℕ). codes ++ drop m out) (sym (zero-add (length codes))))

pub unpack_refused : (W n : ℕ) (bytes out : List ℕ) (r : Refusal) → unpack_answer W n bytes out ≡ refused r → unpack_out W n bytes out ≡ out
unfolding unpack_out written
unpack_refused W n bytes out r e = rw e

-- ---- the calls undo each other

-- where no row applies, the answer is the size
pub pack_answers : (W : ℕ) (codes out : List ℕ) (k : ℕ) → Packs W codes out k → pack_answer W codes out ≡ value k
unfolding pack_answer pack_rows given_rows unless bad_word_count bad_count
pack_answers W codes out k h =
    rw (
      le-leb 1 W h.words.0,
      le-leb W 1048576 h.words.1,
      le-leb 1 (length codes) h.count.0,
      le-leb (length codes) 8 h.count.1,
      h.low,
      le-ltb _ _ h.room,
      h.size,
    )

pub unpack_answers : (W n : ℕ) (bytes out : List ℕ) (k : ℕ) → Unpacks W n bytes out k → unpack_answer W n bytes out ≡ value k
unfolding unpack_answer unpack_rows given_rows unless bad_word_count bad_count bad_packed
unpack_answers W n bytes out k h =
    rw (
      le-leb 1 W h.words.0,
      le-leb W 1048576 h.words.1,
      le-leb 1 n h.count.0,
      le-leb n 8 h.count.1,
      eq-eqb _ _ h.size,
      h.padded,
      h.low,
      le-ltb _ _ h.room,
    )
    (ap value h.all)

-- codes below W take no more than b bits
below-width : (W : ℕ) (codes : List ℕ) → any (bad_code W) codes ≡ false → Below (2 ^ width W) codes
unfolding any bad_code
below-width W [] e = tt
below-width W (c ∷ cs) e =
    let h = or-none (leb W c) (any (bad_code W) cs) e in
    (lt_of_lt_of_le (leb-false W c h.0) (width-enough W), below-width W cs h.1)

module _ (W : ℕ) (codes out : List ℕ) (k : ℕ) (answer : pack_answer W codes out ≡ value k) where
  -- the bytes that packing answers are the packed codes
  pub pack_bytes : take k (pack_out W codes out) ≡ packed (width W) codes
  pack_bytes =
      let h = packs W codes out k answer in
      rw (pack_written W codes out k answer)
      (take_at (packed (width W) codes) (drop (packed_size (width W) (length codes)) out) k (length-packed (width W) codes ∙ h.size))

  -- they unpack: the call answers the number of codes, and the output begins with the codes as u32
  pub unpack_packed : (room : List ℕ) → 4 * length codes ≤ length room
      → unpack_answer W (length codes) (take k (pack_out W codes out)) room ≡ value (length codes)
  unpack_packed room enough =
      let h = packs W codes out k answer in
      let back = unpack_pack (width W) codes (below-width W codes h.low) in
      rw pack_bytes
      (unpack_answers W (length codes) (packed (width W) codes) room (length codes)
      (record {
        words = h.words;
        count = h.count;
        size = length-packed (width W) codes;
        padded = packed-padded (width W) codes;
        low = rw back h.low;
        room = enough;
        all = refl;
      }))

  pub unpack_packed-out : (room : List ℕ) → 4 * length codes ≤ length room
      → unpack_out W (length codes) (take k (pack_out W codes out)) room ≡ overlay 0 (flat_map u32_bytes codes) room
  unpack_packed-out room enough =
      let h = packs W codes out k answer in
      unpack_written W (length codes) (take k (pack_out W codes out)) room (length codes) (unpack_packed room enough)
      ∙ rw (pack_bytes, unpack_pack (width W) codes (below-width W codes h.low))

module _ (W n : ℕ) (bytes out : List ℕ) (k : ℕ) (known : Below 256 bytes) (answer : unpack_answer W n bytes out ≡ value k) where
  -- the unpacked codes pack: the call answers the number of bytes, and the output begins with the bytes
  pub pack_unpacked : (room : List ℕ) → length bytes ≤ length room → pack_answer W (unpacked (width W) n bytes) room ≡ value (length bytes)
  pack_unpacked room enough =
      let h = unpacks W n bytes out k answer in
      let long = length-unpacked (width W) n bytes in
      pack_answers W (unpacked (width W) n bytes) room (length bytes)
      (record {
        words = h.words;
        count = rw long h.count;
        low = h.low;
        room = rw (long, ← h.size) enough;
        size = rw long (sym h.size);
      })

  pub pack_unpacked-out : (room : List ℕ) → length bytes ≤ length room → pack_out W (unpacked (width W) n bytes) room ≡ overlay 0 bytes room
  unfolding overlay
  pack_unpacked-out room enough =
      let h = unpacks W n bytes out k answer in
      pack_written W (unpacked (width W) n bytes) room (length bytes) (pack_unpacked room enough)
      ∙ rw (length-unpacked, pack_unpack (width W) n bytes known h.size h.padded, ← h.size, zero-add)

-- ---- the codes as u32

-- a u32 is that of its four bytes
u32-there : (at : ℕ) (b : List ℕ) → u32 b at ≡ u32 (take 4 (drop at b)) 0
unfolding u32 u16
u32-there at b =
    let byte : (j : ℕ) → j < 4 → get_or (take 4 (drop at b)) j 0 ≡ get_or b (at + j) 0 = λ j h. get_or-take 4 (drop at b) j 0 h ∙ get_or-drop at b j 0 in
    let e : at + 2 + 1 ≡ at + 3 = omega arith in
    rw (byte 0 (omega arith), byte 1 (omega arith), byte 2 (omega arith), byte 3 (omega arith), e, add-zero)

u32-bytes : (x : ℕ) → x < 4294967296 → u32 (u32_bytes x) 0 ≡ x
unfolding u32 u16 u32_bytes
u32-bytes x h =
    let two : x / 65536 ≡ x / 256 / 256 = sym (div-div-eq-div-mul x 256 256) in
    let three : x / 16777216 ≡ x / 256 / 256 / 256 = sym (ap (λ (k : ℕ). k / 256) (div-div-eq-div-mul x 256 256) ∙ div-div-eq-div-mul x 65536 256) in
    let top : x / 256 / 256 / 256 < 256 = rw (← three) (omega arith) in
    rw (two, three)
    (joined x (x / 256) (x / 256 / 256) (x / 256 / 256 / 256) _ _ _ _ (omega arith) (omega arith) (omega arith) (mod-eq_of_lt top))
  where
    joined : (x y z w a b c d : ℕ) → a + 256 * y ≡ x → b + 256 * z ≡ y → c + 256 * w ≡ z → d ≡ w → a + 256 * b + 65536 * (c + 256 * d) ≡ x
    joined x y z w a b c d p q r s = omega arith

-- the output of unpacking, read as u32
pub u32-out : (codes out : List ℕ) (i : ℕ) → i < length codes → get_or codes i 0 < 4294967296 → u32 (overlay 0 (flat_map u32_bytes codes) out) (i * 4) ≡ get_or codes i 0
unfolding overlay u32_bytes
u32-out codes out i h small =
    let all = flat_map u32_bytes codes in
    let rest = drop (0 + length all) out in
    let next : suc i ≤ length codes = h in
    let long : length all ≡ length codes * 4 = length_pieces u32_bytes 4 (λ v. refl) codes in
    let four : take 4 (drop (i * 4) (all ++ rest)) ≡ u32_bytes (get_or codes i 0) =
    ap (take 4) (drop-append-le (i * 4) all rest (omega arith))
    ∙ take-append-le 4 (drop (i * 4) all) rest (rw length-drop (omega arith))
    ∙ flat_at u32_bytes 4 (λ v. refl) i codes h in
    u32-there (i * 4) (all ++ rest) ∙ ap (λ (t : List ℕ). u32 t 0) four ∙ u32-bytes (get_or codes i 0) small

module _ (W n : ℕ) (bytes out : List ℕ) (k : ℕ) (known : Below 256 bytes) (answer : unpack_answer W n bytes out ≡ value k) where
  pub unpacked-u32 : (i : ℕ) → i < n → u32 (unpack_out W n bytes out) (i * 4) ≡ get_or (unpacked (width W) n bytes) i 0
  unpacked-u32 i h =
      let u = unpacks W n bytes out k answer in
      let codes = unpacked (width W) n bytes in
      let m : 2 ^ width W ≤ 2 ^ 20 = pow_mono (width-limit W u.words.1) in
      let small : get_or codes i 0 < 2 ^ width W = rw (unpacked-at (width W) n i bytes h) (read_below (width W) (i * width W) bytes) in
      rw (unpack_written W n bytes out k answer) (u32-out codes out i (rw length-unpacked h) (omega arith))

  -- the codes that the output holds pack to the bytes again
  pub pack_again : (codes room : List ℕ) → length codes ≡ n → ((i : ℕ) → i < n → get_or codes i 0 ≡ u32 (unpack_out W n bytes out) (i * 4))
      → length bytes ≤ length room → (pack_answer W codes room ≡ value (length bytes)) × (pack_out W codes room ≡ overlay 0 bytes room)
  pack_again codes room long each enough =
      let same : codes ≡ unpacked (width W) n bytes =
      ext_get_or 0 codes (unpacked (width W) n bytes) (long ∙ sym (length-unpacked (width W) n bytes))
      (λ i h. each i (rw long at h) ∙ unpacked-u32 i (rw long at h)) in
      rw same (pack_unpacked W n bytes out k known answer room enough, pack_unpacked-out W n bytes out k known answer room enough)
