-- `hits::put_hit` stores the bytes of the score, and then those of the code. Assumes nothing.
use Prim.Native.Nat.{ℕ, ◌+◌, ◌-◌, ◌≤◌, ◌/◌}
use mathlib.Core.Path.{◌≡◌, ap, refl, ◌∙◌}
use mathlib.Core.List.{List, ◌++◌}
use native.Mathlib.Omega.{arith}
use mir.Syntax.{w32}
use mir.Facts.{to_z-of_z}
use lib.IntN.{ℤ}
use lib.ListN.{length}
use lib.Seq.{sets}
use borrow.Rule.Slice.PartMut.{put_mid, same_len_mid}
use Rattle.std.proofs.lemmas.List.{length-take, length-drop}
use Rattle.std.proofs.Math.Seq.{length-sets}
use Rattle.storing.proofs.Putting.{over}
use Rattle.endian.specs.Bytes.{i32_bytes, u32_bytes}
use Rattle.decoder.specs.Score.{value_of}
use Rattle.decoder.specs.Token.{code_part}
use Rattle.decoding.specs.Listing.{hit_of}
use Rattle.endian.proofs.Stores.{sets-append}
use Rattle.decoding.proofs.hits.put_hit.Goals as goal

-- what is written first
score : (n : ℕ) {m : ℕ} {y z : ℤ} {b : List ℕ} → b ≡ i32_bytes y → y ≡ z → z ≡ value_of m → m ≡ n / 4294967296 →
    b ≡ i32_bytes (hit_of n).score
unfolding hit_of
score n e t v m = e ∙ ap i32_bytes (t ∙ v ∙ ap value_of m)

code : (n : ℕ) {k : ℕ} {b : List ℕ} → b ≡ u32_bytes k → k ≡ 4294967295 - code_part n → b ≡ u32_bytes (hit_of n).code
unfolding hit_of code_part
code n e k = e ∙ ap u32_bytes k

-- four bytes and then four more
both : (out : List ℕ) (at : ℕ) {p q x y : List ℕ} → p ≡ x → q ≡ y → length x ≡ 4 → length y ≡ 4 → at + 8 ≤ length out
    → put_mid (at + 4) (at + 8 - (at + 4)) (put_mid at (at + 4 - at) out p) q ≡ sets out at (x ++ y)
both out at {x = x} {y = y} p q e f h =
    let four : at + 4 - at ≡ 4 = omega arith in
    let next : at + 8 - (at + 4) ≡ 4 = omega arith in
    rw (
      p,
      q,
      four,
      next,
      over out at 4 x e (omega arith),
      over (sets out at x) (at + 4) 4 y f (omega (arith, length-sets out at x)),
    )
    (rw e at (sets-append x y out at))

pub copy_from_slice-requires : goal.copy_from_slice-requires
unfolding i32_bytes u32_bytes
copy_from_slice-requires c = simp (length-take, length-drop) (omega (arith, ap length c.i32_bytes.ensures))

pub copy_from_slice-requires-2 : goal.copy_from_slice-requires-2
unfolding u32_bytes
copy_from_slice-requires-2 c =
    let long = same_len_mid _ _ c.args.out.now c.copy_from_slice.new.self c.copy_from_slice.ensures.len in
    simp (length-take, length-drop) (omega (arith, long, c.requires, ap length c.u32_bytes.ensures))

pub returns : goal.returns
unfolding i32_bytes u32_bytes
returns c =
    let a = c.args in
    let first = score a.token.0 c.i32_bytes.ensures (to_z-of_z {w = w32} (record { sfits = c.value.type_inv }))
    c.value.ensures c.score-score.ensures in
    both a.out.now a.at (c.copy_from_slice.ensures.after ∙ first)
    (c.copy_from_slice-2.ensures.after ∙ code a.token.0 c.u32_bytes.ensures c.code.ensures) refl refl c.requires
