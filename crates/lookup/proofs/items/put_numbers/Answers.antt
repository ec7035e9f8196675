-- `items::put_numbers` copies the bytes of the one number, and then those of the other. Assumes nothing.
use Prim.Native.Nat.{ℕ, ◌+◌, ◌≤◌}
use mathlib.Core.Path.{◌≡◌, ap, ◌∙◌}
use mathlib.Core.List.{List, ◌++◌, append_assoc}
use native.Mathlib.Omega.{arith}
use borrow.Rule.Slice.PartMut.{put_mid}
use lib.ListN.{length, take, drop}
use lib.Seq.{take_all}
use Rattle.std.proofs.lemmas.Slice.{put_mid-paste, take-put_mid, drop-put_mid}
use Rattle.endian.specs.Bytes.{u32_bytes}
use Rattle.lookup.proofs.items.put_numbers.Goals as goal

-- four bytes, and four behind them
two_put : (o a b : List ℕ) (at k j : ℕ) {a' b' : List ℕ} → a' ≡ a → b' ≡ b → length a ≡ 4 → length b ≡ 4 → k ≡ 4
    → j ≡ 4 → at + 8 ≤ length o
    → put_mid (at + 4) j (put_mid at k o a') b' ≡ take at o ++ (a ++ b) ++ drop (at + 8) o
two_put o a b at k j {a'} {b'} p q l m e f h =
    let s : at + 4 + 4 ≡ at + 8 = omega arith in
    put_mid-paste (at + 4) j (put_mid at k o a') b' b 4 q (omega arith) (omega arith)
    ∙ rw (
      p,
      take-put_mid at k o a (at + 4) (omega arith) (omega arith),
      take_all 4 b (omega arith),
      s,
      drop-put_mid at k o a (at + 8) (omega arith) (omega arith) (omega arith),
    )
    (ap (λ (x : List ℕ). x ++ drop (at + 8) o) (append_assoc (take at o) a b))

pub returns : goal.returns
unfolding u32_bytes
returns c =
    let a = c.args in
    two_put a.out.now (u32_bytes a.refusal) (u32_bytes a.code) a.at _ _
    (c.copy_from_slice.ensures.after ∙ c.u32_bytes.ensures) (c.copy_from_slice-2.ensures.after ∙ c.u32_bytes-2.ensures)
    (omega arith) (omega arith) (omega arith) (omega arith) c.requires
