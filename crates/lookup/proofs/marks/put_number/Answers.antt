-- `marks::put_number` meets its contract: the number's two bytes stand at its place. Assumes nothing.
use Prim.Native.Nat.{ℕ, ◌+◌, ◌*◌, ◌-◌, ◌/◌, ◌%◌, ◌≤◌, ◌<◌}
use mathlib.Core.Path.{◌≡◌, ◌∙◌}
use borrow.Author.Rules.{rules}
use mathlib.Core.List.{List, [], ◌∷◌}
use native.Mathlib.Omega.{arith}
use lib.ListN.{length}
use borrow.Rule.Slice.PartMut.{put_mid}
use Rattle.std.proofs.lemmas.List.{places}
use Rattle.endian.specs.Bytes.{u16}
use Rattle.endian.specs.Rows.{number_at, NumberPut}
use Rattle.lookup.proofs.marks.put_number.Goals as goal

put : (r ys : List ℕ) (k v : ℕ) → 2 * k + 2 ≤ length r → v < 65536 → ys ≡ v % 256 ∷ v / 256 % 256 ∷ []
    → NumberPut r k v (put_mid (2 * k) (2 * k + 2 - 2 * k) r ys)
unfolding number_at u16
put r ys k v h b e = record {
  long = rw e (search (rules, places));
  here = rw e (grind (arith, places));
  others = λ j n. rw e (grind (arith, places));
}

pub returns : goal.returns
returns c = put _ _ _ _ c.requires.0 c.requires.1 (c.copy_from_slice.ensures.after ∙ c.to_le_bytes.ensures)
