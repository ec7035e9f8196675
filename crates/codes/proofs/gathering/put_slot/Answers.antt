-- `gathering::put_slot` meets its contract: behind the length of the word stand the 32 bytes that it is spelled into.
-- Assumes nothing.
use Prim.Native.Nat.{◌+◌}
use mathlib.Core.Path.{sym, ◌∙◌}
use native.Mathlib.Omega.{arith}
use lib.ListN.{set}
use Rattle.std.proofs.lemmas.Slice.{put_mid-paste}
use Rattle.codes.proofs.Slots.{slot-put}
use Rattle.codes.proofs.gathering.put_slot.Goals as goal

pub returns : goal.returns
returns c =
    let a = c.args in
    let s = c.spell-n in
    put_mid-paste (a.at + 1) _ (set a.out.now a.at s.result) _ s.new.letters 32 c.copy_from_slice.ensures.after
    (omega arith) (sym s.ensures.long)
    ∙ slot-put a.out.now _ a.at (omega (arith, c.requires.code_bound.1)) s.ensures
