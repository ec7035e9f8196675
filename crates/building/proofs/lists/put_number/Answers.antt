-- `lists::put_number` meets its contract: its two bytes are the number's. Assumes nothing.
use Prim.Native.Nat.{◌+◌}
use mathlib.Core.Path.{refl, ◌∙◌}
use Rattle.endian.specs.Bytes.{u16_bytes}
use Rattle.registering.proofs.Putting.{put_part}
use Rattle.building.proofs.lists.put_number.Goals as goal

pub returns : goal.returns
unfolding u16_bytes
returns c =
    put_part (u16_bytes c.args.n) _ c.args.at (c.args.at + 2) c.args.out.now
    (c.copy_from_slice.ensures.after ∙ c.to_le_bytes.ensures) refl c.requires
