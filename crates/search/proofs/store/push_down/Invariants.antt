use Prim.Native.Nat.{◌-◌}
use mathlib.Core.Path.{◌≡◌}
use mathlib.Core.List.{◌++◌}
use lib.ListN.{length}
use Rattle.decoder.specs.Token.{code_part}
use Rattle.storing.specs.Slots.{slots, push}
use Rattle.search.proofs.store.push_down.Given as goal

abbrev pub invariant-loop-at : goal.invariant-loop-at
invariant-loop-at l = (length l.part ≡ length l.initial.part)
    × (slots l.at 0 l.part ++ push l.carry.0 (code_part l.token.0) (slots (l.n - l.at) l.at l.part)
    ≡ slots l.from 0 l.initial.part ++ push l.token.0 (code_part l.token.0)
    (slots (l.n - l.from) l.from l.initial.part))
