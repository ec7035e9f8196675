-- `turns::renew` meets its contract: what is left to renew from the store so far is what was to be renewed. Assumes
-- nothing.
use Prim.Native.Nat.{ℕ, suc, ◌-◌, ◌<◌}
use mathlib.Core.List.{List}
use mathlib.Core.Path.{◌≡◌}
use native.Mathlib.Omega.{arith}
use Rattle.storing.specs.declared.Moves.{Moves}
use Rattle.storing.specs.Carrying.{Renewing}
use Rattle.storing.proofs.Renewing.{RenewLeft, renew_start, left_renewing, renew_next, renew_done}
use Rattle.search.proofs.turns.renew.Goals as goal

-- the states left, with the one whose turn it is
left : {n states s : ℕ} {row : Moves} {b₀ b : List ℕ} (t : Renewing n states row b₀) → 0 < s → RenewLeft t s b
    → RenewLeft t (suc (s - 1)) b
left {s = s} t h l = let e : s ≡ suc (s - 1) = omega (arith, h) in rw e at l

pub loop-s-init : goal.loop-s-init
loop-s-init c = λ t. renew_start t

pub renew_state-requires : goal.renew_state-requires
renew_state-requires c =
    let t = c.requires in
    left_renewing t (left t c.loop-s-test.true (c.loop-s.invariant t))

pub loop-s-preserved : goal.loop-s-preserved
loop-s-preserved c = λ t.
    let l = left t c.loop-s-test.true (c.loop-s.invariant t) in
    renew_next t l (c.renew_state.ensures (left_renewing t l)) c.renew_state.auto.part

pub shape_of-part : goal.shape_of-part
shape_of-part c = (c.loop-s.invariant c.requires).long

pub returns : goal.returns
returns c = λ t. renew_done t (c.loop-s.invariant t) c.loop-s-test.false
