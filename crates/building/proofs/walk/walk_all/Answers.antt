-- `walk::walk_all` meets its contract: the nodes of the words before slot i are registered and linked. The measure is
-- the words left. Assumes nothing.
use mathlib.Core.Path.{◌≡◌}
use native.Mathlib.Omega.{arith}
use Rattle.registering.proofs.Walking.{walk_first, walk-done}
use Rattle.building.proofs.walk.walk_all.Goals as goal

pub loop-i-init : goal.loop-i-init
loop-i-init c =
    let p = c.requires in
    (omega arith, walk_first p.words.0 p.words.1 p.register.0 p.register.1 p.links_len)

pub returns : goal.returns
returns c =
    let e : c.loop-i.i ≡ c.args.n = omega (arith, c.loop-i-test.false, c.loop-i.invariant.0) in
    walk-done c.requires.words.0 c.requires.words.1 (rw e at c.loop-i.invariant.1)
