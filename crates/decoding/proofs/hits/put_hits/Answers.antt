-- `hits::put_hits` meets its contract: before each token the hits of those before it are written. Assumes nothing.
use Prim.Native.Nat.{◌<◌}
use mathlib.Core.Path.{◌≡◌, ◌∙◌}
use native.Mathlib.Omega.{arith}
use lib.ListN.{length}
use Rattle.search.proofs.Told.{same_told, other_told}
use Rattle.decoding.proofs.Listing.{write_start, write_stop, write-all, write_done, write_room}
use Rattle.decoding.proofs.Listing.{write_next}
use Rattle.decoding.proofs.hits.put_hits.Goals as goal

pub loop-i-init : goal.loop-i-init
loop-i-init c = write_start _ _

pub shape_of-out-then-is_none : goal.shape_of-out-then-is_none
shape_of-out-then-is_none c = c.loop-i.invariant.long

pub returns-then-is_none : goal.returns-then-is_none
returns-then-is_none c =
    let slot : c.loop-i.i < length c.args.tokens.now = omega (arith, c.loop-i-test.true, c.requires.eight) in
    let w = c.loop-i.invariant in
    let d = write_done c.requires w (write_stop c.requires w slot (same_told c.is_none.ensures c.if-is_none.true)) in
    record { out_after = d.0; value = d.1 }

pub put_hit-requires : goal.put_hit-requires
put_hit-requires c =
    let slot : c.loop-i.i < length c.args.tokens.now = omega (arith, c.loop-i-test.true, c.requires.eight) in
    write_room c.requires c.loop-i.invariant slot (other_told c.is_none.ensures c.if-is_none.false)

pub loop-i-preserved : goal.loop-i-preserved
loop-i-preserved c =
    let slot : c.loop-i.i < length c.args.tokens.now = omega (arith, c.loop-i-test.true, c.requires.eight) in
    write_next c.requires c.loop-i.invariant slot (other_told c.is_none.ensures c.if-is_none.false) c.put_hit.ensures

pub shape_of-out : goal.shape_of-out
shape_of-out c = c.loop-i.invariant.long

pub returns : goal.returns
returns c =
    let w = c.loop-i.invariant in
    let h = c.loop-i-test.false in
    let d = write_done c.requires w (write-all c.requires w (omega (arith, c.requires.eight))) in
    let e : 8 ≡ c.loop-i.i = omega (arith, c.requires.eight, w.inside) in
    record { out_after = d.0; value = e ∙ d.1 }
