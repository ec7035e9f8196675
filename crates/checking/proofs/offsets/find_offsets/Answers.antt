-- `offsets::find_offsets` meets its contract: before each vertex the lists of those below it are found. Assumes nothing.
use Prim.Native.Nat.{ℕ, ◌+◌, ◌*◌, ◌<◌, ◌≤◌}
use mathlib.Core.Path.{◌≡◌}
use mathlib.Core.List.{List}
use native.Mathlib.Omega.{arith}
use borrow.Author.Rules.{rules}
use Rattle.endian.specs.Bytes.{u16}
use Rattle.lexicon.specs.Lexicon.{sink_of}
use Rattle.checking.specs.Tables.{WellFormed}
use Rattle.checking.proofs.Arcs.{ListThere, list-there}
use Rattle.checking.proofs.Finding.{OffsetsFound, offsets_start, offset-next}
use Rattle.checking.proofs.offsets.find_offsets.Goals as goal

-- the list of the vertex whose turn it is
list : {x : List ℕ} {n u at : ℕ} {offsets : List ℕ} → WellFormed x → n ≡ sink_of x → OffsetsFound x u at offsets
    → u < n → ListThere x at
unfolding sink_of
list w e f h = list-there w (omega arith) f.place

small : {x : List ℕ} {at r : ℕ} → ListThere x at → r ≡ u16 x at → at + 2 + 2 * r ≤ 9204
small l e = rw e l.small

pub loop-u-init : goal.loop-u-init
unfolding sink_of
loop-u-init c = let e = c.sink_of-sink.ensures.value in offsets_start _ c.requires.1 (omega arith)

pub overflow_cast-offsets : goal.overflow_cast-offsets
overflow_cast-offsets c =
    let h = (list c.requires.0 c.sink_of-sink.ensures.value c.loop-u.invariant c.loop-u-test.true).small in search rules

pub loop-u-preserved : goal.loop-u-preserved
unfolding sink_of
loop-u-preserved c =
    let e = c.sink_of-sink.ensures.value in
    rw c.u16_at.ensures (offset-next c.requires.0 c.loop-u.invariant (omega (arith, c.loop-u-test.true)))

pub overflow_mul-at : goal.overflow_mul-at
overflow_mul-at c =
    let l = list c.requires.0 c.sink_of-sink.ensures.value c.loop-u.invariant c.loop-u-test.true in
    let h = small l c.u16_at.ensures in
    search rules

pub overflow_add-at-in-loop-u : goal.overflow_add-at-in-loop-u
overflow_add-at-in-loop-u c =
    let l = list c.requires.0 c.sink_of-sink.ensures.value c.loop-u.invariant c.loop-u-test.true in
    let h = small l c.u16_at.ensures in
    search rules

pub overflow_add-at-in-loop-u-2 : goal.overflow_add-at-in-loop-u-2
overflow_add-at-in-loop-u-2 c =
    let l = list c.requires.0 c.sink_of-sink.ensures.value c.loop-u.invariant c.loop-u-test.true in
    let h = small l c.u16_at.ensures in
    search rules
