-- `has_bad_unpacked` finds a code that is not below W: no code passed is one, so some code is where one of those left is.
-- Assumes nothing.
use Prim.Native.Nat.{◌<◌}
use mathlib.Core.Path.{◌≡◌, refl, sym, ◌∙◌}
use borrow.Author.Rules.{rules}
use borrow.Author.Tests.{le-leb, lt-leb}
use lib.ListN.{length, get_or}
use Rattle.call.specs.Limits.{bad_code}
use Rattle.packing.specs.Packing.{unpacked}
use Rattle.endian.proofs.Search.{any_found, any_next, any_none}
use Rattle.packing.proofs.Laws.Packing.{held, length-unpacked, unpacked-at}
use Rattle.packing.proofs.has_bad_unpacked.Goals as goal
use Rattle.packing.proofs.has_bad_unpacked.Tie as tie
use Rattle.packing.proofs.has_bad_unpacked.Lts as lts
use Rattle.packing.proofs.has_bad_unpacked.Reads as reads

pub unpacked_code-requires : goal.unpacked_code-requires
unpacked_code-requires c =
    let d = c.before.before.before.before in
    held d.args.b d.args.n c.loop-i.i d.args.packed.now d.requires (search rules)

-- the code that is read is the next one of the list
read : (c : lts.After-unpacked_code tie.the-claims reads.Pre reads.Post goal.the-invariant-loop-i goal.the-decreases-loop-i) →
    let a = c.args in
    get_or (unpacked a.b a.n a.packed.now) c.loop-i.i 0 ≡ c.unpacked_code.result
read c =
    let a = c.args in
    unpacked-at a.b a.n c.loop-i.i a.packed.now (search rules) ∙ sym c.unpacked_code.ensures

inside : (c : lts.After-unpacked_code tie.the-claims reads.Pre reads.Post goal.the-invariant-loop-i goal.the-decreases-loop-i) →
    let a = c.args in
    c.loop-i.i < length (unpacked a.b a.n a.packed.now)
inside c = let a = c.args in rw (length-unpacked a.b a.n a.packed.now) (search rules)

pub returns-then-words-unpacked_code : goal.returns-then-words-unpacked_code
unfolding bad_code
returns-then-words-unpacked_code c =
    let a = c.args in
    let l = c.loop-i in
    sym (l.invariant ∙ any_found (bad_code a.words) (unpacked a.b a.n a.packed.now) l.i (inside c.before.before) (rw (read c.before.before) (le-leb _ _ c.if-words-unpacked_code.true)))

pub loop-i-preserved : goal.loop-i-preserved
unfolding bad_code
loop-i-preserved c =
    let a = c.args in
    let l = c.loop-i in
    l.invariant ∙ any_next (bad_code a.words) (unpacked a.b a.n a.packed.now) l.i (inside c.before.before) (rw (read c.before.before) (lt-leb _ _ c.if-words-unpacked_code.false))

pub returns : goal.returns
returns c =
    let a = c.args in
    let l = c.loop-i in
    let codes = unpacked a.b a.n a.packed.now in
    sym (l.invariant ∙ any_none (bad_code a.words) codes l.i (rw (length-unpacked a.b a.n a.packed.now) (search rules)))

pub loop-i-init : goal.loop-i-init
loop-i-init c = refl
