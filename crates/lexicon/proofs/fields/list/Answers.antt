-- `fields::list` meets its contract: after i successors the rest of the list and what comes later decide, and the table has this vertex's mark
-- at what the list has named. Assumes nothing.
use Prim.Native.Nat.{◌+◌, ◌*◌, ◌<◌}
use mathlib.Core.Path.{◌≡◌}
use native.Mathlib.Nat.{add-zero}
use native.Mathlib.Omega.{arith}
use borrow.Author.Rules.{rules}
use Rattle.std.proofs.lemmas.Result.{err_from_is_err_and}
use Rattle.lexicon.proofs.Sections.Lists.{list_uncounted, list_counted, list-fails, list-entry, list-next, list-whole}
use Rattle.lexicon.proofs.fields.list.Goals as goal
use Rattle.lexicon.proofs.fields.list.Goals.{In_ok-s}

pub returns-in_err-count : goal.returns-in_err-count
returns-in_err-count c =
    let p = err_from_is_err_and c.from_residual.result c.from_residual.ensures.1 in
    rw (p.1, p.2)
    (list_uncounted _ _ _ _ _ _ c.requires c.min.result (search rules) c.number.ensures c.in_err-count.was)

pub loop-i-init : goal.loop-i-init
loop-i-init c =
    rw add-zero
    (list_counted _ _ _ _ _ _ c.requires c.min.result (search rules) c.number.ensures c.in_ok-count.was)

pub arc-requires : goal.arc-requires
arc-requires c =
    let p = c.requires in
    (c.loop-i.invariant.there, p.vertex, p.few)

pub returns-in_err-s : goal.returns-in_err-s
returns-in_err-s c =
    let r = c.from_residual-in_err-s in
    let p = err_from_is_err_and r.result r.ensures.1 in
    rw (p.1, p.2)
    (list-fails _ _ _ _ _ _ _ c.loop-i.invariant _ c.requires.number c.arc.ensures c.loop-i-test.true c.in_err-s.was)

-- the successor has an entry of the table
entry : (c : goal.In_ok-s) → c.in_ok-s.s < 402
entry c =
    let p = c.requires in
    list-entry _ _ _ _ _ _ _ c.loop-i.invariant _ p.number c.arc.ensures p.few c.in_ok-s.was

pub bounds-seen-s : goal.bounds-seen-s
bounds-seen-s c = entry (goal.at.bounds-seen-s c).In_ok-s

pub offset_bounds-seen-s : goal.offset_bounds-seen-s
offset_bounds-seen-s c = let h = entry c in omega arith

pub loop-i-preserved : goal.loop-i-preserved
loop-i-preserved c =
    let p = c.requires in
    let a = c.args in
    let i = c.loop-i.i in
    let e : a.start + 2 + 2 * (i + 1) ≡ a.start + 2 + 2 * i + 2 = omega arith in
    rw e
    (list-next _ _ _ _ _ _ _ c.loop-i.invariant _ p.number c.arc.ensures p.few c.loop-i-test.true
    c.in_ok-s.was _ (search rules))

pub returns : goal.returns
returns c = list-whole _ _ _ _ _ _ _ c.loop-i.invariant (search rules)
