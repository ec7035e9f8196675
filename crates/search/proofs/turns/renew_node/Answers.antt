-- `turns::renew_node` lends the node's stretch of the store, and it comes back renewed. Assumes nothing.
use Prim.Native.Nat.{◌+◌, ◌*◌}
use mathlib.Core.Path.{◌∙◌}
use borrow.Author.Rules.{rules}
use borrow.Rule.Slice.PartMut.{mid_len}
use Rattle.storing.proofs.Lending.{part-size}
use Rattle.storing.proofs.Stretch.{start-few, stretch_few, stretch_there, part-renewing, stretch_back}
use Rattle.search.proofs.turns.renew_node.Goals as goal

pub renew-requires : goal.renew-requires
renew-requires c =
    let a = c.args in
    part-renewing c.requires _ (part-size a.first (a.n * a.states))

pub returns : goal.returns
returns c =
    let a = c.args in
    let size = part-size a.first (a.n * a.states) in
    λ t. stretch_back t _ size
    (c.renew.auto.part ∙ mid_len (8 * a.first) (8 * a.first + 8 * (a.n * a.states)) a.store.now (stretch_there t))
    (c.renew.ensures (part-renewing t _ size))

pub overflow_mul-start : goal.overflow_mul-start
overflow_mul-start c = let h = start-few c.requires in search rules

pub overflow_mul-end : goal.overflow_mul-end
overflow_mul-end c = let h = stretch_few c.requires in search rules

pub overflow_mul-end-2 : goal.overflow_mul-end-2
overflow_mul-end-2 c = let h = stretch_few c.requires in search rules

pub overflow_add-end : goal.overflow_add-end
overflow_add-end c = let h = start-few c.requires in let g = stretch_few c.requires in search rules

pub slice_bounds-renew-end : goal.slice_bounds-renew-end
slice_bounds-renew-end c = let h = stretch_there c.requires in search rules
