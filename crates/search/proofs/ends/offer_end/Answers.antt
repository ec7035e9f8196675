-- `ends::offer_end` meets its contract: without an arc to the sink the list stays, and with one it takes what the last
-- state holds. Assumes nothing.
use mathlib.Core.Path.{sym, ◌∙◌}
use borrow.Author.Rules.{rules}
use Rattle.search.proofs.Closing.{arcs-of, end-at, end_none, end-there, end-nothing, end_offer, end_offered}
use Rattle.search.proofs.ends.offer_end.Goals as goal

pub returns-in_default : goal.returns-in_default
returns-in_default c e = end-nothing e (end_none e (sym c.in_default.is ∙ c.last_increment.ensures))

pub offer-requires : goal.offer-requires
offer-requires c =
    let e = c.requires in
    let t = end-there e (sym c.in-Some.is ∙ c.last_increment.ensures) in
    ((end-at c.requires).room, end_offer e t.0 t.1)

pub returns : goal.returns
returns c e =
    let t = end-there e (sym c.in-Some.is ∙ c.last_increment.ensures) in
    end_offered e t.0 t.1 c.offer.ensures

pub last_increment-requires : goal.last_increment-requires
last_increment-requires c = (arcs-of c.requires.ready, c.requires.high)

pub offset_bounds-vertices-node : goal.offset_bounds-vertices-node
offset_bounds-vertices-node c = let h = (end-at c.requires).vertex in search rules

pub bounds-vertices-node : goal.bounds-vertices-node
bounds-vertices-node c = let h = (end-at c.requires).vertex in search rules

pub overflow_add-last : goal.overflow_add-last
overflow_add-last c = let h = (end-at c.requires).vertex in search rules

pub overflow_cast-last : goal.overflow_cast-last
overflow_cast-last c = let h = (end-at c.requires).small in search rules

pub overflow_sub-last : goal.overflow_sub-last
overflow_sub-last c = let h = (end-at c.requires).long in search rules

pub shape_of-list : goal.shape_of-list
shape_of-list c = c.offer.auto.list
