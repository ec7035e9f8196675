-- `laying::in_order` meets its contract: the slots are numbered, the numbers sorted by their words, and the words laid
-- out in that order. Assumes nothing.
use native.Mathlib.Omega.{arith}
use Rattle.sorting.proofs.Numbering.{numbered-slot, numbered_gathered, laid-dictionary}
use Rattle.sorting.proofs.laying.in_order.Goals as goal

pub sort-requires : goal.sort-requires
sort-requires c =
    let a = c.number_slots.ensures in
    let long = a.long in record {
      lo_le_hi = (omega arith, c.requires.n_bound.0, omega arith);
      points = λ p l h. numbered-slot c.requires.n_bound.0 c.requires.by_index a p h;
    }

pub lay_out-requires : goal.lay_out-requires
lay_out-requires c =
    let long = c.number_slots.ensures.long in
    let o = c.sort.ensures in
    let longer = o.long in record {
      n_bound = (c.requires.n_bound.0, omega arith, c.requires.n_bound.2);
      gathered = numbered_gathered c.requires.n_bound.0 c.requires.by_index c.number_slots.ensures o;
      rising = o.rise;
    }

pub returns : goal.returns
returns c =
    laid-dictionary c.requires.n_bound.0 c.requires.by_index c.number_slots.ensures c.sort.ensures
    c.lay_out.ensures
