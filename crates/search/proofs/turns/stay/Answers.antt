-- `turns::stay` meets its contract: an impossible loop empties the place. Assumes nothing.
use native.Mathlib.Omega.{arith}
use borrow.Author.Rules.{rules}
use Rattle.decoder.specs.Score.{number_of}
use Rattle.storing.proofs.Carrying.{stay-cleared, stay-few, stay-ready, stay-done}
use Rattle.search.proofs.Told.{same_told, other_told}
use Rattle.search.proofs.Running.{empty-slots}
use Rattle.search.proofs.Whole.{zeros-empty}
use Rattle.search.proofs.turns.stay.Goals as goal

pub returns-then-is_impossible : goal.returns-then-is_impossible
unfolding number_of
returns-then-is_impossible c =
    λ t. stay-cleared t (same_told c.is_impossible.ensures c.if-is_impossible.true)
    (empty-slots c.args.n 0 _ (rw c.zero.ensures (zeros-empty _)))

pub shift-requires : goal.shift-requires
unfolding number_of
shift-requires c = record {
  n_in_bounds = omega (arith, c.requires.room.room);
  movable = stay-ready c.requires (other_told c.is_impossible.ensures c.if-is_impossible.false);
}

pub returns : goal.returns
unfolding number_of
returns c = λ t. stay-done t (other_told c.is_impossible.ensures c.if-is_impossible.false) c.shift.ensures

pub overflow_mul-score : goal.overflow_mul-score
overflow_mul-score c = let h = stay-few c.requires in search rules
