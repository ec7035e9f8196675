-- `turns::take_turn` meets its contract: the node's last tokens are passed on with its letter's link, and then its
-- states are renewed. Assumes nothing.
use mathlib.Core.Path.{refl, ◌∙◌}
use borrow.Author.Rules.{rules}
use Rattle.storing.proofs.Turning.{node_there, node-few, letter-small, letter-there, count-range, first-few}
use Rattle.storing.proofs.Turning.{at-end, renewing, passing_on, turn-done}
use Rattle.search.proofs.Sums.{most-fits, less_fits, bytes-before, node-below, next-below, after-fits}
use Rattle.search.proofs.Sums.{double_fits, letter-fits, letter-within}
use Rattle.search.proofs.turns.take_turn.Goals as goal

pub pass_on-requires : goal.pass_on-requires
pass_on-requires c = record { passing_on = passing_on c.requires; letter_bound = letter-small c.requires }

pub renew_node-requires : goal.renew_node-requires
renew_node-requires c = renewing c.requires (c.pass_on.ensures (passing_on c.requires))

pub returns : goal.returns
returns c = λ t.
    turn-done t (c.pass_on.ensures (passing_on t)) c.renew_node.ensures c.renew_node.auto.store

pub overflow_add-letter : goal.overflow_add-letter
overflow_add-letter c = after-fits _ (node-few c.requires)

pub bounds-lexicon-node : goal.bounds-lexicon-node
bounds-lexicon-node c = node_there c.requires

pub overflow_cast-letter : goal.overflow_cast-letter
overflow_cast-letter c = less_fits _ (letter-small c.requires) refl

pub overflow_add-last : goal.overflow_add-last
overflow_add-last c = less_fits _ (next-below (node-few c.requires)) refl

pub offset_bounds-vertices-node : goal.offset_bounds-vertices-node
offset_bounds-vertices-node c = bytes-before _ 16 (next-below (node-few c.requires)) refl

pub bounds-vertices-node : goal.bounds-vertices-node
bounds-vertices-node c = next-below (node-few c.requires)

pub overflow_cast-last : goal.overflow_cast-last
overflow_cast-last c = most-fits _ (at-end c.requires).small refl

pub overflow_sub-last : goal.overflow_sub-last
overflow_sub-last c = (at-end c.requires).long

pub overflow_mul-states : goal.overflow_mul-states
overflow_mul-states c = double_fits _ (letter-within (letter-small c.requires))

pub overflow_add-states : goal.overflow_add-states
overflow_add-states c = letter-fits _ (letter-within (letter-small c.requires))

pub bounds-voice-letter : goal.bounds-voice-letter
bounds-voice-letter c = letter-there c.requires

pub overflow_cast-states : goal.overflow_cast-states
overflow_cast-states c = most-fits _ (count-range c.requires).1 refl

pub offset_bounds-vertices-node-2 : goal.offset_bounds-vertices-node-2
offset_bounds-vertices-node-2 c = bytes-before _ 16 (node-below (node-few c.requires)) refl

pub bounds-vertices-node-2 : goal.bounds-vertices-node-2
bounds-vertices-node-2 c = node-below (node-few c.requires)

pub overflow_cast-first : goal.overflow_cast-first
overflow_cast-first c = let h = first-few c.requires in search rules

pub offset_bounds-gains-letter : goal.offset_bounds-gains-letter
offset_bounds-gains-letter c = bytes-before _ 32 (letter-small c.requires) refl

pub bounds-gains-letter : goal.bounds-gains-letter
bounds-gains-letter c = letter-small c.requires

pub shape_of-store : goal.shape_of-store
shape_of-store c = c.renew_node.auto.store ∙ c.pass_on.auto.store
