-- `letters::state_scores` meets its contract. Assumes nothing.
use native.Mathlib.Omega.{arith}
use Rattle.storing.proofs.Filling.{put-loop, put_both}
use Rattle.search.proofs.letters.state_scores.Goals as goal

pub returns-then-s-gt0 : goal.returns-then-s-gt0
returns-then-s-gt0 c =
    let p = c.requires.s_bound in
    put_both p.0 p.1 c.move_score-stay.ensures c.move_score-step.ensures

pub returns-else-s-gt0 : goal.returns-else-s-gt0
returns-else-s-gt0 c =
    put-loop c.requires.s_bound.0 c.requires.s_bound.1 (omega (arith, c.if-s-gt0.false)) c.move_score-stay.ensures

pub move_score-step-requires : goal.move_score-step-requires
move_score-step-requires c =
    let p = c.requires in
    record { state_bound = (omega arith, omega arith); stored_pairs = p.stored_pairs }
