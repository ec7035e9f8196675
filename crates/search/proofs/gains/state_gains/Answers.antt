-- `gains::state_gains` meets its contract. Assumes nothing.
use Rattle.storing.proofs.Filling.{put_both}
use Rattle.search.proofs.gains.state_gains.Goals as goal

pub gain-stay-requires : goal.gain-stay-requires
gain-stay-requires c = let p = c.requires in (p.near_bias.0, p.s_bound.1)

pub gain-step-requires : goal.gain-step-requires
gain-step-requires c = let p = c.requires in (p.near_bias.1, p.s_bound.1)

pub returns : goal.returns
returns c = let p = c.requires.s_bound in put_both p.0 p.2 c.gain-stay.ensures c.gain-step.ensures
