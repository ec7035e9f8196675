-- `gains::first_gains` meets its contract. Assumes nothing.
use mathlib.Core.Path.{◌∙◌}
use native.Mathlib.Omega.{arith}
use lib.ListN.{length-set}
use lib.Seq.{get_or-set_same}
use Rattle.search.proofs.gains.first_gains.Goals as goal

pub returns : goal.returns
returns c =
    let row = c.args.row.now in
    let w = c.requires.2 in
    let a = c.gain-stay.result.0 in
    let e = c.args.emission.0 in
    record {
      room = record {
        loops = omega (arith, w.loops, length-set row.loops 0 a);
        steps = omega (arith, w.steps, length-set row.steps 0 e);
      };
      loop = get_or-set_same row.loops 0 a 0 (omega (arith, w.loops)) ∙ c.gain-stay.ensures;
      entry = get_or-set_same row.steps 0 e 0 (omega (arith, w.steps));
    }
