-- `lines::put_lines` meets its contract: before each hit the lines of those before it are put, and none is longer than
-- 68 bytes. Assumes nothing.
use native.Mathlib.Omega.{arith}
use Rattle.report.proofs.Hits.{lines_start, hit-named, still_accepted, lines_next, lines_end}
use Rattle.report.proofs.lines.put_lines.Goals as goal

pub loop-i-init : goal.loop-i-init
loop-i-init c = lines_start

pub put_hit-requires : goal.put_hit-requires
put_hit-requires c =
    let r = c.requires in
    let p = c.loop-i.invariant in
    let h = c.loop-i-test.true in
    let e = c.hit_at.ensures.code in
    let below = hit-named r.holds_hits c.loop-i.i (omega arith) in record {
      accepted_arguments = still_accepted r.accepted_arguments r.holds_hits (omega (arith, r.k_in_bounds)) p;
      code_bound = rw e below;
      in_bounds = omega (arith, r.k_in_bounds, p.few_bytes);
    }

pub loop-i-preserved : goal.loop-i-preserved
loop-i-preserved c =
    let r = c.requires in
    let h = c.loop-i-test.true in
    lines_next r.accepted_arguments r.holds_hits (omega (arith, r.k_in_bounds)) c.loop-i.invariant (omega arith)
    c.hit_at.ensures.score c.hit_at.ensures.code
    c.put_hit.auto.work c.put_hit.ensures

pub returns : goal.returns
returns c =
    let r = c.requires in
    let h = c.loop-i-test.false in
    lines_end r.accepted_arguments r.holds_hits (omega (arith, r.k_in_bounds)) c.loop-i.invariant (omega arith)
