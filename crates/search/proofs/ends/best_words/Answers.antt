-- `ends::best_words` meets its contract: after all frames, the ends that are left give what all give. Assumes nothing.
use mathlib.Core.Path.{refl}
use native.Mathlib.Omega.{arith}
use Rattle.lexicon.specs.Lexicon.{node_count}
use Rattle.search.proofs.Running.{run_with}
use Rattle.search.proofs.Whole.{ends-start, next_end, ends_next, list_ready, ends_done}
use Rattle.search.proofs.ends.best_words.Goals as goal

-- n is at least 1
pub returns-then-n-eq0 : goal.returns-then-n-eq0
returns-then-n-eq0 c = absurd (omega (arith, c.if-n-eq0.true, c.requires.run.roomy.one))

pub all_frames-requires : goal.all_frames-requires
all_frames-requires c = c.requires

pub loop-node-init : goal.loop-node-init
unfolding node_count
loop-node-init c = ends-start _ _ _ _ _ c.u16_at-nodes.ensures

pub offer_end-requires : goal.offer_end-requires
offer_end-requires c =
    next_end (run_with c.all_frames.ensures.vertex_table c.all_frames.auto.store c.requires.run)
    c.all_frames.ensures.stored_at c.loop-node-test.true c.loop-node.invariant

pub loop-node-preserved : goal.loop-node-preserved
loop-node-preserved c =
    ends_next (run_with c.all_frames.ensures.vertex_table c.all_frames.auto.store c.requires.run)
    c.all_frames.ensures.stored_at c.loop-node-test.true c.loop-node.invariant
    c.offer_end.auto.list
    (c.offer_end.ensures (next_end (run_with c.all_frames.ensures.vertex_table c.all_frames.auto.store c.requires.run)
    c.all_frames.ensures.stored_at c.loop-node-test.true c.loop-node.invariant))

pub copy_place-requires : goal.copy_place-requires
copy_place-requires c =
    record {
      place_room = list_ready (run_with c.all_frames.ensures.vertex_table c.all_frames.auto.store c.requires.run)
          c.all_frames.ensures.stored_at c.loop-node.invariant;
      tokens_value = refl;
    }

pub returns : goal.returns
returns c =
    ends_done (run_with c.all_frames.ensures.vertex_table c.all_frames.auto.store c.requires.run)
    c.all_frames.ensures.stored_at (omega (arith, c.loop-node-test.false)) c.loop-node.invariant c.copy_place.ensures

pub shape_of-store : goal.shape_of-store
shape_of-store c = c.all_frames.auto.store
