-- `ends::last_increment` meets its contract: no successor that was passed is the sink, and their path counts are added
-- up. Assumes nothing.
use Rattle.std.proofs.Common.{ℕ, ◌+◌, ◌*◌, ◌≤◌, ◌<◌, ◌≡◌, List, refl, sym, ◌∙◌, arith}
use Rattle.endian.specs.Bytes.{u16}
use Rattle.lexicon.specs.Lexicon.{node_count, sink_of}
use Rattle.graph.specs.Graph.{graph_of, path_count}
use Rattle.checking.specs.declared.Vertex.{Vertex}
use Rattle.checking.specs.Tables.{WellFormed}
use Rattle.checking.proofs.Arcs.{ListThere, has-entry, list-there}
use Rattle.storing.specs.Places.{arcs_in, paths_in}
use Rattle.search.specs.Running.{Arcs}
use Rattle.search.proofs.Sums.{less_fits, bytes-before, counts_fit}
use Rattle.search.proofs.Closing.{count-entry, ahead-start, ahead-arc, ahead-here, ahead_below}
use Rattle.search.proofs.Closing.{ahead_next, ahead_done}
use Rattle.search.proofs.Listed.{number-here, before-end, at-end, first-arc, next_arc}
use Rattle.search.proofs.ends.last_increment.Goals as goal
use Rattle.search.proofs.ends.last_increment.Goals.{After-number_of-next}

low : {x : List ℕ} {node : ℕ} → WellFormed x → node ≤ node_count x → node < 402
unfolding sink_of
low f h = has-entry f (omega (arith, h))

-- where the node's list stands
list : {x : List ℕ} {vertices : List Vertex} {node : ℕ} → Arcs x vertices × (node ≤ node_count x)
    → ListThere x (arcs_in vertices node)
list p = list-there p.0.formed p.1 (p.0.begin p.1)

-- the number of the sink
to-sink : (x : List ℕ) {n : ℕ} → n ≡ u16 x 0 → n + 1 ≡ sink_of x
unfolding sink_of node_count
to-sink x e = rw e (omega arith)

-- the arc whose turn it is
module _ (c : After-number_of-next) where
  abbrev here : ℕ
  here = arcs_in c.args.vertices.now c.args.node + 2 + 2 * c.loop-pair.pair-index

  inside : here < arcs_in c.args.vertices.now c.args.node + 2
      + 2 * u16 c.args.lexicon.now (arcs_in c.args.vertices.now c.args.node)
  inside = let p = c.list_at-pair-items in before-end (list c.requires) p.result.now p.ensures _ c.loop-pair-test.true

  number : c.number_of-next.result ≡ u16 c.args.lexicon.now here
  number =
      let p = c.list_at-pair-items in
      c.number_of-next.ensures ∙ number-here (list c.requires) p.result.now p.ensures _ c.loop-pair-test.true

  leads : c.number_of-next.result < 402
  leads =
      rw number (has-entry c.requires.0.formed (ahead-arc c.requires.0 c.requires.1 c.loop-pair.invariant inside).bounded)

  count : paths_in c.args.vertices.now c.number_of-next.result
      ≡ path_count (graph_of c.args.lexicon.now) (u16 c.args.lexicon.now here)
  count =
      rw number (count-entry c.requires.0 c.requires.1
      (ahead-arc c.requires.0 c.requires.1 c.loop-pair.invariant inside).bounded)

pub loop-pair-init : goal.loop-pair-init
loop-pair-init c = rw first-arc (ahead-start c.requires.0 c.requires.1)

pub returns-then-next-sink : goal.returns-then-next-sink
returns-then-next-sink c =
    let d = (goal.at.returns-then-next-sink c).After-number_of-next in
    ahead-here c.requires.0 c.requires.1 c.loop-pair.invariant (inside d)
    (sym (number d) ∙ c.if-next-sink.true ∙ to-sink c.args.lexicon.now c.u16_at.ensures)

-- what is added up stays within the paths from the node
pub overflow_add-increment : goal.overflow_add-increment
overflow_add-increment c =
    let d = (goal.at.overflow_add-increment c).After-number_of-next in
    counts_fit _ (count d) (ahead_below c.requires.0 c.requires.1 c.loop-pair.invariant (inside d))
    (c.requires.0.few c.requires.1)

pub loop-pair-preserved : goal.loop-pair-preserved
loop-pair-preserved c =
    let d = (goal.at.loop-pair-preserved c).After-number_of-next in
    rw (next_arc, count d)
    (ahead_next c.requires.0 c.requires.1 c.loop-pair.invariant (inside d)
    (λ e. c.if-next-sink.false (number d ∙ e ∙ sym (to-sink c.args.lexicon.now c.u16_at.ensures))))

pub returns : goal.returns
returns c =
    let p = c.list_at-pair-items in
    ahead_done c.requires.0 c.requires.1 c.loop-pair.invariant
    (at-end (list c.requires) p.result.now p.ensures _ c.loop-pair-test.false)

pub u16_at-requires : goal.u16_at-requires
u16_at-requires c = tt

pub offset_bounds-vertices-node : goal.offset_bounds-vertices-node
offset_bounds-vertices-node c = bytes-before _ 16 (low c.requires.0.formed c.requires.1) refl

pub bounds-vertices-node : goal.bounds-vertices-node
bounds-vertices-node c = low c.requires.0.formed c.requires.1

pub overflow_cast-next : goal.overflow_cast-next
overflow_cast-next c = less_fits _ (leads (goal.at.overflow_cast-next c).After-number_of-next) refl

pub offset_bounds-vertices-next : goal.offset_bounds-vertices-next
offset_bounds-vertices-next c = bytes-before _ 16 (leads (goal.at.offset_bounds-vertices-next c).After-number_of-next) refl

pub bounds-vertices-next : goal.bounds-vertices-next
bounds-vertices-next c = leads (goal.at.bounds-vertices-next c).After-number_of-next
