-- `seeking::next_arc` meets its contract: an arc is passed that does not fit. Assumes nothing.
use Prim.Native.Nat.{ℕ, ◌≤◌, ◌<◌}
use mathlib.Core.Path.{◌≡◌, refl, sym, ap, ◌∙◌}
use mathlib.Core.List.{List}
use native.Mathlib.Omega.{arith}
use native.Mathlib.Decide.{ℕ_discrete}
use native.Mathlib.Nat.{add-zero, add_assoc}
use native.Mathlib.Numerals.{add-one}
use lib.ListN.{length, get_or, drop}
use Rattle.std.proofs.Common.{Some}
use Rattle.lexicon.specs.Lexicon.{sink_of, successors}
use Rattle.graph.specs.Graph.{graph_of, sink, path_count}
use Rattle.checking.specs.declared.Vertex.{Vertex}
use Rattle.checking.specs.Tables.{no_vertex, slot_field, WellFormed}
use Rattle.checking.proofs.Columns.{column-at}
use Rattle.codes.proofs.Heads.{ArcHere, list_long, arc_here, paths_of}
use Rattle.lookup.specs.Seeking.{wanted_at, code_after, prints_column}
use Rattle.lookup.specs.Trying.{Tried, Trying, LedOn, nowhere, ended, onward}
use Rattle.lookup.proofs.Ways.{not_end}
use Rattle.lookup.proofs.Tries.{fits_not, fits-end, fits-letter, letter_left, wanted_low, wanted_past}
use Rattle.lookup.proofs.Tries.{try_done, all-passed, passed-few, counts-below, try_found, try_next}
use Rattle.lookup.proofs.seeking.next_arc.Goals as goal
use Rattle.lookup.proofs.seeking.next_arc.Goals.{After-number_of-next, At-loop-index}

-- ---- an arc that fits

module _ {x : List ℕ} {vertices : List Vertex} {word : List ℕ} {i u first : ℕ}
    (p : Trying x vertices word i u first) (low : get_or word i 0 < 256)
    {n s : ℕ} (a : ArcHere x u n s) (fits : get_or (prints_column vertices) s 0 ≡ wanted_at word i) where
  abbrev prints : List ℕ
  prints = prints_column vertices

  formed : WellFormed x
  formed = p.table.countable.tabled.located.formed

  -- the sink, where the word ends
  at-end : wanted_at word i ≡ 256 → {c : ℕ} → Tried x prints word i u n c
      → LedOn x prints word i u first (Some (record { index = n; next = s })) c
  at-end e {c} t =
      ended refl (wanted_past word i low e)
      (try_found formed p.vertex t a.inside a.entry (fits-end prints (graph_of x) word i s fits low e)
      ∙ ap Some (add-zero c))

  -- a node that prints the next letter
  at_node : ¬ (wanted_at word i ≡ 256) → first ≤ n → {c : ℕ} → Tried x prints word i u n c
      → LedOn x prints word i u first (Some (record { index = n; next = s })) c
  unfolding sink_of sink
  at_node d l t =
      let letter = letter_left word i d in
      let below : s < sink (graph_of x) = not_end (graph_of x) prints p.table.end a.bounded
      (wanted_low word i letter low) fits in
      onward refl l (record {
        letter = letter;
        rises = a.rises;
        node = omega (arith, below);
        tried = t;
        inside = a.inside;
        leads = a.entry;
        fits = fits-letter prints (graph_of x) word i s fits letter
            ∙ ap (λ k. code_after prints (graph_of x) s (drop k word)) (add-one i);
      })

  leads : first ≤ n → {c : ℕ} → Tried x prints word i u n c
      → LedOn x prints word i u first (Some (record { index = n; next = s })) c
  leads l t = elim (ℕ_discrete (wanted_at word i) 256) [
    | yes e ↦ at-end e t
    | no d ↦ at_node d l t
  ]

-- ---- the list

-- paths passed are few
few : (c : At-loop-index) → c.loop-index.passed ≤ 1048576
unfolding sink_of
few c =
    let p = c.requires in
    omega (
      arith,
      passed-few p.table.countable.tabled.located.formed p.vertex (c.loop-index.invariant p.passed p.tried),
      p.table.countable.few {u = c.args.vertex} (omega (arith, p.vertex)),
    )

-- ---- an arc

arc : (c : After-number_of-next) → ArcHere c.args.lexicon.now c.args.vertex c.loop-index.index c.number_of-next.result
arc c =
    let p = c.requires in
    arc_here p.table.countable.tabled p.vertex c.arcs_of-arcs.result.now c.arcs_of-arcs.ensures c.loop-index-test.true
    c.number_of-next.ensures

count : (c : After-number_of-next) →
    (get_or c.args.vertices.now c.number_of-next.result no_vertex).paths
    ≡ path_count (graph_of c.args.lexicon.now) c.number_of-next.result
count c = paths_of c.requires.table.countable.tabled (arc c).bounded

pub bounds-vertices-next : goal.bounds-vertices-next
bounds-vertices-next c = (arc c).low

-- what it prints
printed : (c : After-number_of-next) →
    get_or (prints_column c.args.vertices.now) c.number_of-next.result 0
    ≡ (get_or c.args.vertices.now c.number_of-next.result no_vertex).first_slot
printed c = column-at slot_field refl c.number_of-next.result c.args.vertices.now

pub returns-then-known-wanted : goal.returns-then-known-wanted
returns-then-known-wanted c =
    let p = c.requires in
    let n = (goal.at.returns-then-known-wanted c).After-number_of-next in
    let fits = printed n ∙ c.if-known-wanted.true ∙ c.wanted_at-wanted.ensures in
    record {
      by_index = λ k d.
          leads p (omega (arith, c.type_inv.word c.args.i)) (arc n) fits c.loop-index.auto.index
          (c.loop-index.invariant k d);
      few = few (goal.at.returns-then-known-wanted c).At-loop-index;
    }

pub overflow_add-passed : goal.overflow_add-passed
unfolding sink_of
overflow_add-passed c =
    let p = c.requires in
    let n = (goal.at.overflow_add-passed c).After-number_of-next in
    let a = arc n in
    omega (
      arith,
      count n,
      counts-below p.table.countable.tabled.located.formed p.vertex (c.loop-index.invariant p.passed p.tried) a.inside
          a.entry,
      p.table.countable.few {u = c.args.vertex} (omega (arith, p.vertex)),
    )

pub loop-index-preserved : goal.loop-index-preserved
loop-index-preserved c =
    let p = c.requires in
    let n = (goal.at.loop-index-preserved c).After-number_of-next in
    let a = arc n in
    let none-by = fits_not (prints_column c.args.vertices.now) (graph_of c.args.lexicon.now) c.args.word.now c.args.i _
    (λ e. c.if-known-wanted.false (sym (printed n) ∙ e ∙ sym c.wanted_at-wanted.ensures)) in
    λ k d. rw (count n, ← add_assoc k c.loop-index.passed (path_count (graph_of c.args.lexicon.now) c.number_of-next.result))
    (try_next p.table.countable.tabled.located.formed p.vertex (c.loop-index.invariant k d) a.inside a.entry none-by)

pub returns : goal.returns
returns c =
    let p = c.requires in
    let f = p.table.countable.tabled.located.formed in
    let long = list_long p.table.countable.tabled p.vertex c.arcs_of-arcs.result.now c.arcs_of-arcs.ensures in
    let all : length (successors c.args.lexicon.now c.args.vertex) ≤ c.loop-index.index =
    omega (arith, long, c.loop-index-test.false) in
    record {
      by_index = λ k d.
          let t = c.loop-index.invariant k d in
          nowhere refl (try_done f p.vertex t all) (all-passed f p.vertex t all);
      few = few (goal.at.returns c).At-loop-index;
    }
