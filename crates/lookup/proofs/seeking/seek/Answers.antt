-- `seeking::seek` meets its contract: the search is at a letter of the word and at an arc of a vertex, behind all paths
-- that it passed. A turn goes down by an arc, or on behind one whose pair is marked, or marks a pair and goes up again.
-- Assumes nothing.
use Prim.Native.Nat.{◌+◌, ◌*◌, ◌-◌, ◌≤◌, ◌<◌}
use mathlib.Core.Path.{◌≡◌, refl, sym, ◌∙◌}
use native.Mathlib.Omega.{arith}
use lib.ListN.{get_or, drop, length-set}
use Rattle.std.proofs.Common.{None}
use Rattle.endian.specs.Rows.{number_at}
use Rattle.lexicon.specs.Lexicon.{node_count, sink_of}
use Rattle.graph.specs.Graph.{graph_of, path_count}
use Rattle.checking.specs.Tables.{no_vertex}
use Rattle.codes.proofs.Heads.{vertex_low, paths_of}
use Rattle.lookup.specs.Seeking.{code_after, prints_column}
use Rattle.lookup.specs.Marks.{pair_of}
use Rattle.lookup.specs.Trying.{Onward, LedOn}
use Rattle.lookup.proofs.Answers.{unmarked, marks-start}
use Rattle.lookup.proofs.Tries.{arcs-few}
use Rattle.lookup.proofs.Paths.{Up, going_start, going_found, going_nowhere, going_few, going_past, going_down}
use Rattle.lookup.proofs.Paths.{going_up, came_from, vertex_of, free_of, less_on, less_down, less_up}
use Rattle.lookup.proofs.Paths.{led-nowhere, led-end, led-onward}
use Rattle.lookup.proofs.seeking.seek.Goals as goal
use Rattle.lookup.proofs.seeking.seek.Goals.{At-loop-arc, After-next_arc-ahead, In_default, Else-i-eq0, Else-i-word}
use Rattle.lookup.proofs.seeking.seek.Goals.{After-u16_at}

pub loop-arc-init : goal.loop-arc-init
loop-arc-init c =
    let p = c.requires in (
      going_start p.table.countable.tabled.located.formed p.short (marks-start p.marks _ _ _) (unmarked p.marks 1),
      refl,
    )

-- ---- a turn

in_graph : (c : At-loop-arc) → c.loop-arc.vertex ≤ node_count c.args.lexicon.now
in_graph c =
    let p = c.requires in vertex_of p.table.countable.tabled.located.formed p.short c.loop-arc.invariant.0

position : (c : At-loop-arc) → c.loop-arc.i ≤ 32
position c = omega (arith, c.loop-arc.invariant.0.position, c.requires.short)

pair-low : (c : At-loop-arc) → pair_of c.loop-arc.i c.loop-arc.vertex ≤ 13266
pair-low c = omega (arith, position c, vertex_low c.requires.table.countable.tabled (in_graph c))

first-few : (c : At-loop-arc) → c.loop-arc.first ≤ 4601
first-few c =
    omega (
      arith,
      c.loop-arc.invariant.0.tried.inside,
      arcs-few c.requires.table.countable.tabled.located.formed (in_graph c),
    )

pub next_arc-ahead-requires : goal.next_arc-ahead-requires
next_arc-ahead-requires c =
    let g = c.loop-arc.invariant.0 in
    record {
      table = c.requires.table;
      position = g.position;
      short = c.requires.short;
      vertex = in_graph (goal.at.next_arc-ahead-requires c).At-loop-arc;
      passed = g.c;
      tried = g.tried;
    }

led : (c : After-next_arc-ahead) →
    let a = c.args in
    LedOn a.lexicon.now (prints_column a.vertices.now) a.word.now c.loop-arc.i c.loop-arc.vertex c.loop-arc.first
    c.next_arc-ahead.result.arc (c.loop-arc.invariant.0.c + c.next_arc-ahead.result.passed)
led c = c.next_arc-ahead.ensures.by_index c.loop-arc.invariant.0.c c.loop-arc.invariant.0.tried

few : (c : After-next_arc-ahead) → c.loop-arc.code + c.next_arc-ahead.result.passed ≤ 2097152
few c =
    let p = c.requires in
    omega (
      arith,
      c.next_arc-ahead.ensures.few,
      going_few p.table.countable.tabled.located.formed p.short c.loop-arc.invariant.0,
      p.table.countable.few {u = 0} (omega arith),
    )

pub overflow_add-code : goal.overflow_add-code
overflow_add-code c = omega (arith, few (goal.at.overflow_add-code c).After-next_arc-ahead)

-- ---- none leads on

none-leads : (c : In_default) →
    let a = c.args in
    (code_after (prints_column a.vertices.now) (graph_of a.lexicon.now) c.loop-arc.vertex
    (drop c.loop-arc.i a.word.now) ≡ None)
    × (c.loop-arc.invariant.0.c + c.next_arc-ahead.result.passed ≡ path_count (graph_of a.lexicon.now) c.loop-arc.vertex)
none-leads c =
    led-nowhere (c.next_arc-ahead.ensures.by_index c.loop-arc.invariant.0.c c.loop-arc.invariant.0.tried)
    c.in_default.is

pub overflow_add-pair-in_default : goal.overflow_add-pair-in_default
overflow_add-pair-in_default c = omega (arith, pair-low (goal.at.overflow_add-pair-in_default c).At-loop-arc)

pub set_mark-requires : goal.set_mark-requires
set_mark-requires c =
    let p = c.requires in
    let g = c.loop-arc.invariant.0 in
    record {
      marks_len = (g.marks.long, g.marks.chained);
      le_pair = (
        omega arith,
        pair-low (goal.at.set_mark-requires c).At-loop-arc,
        free_of p.table.countable.tabled.located.formed p.short g,
      );
    }

-- from the root
pub returns-then-i-eq0 : goal.returns-then-i-eq0
returns-then-i-eq0 c =
    let p = c.requires in
    let g = c.loop-arc.invariant.0 in
    record {
      code_value = sym (going_nowhere p.table.countable.tabled.located.formed p.short g c.if-i-eq0.true
          (none-leads (goal.at.returns-then-i-eq0 c).In_default).0);
      marks_len = (c.set_mark.ensures.long ∙ g.marks.long, c.set_mark.ensures.chained);
    }

up : (c : Else-i-eq0) →
    let a = c.args in
    Up a.lexicon.now (prints_column a.vertices.now) a.word.now c.loop-arc.marks c.loop-arc.path (c.loop-arc.i - 1)
    c.loop-arc.vertex c.loop-arc.invariant.0.base
up c =
    let p = c.requires in
    came_from p.table.countable.tabled.located.formed p.short c.loop-arc.i c.loop-arc.invariant.0 c.if-i-eq0.false

pub overflow_add-first : goal.overflow_add-first
overflow_add-first c =
    let u = up (goal.at.overflow_add-first c).Else-i-eq0 in
    let few = arcs-few c.requires.table.countable.tabled.located.formed u.vertex in
    rw u.row (omega (arith, u.arc.inside, few))

pub loop-arc-smaller-in_default : goal.loop-arc-smaller-in_default
loop-arc-smaller-in_default c =
    let p = c.requires in
    less_up c.loop-arc.i c.loop-arc.first _ c.set_mark.ensures
    (pair-low (goal.at.loop-arc-smaller-in_default c).At-loop-arc)
    (free_of p.table.countable.tabled.located.formed p.short c.loop-arc.invariant.0)

pub loop-arc-preserved-in_default : goal.loop-arc-preserved-in_default
loop-arc-preserved-in_default c =
    let p = c.requires in
    let none = none-leads (goal.at.loop-arc-preserved-in_default c).In_default in (
      going_up p.table.countable.tabled.located.formed p.short c.loop-arc.i c.next_arc-ahead.result.passed
          c.loop-arc.invariant.0 c.if-i-eq0.false none.0 none.1 c.set_mark.ensures,
      c.loop-arc.invariant.1,
    )

-- ---- an arc fits

pub returns-then-i-word : goal.returns-then-i-word
returns-then-i-word c =
    let p = c.requires in
    let g = c.loop-arc.invariant.0 in
    record {
      code_value = sym (going_found p.table.countable.tabled.located.formed p.short g c.next_arc-ahead.result.passed
          (led-end c.in-Some.is (led (goal.at.returns-then-i-word c).After-next_arc-ahead) c.if-i-word.true));
      marks_len = (g.marks.long, g.marks.chained);
    }

arc : (c : Else-i-word) →
    let a = c.args in
    (c.loop-arc.first ≤ c.in-Some.arc.index)
    × Onward a.lexicon.now (prints_column a.vertices.now) a.word.now c.loop-arc.i c.loop-arc.vertex c.in-Some.arc.next
    c.in-Some.arc.index (c.loop-arc.invariant.0.c + c.next_arc-ahead.result.passed)
arc c =
    let g = c.loop-arc.invariant.0 in
    led-onward c.in-Some.is (c.next_arc-ahead.ensures.by_index g.c g.tried) g.position c.if-i-word.false

next_low : (c : Else-i-word) → c.in-Some.arc.next < 402
next_low c = vertex_low c.requires.table.countable.tabled (arc c).1.node

index-few : (c : Else-i-word) → c.in-Some.arc.index < 4601
index-few c =
    let p = c.requires in
    let f = p.table.countable.tabled.located.formed in
    omega (arith, (arc c).1.inside, arcs-few f (vertex_of f p.short c.loop-arc.invariant.0))

pair_there : (c : Else-i-word) → 2 * (1 + 402 * (c.loop-arc.i + 1) + c.in-Some.arc.next) + 2 ≤ 26534
pair_there c = omega (arith, (arc c).1.letter, c.requires.short, next_low c)

pub overflow_add-i-in-loop-arc-2 : goal.overflow_add-i-in-loop-arc-2
overflow_add-i-in-loop-arc-2 c = omega (arith, pair_there (goal.at.overflow_add-i-in-loop-arc-2 c).Else-i-word)

pub overflow_mul-i-in-loop-arc : goal.overflow_mul-i-in-loop-arc
overflow_mul-i-in-loop-arc c = omega (arith, pair_there (goal.at.overflow_mul-i-in-loop-arc c).Else-i-word)

pub offset_bounds-vertices-arc : goal.offset_bounds-vertices-arc
offset_bounds-vertices-arc c = omega (arith, next_low (goal.at.offset_bounds-vertices-arc c).Else-i-word)

pub bounds-vertices-arc : goal.bounds-vertices-arc
bounds-vertices-arc c = next_low (goal.at.bounds-vertices-arc c).Else-i-word

-- the number of its pair
number : (c : After-u16_at) →
    c.u16_at.result ≡ number_at c.loop-arc.marks (pair_of (c.loop-arc.i + 1) c.in-Some.arc.next)
unfolding number_at
number c = c.u16_at.ensures

count : (c : Else-i-word) →
    (get_or c.args.vertices.now c.in-Some.arc.next no_vertex).paths
    ≡ path_count (graph_of c.args.lexicon.now) c.in-Some.arc.next
unfolding sink_of
count c = paths_of c.requires.table.countable.tabled (omega (arith, (arc c).1.node))

-- ---- its pair is marked

pub overflow_add-code-then-u16_at-ne0 : goal.overflow_add-code-then-u16_at-ne0
unfolding sink_of
overflow_add-code-then-u16_at-ne0 c =
    let e = (goal.at.overflow_add-code-then-u16_at-ne0 c).Else-i-word in
    omega (
      arith,
      few (goal.at.overflow_add-code-then-u16_at-ne0 c).After-next_arc-ahead,
      count e,
      c.requires.table.countable.few {u = c.in-Some.arc.next} (omega (arith, (arc e).1.node)),
    )

pub overflow_add-first-then-u16_at-ne0 : goal.overflow_add-first-then-u16_at-ne0
overflow_add-first-then-u16_at-ne0 c =
    omega (arith, index-few (goal.at.overflow_add-first-then-u16_at-ne0 c).Else-i-word)

pub loop-arc-smaller-then-u16_at-ne0 : goal.loop-arc-smaller-then-u16_at-ne0
loop-arc-smaller-then-u16_at-ne0 c =
    let e = (goal.at.loop-arc-smaller-then-u16_at-ne0 c).Else-i-word in
    less_on c.loop-arc.marks c.loop-arc.i c.loop-arc.first (arc e).0 (omega (arith, index-few e))

pub loop-arc-preserved-then-u16_at-ne0 : goal.loop-arc-preserved-then-u16_at-ne0
loop-arc-preserved-then-u16_at-ne0 c =
    let p = c.requires in
    let e = (goal.at.loop-arc-preserved-then-u16_at-ne0 c).Else-i-word in
    let n = (goal.at.loop-arc-preserved-then-u16_at-ne0 c).After-u16_at in (
      rw (count e) (going_past p.table.countable.tabled.located.formed p.short c.loop-arc.invariant.0
          c.next_arc-ahead.result.passed (arc e).1 (λ z. c.if-u16_at-ne0.true (number n ∙ z))),
      c.loop-arc.invariant.1,
    )

-- ---- the search goes down

pub loop-arc-smaller : goal.loop-arc-smaller
loop-arc-smaller c =
    let t = (goal.at.loop-arc-smaller c).At-loop-arc in
    less_down c.loop-arc.marks c.loop-arc.i c.loop-arc.first _ (position t) (omega (arith, first-few t))

pub loop-arc-preserved : goal.loop-arc-preserved
loop-arc-preserved c =
    let p = c.requires in
    let e = (goal.at.loop-arc-preserved c).Else-i-word in
    let n = (goal.at.loop-arc-preserved c).After-u16_at in (
      going_down p.table.countable.tabled.located.formed p.short c.loop-arc.invariant.0
          c.next_arc-ahead.result.passed (arc e).1 (sym (number n) ∙ c.if-u16_at-ne0.false) c.loop-arc.invariant.1,
      length-set c.loop-arc.path c.loop-arc.i _ ∙ c.loop-arc.invariant.1,
    )
