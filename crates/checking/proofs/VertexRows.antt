-- The table of vertices: how it is filled, one after the other, and what its fields are. Assumes nothing.
use Prim.Native.Nat.{ℕ, zero, suc, ◌+◌, ◌≤◌, ◌<◌}
use mathlib.Core.Path.{◌≡◌, refl, sym, ap, ◌∙◌}
use mathlib.Core.Bool.{Bool, true, false, cond}
use mathlib.Core.List.{List, map}
use native.Mathlib.Nat.{add-zero, zero-add}
use native.Mathlib.Omega.{arith}
use native.Mathlib.Decide.{ℕ_discrete}
use lib.ListN.{length, get_or, set, replicate, length-set, get_or-eq_default}
use lib.Seq.{get_or-set_same, get_or-set_other, ext_get_or}
use lib.Dec.{ltb}
use borrow.Author.Tests.{le-ltb, ltb-true, ltb-false}
use Rattle.endian.specs.Lists.{from}
use Rattle.endian.proofs.Lists.{get_d_copies}
use Rattle.call.specs.declared.Refusal.{Refusal}
use Rattle.call.specs.Table.{Answer, value, refused}
use Rattle.lexicon.specs.Lexicon.{node_count, sink_of, arcs_at}
use Rattle.graph.specs.Graph.{graph_of, path_count}
use Rattle.checking.specs.declared.Vertex.{Vertex}
use Rattle.checking.specs.Tables.{no_vertex, vertex_row, vertices_of, opened_vertices, column, arcs_column}
use Rattle.checking.specs.Tables.{list_field, paths_field, slot_field}
use Rattle.checking.specs.Tables.{slots_column, TableOf, Tables, Vertices, WellFormed, WithOffsets}
use Rattle.checking.proofs.Tables.{entry}
use Rattle.checking.proofs.Arcs.{ListThere, list-there}
use Rattle.checking.proofs.Filling.{sink-small}
use Rattle.checking.proofs.Columns.{column-at, column-long}

-- ---- the rows of all vertices

row_at : (f : ℕ → Vertex) (a n u : ℕ) → u < n → get_or (map f (from a n)) u no_vertex ≡ f (a + u)
unfolding from
row_at f a zero u h = absurd (omega arith)
row_at f a (suc n) zero h = ap f (sym (add-zero a))
row_at f a (suc n) (suc u) h =
    let e : suc a + u ≡ a + suc u = omega arith in row_at f (suc a) n u (omega arith) ∙ ap f e

rows_long : (f : ℕ → Vertex) (a n : ℕ) → length (map f (from a n)) ≡ n
unfolding from
rows_long f a zero = refl
rows_long f a (suc n) = ap suc (rows_long f (suc a) n)

module _ (x : List ℕ) where
  pub vertices-long : length (vertices_of x) ≡ 402
  unfolding vertices_of
  vertices-long = rows_long (vertex_row x) 0 402

  pub vertices-at : {u : ℕ} → u < 402 → get_or (vertices_of x) u no_vertex ≡ vertex_row x u
  unfolding vertices_of
  vertices-at {u} h = row_at (vertex_row x) 0 402 u h ∙ ap (vertex_row x) (zero-add u)

  after-sink : {u : ℕ} → sink_of x < u → vertex_row x u ≡ no_vertex
  unfolding vertex_row
  after-sink {u} h = rw (le-ltb u (sink_of x) (omega arith), le-ltb u (suc (sink_of x)) h)

-- ---- put from the root's up

-- a vertex of which two numbers are known
abbrev pub known_vertex : ℕ → ℕ → Vertex
known_vertex offset paths = record { arcs_at = offset; paths = paths; first_slot = 0; emission = 0 }

-- the vertices below n are put, with what the tables hold, and nothing is known of the others
pub record RowsPut (offsets counts : List ℕ) (n : ℕ) (vertices : List Vertex) : Type 0 where
  pub long : length vertices ≡ 402
  pub done : (u : ℕ) → u < n → get_or vertices u no_vertex ≡ known_vertex (get_or offsets u 0) (get_or counts u 0)
  pub blank : (u : ℕ) → n ≤ u → get_or vertices u no_vertex ≡ no_vertex

pub rows_start : (offsets counts : List ℕ) → RowsPut offsets counts 0 (replicate 402 no_vertex)
rows_start offsets counts = record {
  long = refl;
  done = λ u h. absurd (omega arith);
  blank = λ u h. get_d_copies 402 u no_vertex;
}

module _ {offsets counts : List ℕ} {n : ℕ} {vertices : List Vertex} (r : RowsPut offsets counts n vertices) where
  pub rows_next : n < 402
      → RowsPut offsets counts (n + 1) (set vertices n (known_vertex (get_or offsets n 0) (get_or counts n 0)))
  rows_next h = record {
    long = length-set vertices n put ∙ r.long;
    done = λ u k. at u k (ℕ_discrete u n);
    blank = λ u k. get_or-set_other vertices n u put no_vertex (λ q. omega arith) ∙ r.blank u (omega arith);
  }
    where
      put : Vertex
      put = known_vertex (get_or offsets n 0) (get_or counts n 0)

      at : (u : ℕ) → u < n + 1 → Dec (u ≡ n)
          → get_or (set vertices n put) u no_vertex ≡ known_vertex (get_or offsets u 0) (get_or counts u 0)
      at u k (yes q) = rw (q, get_or-set_same vertices n put no_vertex (omega (arith, r.long)))
      at u k (no d) = get_or-set_other vertices n u put no_vertex d ∙ r.done u (omega arith)

  pub rows_done : (x : List ℕ) → Tables x offsets counts → sink_of x < n → vertices ≡ vertices_of x
  unfolding vertex_row
  rows_done x t h =
      ext_get_or no_vertex vertices (vertices_of x) (r.long ∙ sym (vertices-long x))
      (λ u k. at u (omega (arith, r.long)) (ltb u n) refl)
    where
      at : (u : ℕ) → u < 402 → (b : Bool) → ltb u n ≡ b → get_or vertices u no_vertex ≡ get_or (vertices_of x) u no_vertex
      at u k true e = r.done u (ltb-true u n e) ∙ rw (t.located.holds u, t.counted.holds u) (sym (vertices-at x k))
      at u k false e =
          let l = ltb-false u n e in
          r.blank u l ∙ sym (vertices-at x k ∙ after-sink x (omega arith))

-- ---- as `open` leaves it

module _ (x : List ℕ) (before : List Vertex) {answer : Answer ℕ} where
  pub opened-value : {W : ℕ} → answer ≡ value W → opened_vertices answer x before ≡ vertices_of x
  unfolding opened_vertices
  opened-value e = rw e

  pub opened-refused : {r : Refusal} → answer ≡ refused r → opened_vertices answer x before ≡ before
  unfolding opened_vertices
  opened-refused e = rw e

-- ---- its fields

module _ {x : List ℕ} (w : WellFormed x) where
  -- a field is f below n, where it is so in each row
  column_of : (field : Vertex → ℕ) → field no_vertex ≡ 0 → (n : ℕ) (f : ℕ → ℕ) → n ≤ 402
      → ((u : ℕ) → field (vertex_row x u) ≡ cond (ltb u n) (f u) 0) → TableOf n f (column field (vertices_of x))
  column_of field none n f few h = record {
    long = column-long field (vertices_of x) ∙ vertices-long x;
    holds = λ u. column-at field none u (vertices_of x) ∙ at u (ltb u 402) refl;
  }
    where
      at : (u : ℕ) (b : Bool) → ltb u 402 ≡ b → field (get_or (vertices_of x) u no_vertex) ≡ cond (ltb u n) (f u) 0
      at u true e = rw (vertices-at x (ltb-true u 402 e)) (h u)
      at u false e =
          let l = ltb-false u 402 e in
          let after = get_or-eq_default (vertices_of x) no_vertex {n = u} (omega (arith, vertices-long x)) in
          rw (after, le-ltb u n (omega arith)) none

  pub vertices_hold : Vertices x (vertices_of x)
  unfolding vertex_row
  vertices_hold = record {
    long = vertices-long x;
    tables = record {
      located = column_of list_field refl (sink_of x) (arcs_at x) (omega (arith, sink-small w)) (λ u. refl);
      counted = column_of paths_field refl (suc (sink_of x)) (path_count (graph_of x)) (omega (arith, sink-small w)) (λ u. refl);
    };
  }

  -- no vertex has a slot yet
  pub slots-empty : (u : ℕ) → get_or (slots_column (vertices_of x)) u 0 ≡ 0
  unfolding vertex_row
  slots-empty u =
      (column_of slot_field refl 0 (λ _. 0) (omega arith) (λ u. rw (le-ltb u 0 (omega arith)))).holds u ∙ rw (le-ltb u 0 (omega arith))

  -- what a value of `open` leaves
  pub opened-vertices : {answer : Answer ℕ} (before : List Vertex) {after : List Vertex} {W : ℕ} → answer ≡ value W
      → after ≡ opened_vertices answer x before → Vertices x after
  opened-vertices before e h = let q = h ∙ opened-value x before e in rw q vertices_hold

-- ---- an entry of a row

pub row-entry : (field : Vertex → ℕ) → field no_vertex ≡ 0 → (vertices : List Vertex) {n : ℕ} {f : ℕ → ℕ} {u : ℕ}
    → TableOf n f (column field vertices) → u < n → field (get_or vertices u no_vertex) ≡ f u
row-entry field none vertices {u = u} t h = sym (column-at field none u vertices) ∙ entry t h

-- the list of a vertex, by its row
module _ {x : List ℕ} (vertices : List Vertex) (l : WithOffsets x (arcs_column vertices)) where
  pub arcs-entry : {u : ℕ} → u ≤ node_count x → (get_or vertices u no_vertex).arcs_at ≡ arcs_at x u
  unfolding sink_of
  arcs-entry h = row-entry list_field refl vertices l.table (omega arith)

  pub arcs-there : {u : ℕ} → u ≤ node_count x → ListThere x (get_or vertices u no_vertex).arcs_at
  arcs-there h = list-there l.formed h (arcs-entry h)
