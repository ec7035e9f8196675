-- Finding where the lists begin, vertex by vertex: the table up to a vertex, and where its own list begins.
-- Assumes nothing.
use mathlib.Core.Path.{◌≡◌}
use mathlib.Core.List.{List}
use Prim.Native.Nat.{ℕ, ◌+◌, ◌*◌, ◌≤◌}
use native.Mathlib.Omega.{arith}
use native.Mathlib.Numerals.{add-one}
use lib.ListN.{set, replicate}
use Rattle.endian.specs.Bytes.{u16}
use Rattle.lexicon.specs.Lexicon.{node_count, sink_of, arcs_at}
use Rattle.checking.specs.Tables.{TableOf, WellFormed}
use Rattle.checking.proofs.Arcs.{shape_of}
use Rattle.checking.proofs.Tables.{table-start, table-next}

pub record OffsetsFound (x : List ℕ) (u at : ℕ) (offsets : List ℕ) : Type 0 where
  pub table : TableOf u (arcs_at x) offsets
  pub place : at ≡ arcs_at x u
  pub vertex : u ≤ sink_of x

pub offsets_start : (x : List ℕ) {offsets : List ℕ} {at : ℕ} → offsets ≡ replicate 402 0 → at ≡ 2 + node_count x
    → OffsetsFound x 0 at offsets
unfolding arcs_at sink_of
offsets_start x h e = rw h (record { table = table-start (arcs_at x); place = e; vertex = omega arith })

pub offset-next : {x : List ℕ} {u at : ℕ} {offsets : List ℕ} → WellFormed x → OffsetsFound x u at offsets
    → u ≤ node_count x
    → OffsetsFound x (u + 1) (at + (2 + 2 * u16 x at)) (set offsets u at)
unfolding arcs_at sink_of
offset-next {x} {u} {at} w f h = rw add-one (record {
  table = table-next f.table (omega (arith, (shape_of w).few)) f.place;
  place = let e = f.place in rw e (omega arith);
  vertex = omega arith;
})
