-- The column of prints while it is filled, from the first node up, with the sink's last. The fields that a search reads
-- beside it stay as they were. Assumes nothing.
use Prim.Native.Nat.{ℕ, suc, ◌+◌, ◌≤◌, ◌<◌}
use mathlib.Core.Path.{◌≡◌, refl, ◌∙◌}
use mathlib.Core.List.{List}
use native.Mathlib.Omega.{arith}
use native.Mathlib.Decide.{ℕ_discrete}
use lib.ListN.{length, get_or, set, length-set}
use lib.Seq.{get_or-set_same, get_or-set_other}
use Rattle.voice.specs.Voice.{print_byte}
use Rattle.lexicon.specs.Lexicon.{node_count, sink_of, node_letter}
use Rattle.graph.specs.Checking.{Accepted}
use Rattle.graph.proofs.Accepted.{accepted}
use Rattle.checking.specs.declared.Vertex.{Vertex}
use Rattle.checking.specs.Tables.{no_vertex, list_field, paths_field, slot_field, arcs_column, paths_column, Vertices}
use Rattle.checking.proofs.Columns.{column-long, column-stored, column-kept}
use Rattle.codes.specs.Lines.{Countable}
use Rattle.codes.proofs.Words.{formed}
use Rattle.codes.proofs.Whole.{countable}
use Rattle.lookup.specs.Seeking.{prints_column, Printed}

-- ---- the table

pub table-countable : (v : List ℕ) {x : List ℕ} {t : List Vertex} → Accepted v x → Vertices x t → Countable x t
table-countable v h r = countable {v = v} (record {
  accepted = h;
  tabled = record {
    located = record { formed = formed (accepted h); table = r.tables.located };
    counted = r.tables.counted;
  };
})

-- ---- its prints

-- of the nodes below this one
pub record PrintsBelow (v x : List ℕ) (node : ℕ) (t t' : List Vertex) : Type 0 where
  pub long : length t' ≡ 402
  pub arcs : arcs_column t' ≡ arcs_column t
  pub paths : paths_column t' ≡ paths_column t
  pub low : 1 ≤ node
  pub high : node ≤ suc (node_count x)
  pub done : {u : ℕ} → 1 ≤ u → u < node
      → (get_or (prints_column t') u 0 ≡ print_byte v (node_letter x u)) × (get_or (prints_column t') u 0 < 256)

pub prints-start : (v : List ℕ) {x : List ℕ} {t : List Vertex} → Vertices x t → PrintsBelow v x 1 t t
prints-start v r = record {
  long = r.long;
  arcs = refl;
  paths = refl;
  low = omega arith;
  high = omega arith;
  done = λ l h. absurd (omega arith);
}

module _ {v x : List ℕ} {node : ℕ} {t t' : List Vertex} (p : PrintsBelow v x node t t') (small : node_count x ≤ 400)
    (a : ℕ) where
  -- the node's vertex, with what it prints
  abbrev printing : Vertex
  printing =
      let u = get_or t' node no_vertex in
      record { arcs_at = u.arcs_at; paths = u.paths; first_slot = a; emission = u.emission }

  put : prints_column (set t' node printing) ≡ set (prints_column t') node a
  put = column-stored slot_field node printing t'

  here : get_or (prints_column (set t' node printing)) node 0 ≡ a
  here = rw put (get_or-set_same (prints_column t') node a 0 (omega (arith, p.high, column-long slot_field t', p.long)))

  others : {u : ℕ} → u < node
      → get_or (prints_column (set t' node printing)) u 0 ≡ get_or (prints_column t') u 0
  others {u} h = rw put (get_or-set_other (prints_column t') node u a 0 (λ e. omega arith))

  pub prints-next : node ≤ node_count x → a ≡ print_byte v (node_letter x node) → a < 256
      → PrintsBelow v x (node + 1) t (set t' node printing)
  prints-next h e k = record {
    long = length-set t' node _ ∙ p.long;
    arcs = column-kept list_field node printing t' refl ∙ p.arcs;
    paths = column-kept paths_field node printing t' refl ∙ p.paths;
    low = omega arith;
    high = omega arith;
    done = λ {u} l m. elim (ℕ_discrete u node) [
      | yes q ↦ rw (q, here) (e, k)
      | no d ↦ rw (others {u = u} (omega arith)) (p.done l (omega arith))
    ];
  }

  pub prints-done : node_count x < node → a ≡ 256 → Countable x t → Printed v x (set t' node printing)
  unfolding sink_of
  prints-done h e c = record {
    countable = record {
      tabled = record {
        located = rw (column-kept list_field node printing t' refl, p.arcs) c.tabled.located;
        counted = rw (column-kept paths_field node printing t' refl, p.paths) c.tabled.counted;
      };
      few = c.few;
    };
    prints = record {
      node = λ {u} l m. others {u = u} (omega arith) ∙ (p.done l (omega arith)).0;
      low = λ {u} l m. rw (others {u = u} (omega arith)) (p.done l (omega arith)).1;
      end = let q : suc (node_count x) ≡ node = omega (arith, p.high) in rw q (here ∙ e);
    };
  }
