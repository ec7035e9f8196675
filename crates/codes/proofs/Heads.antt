-- The row of a vertex, and its list in the image: the numbers that are read there are its successors. Assumes nothing.
use Prim.Native.Nat.{ℕ, ◌+◌, ◌≤◌, ◌<◌}
use mathlib.Core.Path.{◌≡◌, refl, sym, ap, ◌∙◌}
use mathlib.Core.List.{List, [], ◌∷◌, Memᴰ}
use mathlib.Core.List.Memᴰ
use native.Mathlib.Numerals.{add-one}
use native.Mathlib.Omega.{arith}
use lib.ListN.{length, get_or, drop}
use lib.Seq.{drop-cons}
use Rattle.endian.specs.Bytes.{u16}
use Rattle.endian.proofs.Lists.{mem_get_d}
use Rattle.lexicon.specs.Lexicon.{node_count, sink_of, successors, listed, numbers_of}
use Rattle.lexicon.proofs.Listed.{listed-successors, length-numbers, numbers-at}
use Rattle.graph.specs.Graph.{graph_of, path_count, sink}
use Rattle.checking.specs.declared.Vertex.{Vertex}
use Rattle.checking.specs.Tables.{no_vertex, paths_field}
use Rattle.checking.proofs.Arcs.{shape_of, sound_of, has-entry}
use Rattle.checking.proofs.VertexRows.{row-entry, arcs-entry}
use Rattle.codes.specs.Steps.{Tabled}

-- arc i of u leads to s
pub record ArcHere (x : List ℕ) (u i s : ℕ) : Type 0 where
  pub inside : i < length (successors x u)
  pub rises : u < s
  pub bounded : s ≤ sink_of x
  pub low : s < 402
  pub member : Memᴰ s (successors x u)
  pub entry : get_or (successors x u) i 0 ≡ s
  -- it is the first of the arcs from number i on
  pub first : drop i (successors x u) ≡ s ∷ drop (i + 1) (successors x u)

module _ {x : List ℕ} {vertices : List Vertex} (t : Tabled x vertices) {u : ℕ} where
  pub paths_of : u ≤ sink_of x → (get_or vertices u no_vertex).paths ≡ path_count (graph_of x) u
  paths_of h = row-entry paths_field refl vertices t.counted (omega arith)

  module _ (h : u ≤ node_count x) where
    pub vertex_low : u < 402
    unfolding sink_of
    vertex_low = has-entry t.located.formed (omega arith)

    list_of : listed x (get_or vertices u no_vertex).arcs_at ≡ successors x u
    unfolding sink_of
    list_of =
        ap (listed x) (arcs-entry vertices t.located h)
        ∙ listed-successors x u (omega (arith, (shape_of t.located.formed).there {u = u} (omega arith)))

    -- these pairs of bytes are read as the list
    module _ (pairs : List (List ℕ)) (e : numbers_of pairs ≡ listed x (get_or vertices u no_vertex).arcs_at) where
      pub list_long : length pairs ≡ length (successors x u)
      list_long = sym (length-numbers pairs) ∙ ap length (e ∙ list_of)

      pub arc_here : {i s : ℕ} → i < length pairs
          → s ≡ u16 (get_or pairs i []) 0 → ArcHere x u i s
      unfolding sink_of sink
      arc_here {i} {s} k q =
          let l = list_long in
          let is : get_or (successors x u) i 0 ≡ s =
          ap (λ (l : List ℕ). get_or l i 0) (sym (e ∙ list_of)) ∙ numbers-at pairs i k
          ∙ sym q in
          let m : Memᴰ s (successors x u) = Memᴰ.cast (sym is) (mem_get_d (successors x u) i 0 (omega arith)) in
          let r = (sound_of t.located.formed).rises (omega arith) m in
          record {
            inside = omega arith;
            rises = r.0;
            bounded = r.1;
            low = has-entry t.located.formed r.1;
            member = m;
            entry = is;
            first = drop-cons (successors x u) i 0 (omega arith) ∙ rw (is, add-one i);
          }
