-- The successors of a vertex one after the other, as a loop over the pairs of bytes that hold them reads them. Assumes
-- nothing.
use mathlib.Core.Path.{◌≡◌, sym, ap, ◌∙◌}
use mathlib.Core.List.{List, [], ◌∷◌}
use Prim.Native.Nat.{ℕ, suc, ◌+◌, ◌*◌, ◌/◌, ◌≤◌, ◌<◌}
use native.Mathlib.Numerals.{add-one}
use native.Mathlib.Omega.{arith}
use lib.ListN.{length, get_or, take, drop, length-drop, drop_of_length-le}
use lib.Seq.{drop-cons, take_all, length-take-le}
use borrow.Author.Tests.{le-leb}
use Rattle.std.specs.Simd.{first_chunks}
use Rattle.endian.specs.Bytes.{u16}
use Rattle.endian.proofs.Lists.{mem_get_d}
use Rattle.lexicon.specs.Lexicon.{node_count, sink_of, arcs_at, arc_count, successors, successor_part, numbers_of}
use Rattle.lexicon.proofs.Shape.{arcs-next}
use Rattle.lexicon.proofs.Readers.{part-successors}
use Rattle.lexicon.proofs.Listed.{numbers_of_chunks, length-numbers, numbers-at}
use Rattle.graph.specs.Graph.{sink}
use Rattle.checking.specs.Tables.{WellFormed, SuccessorPairs}
use Rattle.checking.proofs.Arcs.{shape_of, sound_of, has-entry}

-- where the list of u stands, its bytes cut into pairs hold its successors
pub pairs-hold : {x : List ℕ} → WellFormed x → {u at count size : ℕ} → u ≤ node_count x → at ≡ arcs_at x u
    → count ≡ u16 (get_or x at 0 ∷ get_or x (at + 1) 0 ∷ []) 0 → size ≡ 2 * count → (pairs : List (List ℕ))
    → pairs ≡ first_chunks 2 (length (take size (drop (at + 2) x)) / 2) (take size (drop (at + 2) x))
    → length pairs ≡ length (take size (drop (at + 2) x)) / 2 → SuccessorPairs x u pairs
unfolding sink_of arc_count u16 successor_part
pairs-hold {x} w {u} {at} {count} {size} h e q z pairs p l =
    let there : arcs_at x (suc u) ≤ length x = (shape_of w).there {u = u} (omega arith) in
    let n = arc_count x u in
    let counted : count ≡ arc_count x u = rw e at q in
    let part = take (2 * n) (drop (arcs_at x u + 2) x) in
    let same : take size (drop (at + 2) x) ≡ part = rw (z, counted, e) in
    let long : length part ≡ 2 * n =
    length-take-le (2 * n) (drop (arcs_at x u + 2) x) (rw length-drop (omega (arith, arcs-next x u))) in
    let half : length part / 2 ≡ n = omega arith in
    let cut : pairs ≡ first_chunks 2 n part = rw (same, half) at p in
    let whole : take n pairs ≡ pairs = take_all n pairs (omega (arith, rw same at l)) in
    let read = rw (le-leb u (node_count x) h, le-leb (arcs_at x (suc u)) (length x) there) at (part-successors x u h there) in
    record {
      numbers =
          ap numbers_of (sym whole) ∙ ap (λ (c : List (List ℕ)). numbers_of (take n c)) cut
          ∙ numbers_of_chunks n n part (omega arith) ∙ read;
    }

-- the successor s stands at index i of u's list
pub record SuccessorAt (x : List ℕ) (u i s : ℕ) : Type 0 where
  pub split : drop i (successors x u) ≡ s ∷ drop (i + 1) (successors x u)
  pub rises : u < s
  pub bounded : s ≤ sink_of x
  pub few : s < 402
  pub sink_few : sink_of x < 402

module _ {x : List ℕ} {u : ℕ} {pairs : List (List ℕ)} (p : SuccessorPairs x u pairs) {i : ℕ} where
  pub successor_at : {s : ℕ} → WellFormed x → u ≤ node_count x → i < length pairs
      → s ≡ u16 (get_or pairs i []) 0 → SuccessorAt x u i s
  unfolding sink_of sink
  successor_at {s} w h l q = rw number (record {
    split = rw add-one (drop-cons (successors x u) i 0 inside);
    rises = risen.0;
    bounded = risen.1;
    few = has-entry w risen.1;
    sink_few = has-entry w (omega arith);
  })
    where
      inside : i < length (successors x u)
      inside = rw (← p.numbers) (omega (arith, length-numbers pairs))

      number : s ≡ get_or (successors x u) i 0
      number = q ∙ sym (numbers-at pairs i l) ∙ ap (λ (m : List ℕ). get_or m i 0) p.numbers

      risen : (u < get_or (successors x u) i 0) × (get_or (successors x u) i 0 ≤ sink_of x)
      risen = (sound_of w).rises (omega arith) (mem_get_d (successors x u) i 0 inside)

  -- after the last none is left
  pub successors-done : length pairs ≤ i → drop i (successors x u) ≡ []
  successors-done l = drop_of_length-le (successors x u) (rw (← p.numbers) (omega (arith, length-numbers pairs)))
