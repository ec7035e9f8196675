-- What decoding leaves is ready to be printed: its answer depends on the lengths of the buffers alone, and the bytes that it writes hold the
-- list of hits, each of which names a word. Assumes nothing.
use Prim.Native.Nat.{ℕ, ◌*◌, ◌≤◌}
use mathlib.Core.Path.{◌≡◌, sym, ◌∙◌}
use mathlib.Core.List.{List, [], ◌∷◌, ◌++◌, flat_map}
use native.Mathlib.Omega.{arith}
use borrow.Author.Tests.{not-false}
use lib.Dec.{leb, ltb}
use lib.ListN.{length, replicate, length-take, length-replicate}
use Rattle.endian.specs.Lists.{any}
use Rattle.endian.proofs.Booleans.{or-none}
use Rattle.endian.proofs.Lists.{take_out}
use Rattle.endian.proofs.Ranges.{bounds}
use Rattle.call.specs.declared.Refusal.{Refusal}
use Rattle.call.specs.declared.Refusal.TheVariants.{Count, Output}
use Rattle.call.specs.Table.{value, refused, number, on}
use Rattle.call.specs.Limits.{work_space, bad_frame_count, bad_count}
use Rattle.call.specs.Buffers.{space_rows}
use Rattle.call.proofs.Table.{none-parts, none-says, value-passed}
use Rattle.voice.specs.Voice.{symbol_count}
use Rattle.graph.specs.Graph.{graph_of, word_count}
use Rattle.graph.specs.Checking.{first_rows}
use Rattle.ranking.specs.Hits.{Hit, hits_read}
use Rattle.decoder.specs.Decoding.{row, hits, frame_rows, decode_rows, decode_answer, decode_out}
use Rattle.decoder.specs.Demand.{decoded_list}
use Rattle.decoder.proofs.Listed.{is_row, answered, decoded-first}
use Rattle.report.specs.Lines.{AcceptedArguments, HoldsHits, lent_answer}
use Rattle.report.specs.Report.{decimal, refused_text, first_line, hit_line, reported}

module _ (v x frames : List ℕ) (n : ℕ) where
  -- ---- the answer

  answer-same : (w w' o o' : List ℕ) → length w ≡ length w' → length o ≡ length o' → decode_answer v x frames n w o ≡ decode_answer v x frames n w' o'
  unfolding decode_answer decode_rows first_rows space_rows
  answer-same w w' o o' e f = rw (e, f)

  pub answer_lent : (w o : List ℕ) → work_space ≡ length w → length o ≡ 64 → decode_answer v x frames n w o ≡ lent_answer v x frames n
  unfolding lent_answer
  answer_lent w o e f =
      answer-same w (replicate work_space 0) o (replicate 64 0) (sym e ∙ sym (length-replicate {A = ℕ} work_space 0))
      (f ∙ sym (length-replicate {A = ℕ} 64 0))

  pub reported-value : {k : ℕ} {hs : List Hit} → lent_answer v x frames n ≡ value k → hs ≡ hits v (graph_of x) frames n
      → first_line k (word_count (graph_of x)) ++ flat_map (hit_line v (graph_of x) (length frames)) hs ≡ reported v (graph_of x) frames n (lent_answer v x frames n)
  unfolding reported
  reported-value e f = rw (e, f)

  pub reported-refused : {r : Refusal} → lent_answer v x frames n ≡ refused r
      → refused_text ++ decimal (number r) ++ (10 ∷ []) ≡ reported v (graph_of x) frames n (lent_answer v x frames n)
  unfolding reported
  reported-refused e = rw e

  -- ---- the list

  module _ (work out : List ℕ) (k : ℕ) (e : decode_answer v x frames n work out ≡ value k) where
    frames-some : 1 ≤ length frames
    unfolding decode_answer decode_rows first_rows frame_rows bad_frame_count bad_count
    frames-some =
        let own = on Count (bad_count n) ∷ on Output (ltb (length out) (8 * n)) ∷ [] in
        let u = value-passed (decode_rows v x frames n work out) (length (hits v (graph_of x) frames n)) k e in
        let p = none-parts (first_rows v x work ++ frame_rows v frames) own u.0 in
        let q = none-parts (first_rows v x work) (frame_rows v frames) p.0 in
        let long = (or-none (bad_frame_count (length frames)) (any (λ s. leb (symbol_count v) s) frames) (none-says (frame_rows v frames) q.1).0).0 in
        (bounds 1 1000 (length frames) (not-false _ long)).0

    pub frames-few : length frames ≤ 1000
    frames-few = (answered v x frames work out n k e).short

    pub accepted_arguments : {work' : List ℕ} → work_space ≤ length work' → AcceptedArguments v x (length frames) work'
    accepted_arguments h =
        record {
          images = (answered v x frames work out n k e).images;
          some_frames = frames-some;
          few_frames = frames-few;
          space = h;
        }

    module _ {list : List ℕ} (f : list ≡ decode_out v x frames n work out) where
      pub hits_are : hits_read list k ≡ hits v (graph_of x) frames n
      unfolding decoded_list hits
      hits_are = rw f (decoded-first v x frames work out n k e)

      few_hits : k ≤ 8
      unfolding hits
      few_hits =
          let a = answered v x frames work out n k e in
          omega (arith, a.counted, a.few_wanted, length-take n (row v (graph_of x) frames))

      pub holds_hits : length list ≡ 64 → HoldsHits x list k
      unfolding hits
      holds_hits h = record {
        whole = omega (arith, few_hits);
        few = few_hits;
        named = λ h m.
            ((is_row v x frames (answered v x frames work out n k e).images).each h (take_out n (row v (graph_of x) frames) (rw hits_are at m))).1.below;
      }
