-- The call: it refuses as the search does, and else it writes what the search found, which fits and is the list of
-- hits. Assumes nothing.
use Prim.Native.Nat.{ℕ, ◌≤◌}
use mathlib.Core.Path.{◌≡◌, ap, ◌∙◌}
use mathlib.Core.List.{List, ◌++◌, Memᴰ}
use native.Mathlib.Omega.{arith}
use lib.ListN.{length, drop, length-take}
use Rattle.endian.proofs.Lists.{take_out}
use Rattle.call.specs.declared.Refusal.{Refusal}
use Rattle.call.specs.Table.{value, refused}
use Rattle.call.specs.Buffers.{written}
use Rattle.call.proofs.Table.{unless-value, value-passed, refused_with}
use Rattle.call.proofs.Buffers.{written-refused}
use Rattle.graph.specs.Graph.{graph_of}
use Rattle.ranking.specs.Hits.{Hit, hit_bytes}
use Rattle.decoder.specs.Decoding.{row, hits, decode_rows, decode_answer, decode_out}
use Rattle.decoder.proofs.Listed.{AcceptedDecoding, answered, within_limits}
use Rattle.storing.specs.Held.{held}
use Rattle.storing.proofs.Held.{length-held}
use Rattle.search.specs.Found.{search_answer, found, search_tokens}
use Rattle.decoding.specs.Listing.{hits_of, Listable}
use Rattle.decoding.proofs.Listing.{Within, hits-held}

module _ (v x frames work out : List ℕ) (n : ℕ) where
  -- ---- a refusal

  pub decode_refused : {r : Refusal} → search_answer v x frames n work out ≡ refused r → decode_answer v x frames n
      work out ≡ refused r
  unfolding search_answer decode_answer
  decode_refused e = refused_with {A = Unit {0}} (decode_rows v x frames n work out) tt _ e

  pub out-refused : {r : Refusal} → decode_answer v x frames n work out ≡ refused r → decode_out v x frames n work out
      ≡ out
  unfolding decode_out
  out-refused e = written-refused _ out e

  -- ---- a list

  few_hits : length (hits v (graph_of x) frames n) ≤ n
  unfolding hits
  few_hits = omega (arith, length-take n (row v (graph_of x) frames))

  module _ {k : Unit {0}} (e : search_answer v x frames n work out ≡ value k) where
    pub call-answer : decode_answer v x frames n work out ≡ value (length (hits v (graph_of x) frames n))
    unfolding search_answer decode_answer
    call-answer = unless-value (decode_rows v x frames n work out) _
        (value-passed {A = Unit {0}} (decode_rows v x frames n work out) tt k e).0

    pub call-out : hit_bytes (hits v (graph_of x) frames n) ++ drop
        (length (hit_bytes (hits v (graph_of x) frames n))) out ≡ decode_out v x frames n work out
    unfolding decode_out written
    call-out = rw call-answer

    abbrev call : AcceptedDecoding v x frames out n (length (hits v (graph_of x) frames n))
    call = answered v x frames work out n _ call-answer

    within : (h : Hit) → Memᴰ h (hits v (graph_of x) frames n) → Within h
    unfolding hits
    within h m = within_limits v x frames call.images call.short h (take_out n (row v (graph_of x) frames) m)

    module _ {tokens : List ℕ} (lent : List ℕ) (f : tokens ≡ search_tokens v x frames n work out lent) where
      held_so : tokens ≡ held 8 (hits v (graph_of x) frames n)
      unfolding search_tokens found
      held_so = f ∙ ap (λ a. found a (hits v (graph_of x) frames n) lent) e

      pub says-hits : hits_of tokens ≡ hits v (graph_of x) frames n
      says-hits = rw held_so (hits-held 8 (hits v (graph_of x) frames n) (omega (arith, few_hits, call.few_wanted))
          within)

      pub listable : Listable tokens out
      listable = record {
        eight = rw held_so (length-held 8 (hits v (graph_of x) frames n));
        room = rw says-hits (omega (arith, few_hits, call.room));
      }
