-- The calls after checking: what they are lent, and that the list's answers are those of word to code. Assumes nothing.
use Prim.Native.Nat.{ℕ, ◌*◌, ◌≤◌, ◌<◌}
use mathlib.Core.Path.{◌≡◌, refl, sym, ap, ◌∙◌}
use mathlib.Core.Bool.{Bool, true, false}
use mathlib.Core.List.{List, [], ◌∷◌, ◌++◌}
use native.Mathlib.Omega.{arith}
use lib.ListN.{length, drop}
use lib.Dec.{ltb}
use borrow.Author.Tests.{lt-ltb, le-ltb}
use Rattle.endian.proofs.Booleans.{or-none}
use Rattle.endian.specs.Bytes.{Bytes}
use Rattle.endian.proofs.Lists.{flat_map_cong}
use Rattle.call.specs.declared.Refusal.{Refusal}
use Rattle.call.specs.declared.Refusal.TheVariants.{Items, Output}
use Rattle.call.specs.Table.{Answer, value, refused, on, unless}
use Rattle.call.specs.Buffers.{written}
use Rattle.call.proofs.Table.{unless-past, refused-before}
use Rattle.call.proofs.Buffers.{written-refused}
use Rattle.graph.specs.Graph.{graph_of, word_count}
use Rattle.graph.specs.Checking.{first_rows, check_answer}
use Rattle.graph.proofs.Accepted.{accepted, Passed}
use Rattle.checking.specs.declared.Vertex.{Vertex}
use Rattle.checking.specs.Tables.{opened_vertices, Vertices}
use Rattle.checking.proofs.VertexRows.{opened-vertices}
use Rattle.codes.specs.Items.{items_of, runs_past, bad_items, answer_bytes, item_answers}
use Rattle.codes.specs.Items.{words_to_codes_rows, words_to_codes_answer, words_to_codes_out}
use Rattle.codes.proofs.Items.{item-bytes}
use Rattle.codes.proofs.Words.{formed}
use Rattle.lookup.specs.Seeking.{Prints}
use Rattle.lookup.specs.Items.{count_answer, sought_bytes}
use Rattle.lookup.proofs.Answers.{word_sought}
use Rattle.lookup.proofs.Stock.{length_sought}

-- the table that checking leaves
pub opened-table : {v x work : List ℕ} {W : ℕ} → Passed v x work W → (before : List Vertex) {after : List Vertex}
    {answer : Answer ℕ} → answer ≡ value W → after ≡ opened_vertices answer x before → Vertices x after
opened-table p before e h = opened-vertices (formed (accepted p.images)) before e h

-- ---- the items

module _ (items : List ℕ) where
  pub counted-few : {n : ℕ} → count_answer items ≡ value n → (bad_items items ≡ false) × (length (items_of items) ≡ n)
  unfolding count_answer unless
  counted-few {n} e = go (bad_items items) refl
    where
      go : (b : Bool) → bad_items items ≡ b → (bad_items items ≡ false) × (length (items_of items) ≡ n)
      go true q = let f = rw q at e in let z : ◌≡◌ {A = ℕ} 0 1 = cc in absurd (omega arith)
      go false q = let f = rw q at e in (q, cc)

  pub counted_bad : {r : Refusal} → count_answer items ≡ refused r → (bad_items items ≡ true) × (Items ≡ r)
  unfolding count_answer unless
  counted_bad {r} e = go (bad_items items) refl
    where
      go : (b : Bool) → bad_items items ≡ b → (bad_items items ≡ true) × (Items ≡ r)
      go true q = let f = rw q at e in (q, cc)
      go false q = let f = rw q at e in let z : ◌≡◌ {A = ℕ} 0 1 = cc in absurd (omega arith)

  pub none-past : bad_items items ≡ false → runs_past items ≡ false
  unfolding bad_items
  none-past e = (or-none (runs_past items) _ e).0

module _ (v x items work out : List ℕ) where
  pub list-refused : {r : Refusal} → check_answer v x work ≡ refused r
      → words_to_codes_answer v x items work out ≡ refused r
  unfolding check_answer words_to_codes_answer words_to_codes_rows
  list-refused e = refused-before (first_rows v x work) _ (word_count (graph_of x)) _ e

  pub out-refused : {r : Refusal} → words_to_codes_answer v x items work out ≡ refused r
      → words_to_codes_out v x items work out ≡ out
  unfolding words_to_codes_out
  out-refused e = written-refused _ out e

  module _ {W : ℕ} (p : Passed v x work W) where
    passed-list : words_to_codes_answer v x items work out
        ≡ unless (on Items (bad_items items) ∷ on Output (ltb (length out) (8 * length (items_of items))) ∷ [])
        (length (items_of items))
    unfolding words_to_codes_answer words_to_codes_rows
    passed-list = unless-past (first_rows v x work) _ _ p.rows

    pub list_bad : {r : Refusal} → count_answer items ≡ refused r → words_to_codes_answer v x items work out ≡ refused r
    unfolding unless
    list_bad e = let c = counted_bad items e in passed-list ∙ rw c.0 (ap refused c.1)

    module _ {n : ℕ} (e : count_answer items ≡ value n) where
      pub list-short : length out < 8 * n → words_to_codes_answer v x items work out ≡ refused Output
      unfolding unless
      list-short h = let c = counted-few items e in passed-list ∙ rw (c.0, c.1, lt-ltb (length out) (8 * n) h) refl

      pub list_counted : 8 * n ≤ length out → words_to_codes_answer v x items work out ≡ value n
      unfolding unless
      list_counted h = let c = counted-few items e in passed-list ∙ rw (c.0, c.1, le-ltb (length out) (8 * n) h) refl

      module _ {prints : List ℕ} (f : Prints v x prints) (low : Bytes items) where
        same-answers : sought_bytes prints (graph_of x) (items_of items) ≡ item_answers v x items work
        unfolding sought_bytes item_answers
        same-answers = flat_map_cong _ _ (items_of items)
            (λ word m. ap answer_bytes (sym (word_sought v x work word p f (item-bytes items low m))))

        pub list_written : 8 * n ≤ length out
            → sought_bytes prints (graph_of x) (items_of items) ++ drop (8 * length (items_of items)) out
            ≡ words_to_codes_out v x items work out
        unfolding words_to_codes_out written
        list_written h =
            rw (list_counted h, ← same-answers, length_sought prints (graph_of x) (items_of items)) refl
