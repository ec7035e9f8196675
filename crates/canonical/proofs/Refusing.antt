-- 17 and 18 of the call, on a lexicon that 1 to 10 do not refuse: the rows before them are passed over, and no word of
-- such a lexicon stands twice, so that its words and letters are counted as they stand. Assumes nothing.
use Prim.Native.Nat.{ℕ, ◌≤◌, ◌<◌}
use mathlib.Core.Path.{◌≡◌, refl, sym, ap, ◌∙◌}
use mathlib.Core.Logic.{◌↔◌, ◌⊎◌, inl, inr, ⊎_elim}
use mathlib.Core.Bool.{Bool, true, false, cond, ◌||◌}
use mathlib.Core.List.{List, [], ◌∷◌, ◌++◌, map, append_assoc}
use native.Mathlib.Omega.{arith}
use lib.ListN.{length}
use lib.Dec.{ltb}
use borrow.Author.Tests.{lt-ltb, ltb-true}
use Rattle.endian.specs.Lists.{sum}
use Rattle.endian.proofs.Booleans.{or_cases, or_left, or_right}
use Rattle.call.specs.declared.Refusal.TheVariants.{Output, WordList, CanonicalImage}
use Rattle.call.specs.Table.{Answer, value, refused, on, unless}
use Rattle.call.specs.Buffers.{spaces_rows}
use Rattle.call.proofs.Table.{none_join, unless-past}
use Rattle.call.proofs.Buffers.{passed_spaces}
use Rattle.graph.specs.Graph.{Graph, graph_of, word_count}
use Rattle.graph.specs.Words.{letter_words}
use Rattle.graph.specs.Conditions.{place_count, many_places, same_letters}
use Rattle.graph.specs.Checking.{image_rows, Accepted}
use Rattle.graph.proofs.Accepted.{accepted}
use Rattle.canonical.specs.Canonical.{sorted_words, words_graph, canonical_image, long_list, outside_limits}
use Rattle.canonical.specs.Canonical.{long_rows, outside_rows, word_list_rows, canonical_rows, canonical_answer}
use Rattle.canonical.specs.Theorems.{OverLong, Oversized, ListRefused, ListsRefused}
use Rattle.canonical.proofs.Ranks.{order-sum, order-length}
use Rattle.canonical.proofs.Spelled.{length-words}
use Rattle.canonical.proofs.ArcLimit.{never-by-arcs}

-- ---- three rows, the first that applies

-- what 17, 18 and 16 leave of n bytes
rowed : Bool → Bool → Bool → ℕ → Answer ℕ
rowed long outside short n =
    cond long (refused WordList) (cond outside (refused CanonicalImage) (cond short (refused Output) (value n)))

first_row : (a b c : Bool) (n : ℕ) → (rowed a b c n ≡ refused WordList) ↔ (a ≡ true)
unfolding rowed
first_row true b c n = (λ e. refl, λ e. refl)
first_row false true c n = (λ e. cc, λ e. cc)
first_row false false true n = (λ e. cc, λ e. cc)
first_row false false false n = (λ e. cc, λ e. cc)

second-row : (a b c : Bool) (n : ℕ) → (rowed a b c n ≡ refused CanonicalImage) ↔ ((a ≡ false) × (b ≡ true))
unfolding rowed
second-row true b c n = (λ e. (cc, cc), λ e. let f = e.0 in cc)
second-row false true c n = (λ e. (refl, refl), λ e. refl)
second-row false false true n = (λ e. (refl, cc), λ e. let f = e.1 in cc)
second-row false false false n = (λ e. (refl, cc), λ e. let f = e.1 in cc)

-- ---- what the tests say

either : (a b m n : ℕ) → (ltb a m || ltb b n ≡ true) ↔ ((a < m) ⊎ (b < n))
either a b m n = (
  λ e. ⊎_elim (λ h. inl (ltb-true a m h)) (λ h. inr (ltb-true b n h)) (or_cases (ltb a m) (ltb b n) e),
  λ s. ⊎_elim (λ h. or_left (ltb a m) (ltb b n) (lt-ltb a m h)) (λ h. or_right (ltb a m) (ltb b n) (lt-ltb b n h)) s,
)

-- a test that fails
fails : {P : Type 0} (b : Bool) → (b ≡ true) ↔ P → (b ≡ false) ↔ (¬ P)
fails true e = (λ f p. let z : ◌≡◌ {A = ℕ} 0 1 = cc in omega arith, λ n. absurd (n (e.0 refl)))
fails false e = (λ f p. let g = e.1 p in let z : ◌≡◌ {A = ℕ} 0 1 = cc in omega arith, λ n. refl)

-- ---- the call

module _ (v x work further out : List ℕ) (h : Accepted v x) where
  abbrev g : Graph
  g = graph_of x

  abbrev ws : List (List ℕ)
  ws = sorted_words (graph_of x)

  counted : length ws ≡ word_count g
  unfolding sorted_words same_letters
  counted = order-length (letter_words g) (accepted h).other_letters ∙ length-words g

  lettered : sum (map length ws) ≡ sum (map length (letter_words g))
  unfolding sorted_words same_letters
  lettered = order-sum length (letter_words g) (accepted h).other_letters

  long-is : (long_list ws ≡ true) ↔ OverLong g
  unfolding long_list
  long-is = rw (counted, lettered) (either 2000 16000 (word_count g) (sum (map length (letter_words g))))

  outside-is : long_list ws ≡ false → (outside_limits v (words_graph v ws) ≡ true) ↔ Oversized v (words_graph v ws)
  unfolding many_places
  outside-is e =
      rw ((never-by-arcs v x h).judged e) (either 400 1000 (words_graph v ws).nodes (place_count v (words_graph v ws)))

  answer-is : 64000 ≤ length work → 262144 ≤ length further
      → canonical_answer v x work further out
      ≡ rowed (long_list ws) (outside_limits v (words_graph v ws)) (ltb (length out) (length (canonical_image v x)))
      (length (canonical_image v x))
  unfolding canonical_answer canonical_rows word_list_rows long_rows outside_rows unless rowed
  answer-is a b =
      let image = length (canonical_image v x) in
      let head = spaces_rows work further ++ image_rows v x in
      let room = on Output (ltb (length out) image) ∷ [] in
      ap (λ rows. unless rows image) (append_assoc head (word_list_rows v ws) room)
      ∙ unless-past head (word_list_rows v ws ++ room) image
      (none_join (spaces_rows work further) (image_rows v x) (passed_spaces work further a b) h)

  refuses : 64000 ≤ length work → 262144 ≤ length further → ListRefused v x work further out
  refuses a b =
      let is = answer-is a b in
      let l = long-is in
      let n = fails (long_list ws) l in
      let outside = outside_limits v (words_graph v ws) in
      let short = ltb (length out) (length (canonical_image v x)) in
      let one = first_row (long_list ws) outside short (length (canonical_image v x)) in
      let two = second-row (long_list ws) outside short (length (canonical_image v x)) in
      record {
        long = (λ e. l.0 (one.0 (sym is ∙ e)), λ o. is ∙ one.1 (l.1 o));
        outside = (
          λ e. let u = two.0 (sym is ∙ e) in (n.0 u.0, (outside-is u.0).0 u.1),
          λ o. let f = n.1 o.0 in is ∙ two.1 (f, (outside-is f).1 o.1),
        );
      }

pub lists-refused : ListsRefused
lists-refused = refuses
