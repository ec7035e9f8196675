-- The words of an accepted lexicon, gathered: no word stands twice, so in order there are as many; and gathering
-- refuses what the call does, by the same rows. Assumes nothing.
use Prim.Native.Nat.{ℕ, suc, ◌+◌, ◌*◌, ◌-◌, ◌≤◌, ◌<◌}
use mathlib.Core.Path.{◌≡◌, refl, sym, ap, subst, ◌∙◌}
use mathlib.Core.Logic.{◌⊎◌, inl, inr}
use mathlib.Core.Bool.{true, false, true≢false}
use mathlib.Core.List.{List, [], ◌∷◌, ◌++◌, append_assoc}
use mathlib.Core.List.Memᴰ.{head as here}
use mathlib.Core.List.Memᴰ.{tail as there}
use mathlib.Core.List.{Memᴰ as In}
use native.Mathlib.Decide.{dec_lt}
use native.Mathlib.Omega.{arith}
use lib.ListN.{length, take, drop, length-map}
use lib.Seq.{length-take-le, drop-drop}
use lib.Dec.{ltb}
use borrow.Author.Tests.{lt-ltb, le-ltb}
use borrow.Rule.Slice.PartMut.{mid_of, post_of, put_mid, same_len_mid, mid_len, drop_put}
use Rattle.endian.specs.Lists.{has_list, repeats}
use Rattle.endian.proofs.Booleans.{or-none}
use Rattle.endian.proofs.Lists.{mem-has_list}
use Rattle.call.specs.declared.Refusal.{Refusal}
use Rattle.call.specs.declared.Refusal.TheVariants.{WordList, Output}
use Rattle.call.specs.Limits.{work_space, further_space}
use Rattle.call.specs.Table.{Answer, value, refused, Row, on, none_applies, unless}
use Rattle.call.specs.Buffers.{space_rows}
use Rattle.call.proofs.Table.{none_join, passed_none, value-passed, same-value, unless-past, refused-before}
use Rattle.graph.specs.Graph.{graph_of, full_paths, path_letters, word_count}
use Rattle.graph.specs.Words.{letter_words}
use Rattle.graph.specs.Conditions.{same_letters}
use Rattle.graph.specs.Checking.{image_rows, first_rows, Accepted}
use Rattle.graph.proofs.Codes.{length-full_paths}
use Rattle.graph.proofs.Accepted.{AcceptedImages, accepted}
use Rattle.codes.specs.Gathering.{slot_bytes, gather_rows, gather_answer, gather_out}
use Rattle.canonical.specs.Dictionary.{insert, words_in_order}
use Rattle.canonical.specs.Canonical.{sorted_words, long_list, long_rows}
use Rattle.canonical.proofs.Order.{Before, before-total, before-asym, not-before}
use Rattle.canonical.proofs.Sorting.{order-out}
use Rattle.canonical.proofs.ReadBack.{lexical}
use Rattle.sorting.specs.Slots.{words_from}
use Rattle.sorting.specs.Tabled.{words_answer, Collection, Collected}
use Rattle.sorting.proofs.Tabling.{written-value}
use Rattle.sorting.proofs.SlotBytes.{Short, BytesFrom, from-slot, from_padded, from_words}

-- ---- in order there are as many, where no word stands twice

insert-longer : (w : List ℕ) (ws : List (List ℕ)) → ¬ In w ws → length (insert w ws) ≡ suc (length ws)
unfolding insert
insert-longer w [] n = refl
insert-longer w (y ∷ ws) n = go (before-total w y) (insert-longer w ws (λ m. n (there m)))
  where
    go : Before w y ⊎ ((w ≡ y) ⊎ Before y w) → length (insert w ws) ≡ suc (length ws)
        → length (insert w (y ∷ ws)) ≡ suc (suc (length ws))
    go (inl h) ih = rw h
    go (inr (inl e)) ih = absurd (n (here e))
    go (inr (inr h)) ih = rw (not-before w y (before-asym y w h), h) (ap suc ih)

order-length : (ws : List (List ℕ)) → repeats ws ≡ false → length (words_in_order ws) ≡ length ws
unfolding words_in_order repeats
order-length [] h = refl
order-length (w ∷ ws) h =
    let u = or-none (has_list w ws) (repeats ws) h in
    insert-longer w (words_in_order ws) (λ m. true≢false (sym (mem-has_list (order-out ws m)) ∙ u.0))
    ∙ ap suc (order-length ws u.1)

-- ---- the words of an accepted lexicon

module _ {v x : List ℕ} (h : AcceptedImages v x) where
  pub words-short : Short (letter_words (graph_of x))
  words-short w m = (lexical h m).short

  pub sorted-short : Short (sorted_words (graph_of x))
  unfolding sorted_words
  sorted-short w m = words-short w (order-out (letter_words (graph_of x)) m)

  pub sorted-lettered : (w : List ℕ) → In w (sorted_words (graph_of x)) → 1 ≤ length w
  unfolding sorted_words
  sorted-lettered w m = (lexical h (order-out (letter_words (graph_of x)) m)).lettered

  words-many : length (letter_words (graph_of x)) ≡ word_count (graph_of x)
  words-many = length-map (full_paths (graph_of x)) (path_letters (graph_of x)) ∙ length-full_paths (graph_of x)

  pub sorted-many : length (sorted_words (graph_of x)) ≡ word_count (graph_of x)
  unfolding sorted_words same_letters
  sorted-many = order-length (letter_words (graph_of x)) h.other_letters ∙ words-many

-- ---- what gathering answers

-- a refusal of 2 to 10, 17, or the number of words
data Answered (v x : List ℕ) : Answer ℕ → Type 0 where
  early : {r : Refusal} → unless {A = ℕ} (image_rows v x) 0 ≡ refused r → Answered v x (refused r)
  many : Accepted v x → 2000 < word_count (graph_of x) → Answered v x (refused WordList)
  words : Accepted v x → word_count (graph_of x) ≤ 2000 → Answered v x (value (word_count (graph_of x)))

module _ (v x work out : List ℕ) (space : work_space ≤ length work) (room : length out ≡ 66000) where
  -- 17 and 16 of gathering
  abbrev last_rows : List Row
  last_rows =
      on WordList (ltb 2000 (word_count (graph_of x)))
      ∷ on Output (ltb (length out) (33 * word_count (graph_of x)))
      ∷ []

  enough : none_applies (space_rows work) ≡ true
  unfolding space_rows
  enough = passed_none (space_rows work) (le-ltb (length work) work_space space, tt)

  late : Accepted v x → Dec (2000 < word_count (graph_of x)) → Answered v x (unless last_rows (word_count (graph_of x)))
  unfolding unless
  late p (yes k) = rw (lt-ltb 2000 (word_count (graph_of x)) k) (many p k)
  late p (no k) =
      let W = word_count (graph_of x) in
      rw (le-ltb 2000 W (omega arith), room, le-ltb 66000 (33 * W) (omega arith)) (words p (omega arith))

  answered : Answered v x (gather_answer v x work out)
  unfolding gather_answer gather_rows first_rows
  answered = go (unless (image_rows v x) 0) refl
    where
      go : (a : Answer ℕ) → unless (image_rows v x) 0 ≡ a → Answered v x (gather_answer v x work out)
      go (refused r) e =
          let f = unless-past {A = ℕ} (space_rows work) (image_rows v x) 0 enough in
          subst (Answered v x)
          (sym (refused-before (first_rows v x work) last_rows 0 (word_count (graph_of x)) (f ∙ e)))
          (early e)
      go (value b) e =
          let p = (value-passed (image_rows v x) 0 b e).0 in
          let n = none_join (space_rows work) (image_rows v x) enough p in
          subst (Answered v x)
          (sym (unless-past (first_rows v x work) last_rows (word_count (graph_of x)) n))
          (late p (dec_lt 2000 (word_count (graph_of x))))

too_long : (ws : List (List ℕ)) → 2000 < length ws → unless (long_rows ws) (length ws) ≡ refused WordList
unfolding long_rows long_list unless
too_long ws h = rw (lt-ltb 2000 (length ws) h)

-- the call refuses the same
refuses : {v x : List ℕ} {a : Answer ℕ} {r : Refusal} → Answered v x a → a ≡ refused r → words_answer v x ≡ refused r
unfolding words_answer
refuses {v} {x} {r = r} (early {r = s} e) q =
    let same : s ≡ r = cc in
    refused-before (image_rows v x) (long_rows (sorted_words (graph_of x))) 0 (length (sorted_words (graph_of x))) e
    ∙ ap refused same
refuses {v} {x} {r = r} (many p k) q =
    let same : WordList ≡ r = cc in
    unless-past (image_rows v x) (long_rows (sorted_words (graph_of x))) (length (sorted_words (graph_of x))) p
    ∙ too_long (sorted_words (graph_of x)) (omega (arith, sorted-many (accepted p)))
    ∙ ap refused same
refuses (words p k) q = let z : ◌≡◌ {A = ℕ} 0 1 = cc in absurd (omega arith)

gathers : {v x : List ℕ} {a : Answer ℕ} {n : ℕ} → Answered v x a → a ≡ value n
    → Accepted v x × (n ≤ 2000) × (word_count (graph_of x) ≡ n)
gathers (early e) q = let z : ◌≡◌ {A = ℕ} 0 1 = cc in absurd (omega arith)
gathers (many p k) q = let z : ◌≡◌ {A = ℕ} 0 1 = cc in absurd (omega arith)
gathers {v} {x} {n = n} (words p k) q = let e : word_count (graph_of x) ≡ n = same-value q in (p, omega arith, e)

-- ---- what lies in the further work space then

-- a part put back does not change what lies behind it
behind-part : (a e n : ℕ) (t ys : List ℕ) → a ≤ e → e ≤ n → e ≤ length t → length ys ≡ e - a
    → drop n (put_mid a (e - a) t ys) ≡ drop n t
behind-part a e n t ys h k room long =
    let f : e + (n - e) ≡ n = omega arith in
    ap (λ j. drop j (put_mid a (e - a) t ys)) (sym f)
    ∙ sym (drop-drop (n - e) e (put_mid a (e - a) t ys))
    ∙ ap (drop (n - e)) (drop_put a e t ys h room long)
    ∙ drop-drop (n - e) e t
    ∙ ap (λ j. drop j t) f

module _ (v x work t out : List ℕ) (space : work_space ≤ length work) (room : further_space ≤ length t)
    (e : out ≡ gather_out v x work (mid_of 66033 66000 t)) (kept : length out ≡ length (mid_of 66033 66000 t)) where
  part-long : length (mid_of 66033 66000 t) ≡ 66000
  part-long = mid_len 66033 132033 t (omega arith)

  answer : Answered v x (gather_answer v x work (mid_of 66033 66000 t))
  answer = answered v x work (mid_of 66033 66000 t) space part-long

  -- the slots of the words stand from slot 2,001 on
  stand : {n : ℕ} → Accepted v x → gather_answer v x work (mid_of 66033 66000 t) ≡ value n
      → BytesFrom (put_mid 66033 66000 t out) 2001 (letter_words (graph_of x))
  unfolding gather_out
  stand p q =
      let bytes = slot_bytes (letter_words (graph_of x)) in
      let part = mid_of 66033 66000 t in
      record {
        front = take 66033 t;
        rest = drop (length bytes) part ++ post_of 66033 66000 t;
        split = ap (λ l. take 66033 t ++ l)
            (ap (λ l. l ++ post_of 66033 66000 t) (e ∙ written-value bytes part q)
            ∙ append_assoc bytes (drop (length bytes) part) (post_of 66033 66000 t));
        far = length-take-le 66033 t (omega arith);
        short = words-short (accepted p);
      }

  collection : (n : ℕ) → gather_answer v x work (mid_of 66033 66000 t) ≡ value n
      → Collection v x n (put_mid 66033 66000 t out)
  collection n q =
      let a = gathers answer q in
      let s = stand a.0 q in
      let many : length (letter_words (graph_of x)) ≡ n = words-many (accepted a.0) ∙ a.2 in
      record {
        accepted = a.0;
        waiting = record {
          few = omega (arith, a.1);
          slots = λ p h. from-slot s p (omega arith);
          padded = λ p h. from_padded s p (omega arith);
        };
        words = ap (words_from (put_mid 66033 66000 t out) 2001) (sym many) ∙ from_words s;
      }

  pub collected : {a : Answer ℕ} → a ≡ gather_answer v x work (mid_of 66033 66000 t)
      → Collected v x t a (put_mid 66033 66000 t out)
  collected b = record {
    on_value = λ n q. collection n (sym b ∙ q);
    on_refusal = λ r q. refuses answer (sym b ∙ q);
    long = same_len_mid 66033 66000 t out kept;
    behind = behind-part 66033 132033 further_space t out (omega arith) (omega arith) (omega arith) (kept ∙ part-long);
  }
