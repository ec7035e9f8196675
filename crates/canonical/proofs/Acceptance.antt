-- The canonical image of a word list within the limits is accepted: no number of 2 to 10 applies to it. And codes in it
-- are dictionary ranks. Assumes nothing.
use Prim.Native.Nat.{ℕ}
use mathlib.Core.Path.{◌≡◌, sym, ap, subst, ◌∙◌}
use mathlib.Core.Bool.{true, false}
use mathlib.Core.List.Memᴰ
use mathlib.Core.List.{List, [], map, Memᴰ as In}
use native.Mathlib.Omega.{arith}
use lib.ListN.{length, get_or, get_or-map}
use borrow.Author.Tests.{le-ltb}
use Rattle.endian.specs.Lists.{select, from, sum, has, repeats}
use Rattle.endian.proofs.Lists.{mem-has, map_cong, from_in, from_out}
use Rattle.endian.proofs.Search.{any_in}
use Rattle.call.specs.Table.{none_applies}
use Rattle.call.specs.Limits.{most_words}
use Rattle.call.proofs.Table.{none_join, passed_none}
use Rattle.lexicon.specs.Lexicon.{lexicon_refused, lexicon_refusal}
use Rattle.call.specs.declared.Refusal.TheVariants.{LexiconLength, LexiconRange}
use Rattle.call.specs.Table.{is_refusal}
use Rattle.voice.specs.Voice.{letter_count, states, voice_rows}
use Rattle.graph.specs.Graph.{Graph, graph_of, sink, FullPath, full_paths, word_count, path_code, path_letters}
use Rattle.graph.specs.Conditions.{orphan, place_count, many_places, long_word, has_long_word, many_words, same_letters}
use Rattle.graph.specs.Checking.{lexicon_rows, image_rows, Accepted}
use Rattle.graph.proofs.Paths.{full-paths, at_code}
use Rattle.canonical.specs.Nodes.{canonical_graph}
use Rattle.image.specs.Image.{image_of}
use Rattle.canonical.specs.Theorems.{rank}
use Rattle.canonical.proofs.Vertices.{WordList, preceded}
use Rattle.image.proofs.Written.{formed}
use Rattle.image.proofs.ArcCount.{Preceded}
use Rattle.canonical.proofs.Spelled.{length-words}
use Rattle.canonical.proofs.Ranks.{rank-at, no-repeats, none_in}
use Rattle.canonical.proofs.ReadBack.{Limits, writable, agree, words_back, sound_back}

module _ {v : List ℕ} {ws : List (List ℕ)} (ok : WordList (letter_count v) ws) (limits : Limits v ws) where
  -- the graph of the words, and what is read from its image
  abbrev g : Graph
  g = canonical_graph (letter_count v) ws

  abbrev c : Graph
  c = graph_of (image_of (canonical_graph (letter_count v) ws))

  -- 6
  preceded-node : Preceded c
  unfolding sink
  preceded-node n h k =
      let a = agree ok limits in
      let r = preceded ok n h (omega (arith, a.nodes)) in
      (r.0, omega (arith, r.1, a.nodes), rw (a.successors r.1) r.2)

  all_reached : orphan c ≡ false
  unfolding orphan
  all_reached =
      none_in _ (from 1 c.nodes)
      (λ n m. let b = from_out 1 c.nodes m in let r = preceded-node n b.0 (omega (arith, b.1)) in
      rw (any_in (λ u. has n (c.successors u)) {a = r.0}
      (from_in 0 (sink c) r.0 (omega arith) (omega (arith, r.1))) (mem-has r.2)))

  -- 7
  places : many_places (place_count v c) ≡ false
  unfolding place_count
  places =
      let a = agree ok limits in
      ap many_places (ap (λ n. sum (map (λ k. states v (c.letter k)) (from 1 n))) a.nodes
      ∙ ap sum (map_cong _ _ (from 1 g.nodes)
      (λ n m. let b = from_out 1 g.nodes m in ap (states v) (a.letters b.0 (omega (arith, b.1))))))
      ∙ limits.few_places

  -- 8
  short_words : has_long_word c ≡ false
  unfolding has_long_word long_word
  short_words =
      none_in _ (full_paths c)
      (λ p m. le-ltb 32 (length (path_letters c p))
      (ok.short (path_letters c p)
      (subst (λ l. In (path_letters c p) l) (words_back ok limits) (Memᴰ.map (path_letters c) m))))

  -- 9
  count-back : word_count c ≡ length ws
  count-back = sym (length-words c) ∙ ap length (words_back ok limits)

  few_words : many_words (word_count c) ≡ false
  unfolding many_words
  few_words = le-ltb most_words (word_count c) (omega (arith, count-back, limits.few_words))

  -- 10
  other_letters : same_letters c ≡ false
  unfolding same_letters
  other_letters = ap repeats (words_back ok limits) ∙ no-repeats ok.sorted

  pub accepted-back : none_applies (voice_rows v) ≡ true → Accepted v (image_of g)
  unfolding image_rows lexicon_rows lexicon_refused lexicon_refusal is_refusal
  accepted-back h =
      let w = formed (writable ok limits) in
      none_join (voice_rows v) (lexicon_rows v (image_of g)) h
      (passed_none (lexicon_rows v (image_of g)) (
        ap (λ d. is_refusal LexiconLength (lexicon_refusal d)) w,
        (
          ap (λ d. is_refusal LexiconRange (lexicon_refusal d)) w,
          (all_reached, (places, (short_words, (few_words, (other_letters, tt))))),
        ),
      ))

  -- ---- codes

  pub code-rank : (p : List ℕ) → FullPath c p → path_code c p ≡ rank (path_letters c p) ws
  unfolding path_letters select
  code-rank p full =
      let s = sound_back ok limits in
      let back = words_back ok limits in
      let t = at_code s ((full-paths s).1 full) in
      let i = path_code c p in
      let e : get_or ws i [] ≡ path_letters c p =
      ap (λ l. get_or l i []) (sym back) ∙ get_or-map (path_letters c) (full_paths c) i [] ∙ ap (path_letters c) t.1 in
      sym (ap (λ w. rank w ws) (sym e) ∙ rank-at ok.sorted i (omega (arith, t.0, count-back)))
