-- Token passing lists the hits. What comes to the sink is the score of a run of a whole word with the word's code; the row has for each word
-- its best, so the row and what comes to the sink cover each other, and the row is ranked. This is the theorem of document 001: decoding over
-- the graph and decoding word by word return the same words, here with scores, codes and order. Assumes nothing.
use Prim.Native.Nat.{ℕ, ◌+◌, ◌-◌, ◌<◌}
use mathlib.Core.Path.{◌≡◌, refl, sym, ◌∙◌, ap, subst}
use mathlib.Core.List.Memᴰ.{head as here}
use mathlib.Core.List.{List, [], ◌∷◌, map, reverse_aux as onto}
use mathlib.Core.Option.{some}
use native.Mathlib.Omega.{arith}
use lib.IntN.{ℤ, pos}
use lib.Signed.{◌≤ℤ◌}
use lib.ListN.{length, take, get_or}
use lib.Seq.{take-nil}
use Rattle.endian.proofs.Lists.{mem_get_d}
use Rattle.endian.proofs.Pairs.{pairs_of_places}
use Rattle.voice.specs.Voice.{states}
use Rattle.graph.specs.Graph.{Graph, sink, full_paths, word_count, increment, path_code, path_letters}
use Rattle.graph.proofs.Sound.{Sound}
use Rattle.graph.proofs.Codes.{codes}
use Rattle.graph.proofs.Paths.{full-paths, at_code}
use Rattle.ranking.specs.Hits.{Hit, hit, ◌≻◌}
use Rattle.ranking.proofs.Hits.{hit-path, outranks-is}
use Rattle.ranking.proofs.Ranked.{≻-asym}
use Rattle.decoder.specs.Decoding.{path_score, row, hits}
use Rattle.decoder.proofs.Runs.{Run, WordRun}
use Rattle.decoder.proofs.TrueScore.{UpTo, true-word-run, word-run-bound}
use Rattle.decoder.proofs.Row.{row_in, row_out, row_sorted}
use Rattle.passing.specs.Best.{by_code, row_of}
use Rattle.passing.specs.Tokens.{Store, last_state, arrived, tokens, decoded}
use Rattle.passing.proofs.Order.{◌∈◌, hits_strict, code-score}
use Rattle.passing.proofs.Insertion.{Leads, Ranked}
use Rattle.passing.proofs.Covering.{Covered, Covers, covers_sub, is_row}
use Rattle.passing.proofs.Uncut.{paths, tokens-best, best-arrived}
use Rattle.passing.proofs.Chains.{Chain, through, length_onto, last_onto, passed_onto, chain-above, path_nodes, nodes_path, nodes_code, nodes_letters}
use Rattle.passing.proofs.Arrivals.{final_in, final_out}
use Rattle.passing.proofs.Walks.{path_out, path_in}

-- ---- the runs of a whole word, by its letters turned round

module _ (v : List ℕ) (k : ℕ) (frames : List ℕ) (l : ℕ) (ls : List ℕ) where
  -- over all frames, to the last state of the last letter
  abbrev WholeRun : ℤ → Type 0
  WholeRun a = Run v (k ∷ frames) (length frames) (l ∷ ls) (states v l - 1) a

  last-at : {x : ℕ} {xs : List ℕ} → x ∷ xs ≡ onto (l ∷ ls) [] → length xs ≡ length ls
  last-at e = omega (arith, ap length e, length_onto (l ∷ ls) [])

  word-run-whole : (word : List ℕ) {a : ℤ} → word ≡ onto (l ∷ ls) [] → WordRun v word (k ∷ frames) a → WholeRun a
  word-run-whole [] e r = absurd r
  word-run-whole (x ∷ xs) e r = rw (last-at e, e, passed_onto l ls [], last_onto l ls []) at r

  whole-word-run : (word : List ℕ) {a : ℤ} → word ≡ onto (l ∷ ls) [] → WholeRun a → WordRun v word (k ∷ frames) a
  whole-word-run [] e r = absurd (omega (arith, ap length e, length_onto (l ∷ ls) []))
  whole-word-run (x ∷ xs) e r = rw (last-at e, e, passed_onto l ls [], last_onto l ls []) r

-- ---- the row is ranked: hits of one code are of one path, so they are one

module _ (v : List ℕ) {g : Graph} (ok : Sound g) (frames : List ℕ) where
  one_hit : {a b : Hit} → a ∈ row v g frames → b ∈ row v g frames → a.code ≡ b.code → a ≡ b
  one_hit {a} {b} i j e =
      let r = row_out v g frames i in
      let s = row_out v g frames j in
      let same : r.0 ≡ s.0 =
      sym (at_code ok r.1.full).1
      ∙ ap (λ c. get_or (full_paths g) c []) (sym r.1.is_code ∙ e ∙ s.1.is_code)
      ∙ (at_code ok s.1.full).1 in
      let score : some a.score ≡ some b.score = sym r.1.is_score ∙ ap (λ p. path_score v g p frames) same ∙ s.1.is_score in
      hit-path (cc) e

  row_ranked : Ranked by_code (row v g frames)
  row_ranked = pairs_of_places (Leads by_code) (hit (pos 0) 0) (row v g frames)
      (λ i j p q. leads (mem_get_d _ i _ (omega arith)) (mem_get_d _ j _ q) (row_sorted v g frames (word_count g) (codes ok) i j p q))
    where
      leads : {a b : Hit} → a ∈ row v g frames → b ∈ row v g frames → a ≻ b → Leads by_code a b
      leads {a} {b} i j o =
          record { outranks = (outranks-is a b).1 o; apart = λ e. let p : b ≻ b = rw (one_hit i j e) at o in ≻-asym p p }

-- ---- the row and what comes to the sink cover each other

module _ (v : List ℕ) {g : Graph} (ok : Sound g) (k : ℕ) (frames : List ℕ) where
  -- all that come to a place over all frames, and to the sink
  abbrev whole : Store
  whole = paths v g (k ∷ frames) (length frames)

  abbrev come : List Hit
  come = arrived v g whole

  hit_comes : (h : Hit) → h ∈ row v g (k ∷ frames) → h ∈ come
  unfolding last_state path_score
  hit_comes h i =
      let r = row_out v g (k ∷ frames) i in
      let H = r.1 in
      let N = path_nodes ok ((full-paths ok).0 H.full) in
      let u = N.node in
      let letters = ap (path_letters g) N.path ∙ nodes_letters ok N.chain N.below in
      let word-run = true-word-run v (path_letters g r.0) (k ∷ frames) H.is_score in
      let run =
      word-run-whole v k frames (g.letter u) (map g.letter N.earlier) (path_letters g r.0) letters word-run in
      final_in v g whole (record {
        node = u;
        above = chain-above ok N.chain;
        below = N.below;
        ends = N.ends;
        was = hit h.score N.code;
        listed = path_in v g (k ∷ frames) ok run N.chain refl;
        score = refl;
        code = H.is_code ∙ ap (path_code g) N.path ∙ nodes_code ok N.chain;
      })

  -- the run of a whole word is covered by the hit of its path
  run_covered : {u : ℕ} {us : List ℕ} (h was : Hit) → Chain g (u ∷ us) was.code → u < sink g → sink g ∈ g.successors u
      → WholeRun v k frames (g.letter u) (map g.letter us) was.score → h.score ≡ was.score → h.code ≡ was.code + increment g u (sink g)
      → Covered by_code h (row v g (k ∷ frames))
  unfolding path_score
  run_covered {u} {us} h was chain below ends run e f = record {
    by = top;
    listed = row_in v g (k ∷ frames) {h = top} (record {
      full = (full-paths ok).1 (nodes_path ok chain below ends);
      is_code = refl;
      is_score = highest.1;
    });
    of_key = code ∙ sym f;
    as_good = code-score {b = top} (f ∙ sym code) (subst (λ (a : ℤ). a ≤ℤ top.score) (sym e) highest.2);
  }
    where
      path : List ℕ
      path = through g (u ∷ us)

      highest : UpTo (path_score v g path (k ∷ frames)) was.score
      highest =
          word-run-bound v (path_letters g path) (k ∷ frames)
          (whole-word-run v k frames (g.letter u) (map g.letter us) (path_letters g path)
          (nodes_letters ok chain below) run)

      top : Hit
      top = hit highest.0 (path_code g path)

      code : path_code g path ≡ was.code + increment g u (sink g)
      code = nodes_code ok chain

  come_covered : Covers by_code (row v g (k ∷ frames)) come
  unfolding last_state
  come_covered h i =
      let F = final_out v g whole i in
      let R = path_out v g (k ∷ frames) (length frames) F.node (last_state v g F.node) F.was F.listed in
      run_covered h F.was R.chain F.below F.ends R.run F.score F.code

  row_is : row_of by_code come ≡ row v g (k ∷ frames)
  row_is = is_row hits_strict (row_ranked v ok (k ∷ frames)) come_covered (covers_sub hits_strict hit_comes)

-- without frames there is no hit
no_frames : (v : List ℕ) (g : Graph) → row v g [] ≡ []
unfolding path_score
no_frames v g =
    no_members (row v g [])
    (λ h i. let H = (row_out v g [] i).1 in no-word-run (path_letters g _) h.score
    (true-word-run v _ [] H.is_score))
  where
    no_members : (l : List Hit) → ((h : Hit) → ¬ (h ∈ l)) → l ≡ []
    no_members [] f = refl
    no_members (h ∷ l) f = absurd (f h (here refl))

    no-word-run : (word : List ℕ) (a : ℤ) → ¬ WordRun v word [] a
    no-word-run [] a r = r
    no-word-run (l ∷ ls) a r = r

-- for the graph of every well-formed lexicon (graph/proofs/Sound.antt, sound), any voice model, any frames and any n
pub decoded-hits : (v : List ℕ) {g : Graph} → Sound g → (frames : List ℕ) (n : ℕ) → decoded v g frames n ≡ hits v g frames n
unfolding decoded hits
decoded-hits v {g} ok [] n = rw (no_frames v g, take-nil n)
decoded-hits v {g} ok (k ∷ frames) n =
    let t = length frames in
    best-arrived n v g (paths v g (k ∷ frames) t) (tokens v g (k ∷ frames) n t) (tokens-best v g (k ∷ frames) n t)
    ∙ ap (take n) (row_is v ok k frames)
