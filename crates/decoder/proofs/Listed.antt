-- Decoding lists the beginning of the row. `row` is the row: an accepted lexicon's word has one row of letters and one code, so its permitted
-- state paths are those of its full path, and its true score is that of the path. What is read back is the first n of it, since every hit
-- fits its eight bytes. Assumes nothing.
use Prim.Native.Nat.{ℕ, ◌*◌, ◌≤◌, ◌<◌}
use mathlib.Core.Path.{◌≡◌, refl, sym, ap, ◌∙◌}
use mathlib.Core.Logic.{◌↔◌}
use mathlib.Core.List.{List, [], ◌∷◌, ◌++◌, Memᴰ}
use mathlib.Core.Option.{none, some}
use native.Mathlib.Omega.{arith}
use borrow.Author.Tests.{ltb-false, not-false}
use lib.IntN.{ℤ, nat_abs}
use lib.ListN.{length, take, drop}
use lib.Dec.{leb, ltb}
use Rattle.endian.specs.Lists.{any}
use Rattle.endian.proofs.Booleans.{or-none}
use Rattle.endian.proofs.Lists.{take_out}
use Rattle.endian.proofs.Ranges.{bounds}
use Rattle.call.specs.declared.Refusal.TheVariants.{Count, Output}
use Rattle.call.specs.Table.{value, on}
use Rattle.call.specs.Limits.{bad_frame_count, bad_count}
use Rattle.call.specs.Buffers.{space_rows, written}
use Rattle.call.proofs.Table.{none-parts, none-says, value-passed}
use Rattle.voice.specs.Voice.{letter_count, symbol_count}
use Rattle.graph.specs.Graph.{graph_of, word_count, path_code, path_letters}
use Rattle.graph.specs.Words.{word_of_path, LexiconWord}
use Rattle.graph.specs.Conditions.{many_words}
use Rattle.graph.specs.Checking.{Accepted, image_rows, first_rows}
use Rattle.graph.proofs.Sound.{sound}
use Rattle.graph.proofs.Paths.{at_code}
use Rattle.graph.proofs.Spelling.{spelled_injective}
use Rattle.graph.proofs.Accepted.{accepted, letters-known}
use Rattle.graph.proofs.Theorems.{path_theorems}
use Rattle.ranking.specs.Hits.{Hit, hit, hit_bytes}
use Rattle.ranking.proofs.Hits.{Writable, hits-written}
use Rattle.decoder.specs.StatePaths.{Attains, score_limit}
use Rattle.decoder.specs.Decoding.{path_score, row, hits, frame_rows, decode_rows, decode_answer, decode_out}
use Rattle.decoder.specs.Demand.{Scores, HasNoPath, IsTrueScore, Names, IsRow, decoded_list, DecodingListsTheRow}
use Rattle.decoder.proofs.Limits.{attained-within, within-i32}
use Rattle.decoder.proofs.Row.{row_in, row_out, row_sorted}
use Rattle.decoder.proofs.Theorems.{score_theorems}

-- the hit names a lexicon word and has its true score
abbrev pub TrueHit : List ℕ → List ℕ → List ℕ → Hit → Type 0
TrueHit v x frames h =
    (word : List ℕ) × Names v (graph_of x) frames h word × LexiconWord v (graph_of x) word × IsTrueScore v (graph_of x) frames word h.score

module _ (v x frames : List ℕ) (ok : Accepted v x) where
  -- ---- the words of an accepted lexicon

  -- any letters that spell a lexicon word are those on its path
  scores-attained : {word : List ℕ} {a : ℤ} (w : LexiconWord v (graph_of x) word) → Scores v (graph_of x) frames word a
      → Attains v (path_letters (graph_of x) w.path) frames a
  unfolding word_of_path
  scores-attained w S =
      let images = accepted ok in
      rw (spelled_injective v images.voice S.known (letters-known images w.path) (S.spells ∙ sym w.spells)) at S.attained

  attained-scores : {word : List ℕ} {a : ℤ} (w : LexiconWord v (graph_of x) word) → Attains v (path_letters (graph_of x) w.path) frames a
      → Scores v (graph_of x) frames word a
  unfolding word_of_path
  attained-scores w A = record {
    letters = path_letters (graph_of x) w.path;
    known = letters-known (accepted ok) w.path;
    spells = w.spells;
    attained = A;
  }

  -- so its true score is that of its path, and without one it has no permitted state path
  pub is-path-score : {word : List ℕ} (w : LexiconWord v (graph_of x) word) (a : ℤ)
      → (path_score v (graph_of x) w.path frames ≡ some a) ↔ IsTrueScore v (graph_of x) frames word a
  unfolding path_score
  is-path-score w a =
      let highest = (score_theorems v x frames w.path ok).highest a in (
        λ e. let t = highest.0 e in record { attained = attained-scores w t.0; highest = λ b S. t.1 b (scores-attained w S) },
        λ t. highest.1 (scores-attained w t.attained, λ b B. t.highest b (attained-scores w B)),
      )

  pub no-path-score : {word : List ℕ} (w : LexiconWord v (graph_of x) word) → path_score v (graph_of x) w.path frames ≡ none
      → HasNoPath v (graph_of x) frames word
  unfolding path_score
  no-path-score w e a S = (score_theorems v x frames w.path ok).none_permitted.0 e a (scores-attained w S)

  -- its path's code names it, and no other code does
  pub path_names : {word : List ℕ} (w : LexiconWord v (graph_of x) word) (a : ℤ)
      → Names v (graph_of x) frames (hit a (path_code (graph_of x) w.path)) word
  path_names w a =
      let paths = path_theorems v x ok in
      let c = at_code (sound (letter_count v) x (accepted ok).lexicon) ((paths.full w.path).1 w.full) in
      record { below = c.0; is_word = paths.word-of-code _ c.0 ∙ ap (word_of_path v (graph_of x)) c.1 ∙ w.spells }

  pub one_code : {word : List ℕ} {h k : Hit} → Names v (graph_of x) frames h word → Names v (graph_of x) frames k word → h.code ≡ k.code
  one_code {h = h} {k = k} N M =
      let paths = path_theorems v x ok in
      paths.different_words h.code k.code N.below M.below
      (sym (paths.word-of-code h.code N.below) ∙ N.is_word ∙ sym M.is_word ∙ paths.word-of-code k.code M.below)

  -- ---- the row

  pub is_row : IsRow v (graph_of x) frames (row v (graph_of x) frames)
  is_row = record { each = each; every = every; ordered = row_sorted v (graph_of x) frames (word_count (graph_of x)) (path_theorems v x ok).codes }
    where
      each : (h : Hit) → Memᴰ h (row v (graph_of x) frames) → TrueHit v x frames h
      each h m =
          let r = row_out v (graph_of x) frames m in
          let H = r.1 in
          let w : LexiconWord v (graph_of x) (word_of_path v (graph_of x) r.0) =
          record { path = r.0; full = ((path_theorems v x ok).full r.0).0 H.full; spells = refl } in
          let N = path_names w h.score in
          (word_of_path v (graph_of x) r.0, rw (← H.is_code) at N, w, (is-path-score w h.score).0 H.is_score)

      every : (h : Hit) (word : List ℕ) → Names v (graph_of x) frames h word → LexiconWord v (graph_of x) word
          → IsTrueScore v (graph_of x) frames word h.score → Memᴰ h (row v (graph_of x) frames)
      every h word N w t = row_in v (graph_of x) frames (record {
        full = ((path_theorems v x ok).full w.path).1 w.full;
        is_code = one_code N (path_names w h.score);
        is_score = (is-path-score w h.score).1 t;
      })

  -- ---- every hit lies within the limits, so it fits its bytes

  pub within_limits : length frames ≤ 1000 → (h : Hit) → Memᴰ h (row v (graph_of x) frames)
      → (nat_abs h.score ≤ score_limit) × (h.code < 1048576)
  unfolding many_words
  within_limits short h m =
      let e = is_row.each h m in
      (attained-within short e.3.attained.attained, omega (arith, e.1.below, ltb-false 1048576 (word_count (graph_of x)) (accepted ok).few_words))

  writable : length frames ≤ 1000 → (h : Hit) → Memᴰ h (row v (graph_of x) frames) → Writable h
  writable short h m =
      let l = within_limits short h m in
      record { score = within-i32 h.score l.0; code = omega (arith, l.1) }

-- ---- what is read back

pub record AcceptedDecoding (v x frames out : List ℕ) (n k : ℕ) : Type 0 where
  pub images : Accepted v x
  pub short : length frames ≤ 1000
  pub some_wanted : 1 ≤ n
  pub few_wanted : n ≤ 8
  pub room : 8 * n ≤ length out
  pub counted : length (hits v (graph_of x) frames n) ≡ k

pub answered : (v x frames work out : List ℕ) (n k : ℕ) → decode_answer v x frames n work out ≡ value k
    → AcceptedDecoding v x frames out n k
unfolding decode_answer decode_rows first_rows frame_rows bad_frame_count bad_count
answered v x frames work out n k e =
    let own = on Count (bad_count n) ∷ on Output (ltb (length out) (8 * n)) ∷ [] in
    let u = value-passed (decode_rows v x frames n work out) (length (hits v (graph_of x) frames n)) k e in
    let p = none-parts (first_rows v x work ++ frame_rows v frames) own u.0 in
    let q = none-parts (first_rows v x work) (frame_rows v frames) p.0 in
    let long = (or-none (bad_frame_count (length frames)) (any (λ s. leb (symbol_count v) s) frames) (none-says (frame_rows v frames) q.1).0).0 in
    let s = none-says own p.1 in
    let wanted = bounds 1 8 n (not-false _ s.0) in
    record {
      images = (none-parts (space_rows work) (image_rows v x) q.0).1;
      short = (bounds 1 1000 (length frames) (not-false _ long)).1;
      some_wanted = wanted.0;
      few_wanted = wanted.1;
      room = ltb-false (length out) (8 * n) s.1.0;
      counted = u.1;
    }

pub decoded-first : (v x frames work out : List ℕ) (n k : ℕ) → decode_answer v x frames n work out ≡ value k
    → decoded_list v x frames n work out k ≡ take n (row v (graph_of x) frames)
unfolding decoded_list decode_out written hits
decoded-first v x frames work out n k e =
    let a = answered v x frames work out n k e in
    rw (e, ← a.counted)
    (hits-written (hits v (graph_of x) frames n) (drop (length (hit_bytes (hits v (graph_of x) frames n))) out)
    (λ h m. writable v x frames a.images a.short h (take_out n (row v (graph_of x) frames) m)))

pub lists_the_row : DecodingListsTheRow
lists_the_row v x frames work out n k e = record {
  whole = row v (graph_of x) frames;
  is_row = is_row v x frames (answered v x frames work out n k e).images;
  is_first = decoded-first v x frames work out n k e;
}
