-- The theorems of specs/Theorems.antt: the first path that spells a word is the only one, since different full paths
-- spell different words. Assumes nothing.
use Prim.Native.Nat.{ℕ, ◌≤◌, ◌<◌}
use mathlib.Core.Path.{◌≡◌, refl, sym, ap, ◌∙◌}
use mathlib.Core.Bool.{Bool, true, false, true≢false}
use mathlib.Core.Logic.{◌↔◌}
use mathlib.Core.List.Memᴰ.{head as here}
use mathlib.Core.List.Memᴰ.{tail as there}
use mathlib.Core.List.{List, [], ◌∷◌, ◌++◌, map, flat_map, Memᴰ}
use mathlib.Core.Option.{some}
use native.Mathlib.Omega.{arith}
use borrow.Author.Tests.{le-ltb, lt-leb, leb-false}
use lib.Dec.{ltb}
use lib.Seq.{take-append_seam}
use lib.ListN.{length, get_or, take, drop}
use Rattle.endian.specs.Lists.{from, same, first, is_none}
use Rattle.endian.proofs.Lists.{mem_get_d, first_none, first_at, same-eq, same_refl, from_out, flat_map_cong, flat_map_map, by_index}
use Rattle.endian.proofs.Search.{Passing}
use Rattle.call.specs.declared.Refusal.TheVariants.{NoWord, Code, Output}
use Rattle.call.specs.Table.{value, refused, on, none_applies, unless}
use Rattle.call.specs.Limits.{bad_code}
use Rattle.call.specs.Buffers.{space_rows, written}
use Rattle.call.proofs.Table.{none_join, none-parts, none-says, passed_none, unless-past, unless-value, value-passed}
use Rattle.voice.specs.Voice.{letter_count}
use Rattle.graph.specs.Graph.{graph_of, full_paths, path_code, word_count}
use Rattle.graph.specs.Words.{word_of_path, LexiconWord, path_of_word, code_of, word_of_code}
use Rattle.graph.specs.Checking.{Accepted, image_rows, first_rows}
use Rattle.graph.specs.Theorems.{PathTheorems}
use Rattle.graph.proofs.Sound.{Sound, sound}
use Rattle.graph.proofs.Codes.{code_at}
use Rattle.graph.proofs.Paths.{at_code}
use Rattle.graph.proofs.Accepted.{accepted}
use Rattle.graph.proofs.Theorems.{path_theorems}
use Rattle.codes.specs.Lookup.{word_to_code_rows, word_to_code_answer, listing}
use Rattle.codes.specs.Lookup.{code_to_word_rows, code_to_word_answer, code_to_word_out}
use Rattle.codes.specs.Theorems.{LookupsUndoEachOther, WordComesBack, CodeComesBack}

-- the full path of index c, and its word
abbrev path_at : List ℕ → ℕ → List ℕ
path_at x c = get_or (full_paths (graph_of x)) c []

abbrev word_at : List ℕ → List ℕ → ℕ → List ℕ
word_at v x c = word_of_path v (graph_of x) (path_at x c)

module _ (v x : List ℕ) (h : Accepted v x) where
  known : PathTheorems v (graph_of x)
  known = path_theorems v x h

  ok : Sound (graph_of x)
  ok = sound (letter_count v) x (accepted h).lexicon

  -- no path before it spells its word, so it is the one that is found
  found : (c : ℕ) → c < word_count (graph_of x) → path_of_word v (graph_of x) (word_at v x c) ≡ some (path_at x c)
  unfolding path_of_word
  found c k =
      first_at (λ p. same (word_of_path v (graph_of x) p) (word_at v x c)) (full_paths (graph_of x)) c [] (omega (arith, known.counted))
      (same_refl (word_at v x c))
      (λ j l. other j l (same (word_at v x j) (word_at v x c)) refl)
    where
      other : (j : ℕ) → j < c → (b : Bool) → same (word_at v x j) (word_at v x c) ≡ b → same (word_at v x j) (word_at v x c) ≡ false
      other j l true e = absurd (omega (arith, known.different_words j c (omega arith) k (same-eq (word_at v x j) (word_at v x c) e)))
      other j l false e = e

  code-found : (c : ℕ) → c < word_count (graph_of x) → code_of (graph_of x) (path_of_word v (graph_of x) (word_at v x c)) ≡ c
  unfolding code_of
  code-found c k = rw (found c k) (code_at ok k)

  -- a lexicon word is the word of some index
  record Indexed (word : List ℕ) : Type 0 where
    index : ℕ
    below : index < word_count (graph_of x)
    spells : word_at v x index ≡ word

  indexed : {word : List ℕ} → LexiconWord v (graph_of x) word → Indexed word
  indexed w =
      let a = at_code ok ((known.full w.path).1 w.full) in
      record { index = path_code (graph_of x) w.path; below = a.0; spells = ap (word_of_path v (graph_of x)) a.1 ∙ w.spells }

  code_is : {word : List ℕ} (i : Indexed word) → code_of (graph_of x) (path_of_word v (graph_of x) word) ≡ i.index
  code_is i = ap (λ w. code_of (graph_of x) (path_of_word v (graph_of x) w)) (sym i.spells) ∙ code-found i.index i.below

  of_path : (p : List ℕ) → Memᴰ p (full_paths (graph_of x)) → LexiconWord v (graph_of x) (word_of_path v (graph_of x) p)
  of_path p m = record { path = p; full = (known.full p).0 m; spells = refl }

  nowhere : (word : List ℕ) → (is_none (path_of_word v (graph_of x) word) ≡ true) ↔ (¬ LexiconWord v (graph_of x) word)
  unfolding is_none path_of_word
  nowhere word = (
    λ e w. let i = indexed w in true≢false (sym e ∙ ap is_none (ap (path_of_word v (graph_of x)) (sym i.spells) ∙ found i.index i.below)),
    λ n. ap is_none (first_none (λ p. same (word_of_path v (graph_of x) p) word) (full_paths (graph_of x)) (λ p m. fails n p m (same (word_of_path v (graph_of x) p) word) refl)),
  )
    where
      fails : ¬ LexiconWord v (graph_of x) word → (p : List ℕ) → Memᴰ p (full_paths (graph_of x)) → (b : Bool)
          → same (word_of_path v (graph_of x) p) word ≡ b → same (word_of_path v (graph_of x) p) word ≡ false
      fails n p m true e = absurd (n (record { path = p; full = (known.full p).0 m; spells = same-eq (word_of_path v (graph_of x) p) word e }))
      fails n p m false e = e

  all_listed : listing v (graph_of x) ≡ flat_map (λ c. word_of_code v (graph_of x) c ++ (10 ∷ [])) (from 0 (word_count (graph_of x)))
  unfolding listing
  all_listed =
      ap (flat_map (λ p. word_of_path v (graph_of x) p ++ (10 ∷ [])))
      (sym (ap (λ n. map (path_at x) (from 0 n)) (sym known.counted) ∙ by_index [] (full_paths (graph_of x)) (full_paths (graph_of x)) 0 refl))
      ∙ flat_map_map (λ p. word_of_path v (graph_of x) p ++ (10 ∷ [])) (path_at x) (from 0 (word_count (graph_of x)))
      ∙ flat_map_cong _ _ (from 0 (word_count (graph_of x)))
      (λ c m. ap (λ w. w ++ (10 ∷ [])) (sym (known.word-of-code c (omega (arith, from_out 0 (word_count (graph_of x)) m)))))

pub code_theorems : LookupsUndoEachOther
code_theorems v x h =
    let T = known v x h in
    record {
      no_word = nowhere v x h;
      code_below = λ word w. let i = indexed v x h w in rw (code_is v x h i) i.below;
      word_back = λ word w. let i = indexed v x h w in rw (code_is v x h i) (T.word-of-code i.index i.below ∙ i.spells);
      word_there = λ c k. rw (T.word-of-code c k) (of_path v x h (path_at x c) (mem_get_d (full_paths (graph_of x)) c [] (omega (arith, T.counted))));
      code_back = λ c k. rw (T.word-of-code c k) (code-found v x h c k);
      listed = all_listed v x h;
    }

-- ---- of the calls

-- what is found is in the list, and passes the test
first_out : (p : List ℕ → Bool) (l : List (List ℕ)) → is_none (first p l) ≡ false → Passing p l
unfolding first is_none
first_out p [] e = absurd (true≢false e)
first_out p (a ∷ l) e = go (p a) refl (first_out p l)
  where
    go : (b : Bool) → p a ≡ b → (is_none (first p l) ≡ false → Passing p l) → Passing p (a ∷ l)
    go true q later = record { one = a; member = here refl; passes = q }
    go false q later =
        let r = later (rw q at e) in
        record { one = r.one; member = there r.member; passes = r.passes }

module _ (v x work : List ℕ) where
  images_of : none_applies (first_rows v x work) ≡ true → Accepted v x
  unfolding first_rows
  images_of h = (none-parts (space_rows work) (image_rows v x) h).1

  -- where word to code answers, the word is a lexicon word
  is_word : (word : List ℕ) → Accepted v x → is_none (path_of_word v (graph_of x) word) ≡ false
      → LexiconWord v (graph_of x) word
  unfolding path_of_word
  is_word word h e =
      let r = first_out (λ p. same (word_of_path v (graph_of x) p) word) (full_paths (graph_of x)) e in
      record {
        path = r.one;
        full = ((known v x h).full r.one).0 r.member;
        spells = same-eq (word_of_path v (graph_of x) r.one) word r.passes;
      }

  -- no row of code to word applies to a code below W with room for its word
  word_fits : (code : ℕ) (out : List ℕ) → none_applies (first_rows v x work) ≡ true → code < word_count (graph_of x)
      → length (word_of_code v (graph_of x) code) ≤ length out
      → code_to_word_answer v x code work out ≡ value (length (word_of_code v (graph_of x) code))
  unfolding code_to_word_answer code_to_word_rows bad_code
  word_fits code out h below fits =
      unless-value (code_to_word_rows v x code work out) (length (word_of_code v (graph_of x) code))
      (none_join (first_rows v x work) _ h (passed_none _ (lt-leb _ _ below, (le-ltb _ _ fits, tt))))

  -- nor of word to code to a lexicon word
  pub word_found : (word : List ℕ) → none_applies (first_rows v x work) ≡ true → LexiconWord v (graph_of x) word
      → word_to_code_answer v x word work ≡ value (code_of (graph_of x) (path_of_word v (graph_of x) word))
  unfolding word_to_code_answer word_to_code_rows
  word_found word h w =
      unless-value (word_to_code_rows v x word work) (code_of (graph_of x) (path_of_word v (graph_of x) word))
      (none_join (first_rows v x work) _ h (passed_none _ (there_is (is_none (path_of_word v (graph_of x) word)) refl, tt)))
    where
      there_is : (b : Bool) → is_none (path_of_word v (graph_of x) word) ≡ b
          → is_none (path_of_word v (graph_of x) word) ≡ false
      there_is true e = absurd ((nowhere v x (images_of h) word).0 e w)
      there_is false e = e

  -- and 13 applies to every other
  pub word_missing : (word : List ℕ) → none_applies (first_rows v x work) ≡ true → ¬ LexiconWord v (graph_of x) word
      → word_to_code_answer v x word work ≡ refused NoWord
  unfolding word_to_code_answer word_to_code_rows unless
  word_missing word h n =
      unless-past (first_rows v x work) _ _ h ∙ rw ((nowhere v x (images_of h) word).1 n) refl

pub word_comes_back : WordComesBack
unfolding word_to_code_answer word_to_code_rows code_to_word_out written
word_comes_back v x word work out code e fits =
    let u = value-passed (word_to_code_rows v x word work) (code_of (graph_of x) (path_of_word v (graph_of x) word)) code e in
    let p = none-parts (first_rows v x work) (on NoWord (is_none (path_of_word v (graph_of x) word)) ∷ []) u.0 in
    let images = images_of v x work p.0 in
    let w = is_word v x work word images (none-says _ p.1).0 in
    let T = code_theorems v x images in
    let back : word_of_code v (graph_of x) code ≡ word = rw u.1 at (T.word_back word w) in
    let below : code < word_count (graph_of x) = rw u.1 at (T.code_below word w) in
    let answer : code_to_word_answer v x code work out ≡ value (length word) =
    rw back at (word_fits v x work code out p.0 below (rw back fits)) in
    (answer, rw (answer, back))

pub code_comes_back : CodeComesBack
unfolding code_to_word_answer code_to_word_rows code_to_word_out bad_code written
code_comes_back v x work out code k e =
    let word = word_of_code v (graph_of x) code in
    let own = on Code (bad_code (word_count (graph_of x)) code) ∷ on Output (ltb (length out) (length word)) ∷ [] in
    let u = value-passed (code_to_word_rows v x code work out) (length word) k e in
    let p = none-parts (first_rows v x work) own u.0 in
    let T = code_theorems v x (images_of v x work p.0) in
    let below = leb-false (word_count (graph_of x)) code (none-says own p.1).0 in
    let text : take k (code_to_word_out v x code work out) ≡ word =
    rw (e, ← u.1) (take-append_seam word (drop (length word) out)) in
    rw text (word_found v x work word p.0 (T.word_there code below) ∙ ap value (T.code_back code below))
