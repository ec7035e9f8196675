-- What a search answers is what word to code answers where checking passes: the first way in code order that spells the
-- word is the first full path that does, and where there is none the bytes spell no word. Assumes nothing.
use Prim.Native.Nat.{ℕ, ◌+◌, ◌*◌, ◌≤◌, ◌<◌}
use mathlib.Core.Path.{◌≡◌, refl, sym, ap, ◌∙◌}
use mathlib.Core.Bool.{Bool, true, false}
use mathlib.Core.List.{List, [], ◌∷◌}
use Rattle.std.proofs.Common.{Option, None, Some, ok_or}
use native.Mathlib.Omega.{arith}
use native.Mathlib.Decide.{dec_lt}
use lib.ListN.{length, replicate, length-replicate}
use borrow.Author.Tests.{lt-ltb, le-ltb}
use Rattle.endian.specs.Bytes.{Bytes, u16}
use Rattle.endian.specs.Lists.{is_none}
use Rattle.endian.specs.Rows.{number_at}
use Rattle.endian.proofs.Lists.{get_d_copies}
use Rattle.call.specs.declared.Refusal.{Refusal}
use Rattle.call.specs.declared.Refusal.TheVariants.{NoWord}
use Rattle.call.specs.Table.{Answer, value, refused, answer_of, on, unless}
use Rattle.call.proofs.Table.{unless-past, refused-before}
use Rattle.lexicon.specs.Lexicon.{sink_of}
use Rattle.graph.specs.Graph.{Graph, graph_of, sink, FullPath, from_root, word_count}
use Rattle.graph.specs.Words.{word_of_path, LexiconWord, path_of_word, code_of}
use Rattle.graph.specs.Checking.{Accepted, first_rows, check_answer}
use Rattle.graph.proofs.Paths.{full-paths}
use Rattle.graph.proofs.Accepted.{accepted, sound-images, Passed}
use Rattle.checking.specs.declared.Vertex.{Vertex}
use Rattle.checking.proofs.Arcs.{sound_of}
use Rattle.codes.specs.Lookup.{word_to_code_rows, word_to_code_answer}
use Rattle.codes.specs.Theorems.{CodeTheorems}
use Rattle.codes.proofs.Theorems.{code_theorems}
use Rattle.codes.proofs.Words.{word-root, path_short}
use Rattle.lookup.specs.Seeking.{code_after, code_answer, sought_answer, prints_column, Prints}
use Rattle.lookup.specs.Seeking.{Printed, Seekable}
use Rattle.lookup.specs.Marks.{ends, Marks}
use Rattle.lookup.proofs.Least.{first_code_lem}
use Rattle.lookup.proofs.Ways.{WayAfter, Printing, found_way, no_way, after-within}

-- ---- before a search no pair is marked

zero_number : (n p : ℕ) → number_at (replicate n 0) p ≡ 0
unfolding number_at u16
zero_number n p = rw (get_d_copies {A = ℕ} n (2 * p) 0, get_d_copies {A = ℕ} n (2 * p + 1) 0) refl

module _ {m : List ℕ} (e : m ≡ replicate 26534 0) where
  pub unmarked : (p : ℕ) → number_at m p ≡ 0
  unmarked p = ap (λ (b : List ℕ). number_at b p) e ∙ zero_number 26534 p

  pub marks-start : (prints : List ℕ) (g : Graph) (word : List ℕ) → Marks prints g word m 13267
  marks-start prints g word = record {
    long = ap length e ∙ length-replicate {A = ℕ} 26534 0;
    chained = record { pairs = []; chain = ends refl; all = λ {p = p} h d. absurd (d (unmarked p)) };
    tells = λ {i} {u} a b d. absurd (d (unmarked _));
  }

-- ---- a word that is too long, and others

module _ (prints : List ℕ) (g : Graph) (word : List ℕ) where
  pub sought_long : 32 < length word → refused NoWord ≡ sought_answer prints g word
  unfolding sought_answer
  sought_long h = rw (lt-ltb 32 (length word) h) refl

  pub sought_short : length word ≤ 32 → code_answer (code_after prints g 0 word) ≡ sought_answer prints g word
  unfolding sought_answer
  sought_short h = rw (le-ltb 32 (length word) h) refl

-- a code that is found, or else 13
pub found_or : (o : Option ℕ) → answer_of (ok_or o NoWord) ≡ code_answer o
unfolding code_answer
found_or None = refl
found_or (Some c) = refl

-- a code counted from the root is no more than W
pub root_few : {x : List ℕ} {vertices : List Vertex} → Seekable x vertices → (word : List ℕ) → Bytes word → (c : ℕ)
    → code_after (prints_column vertices) (graph_of x) 0 word ≡ Some c → c ≤ 1048576
unfolding sink sink_of
root_few {x} {vertices} t word low c e =
    let formed = t.countable.tabled.located.formed in
    omega (
      arith,
      t.countable.few {u = 0} (omega arith),
      after-within (sound_of formed) (prints_column vertices) t.end word low {u = 0} (omega arith) e,
    )

-- ---- as word to code answers

pub seekable : {v x : List ℕ} {vertices : List Vertex} → Printed v x vertices → Seekable x vertices
seekable p = record { countable = p.countable; end = p.prints.end }

module _ {v x : List ℕ} (h : Accepted v x) {prints : List ℕ} (p : Prints v x prints) (word : List ℕ)
    (low : Bytes word) where
  abbrev g : Graph
  g = graph_of x

  known : CodeTheorems v g
  known = code_theorems v x h

  printing : Printing v g prints
  unfolding sink sink_of
  printing = record {
    sound = sound-images (accepted h);
    end = p.end;
    node = λ l k. p.node l (omega arith);
    low = λ l k. p.low l (omega arith);
  }

  abbrev looked : Answer ℕ
  looked = unless (on NoWord (is_none (path_of_word v g word)) ∷ []) (code_of g (path_of_word v g word))

  no_word : ¬ LexiconWord v g word → looked ≡ refused NoWord
  unfolding unless
  no_word n = rw ((known.no_word word).1 n) refl

  found : {c : ℕ} → WayAfter v g 0 word c → looked ≡ value c
  unfolding unless
  found {c} w = go (is_none (path_of_word v g word)) refl
    where
      spelled : LexiconWord v g word
      spelled = record { path = 0 ∷ w.path; full = from_root w.arcs; spells = word-root v g w.path ∙ w.spells }

      code : code_of g (path_of_word v g word) ≡ c
      code = first_code_lem printing.sound v word w.path w.arcs w.spells w.least ∙ sym w.code

      go : (b : Bool) → is_none (path_of_word v g word) ≡ b → looked ≡ value c
      go true q = absurd ((known.no_word word).0 q spelled)
      go false q = rw (q, code) refl

  pub looked_sought : looked ≡ sought_answer prints g word
  unfolding code_answer sink
  looked_sought = elim (dec_lt 32 (length word)) [
    | yes l ↦ no_word (λ w.
        let s = path_short (accepted h) ((full-paths printing.sound).1 w.full) in
        let e = ap length w.spells in omega arith) ∙ sought_long prints g word l
    | no n ↦ go (code_after prints g 0 word) refl ∙ sought_short prints g word (omega arith)
  ]
    where
      off : code_after prints g 0 word ≡ None → ¬ LexiconWord v g word
      off e w = full w.full w.spells
        where
          full : {q : List ℕ} → FullPath g q → ¬ (word_of_path v g q ≡ word)
          full (from_root {p = q} a) s = no_way printing word low (omega arith) e a (sym (word-root v g q) ∙ s)

      go : (o : Option ℕ) → code_after prints g 0 word ≡ o → looked ≡ code_answer (code_after prints g 0 word)
      go None e = no_word (off e) ∙ rw e refl
      go (Some c) e = found (found_way printing word low (omega arith) e) ∙ rw e refl

-- ---- after checking

module _ (v x work word : List ℕ) where
  pub word-refused : {r : Refusal} → check_answer v x work ≡ refused r → word_to_code_answer v x word work ≡ refused r
  unfolding check_answer word_to_code_answer word_to_code_rows
  word-refused e = refused-before (first_rows v x work) _ (word_count (graph_of x)) _ e

  pub word_sought : {W : ℕ} → Passed v x work W → {prints : List ℕ} → Prints v x prints → Bytes word
      → word_to_code_answer v x word work ≡ sought_answer prints (graph_of x) word
  unfolding word_to_code_answer word_to_code_rows
  word_sought p f low =
      unless-past (first_rows v x work) _ _ p.rows ∙ looked_sought {v = v} {x = x} p.images f word low
