-- What the calls answer that a list of hits is printed with: none of them refuses there. Assumes nothing.
use Prim.Native.Nat.{ℕ, ◌≤◌, ◌<◌}
use mathlib.Core.Path.{◌≡◌, ap, ◌∙◌}
use mathlib.Core.Bool.{true}
use mathlib.Core.List.{List, [], ◌∷◌, ◌++◌}
use native.Mathlib.Omega.{arith}
use borrow.Author.Tests.{lt-leb, le-leb, le-ltb}
use lib.Dec.{ltb}
use lib.IntN.{ℤ}
use lib.ListN.{length, take, length-take}
use lib.Seq.{take-append_seam}
use Rattle.call.specs.declared.Refusal.{Refusal}
use Rattle.call.specs.declared.Refusal.TheVariants.{Code, Output}
use Rattle.call.specs.Table.{value, refused, on, none_applies, unless}
use Rattle.call.specs.Limits.{work_space, bad_frame_count, bad_code}
use Rattle.call.specs.Buffers.{space_rows, written}
use Rattle.call.proofs.Table.{none_join, passed_none, unless-value, same-value}
use Rattle.graph.specs.Graph.{graph_of, word_count}
use Rattle.graph.specs.Words.{word_of_code}
use Rattle.graph.specs.Checking.{image_rows, first_rows, check_answer}
use Rattle.graph.proofs.Accepted.{accepted}
use Rattle.ranking.specs.Mean.{mean, mean_answer}
use Rattle.ranking.specs.Hits.{hit}
use Rattle.codes.specs.Lookup.{code_to_word_rows, code_to_word_answer, code_to_word_out}
use Rattle.codes.proofs.Words.{word_short}
use Rattle.report.specs.Lines.{AcceptedArguments}
use Rattle.report.specs.Text.{TextPut}
use Rattle.report.specs.Report.{decimal, signed_decimal, hit_line}

pub no-refusal : {A : Type 0} {a : A} {r : Refusal} → value a ≡ refused r → ⊥
no-refusal e = let z : ◌≡◌ {A = ℕ} 0 1 = cc in omega arith

module _ {v x : List ℕ} {T : ℕ} {work : List ℕ} (r : AcceptedArguments v x T work) where
  first-passed : none_applies (first_rows v x work) ≡ true
  unfolding first_rows space_rows
  first-passed = none_join (space_rows work) (image_rows v x) (passed_none (space_rows work) (le-ltb (length work) work_space r.space, tt)) r.images

  pub check-answer : check_answer v x work ≡ value (word_count (graph_of x))
  unfolding check_answer
  check-answer = unless-value (first_rows v x work) (word_count (graph_of x)) first-passed

  pub mean-answer : (score : ℤ) → mean_answer score T ≡ value (mean score T)
  unfolding mean_answer bad_frame_count unless
  mean-answer score = rw (le-leb 1 T r.some_frames, le-leb T 1000 r.few_frames)

  module _ (code : ℕ) (out : List ℕ) (below : code < word_count (graph_of x)) (long : length out ≡ 32) where
    pub word-answer : code_to_word_answer v x code work out ≡ value (length (word_of_code v (graph_of x) code))
    unfolding code_to_word_answer code_to_word_rows bad_code
    word-answer =
        let own = on Code (bad_code (word_count (graph_of x)) code) ∷ on Output (ltb (length out) (length (word_of_code v (graph_of x) code))) ∷ [] in
        let short = word_short (accepted r.images) below in
        let passed = passed_none own (lt-leb (word_count (graph_of x)) code below, (le-ltb (length out) (length (word_of_code v (graph_of x) code)) (omega arith), tt)) in
        unless-value (code_to_word_rows v x code work out) (length (word_of_code v (graph_of x) code))
        (none_join (first_rows v x work) own first-passed passed)

    -- the bytes written, from 0 on, are the word
    pub word-is : {size : ℕ} {out' : List ℕ} → value size ≡ code_to_word_answer v x code work out → out' ≡ code_to_word_out v x code work out
        → take size out' ≡ word_of_code v (graph_of x) code
    unfolding code_to_word_out written
    word-is {size} {out'} e f =
        let s : size ≡ length (word_of_code v (graph_of x) code) = same-value (e ∙ word-answer) in
        rw (f, word-answer, s) (take-append_seam (word_of_code v (graph_of x) code) _)

-- a part of that length is there
pub part-there : (n : ℕ) (l w : List ℕ) → take n l ≡ w → n ≡ length w → n ≤ length l
part-there n l w e s = omega (arith, length-take n l, ap length e)

-- the line, with what the code has found for its parts
pub line-is : (v x : List ℕ) (T : ℕ) (score : ℤ) (code : ℕ) {s m : ℤ} {w : List ℕ} → s ≡ score → m ≡ mean score T → w ≡ word_of_code v (graph_of x) code
    → decimal code ++ 32 ∷ signed_decimal s ++ 32 ∷ signed_decimal m ++ 32 ∷ w ++ (10 ∷ []) ≡ hit_line v (graph_of x) T (hit score code)
unfolding hit_line
line-is v x T score code e f g = rw (e, f, g)

pub put_same : {a b : List ℕ} {at e : ℕ} {o o' : List ℕ} → a ≡ b → TextPut a at o o' e → TextPut b at o o' e
put_same s p = rw s at p
