-- Tokens stay within bounds. A frame changes a score by at most `frame_limit`, since a move and an emission have 16 bits
-- each. A token's code and the number of paths that go on from its node are together at most W, since a vertex's paths
-- are counted successor by successor. Assumes nothing.
use Prim.Native.Nat.{ℕ, suc, ◌+◌, ◌*◌, ◌^◌, ◌≤◌, ◌<◌}
use mathlib.Core.List.{List}
use native.Mathlib.Omega.{arith}
use lib.IntN.{ℤ, pos, negsuc, ◌+ℤ◌, nat_abs}
use lib.Signed.{mag}
use lib.Dec.{ltb}
use Rattle.endian.specs.Bytes.{i16}
use Rattle.endian.proofs.Booleans.{cond_cases}
use Rattle.endian.proofs.Integers.{size-sum}
use Rattle.endian.proofs.Bytes.{i16-range}
use Rattle.voice.specs.Voice.{symbol_count, symbols_at, loop_score, step_score, link_score, emission, impossible}
use Rattle.graph.specs.Graph.{Graph, sink, path_count, word_count}
use Rattle.graph.proofs.Sound.{Sound}
use Rattle.graph.proofs.Codes.{arc-count}
use Rattle.ranking.specs.Hits.{Hit}
use Rattle.decoder.specs.Score.{frame_limit}
use Rattle.decoder.proofs.Runs.{Run, begin, loop, step, link, Adds, latest}
use Rattle.passing.specs.Tokens.{tokens}
use Rattle.passing.proofs.Order.{◌∈◌, hits_strict}
use Rattle.passing.proofs.Best.{best-from}
use Rattle.passing.proofs.Uncut.{paths, tokens-best}
use Rattle.passing.proofs.Chains.{Chain, first, next}
use Rattle.passing.proofs.Walks.{path_out}

-- ---- scores

i16-size : (a : ℤ) → mag a < 2 ^ 15 → nat_abs a ≤ 32768
i16-size (pos n) h = omega arith
i16-size (negsuc n) h = omega arith

module _ (v : List ℕ) where
  stored : (at : ℕ) → nat_abs (i16 v at) ≤ 32768
  stored at = i16-size (i16 v at) (i16-range v at)

  emission-size : (s k : ℕ) → nat_abs (emission v s k) ≤ 32768
  unfolding emission impossible
  emission-size s k =
      cond_cases (λ a. nat_abs a ≤ 32768) (ltb k (symbol_count v)) (i16 v (symbols_at v + 1 + 2 * (s * symbol_count v + k))) (negsuc 32767)
      (λ t. stored _)
      (λ t. omega arith)

  module _ (frames : List ℕ) where
    adds-size : {m e b a : ℤ} → Adds m e b a → nat_abs m ≤ 32768 → nat_abs e ≤ 32768 → nat_abs a ≤ nat_abs b + frame_limit
    adds-size {m} {e} {b} A h k = rw A.total (omega (arith, size-sum b (m +ℤ e), size-sum m e))

    run-size : {t s : ℕ} {ls : List ℕ} {a : ℤ} → Run v frames t ls s a → nat_abs a ≤ frame_limit * suc t
    unfolding loop_score step_score link_score
    run-size (begin {a} h e) = let k : nat_abs a ≤ 32768 = rw e (emission-size _ _) in omega arith
    run-size (loop r A) = omega (arith, run-size r, adds-size A (stored _) (emission-size _ _))
    run-size (step r A) = omega (arith, run-size r, adds-size A (stored _) (emission-size _ _))
    run-size (link r h A) = omega (arith, run-size r, adds-size A (stored _) (emission-size _ _))

-- ---- codes

module _ {g : Graph} (ok : Sound g) where
  chain-count : {us : List ℕ} {c : ℕ} → Chain g us c → c + path_count g (latest us) ≤ word_count g
  unfolding word_count sink
  chain-count (first m e) = omega (arith, arc-count ok (omega arith) m)
  chain-count (next m h k e) = omega (arith, arc-count ok h m, chain-count k)

pub record Bounded (g : Graph) (t u : ℕ) (h : Hit) : Type 0 where
  pub score : nat_abs h.score ≤ frame_limit * suc t
  pub code : h.code + path_count g u ≤ word_count g

pub token_bounded : (v : List ℕ) {g : Graph} → Sound g → (frames : List ℕ) (n t u s : ℕ) {h : Hit} → h ∈ tokens v g frames n t u s → Bounded g t u h
token_bounded v {g} ok frames n t u s {h} i =
    let R = path_out v g frames t u s h (best-from hits_strict n (paths v g frames t u s) h (rw (tokens-best v g frames n t u s) at i)) in
    record { score = run-size v frames R.run; code = chain-count ok R.chain }
