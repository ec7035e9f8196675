-- What building begins with, and where it ends early: marked words can be built from, empty tables are a register of no
-- nodes, and over 400 nodes are 18. Assumes nothing.
use Prim.Native.Nat.{ℕ}
use mathlib.Core.Path.{refl, subst}
use mathlib.Core.List.{List, Memᴰ as In}
use native.Mathlib.Omega.{arith}
use lib.ListN.{replicate, length-replicate}
use Rattle.endian.proofs.Lists.{get_d_copies}
use Rattle.call.specs.declared.Refusal.TheVariants.{CanonicalImage}
use Rattle.call.specs.Table.{Answer, refused, unless}
use Rattle.call.specs.Buffers.{written}
use Rattle.canonical.specs.Canonical.{outside_rows}
use Rattle.sorting.specs.Slots.{words_from}
use Rattle.registering.specs.declared.Row.{Row}
use Rattle.registering.specs.Register.{Register, Chained, no_row, last_alike, Full}
use Rattle.registering.specs.Marking.{WordsMarked}
use Rattle.registering.specs.Building.{Given, Buildable, build_rows, ImageAnswered}
use Rattle.registering.proofs.Limits.{nodes-over}

module _ {t u : List ℕ} {n : ℕ} (m : WordsMarked t n u) where
  pub marked-buildable : {v : List ℕ} → Given v t n → Buildable v u n
  marked-buildable g = record {
    words = m.words;
    voice = g.voice;
    letters = λ w i. g.letters w (subst (In w) m.same i);
  }

  pub marked-answered : {v out out' : List ℕ} {answer : Answer ℕ} → ImageAnswered v (words_from u 0 n) answer out out'
      → ImageAnswered v (words_from t 0 n) answer out out'
  marked-answered {v} {out} {out'} {answer} a = subst (λ ws. ImageAnswered v ws answer out out') m.same a

pub too_many : {out : List ℕ} (v u : List ℕ) (n : ℕ) → Full u n
    → ImageAnswered v (words_from u 0 n) (refused CanonicalImage) out out
unfolding build_rows outside_rows unless written
too_many v u n h = record { says = rw (nodes-over v (words_from u 0 n) h); leaves = refl }

pub no_register : (t : List ℕ) (n : ℕ) → Register t n (replicate 401 no_row) 0
no_register t n = record {
  few = omega arith;
  long = length-replicate 401 no_row;
  groups = λ r h. absurd (omega arith);
}

pub no-chains : (t : List ℕ) (rows : List Row) → Chained t rows (replicate 256 0) 0
unfolding last_alike
no-chains t rows = record {
  long = length-replicate {A = ℕ} 256 0;
  heads = λ a h. get_d_copies 256 a 0;
  chains = λ r h. absurd (omega arith);
}
