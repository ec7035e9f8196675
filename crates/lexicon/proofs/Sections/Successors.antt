-- One successor: the code's test allows what the definition allows. The table has the mark of a vertex exactly where its list has named one,
-- since it held no such mark before. Assumes nothing.
use mathlib.Core.Path.{◌≡◌, refl, sym, ap, ◌∙◌}
use mathlib.Core.Bool.{Bool, true, false, cond, not, ◌&&◌, ◌||◌, true≢false}
use mathlib.Core.List.{List, [], ◌∷◌}
use Prim.Native.Nat.{ℕ, suc, ◌+◌, ◌≤◌, ◌<◌}
use native.Mathlib.Omega.{arith}
use native.Mathlib.Decide.{ℕ_discrete}
use lib.ListN.{length, get_or, set, replicate, length-set}
use lib.Seq.{get_or-set_same, get_or-set_other}
use lib.Dec.{eqb, leb, ltb}
use borrow.Author.Tests.{eq-eqb, ne_eqb, lt-ltb, le-leb}
use Rattle.endian.specs.Lists.{within, has}
use Rattle.endian.specs.Bytes.{u16}
use Rattle.endian.proofs.Ranges.{inside}
use Rattle.endian.proofs.Lists.{get_d_copies}
use Rattle.voice.specs.declared.Fault.{Fault}
use Rattle.voice.specs.declared.Fault.TheVariants.{OutOfRange}
use Rattle.voice.specs.Fields.{Field, field, verdict, fault_verdict}
use Rattle.voice.proofs.Fields.{step-out}
use Rattle.std.specs.Prelude.{Ok, Err}
use Rattle.lexicon.specs.Lexicon.{node_count, sink_of, allowed}
use Rattle.lexicon.specs.Sections.{Found, number_at, highest_of, unmarked, arc_at, Table}
use Rattle.lexicon.proofs.WellFormed.{GoodArc, allowed-says}
use Rattle.lexicon.proofs.Sections.Numbers.{Number, number-says, number_fails}

-- what the list of u has named so far has u's mark, and nothing else has
pub record Marks (seen : List ℕ) (u : ℕ) (earlier : List ℕ) : Type 0 where
  pub table : Table (u + 1) seen
  pub marked : (s : ℕ) → eqb (get_or seen s 0) (u + 1) ≡ has s earlier

-- a table of zeros has no mark
pub blank : Table 0 (replicate 402 0)
blank = record { long = refl; low = λ s. omega (arith, get_d_copies {A = ℕ} 402 s 0) }

pub marks-none : (seen : List ℕ) (u : ℕ) → Table u seen → Marks seen u []
unfolding has
marks-none seen u t = record {
  table = record { long = t.long; low = λ s. omega (arith, t.low s) };
  marked = λ s. ne_eqb (get_or seen s 0) (u + 1) (λ e. omega (arith, t.low s));
}

pub marks-more : (seen : List ℕ) (u : ℕ) (earlier : List ℕ) (s : ℕ) → Marks seen u earlier → s < 402 → Marks (set seen s (u + 1)) u (s ∷ earlier)
unfolding has
marks-more seen u earlier s m h =
    let k : s < length seen = omega (arith, m.table.long) in
    record {
      table = record { long = length-set seen s (u + 1) ∙ m.table.long; low = λ j. low k j (ℕ_discrete j s) };
      marked = λ j. marked k j (ℕ_discrete j s);
    }
  where
    low : s < length seen → (j : ℕ) → Dec (j ≡ s) → get_or (set seen s (u + 1)) j 0 ≤ u + 1
    low k j (yes e) = rw (e, get_or-set_same seen s (u + 1) 0) (omega arith)
    low k j (no d) = rw (get_or-set_other seen s j (u + 1) 0 d) (m.table.low j)

    marked : s < length seen → (j : ℕ) → Dec (j ≡ s) → eqb (get_or (set seen s (u + 1)) j 0) (u + 1) ≡ eqb j s || has j earlier
    marked k j (yes e) = rw (e, get_or-set_same seen s (u + 1) 0, eq-eqb s s refl, eq-eqb (u + 1) (u + 1) refl)
    marked k j (no d) = rw (get_or-set_other seen s j (u + 1) 0 d, ne_eqb j s d) (m.marked j)

-- what is allowed is in the range that the code tests, and what is in it and not named yet is allowed
module _ (x : List ℕ) (u : ℕ) (earlier : List ℕ) (s : ℕ) where
  allowed-range : allowed x u earlier s ≡ true → within (u + 1) (highest_of u (node_count x)) s ≡ true
  unfolding highest_of sink_of
  allowed-range h = go (allowed-says x u earlier s h).0 (ℕ_discrete u 0)
    where
      go : GoodArc x u s → Dec (u ≡ 0) → within (u + 1) (cond (eqb u 0) (node_count x) (node_count x + 1)) s ≡ true
      go a (yes e) =
          let d : s ≡ suc (node_count x) → ⊥ = a.worded e in
          rw (eq-eqb u 0 e) (inside (u + 1) (node_count x) s (omega arith) (omega arith))
      go a (no d) = rw (ne_eqb u 0 d) (inside (u + 1) (node_count x + 1) s (omega arith) (omega arith))

  allowed-new : u + 1 ≤ s → s ≤ highest_of u (node_count x) → has s earlier ≡ false → allowed x u earlier s ≡ true
  unfolding allowed highest_of sink_of
  allowed-new h k new = go (ℕ_discrete u 0) k
    where
      go : Dec (u ≡ 0) → s ≤ cond (eqb u 0) (node_count x) (node_count x + 1)
          → ltb u s && leb s (suc (node_count x)) && not (has s earlier) && (ltb 0 u || not (eqb s (suc (node_count x)))) ≡ true
      go (yes e) k =
          let m : s ≤ node_count x = rw (eq-eqb u 0 e) at k in
          rw (lt-ltb u s (omega arith), le-leb s (suc (node_count x)) (omega arith), new, ne_eqb s (suc (node_count x)) (λ q. omega arith), e)
      go (no d) k =
          let m : s ≤ node_count x + 1 = rw (ne_eqb u 0 d) at k in
          rw (lt-ltb u s (omega arith), le-leb s (suc (node_count x)) (omega arith), new, lt-ltb 0 u (omega arith))

pub highest-most : (u n : ℕ) → highest_of u n ≤ n + 1
unfolding highest_of
highest-most u n = go (eqb u 0)
  where
    go : (b : Bool) → cond b n (n + 1) ≤ n + 1
    go true = omega arith
    go false = omega arith

pub arc-number : (x : List ℕ) (at u n : ℕ) (seen : List ℕ) (f : Found) → number_at x at (u + 1) (highest_of u n) ≡ f → arc_at x at u n seen ≡ unmarked seen (u + 1) f
unfolding arc_at
arc-number x at u n seen f e = rw e

module _ (x : List ℕ) (at u : ℕ) (seen earlier : List ℕ) (m : Marks seen u earlier) where
  -- a successor that is there and allowed
  pub record SuccessorRead (s : ℕ) : Type 0 where
    pub number : Number x at (u + 1) (highest_of u (node_count x)) s
    pub new : allowed x u earlier (u16 x at) ≡ true

  pub arc_says : {s : ℕ} → arc_at x at u (node_count x) seen ≡ Ok s → SuccessorRead s
  unfolding arc_at
  arc_says {s} e = go (number_at x at (u + 1) (highest_of u (node_count x))) refl e
    where
      go : (f : Found) → number_at x at (u + 1) (highest_of u (node_count x)) ≡ f → unmarked seen (u + 1) f ≡ Ok s
          → SuccessorRead s
      go (Err v) q e = let z : ◌≡◌ {A = ℕ} 0 1 = cc in absurd (omega arith)
      go (Ok t) q e = marked (eqb (get_or seen t 0) (u + 1)) refl e
        where
          marked : (b : Bool) → eqb (get_or seen t 0) (u + 1) ≡ b → cond b (Err OutOfRange) (Ok t) ≡ Ok s
              → SuccessorRead s
          marked true k e = let z : ◌≡◌ {A = ℕ} 0 1 = cc in absurd (omega arith)
          marked false k e =
              let same : t ≡ s = cc in
              let n = number-says x at (u + 1) (highest_of u (node_count x)) q in
              rw (← same) (record {
                number = n;
                new = rw (← n.value) (allowed-new x u earlier t n.least n.most (sym (m.marked t) ∙ k));
              })

  pub arc_fails : {v : Fault} → arc_at x at u (node_count x) seen ≡ Err v
      → (done : ℕ) (later : List Field) → verdict (length x) done (field at 2 (allowed x u earlier (u16 x at)) ∷ later) ≡ fault_verdict v
  unfolding arc_at
  arc_fails {v} e done later = go (number_at x at (u + 1) (highest_of u (node_count x))) refl e
    where
      this : Field
      this = field at 2 (allowed x u earlier (u16 x at))

      go : (f : Found) → number_at x at (u + 1) (highest_of u (node_count x)) ≡ f → unmarked seen (u + 1) f ≡ Err v → verdict (length x) done (this ∷ later) ≡ fault_verdict v
      go (Err w) q e =
          let same : w ≡ v = cc in
          number_fails x at (u + 1) (highest_of u (node_count x)) q (allowed x u earlier (u16 x at)) (allowed-range x u earlier (u16 x at)) done later
          ∙ ap fault_verdict same
      go (Ok t) q e = marked (eqb (get_or seen t 0) (u + 1)) refl e
        where
          refused : has t earlier ≡ true → (b : Bool) → allowed x u earlier t ≡ b → b ≡ false
          refused h true a = absurd (true≢false (sym h ∙ (allowed-says x u earlier t a).1))
          refused h false a = refl

          marked : (b : Bool) → eqb (get_or seen t 0) (u + 1) ≡ b → cond b (Err OutOfRange) (Ok t) ≡ Err v → verdict (length x) done (this ∷ later) ≡ fault_verdict v
          marked true k e =
              let same : OutOfRange ≡ v = cc in
              let n = number-says x at (u + 1) (highest_of u (node_count x)) q in
              step-out done this later n.there (rw (← n.value) (refused (sym (m.marked t) ∙ k) _ refl)) ∙ ap fault_verdict same
          marked false k e = let z : ◌≡◌ {A = ℕ} 0 1 = cc in absurd (omega arith)
