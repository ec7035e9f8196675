-- The reserve and the whole image: the first section that is not good decides, and after the last the length. Assumes nothing.
use mathlib.Core.Path.{◌≡◌, sym, ◌∙◌}
use mathlib.Core.Bool.{true, cond}
use mathlib.Core.List.{List, [], ◌++◌, append_assoc}
use Prim.Native.Nat.{ℕ, ◌+◌}
use native.Mathlib.Omega.{arith}
use lib.ListN.{length}
use lib.Dec.{eqb}
use borrow.Author.Tests.{eqb-true, eq-eqb, ne_eqb, le-leb}
use Rattle.endian.specs.Lists.{within}
use Rattle.endian.specs.Bytes.{u16}
use Rattle.endian.proofs.Ranges.{inside}
use Rattle.voice.specs.declared.Fault.{Fault}
use Rattle.voice.specs.Fields.{well_formed, wrong_length, verdict, fault_verdict}
use Rattle.std.specs.Prelude.{Ok, Err}
use Rattle.lexicon.specs.Lexicon.{node_count, sink_of, reserve_at, node_fields, arc_fields, lexicon_fields, lexicon_verdict}
use Rattle.lexicon.specs.Sections.{number_at, FieldsBad, NodesGood, nodes_fields, ArcsGood, reserve_fields}
use Rattle.lexicon.proofs.Sections.Numbers.{number-says, number_fails}

-- ---- reserve

module _ (x : List ℕ) (at : ℕ) where
  zero-range : (n : ℕ) → eqb n 0 ≡ true → within 0 0 n ≡ true
  zero-range n h = inside 0 0 n (omega arith) (omega (arith, eqb-true n 0 h))

  pub reserve_fails : {v : Fault} → number_at x at 0 0 ≡ Err v → fault_verdict v ≡ verdict (length x) at (reserve_fields x at)
  unfolding reserve_fields
  reserve_fails e = sym (number_fails x at 0 0 e (eqb (u16 x at) 0) (zero-range (u16 x at)) at [])

  -- a reserve that is there: the length decides
  reserve_good : {n : ℕ} → number_at x at 0 0 ≡ Ok n → verdict (length x) at (reserve_fields x at) ≡ cond (eqb (at + 2) (length x)) well_formed wrong_length
  unfolding reserve_fields verdict
  reserve_good {n} e =
      let k = number-says x at 0 0 e in
      rw (le-leb (at + 2) (length x) k.there, eq-eqb (u16 x at) 0 (omega (arith, k.value, k.most)))

  pub reserve_last : {n : ℕ} → number_at x at 0 0 ≡ Ok n → at + 2 ≡ length x → well_formed ≡ verdict (length x) at (reserve_fields x at)
  reserve_last e h = sym (reserve_good e ∙ rw (eq-eqb (at + 2) (length x) h))

  pub reserve_longer : {n : ℕ} → number_at x at 0 0 ≡ Ok n → (at + 2 ≡ length x → ⊥) → wrong_length ≡ verdict (length x) at (reserve_fields x at)
  reserve_longer e h = sym (reserve_good e ∙ rw (ne_eqb (at + 2) (length x) h))

-- ---- the image

module _ (L : ℕ) (x : List ℕ) where
  sections : lexicon_fields L x ≡ nodes_fields L x ++ (arc_fields x 0 0 (sink_of x) ++ reserve_fields x (reserve_at x))
  unfolding lexicon_fields nodes_fields reserve_fields
  sections = rw (append_assoc (node_fields L x))

  pub nodes_decide : (v : Fault) → FieldsBad x 0 (nodes_fields L x) v → fault_verdict v ≡ lexicon_verdict L x
  unfolding lexicon_verdict
  nodes_decide v f = sym (rw sections (f _))

  module _ (n : ℕ) (g : NodesGood L x n) where
    after-nodes : lexicon_verdict L x ≡ verdict (length x) (2 + node_count x) (arc_fields x 0 0 (sink_of x) ++ reserve_fields x (reserve_at x))
    unfolding lexicon_verdict
    after-nodes = rw sections (g.passes _ ∙ rw g.number)

    pub arcs_decide : (v : Fault) → FieldsBad x (2 + node_count x) (arc_fields x 0 0 (sink_of x)) v
        → fault_verdict v ≡ lexicon_verdict L x
    arcs_decide v f = sym (after-nodes ∙ f _)

    pub reserve_decides : (at : ℕ) → ArcsGood x at → lexicon_verdict L x ≡ verdict (length x) at (reserve_fields x at)
    reserve_decides at a = after-nodes ∙ a.passes _ ∙ rw a.place
