-- The search through the chain of a letter: it passes every node of the letter, and nodes of other letters are not the
-- one sought, so that all places from the one reached on are another node's. Assumes nothing.
use Prim.Native.Nat.{ℕ, zero, suc, ◌+◌, ◌*◌, ◌-◌, ◌≤◌, ◌<◌}
use mathlib.Core.Path.{◌≡◌, refl, sym, ap, ◌∙◌}
use mathlib.Core.Bool.{Bool, true, false}
use mathlib.Core.List.{List}
use native.Mathlib.Decide.{ℕ_discrete, dec_lt}
use native.Mathlib.Omega.{arith}
use lib.ListN.{get_or}
use borrow.Author.Tests.{eq-eqb, ne_eqb}
use Rattle.std.specs.Prelude.{Some, None}
use Rattle.canonical.specs.Nodes.{Node, same_node}
use Rattle.canonical.proofs.Nodes.{node-eq}
use Rattle.registering.specs.declared.Row.{Row}
use Rattle.registering.specs.Register.{node_at, node_in, chain_of, no_row, last_alike, Chained}
use Rattle.registering.specs.Finding.{Found, there, missing}

-- ---- the last node of a letter

-- p is the place, from 1, of the last node with letter a among the first k, or 0
pub record Last (t : List ℕ) (rows : List Row) (a k p : ℕ) : Type 0 where
  pub inside : p ≤ k
  pub letter : 1 ≤ p → (node_in t rows (p - 1)).letter ≡ a
  pub others : (r : ℕ) → p ≤ r → r < k → ¬ ((node_in t rows r).letter ≡ a)

pub last-alike : (t : List ℕ) (rows : List Row) (a k : ℕ) → Last t rows a k (last_alike t rows a k)
unfolding last_alike
last-alike t rows a zero = record {
  inside = omega arith;
  letter = λ h. absurd (omega arith);
  others = λ r h k. absurd (omega arith);
}
last-alike t rows a (suc k) = go (ℕ_discrete a (node_in t rows k).letter) (last-alike t rows a k)
  where
    go : Dec (a ≡ (node_in t rows k).letter) → Last t rows a k (last_alike t rows a k)
        → Last t rows a (suc k) (last_alike t rows a (suc k))
    go (yes e) l = rw (eq-eqb a (node_in t rows k).letter e) (record {
      inside = omega arith;
      letter = λ h. let f : suc k - 1 ≡ k = omega arith in ap (λ r. (node_in t rows r).letter) f ∙ sym e;
      others = λ r h q. absurd (omega arith);
    })
    go (no n) l = rw (ne_eqb a (node_in t rows k).letter n) (record {
      inside = omega (arith, l.inside);
      letter = l.letter;
      others = λ r h q. elim (ℕ_discrete r k) [
        | yes e ↦ λ f. n (sym f ∙ ap (λ s. (node_in t rows s).letter) e)
        | no e ↦ l.others r h (omega arith)
      ];
    })

-- it looks at the first k rows only
pub last-kept : (t : List ℕ) (rows more : List Row) (a k : ℕ)
    → ((r : ℕ) → r < k → get_or more r no_row ≡ get_or rows r no_row)
    → last_alike t more a k ≡ last_alike t rows a k
unfolding last_alike
last-kept t rows more a zero h = refl
last-kept t rows more a (suc k) h = rw (h k (omega arith), last-kept t rows more a k (λ r q. h r (omega arith)))

-- ---- the search

pub node-letter : (t : List ℕ) (i m d : ℕ) → get_or t (33 * i + d) 0 ≡ (node_at t i m d).letter
unfolding node_at
node-letter t i m d = refl

-- another letter makes another node
pub letter-apart : (m n : Node) → ¬ (m.letter ≡ n.letter) → same_node m n ≡ false
unfolding same_node
letter-apart m n k = rw (ne_eqb m.letter n.letter k)

-- the places from p on are not the node's, and the one before them has its letter
pub record Passed (t : List ℕ) (rows : List Row) (count : ℕ) (a : Node) (p : ℕ) : Type 0 where
  pub inside : p ≤ count
  pub letter : 1 ≤ p → (node_in t rows (p - 1)).letter ≡ a.letter
  pub others : (r : ℕ) → p ≤ r → r < count → same_node (node_in t rows r) a ≡ false

module _ {t : List ℕ} {rows : List Row} {chains : List ℕ} {count : ℕ} (c : Chained t rows chains count)
    (a : Node) where
  pub passed_start : (b : ℕ) → b ≡ a.letter → b < 256 → Passed t rows count a (get_or chains b 0)
  passed_start b e h =
      let l = last-alike t rows b count in
      rw (c.heads b h) (record {
        inside = l.inside;
        letter = λ q. l.letter q ∙ e;
        others = λ r p q. letter-apart (node_in t rows r) a (λ u. l.others r p q (u ∙ sym e));
      })

  module _ {p r : ℕ} (s : Passed t rows count a p) (h : (1 ≤ p) × (r ≡ p - 1)) where
    pub passed_letter : (node_in t rows r).letter ≡ a.letter
    passed_letter = ap (λ k. (node_in t rows k).letter) h.1 ∙ s.letter h.0

    -- by the test of the node before p
    pub passed-next : {b : Bool} → b ≡ same_node (node_in t rows r) a → b ≡ false
        → Passed t rows count a (chain_of (get_or rows r no_row))
    passed-next test n =
        let l = last-alike t rows (node_in t rows r).letter r in
        let i = s.inside in
        rw (c.chains r (omega arith)) (record {
          inside = omega (arith, l.inside);
          letter = λ q. l.letter q ∙ passed_letter;
          others = λ k q m. elim (dec_lt k r) [
            | yes u ↦ letter-apart (node_in t rows k) a (λ e. l.others k q u (e ∙ sym passed_letter))
            | no u ↦ elim (ℕ_discrete k r) [
              | yes e ↦ ap (λ x. same_node (node_in t rows x) a) e ∙ sym test ∙ n
              | no e ↦ s.others k (omega arith) m
            ]
          ];
        })

    -- the chain leads down
    pub passed_less : chain_of (get_or rows r no_row) < p
    passed_less =
        let i = s.inside in
        let l = last-alike t rows (node_in t rows r).letter r in
        omega (arith, c.chains r (omega arith), l.inside)

    pub passed-found : {b : Bool} → b ≡ same_node (node_in t rows r) a → b ≡ true → Found t rows count a (Some r)
    passed-found test e = there {r = r} (omega (arith, s.inside)) (node-eq (node_in t rows r) a (sym test ∙ e))

pub passed_none : {t : List ℕ} {rows : List Row} {count : ℕ} {a : Node} {p : ℕ} → Passed t rows count a p
    → ¬ (1 ≤ p)
    → Found t rows count a None
passed_none s h = missing (λ r k. s.others r (omega arith) k)
