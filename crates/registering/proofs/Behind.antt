-- The words behind a node, by its row in the register, and behind the root: those of a group are all with its prefix,
-- and no continuation has more than 32 letters. Assumes nothing.
use Prim.Native.Nat.{ℕ, ◌≤◌, ◌<◌}
use mathlib.Core.Path.{◌≡◌, refl, sym, ap, ◌∙◌}
use mathlib.Core.List.{List, [], ◌∷◌, map}
use native.Mathlib.Omega.{arith}
use lib.ListN.{length, drop}
use Rattle.canonical.specs.Dictionary.{continuations}
use Rattle.canonical.specs.Nodes.{Node, node_of}
use Rattle.canonical.specs.Groups.{begins}
use Rattle.canonical.proofs.Continuations.{Below}
use Rattle.canonical.proofs.Vertices.{WordList}
use Rattle.sorting.specs.Slots.{word_at, words_from}
use Rattle.sorting.proofs.SlotWords.{words-length, words-out}
use Rattle.registering.specs.declared.Row.{Row}
use Rattle.registering.specs.Register.{Words, rests_from, node_at, Group, Register, no_row}
use Rattle.registering.specs.Numbering.{Rows}
use Rattle.registering.proofs.Fields.{field-at}
use Rattle.registering.proofs.RestWords.{longest-low}
use Rattle.registering.proofs.Runs.{rests_map, words-sorted, letters_of, run-node}
use Rattle.registering.proofs.Arcs.{Behind}

-- ---- the words

module _ {t : List ℕ} {n : ℕ} (w : Words t n) where
  pub words-short : (k : ℕ) → k < n → length (word_at t k) ≤ 32
  words-short k h = omega (arith, letters_of w h, (w.holds k h).short)

  pub word-list : {L : ℕ} → Below L (words_from t 0 n) → 1 ≤ n → WordList L (words_from t 0 n)
  word-list below h = record {
    sorted = words-sorted w;
    below = below;
    lettered = λ m.
        let u = words-out t 0 n m in
        let i : u.0 < n = omega (arith, u.2) in
        omega (arith, ap length u.3, letters_of w i, w.some u.0 i);
    short = λ x m. let u = words-out t 0 n m in rw u.3 (words-short u.0 (omega (arith, u.2)));
    some = omega (arith, words-length t 0 n);
  }

  -- ---- a group

  module _ {i m d high mark : ℕ} (g : Group t n i m d high mark) where
    pub group-behind : Behind t n i m d
    unfolding node_at node_of
    group-behind =
        let inside : i < n = omega (arith, g.reach.inside, g.reach.one) in
        record {
          inside = g.reach.inside;
          some = g.reach.one;
          letters = omega (arith, g.letters, letters_of w inside);
          have = g.reach.have;
          rest = ap (λ (a : Node). a.rest) (run-node w g);
        }

    pub group_low : high ≤ 32
    group_low =
        omega (arith, g.high, longest-low t d i m (λ k a b. w.holds k (omega (arith, g.reach.inside))))

  pub register_rows : {rows : List Row} {count : ℕ} → Register t n rows count → Rows rows count
  register_rows {rows} g = record {
    few = g.few;
    long = g.long;
    low = λ r h. rw (field-at (λ row. row.longest) r rows no_row) (omega (arith, group_low (g.groups r h)));
  }

  -- ---- the root

  whole : (l : List (List ℕ)) → map (drop 0) l ≡ l
  whole [] = refl
  whole (x ∷ l) = ap (λ m. x ∷ m) (whole l)

  pub root_rest : rests_from t 0 0 n ≡ words_from t 0 n
  root_rest = sym (rests_map t 0 0 n) ∙ whole (words_from t 0 n)

  pub root_behind : 1 ≤ n → Behind t n 0 n 0
  unfolding begins continuations
  root_behind h = record {
    inside = omega arith;
    some = h;
    letters = omega arith;
    have = λ k p q. refl;
    rest = root_rest;
  }
