-- `letters::pair_at` meets its contract. Assumes nothing.
use Prim.Native.Nat.{◌+◌, ◌≤◌}
use mathlib.Core.Path.{ap₂, ◌∙◌}
use mathlib.Core.List.{[], ◌∷◌}
use native.Mathlib.Omega.{arith}
use borrow.Author.Rules.{rules}
use lib.IntN.{ℤ}
use lib.ListN.{length}
use Rattle.voice.specs.Voice.{impossible}
use Rattle.storing.proofs.Gaining.{back}
use Rattle.search.proofs.letters.pair_at.Goals as goal

pub score_at-requires : goal.score_at-requires
score_at-requires c = omega (arith, (c.requires c.if-there.true))

pub score_at-requires-then-there : goal.score_at-requires-then-there
score_at-requires-then-there c = omega (arith, (c.requires c.if-there.true))

pub returns-then-there : goal.returns-then-there
returns-then-there c =
    let one = back _ c.score_at.type_inv ∙ c.score_at.ensures in
    let two = back _ c.score_at-then-there.type_inv ∙ c.score_at-then-there.ensures in
    rw c.if-there.true (ap₂ (λ (x y : ℤ). x ∷ y ∷ []) one two)

pub returns : goal.returns
unfolding impossible
returns c = rw c.if-there.false

pub overflow_add-at : goal.overflow_add-at
overflow_add-at c = let h : c.args.at + 4 ≤ length c.args.voice.now = c.requires c.if-there.true in search rules
