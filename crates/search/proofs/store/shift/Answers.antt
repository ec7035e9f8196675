-- `shift` moves one token after another: before slot k, what is done and the move of what is left make the whole move.
-- Assumes nothing.
use mathlib.Core.Path.{◌≡◌, refl, sym, ◌∙◌}
use native.Mathlib.Omega.{arith}
use Rattle.storing.specs.Slots.{token_at}
use Rattle.storing.proofs.Moving.{slots_hold, shifted_start, shifted-ends, shifted-goes, shifted-done}
use Rattle.search.proofs.Told.{same_told, other_told}
use Rattle.search.proofs.store.shift.Goals as goal

pub loop-k-init : goal.loop-k-init
loop-k-init c = let a = c.args in (refl, λ j h. refl, shifted_start a.up a.down a.n a.part.now)

pub returns-then-is_none : goal.returns-then-is_none
returns-then-is_none c =
    let l = c.loop-k in
    let a = c.args in
    shifted-ends a.up a.down a.n l.k l.part c.loop-k-test.true
    (sym c.token_at-token.ensures ∙ same_told c.is_none.ensures c.if-is_none.true)
    ∙ l.invariant.2

pub moved-requires : goal.moved-requires
moved-requires c =
    let l = c.loop-k in
    let was : c.token_at-token.result.0 ≡ token_at c.args.part.now l.k = c.token_at-token.ensures
    ∙ l.invariant.1 l.k (omega arith) in
    rw was (c.requires.movable _ (slots_hold c.args.n l.k c.args.part.now c.loop-k-test.true)
    (λ z. other_told c.is_none.ensures c.if-is_none.false (was ∙ z)))

pub loop-k-preserved : goal.loop-k-preserved
loop-k-preserved c =
    let l = c.loop-k in
    let a = c.args in
    let p = rw (c.moved.ensures, c.token_at-token.ensures) at c.put_token.ensures in (
      p.long ∙ l.invariant.0,
      λ j h. p.others j (λ e. omega arith) ∙ l.invariant.1 j (omega arith),
      shifted-goes a.up a.down a.n l.k l.part c.loop-k-test.true p
          (λ z. other_told c.is_none.ensures c.if-is_none.false (c.token_at-token.ensures ∙ z))
          ∙ l.invariant.2,
    )

pub returns : goal.returns
returns c =
    let l = c.loop-k in
    let a = c.args in
    shifted-done a.up a.down a.n l.k l.part l.auto.k-end c.loop-k-test.false ∙ l.invariant.2
