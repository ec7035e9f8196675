-- `position` finds where a candidate enters: the slots before k are passed. The measure is what is left of them.
-- Assumes nothing.
use Rattle.std.proofs.Common.{◌<◌, ◌≤◌, ap, sym, ◌∙◌, arith}
use Rattle.decoder.specs.Token.{same_code}
use Rattle.storing.specs.Slots.{token_at}
use Rattle.storing.proofs.Entering.{at-start, passed-all, found, beaten, passed}
use Rattle.search.proofs.Told.{below_told, not-below_told}
use Rattle.search.proofs.store.position.Goals as goal
use Rattle.search.proofs.store.position.Goals.{Else-k-n, Else-outranks}

pub loop-k-init : goal.loop-k-init
loop-k-init c = (omega arith, at-start _ _ _)

-- in a turn there is a token in slot k
less : (c : Else-k-n) → c.loop-k.k < c.args.n
less c = omega (arith, c.if-k-n.false, c.loop-k.invariant.0)

-- the token in the slot is not outranked
rank : (c : Else-outranks) → c.args.token.0 ≤ token_at c.args.part.now c.loop-k.k
rank c = rw (← c.token_at-held.ensures) (not-below_told c.outranks.ensures c.if-outranks.false)

pub loop-k-preserved : goal.loop-k-preserved
loop-k-preserved c =
    let a = c.args in
    let h = less (goal.at.loop-k-preserved c).Else-k-n in
    let same = ap (λ y. same_code y a.token.0) c.token_at-held.ensures in (
      omega (arith, h),
      omega (
        arith,
        c.loop-k.invariant.1,
        passed a.part.now a.n a.token.0 c.loop-k.k h (rank (goal.at.loop-k-preserved c).Else-outranks)
            (sym same ∙ sym c.has_code_of.ensures ∙ c.if-has_code_of.false),
      ),
    )

pub returns-then-k-n : goal.returns-then-k-n
returns-then-k-n c =
    let a = c.args in
    omega (
      arith,
      c.loop-k.invariant.1,
      passed-all a.part.now a.n a.token.0 c.loop-k.k (omega (arith, c.if-k-n.true)),
      c.if-k-n.true,
    )

pub returns-then-outranks : goal.returns-then-outranks
returns-then-outranks c =
    let a = c.args in
    let h = less (goal.at.returns-then-outranks c).Else-k-n in
    let higher = rw c.token_at-held.ensures at (below_told c.outranks.ensures c.if-outranks.true) in
    (h, omega (arith, c.loop-k.invariant.1, found a.part.now a.n a.token.0 c.loop-k.k h higher))

pub returns-then-has_code_of : goal.returns-then-has_code_of
returns-then-has_code_of c =
    let a = c.args in
    let h = less (goal.at.returns-then-has_code_of c).Else-k-n in
    let same = ap (λ y. same_code y a.token.0) c.token_at-held.ensures in
    omega (
      arith,
      c.loop-k.invariant.1,
      h,
      beaten a.part.now a.n a.token.0 c.loop-k.k h (rank (goal.at.returns-then-has_code_of c).Else-outranks)
          (sym same ∙ sym c.has_code_of.ensures ∙ c.if-has_code_of.true),
    )

pub token_at-held-requires : goal.token_at-held-requires
token_at-held-requires c = omega (arith, c.if-k-n.false, c.loop-k.invariant.0)

pub loop-k-smaller : goal.loop-k-smaller
loop-k-smaller c = omega (arith, c.if-k-n.false, c.loop-k.invariant.0)
