-- `push_down` carries the tokens down: before each slot, what is done and the push of what is carried make the whole
-- push. Assumes nothing.
use Prim.Native.Nat.{ℕ, ◌+◌, ◌-◌}
use mathlib.Core.Path.{◌≡◌, refl, ap, sym, ◌∙◌}
use mathlib.Core.List.{◌++◌}
use mathlib.Core.Bool.{Bool, false}
use lib.Dec.{eqb}
use Rattle.decoder.specs.Token.{code_part}
use Rattle.storing.specs.Slots.{slots, push}
use Rattle.storing.proofs.Entering.{stops, ends, goes, all_pushed, stop-none, stop-test}
use Rattle.search.proofs.Told.{same_told, other_told}
use Rattle.search.proofs.store.push_down.Goals as goal

pub loop-at-init : goal.loop-at-init
loop-at-init c = (refl, refl)

-- after the write of a turn: where the token that was there ends the push, the slots hold what they should
pub returns-then-is_none : goal.returns-then-is_none
returns-then-is_none c =
    let l = c.loop-at in
    ends l.part c.args.n l.at l.carry.0 (code_part c.args.token.0) c.put_token.new.part c.put_token.ensures
    c.loop-at-test.true (stop-none _ _ _ c.token_at-next.ensures (same_told c.is_none.ensures c.if-is_none.true))
    ∙ l.invariant.1

-- the test on the code is the push's
tested : (c : ℕ) {t u : ℕ} {b r : Bool} → t ≡ u → b ≡ eqb t 0 → b ≡ false → r ≡ eqb (code_part t) c →
    stops c u ≡ r
tested c e n h s = stop-test _ _ _ e (other_told n h) ∙ sym s

pub returns-then-has_code_of : goal.returns-then-has_code_of
returns-then-has_code_of c =
    let l = c.loop-at in
    ends l.part c.args.n l.at l.carry.0 (code_part c.args.token.0) c.put_token.new.part c.put_token.ensures
    c.loop-at-test.true
    (tested (code_part c.args.token.0) c.token_at-next.ensures c.is_none.ensures c.if-is_none.false
    c.has_code_of.ensures ∙ c.if-has_code_of.true)
    ∙ l.invariant.1

pub loop-at-preserved : goal.loop-at-preserved
loop-at-preserved c =
    let l = c.loop-at in
    let a = c.args in
    let part = c.put_token.new.part in
    let code = code_part a.token.0 in (
      c.put_token.ensures.long ∙ l.invariant.0,
      ap (λ t. slots (l.at + 1) 0 part ++ push t code (slots (a.n - (l.at + 1)) (l.at + 1) part))
          c.token_at-next.ensures
          ∙ goes l.part a.n l.at l.carry.0 code part c.put_token.ensures
          c.loop-at-test.true
          (tested (code_part c.args.token.0) c.token_at-next.ensures c.is_none.ensures c.if-is_none.false
          c.has_code_of.ensures
          ∙ c.if-has_code_of.false)
          ∙ l.invariant.1,
    )

pub returns : goal.returns
returns c =
    let l = c.loop-at in
    let a = c.args in
    all_pushed l.part a.n l.at l.carry.0 (code_part a.token.0) (l.auto.at-end c.requires.0) c.loop-at-test.false
    ∙ l.invariant.1
