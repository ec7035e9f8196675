-- `copy_place` copies one slot after another: those before k are copied, and no token follows. The first empty slot
-- ends it, since those behind are empty too. Assumes nothing.
use Prim.Native.Nat.{ℕ, suc, ◌+◌, ◌-◌}
use mathlib.Core.Path.{◌≡◌, ap, sym, ◌∙◌}
use mathlib.Core.List.{◌∷◌, ◌++◌}
use native.Mathlib.Omega.{arith}
use lib.ListN.{set, replicate}
use lib.Seq.{set_at, append_snoc}
use Rattle.storing.specs.Slots.{token_at, slots}
use Rattle.storing.proofs.Slots.{length-slots, slots_snoc}
use Rattle.storing.proofs.Lending.{copied_early}
use Rattle.search.proofs.Told.{same_told}
use Rattle.search.proofs.store.copy_place.Goals as goal

pub loop-k-init : goal.loop-k-init
unfolding slots
loop-k-init c = c.requires.tokens_value

pub returns-then-is_none : goal.returns-then-is_none
returns-then-is_none c =
    let t = c.before.before.before in
    let e = t.before in
    let l = e.loop-k in
    let s = e.before.before.before in
    let p = s.requires.place_room in
    l.invariant
    ∙ copied_early s.args.n l.k s.args.part.now e.loop-k-test.true p.0.few p.1
    (sym t.token_at-token.ensures ∙ same_told c.is_none.ensures c.if-is_none.true)

pub loop-k-preserved : goal.loop-k-preserved
loop-k-preserved c =
    let t = c.before.before.before in
    let l = t.loop-k in
    let a = t.args in
    let part = a.part.now in
    let room : 8 - l.k ≡ suc (8 - (l.k + 1)) = omega arith in
    let rest = replicate {A = ℕ} (8 - (l.k + 1)) 0 in
    let as-list : l.tokens ≡ slots l.k 0 part ++ 0 ∷ rest = rw room at l.invariant in
    ap (λ s. set s l.k t.token_at-token.result.0) as-list
    ∙ set_at (slots l.k 0 part) 0 rest t.token_at-token.result.0 l.k (length-slots l.k 0 part)
    ∙ ap (λ s. slots l.k 0 part ++ s ∷ rest) t.token_at-token.ensures
    ∙ sym (append_snoc (slots l.k 0 part) (token_at part l.k) rest)
    ∙ ap (λ s. s ++ rest) (sym (slots_snoc l.k part))

pub returns : goal.returns
returns c =
    let l = c.loop-k in
    let a = c.args in
    let e : a.n ≡ l.k = omega arith in
    rw e l.invariant
