-- `fields::arc` meets its contract: the number that is read is what the definition reads, and it stays within the table. Assumes nothing.
use Prim.Native.Nat.{ℕ, ◌+◌, ◌≤◌, ◌<◌}
use mathlib.Core.Path.{◌≡◌, sym, ap, ◌∙◌}
use mathlib.Core.List.{List}
use native.Mathlib.Omega.{arith}
use borrow.Author.Tests.{eq-eqb, ne_eqb}
use Rattle.std.proofs.lemmas.Result.{err_from_is_err_and}
use Rattle.lexicon.specs.Sections.{Found, number_at, highest_of}
use Rattle.lexicon.proofs.Sections.Numbers.{number-says}
use Rattle.lexicon.proofs.Sections.Successors.{highest-most, arc-number}
use Rattle.std.specs.Prelude.{Ok}
use Rattle.lexicon.proofs.fields.arc.Goals as goal

-- what is read, where `high` is the highest that may be
read : (x : List ℕ) (at u n high : ℕ) (f : Found) → f ≡ number_at x at (u + 1) high → high ≡ highest_of u n
    → number_at x at (u + 1) (highest_of u n) ≡ f
read x at u n high f e h = sym (e ∙ ap (number_at x at (u + 1)) h)

pub returns-in_err-s : goal.returns-in_err-s
returns-in_err-s c =
    let p = err_from_is_err_and c.from_residual.result c.from_residual.ensures.1 in
    rw (p.1, p.2)
    (sym (arc-number _ _ _ _ _ _ (read _ _ _ _ _ _ c.number.ensures c.highest.ensures ∙ c.in_err-s.was)))

low : (x : List ℕ) (at u n s : ℕ) → number_at x at (u + 1) (highest_of u n) ≡ Ok s → n ≤ 400 → s < 402
low x at u n s e h = omega (arith, (number-says _ _ _ _ e).most, highest-most u n)

pub returns-then-seen-s : goal.returns-then-seen-s
returns-then-seen-s c =
    sym
    (arc-number _ _ _ _ _ _ (read _ _ _ _ _ _ c.number.ensures c.highest.ensures ∙ c.in_ok-s.was)
    ∙ rw (eq-eqb _ _ c.if-seen-s.true))

pub returns : goal.returns
returns c =
    sym
    (arc-number _ _ _ _ _ _ (read _ _ _ _ _ _ c.number.ensures c.highest.ensures ∙ c.in_ok-s.was)
    ∙ rw (ne_eqb _ _ c.if-seen-s.false))

pub bounds-seen-s : goal.bounds-seen-s
bounds-seen-s c =
    low _ _ _ _ _ (read _ _ _ _ _ _ c.number.ensures c.highest.ensures ∙ c.in_ok-s.was) c.requires.2

pub offset_bounds-seen-s : goal.offset_bounds-seen-s
offset_bounds-seen-s c =
    let h : c.in_ok-s.s < 402 =
    low _ _ _ _ _ (read _ _ _ _ _ _ c.number.ensures c.highest.ensures ∙ c.in_ok-s.was) c.requires.2 in
    omega arith
