-- `judge::has_bad_frames` tests the number of frames, then whether some symbol is not below K. Assumes nothing.
use Rattle.std.proofs.Common.{ℕ, Bool, List, [], ◌∷◌, ◌||◌, ◌≡◌, ◌∙◌, refl, ap, leb, rules, tests}
use Rattle.std.specs.List.{list_any}
use Rattle.std.proofs.lemmas.Iterator.{YieldsList-from_slice}
use Rattle.std.proofs.lemmas.Iterator.Search.{any_from_yields_List}
use Rattle.endian.specs.Lists.{any}
use Rattle.call.specs.Limits.{bad_frame_count}
use Rattle.search.proofs.judge.has_bad_frames.Goals as goal

pub returns-then-not-inside : goal.returns-then-not-inside
unfolding bad_frame_count
returns-then-not-inside c = rw (← c.inside.ensures, c.if-not-inside.true)

-- the test of any, by either definition
any-is : (p : ℕ → Bool) (xs : List ℕ) → list_any p xs ≡ any p xs
unfolding any
any-is p [] = refl
any-is p (x ∷ xs) = ap (λ b. p x || b) (any-is p xs)

pub returns : goal.returns
unfolding bad_frame_count
returns c =
    let known = c.inside.ensures in
    rw (← known, c.if-not-inside.false)
    (any_from_yields_List (λ k. leb c.args.symbols k) _ _ c.any.result c.any.ensures.ran
    (YieldsList-from_slice c.args.frames.now cc) (λ x b q k. search (rules, tests))
    ∙ any-is (λ k. leb c.args.symbols k) c.args.frames.now)
