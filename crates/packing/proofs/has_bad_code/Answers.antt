-- `has_bad_code` asks of each code whether it is not below W. Assumes nothing.
use Rattle.std.proofs.Common.{◌≡◌, refl, ap, ◌∙◌, ◌||◌, Bool, List, [], ◌∷◌, leb, rules, tests}
use Rattle.std.specs.List.{list_any}
use Rattle.std.proofs.lemmas.Iterator.{YieldsList-from_slice}
use Rattle.std.proofs.lemmas.Iterator.Search.{any_from_yields_List}
use Rattle.endian.specs.Lists.{any}
use Rattle.call.specs.Limits.{bad_code}
use Rattle.packing.proofs.has_bad_code.Goals as goal

any-listed : {A : Type 0} (p : A → Bool) (xs : List A) → list_any p xs ≡ any p xs
unfolding any
any-listed p [] = refl
any-listed p (x ∷ xs) = ap (λ (b : Bool). p x || b) (any-listed p xs)

pub returns : goal.returns
unfolding bad_code
returns c =
    any_from_yields_List (leb c.args.words) _ _ _ c.any.ensures.ran (YieldsList-from_slice c.args.codes.now cc) (λ x b q k. search (rules, tests))
    ∙ any-listed (leb c.args.words) c.args.codes.now
