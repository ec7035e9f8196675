-- `build` meets its contract: the nodes of all prefixes are registered and linked; over 400 of them are 18, and else
-- the image decides. Assumes nothing.
use Rattle.std.proofs.Common.{◌≡◌, ℕ, Some, None, Err, Option, Result, refl}
use Rattle.std.specs.Option.{MatchOption, ok_or}
use Rattle.std.proofs.lemmas.Result.{err_from_is_err_and}
use Rattle.call.specs.declared.Refusal.{Refusal}
use Rattle.registering.proofs.Ready.{too_many, no_register, no-chains}
use Rattle.building.proofs.build.Goals as goal

pub walk_all-requires : goal.walk_all-requires
walk_all-requires c =
    let p = c.requires in record {
      words = (p.0.words, p.2);
      register = (no_register _ _, no-chains _ _);
      links_len = refl;
    }

-- a refusal made of an option is that given, and the option is none
none_left : {P : Type 0} (Q : ℕ → Type 0) (o : Option ℕ) {x y : Refusal} → MatchOption o P Q
    → ◌≡◌ {A = Result ℕ Refusal} (Err x) (ok_or o y) → (x ≡ y) × P
none_left Q None w e = (cc, w)
none_left Q (Some n) w e = cc

pub returns-in_err-count : goal.returns-in_err-count
returns-in_err-count c =
    let p = err_from_is_err_and c.from_residual.result c.from_residual.ensures.1 in
    let n = none_left _ c.walk_all.result c.walk_all.ensures c.in_err-count.ensures.value in
    rw (p.1, p.2, n.0) (too_many _ _ _ n.1)
