-- The number that a verdict on a lexicon returns says which verdict it is. By its cases. Assumes nothing.
use mathlib.Core.Path.{◌≡◌, refl, sym, ap, ◌∙◌}
use mathlib.Core.Bool.{false, true≢false}
use mathlib.Core.List.{List}
use Prim.Native.Nat.{ℕ}
use Rattle.call.specs.declared.Refusal.TheVariants.{LexiconLength, LexiconRange}
use Rattle.call.specs.Table.{is_refusal}
use Rattle.voice.specs.Fields.{Verdict, well_formed, wrong_length, out_of_range}
use Rattle.voice.proofs.Refusals.{verdict_by}
use Rattle.lexicon.specs.Lexicon.{lexicon_verdict, lexicon_refusal, lexicon_refused}

-- by the number of a wrong length
lexicon-by : (w : Verdict) → verdict_by 4 (lexicon_refusal w) ≡ w
unfolding lexicon_refusal
lexicon-by well_formed = refl
lexicon-by wrong_length = refl
lexicon-by out_of_range = refl

pub lexicon_told : (w : Verdict) (L : ℕ) (x : List ℕ) → lexicon_refusal w ≡ lexicon_refused L x → w ≡ lexicon_verdict L x
unfolding lexicon_refused
lexicon_told w L x e = sym (lexicon-by w) ∙ ap (verdict_by 4) e ∙ lexicon-by (lexicon_verdict L x)

-- neither 4 nor 5
pub lexicon-clear : (L : ℕ) (x : List ℕ) → is_refusal LexiconLength (lexicon_refused L x) ≡ false
    → is_refusal LexiconRange (lexicon_refused L x) ≡ false → lexicon_verdict L x ≡ well_formed
unfolding lexicon_refused lexicon_refusal is_refusal
lexicon-clear L x h k = go (lexicon_verdict L x) h k
  where
    go : (w : Verdict) → is_refusal LexiconLength (lexicon_refusal w) ≡ false
        → is_refusal LexiconRange (lexicon_refusal w) ≡ false → w ≡ well_formed
    go well_formed h k = refl
    go wrong_length h k = absurd (true≢false h)
    go out_of_range h k = absurd (true≢false k)
