-- The number that a verdict on a voice model returns says which verdict it is. By its cases. Assumes nothing.
use mathlib.Core.Path.{◌≡◌, refl, sym, ap, ◌∙◌}
use mathlib.Core.Bool.{false, true≢false, cond}
use mathlib.Core.List.{List}
use mathlib.Core.Option.{Option, none, some}
use Prim.Native.Nat.{ℕ}
use lib.Dec.{eqb}
use Rattle.call.specs.declared.Refusal.{Refusal}
use Rattle.call.specs.declared.Refusal.TheVariants.{VoiceLength, VoiceRange}
use Rattle.call.specs.Table.{number, is_refusal}
use Rattle.voice.specs.Fields.{Verdict, well_formed, wrong_length, out_of_range}
use Rattle.voice.specs.Voice.{voice_verdict, voice_refusal, voice_refused}

-- the verdict that a refusal comes from, where n is the number of a wrong length
abbrev pub verdict_by : ℕ → Option Refusal → Verdict
verdict_by n none = well_formed
verdict_by n (some r) = cond (eqb (number r) n) wrong_length out_of_range

-- by the number of a wrong length
voice-by : (w : Verdict) → verdict_by 2 (voice_refusal w) ≡ w
unfolding voice_refusal
voice-by well_formed = refl
voice-by wrong_length = refl
voice-by out_of_range = refl

pub voice_told : (w : Verdict) (v : List ℕ) → voice_refusal w ≡ voice_refused v → w ≡ voice_verdict v
unfolding voice_refused
voice_told w v e = sym (voice-by w) ∙ ap (verdict_by 2) e ∙ voice-by (voice_verdict v)

-- neither 2 nor 3
pub voice-clear : (v : List ℕ) → is_refusal VoiceLength (voice_refused v) ≡ false
    → is_refusal VoiceRange (voice_refused v) ≡ false → voice_verdict v ≡ well_formed
unfolding voice_refused voice_refusal is_refusal
voice-clear v h k = go (voice_verdict v) h k
  where
    go : (w : Verdict) → is_refusal VoiceLength (voice_refusal w) ≡ false
        → is_refusal VoiceRange (voice_refusal w) ≡ false → w ≡ well_formed
    go well_formed h k = refl
    go wrong_length h k = absurd (true≢false h)
    go out_of_range h k = absurd (true≢false k)
