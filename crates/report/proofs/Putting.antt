-- Text put behind text is put as one text: how texts that are put one after another chain. Assumes nothing.
use Prim.Native.Nat.{ℕ, ◌+◌, ◌≤◌}
use mathlib.Core.Path.{◌≡◌, refl, sym, ap, ◌∙◌}
use mathlib.Core.List.{List, [], ◌∷◌, ◌++◌, append_assoc}
use native.Mathlib.Omega.{arith}
use lib.ListN.{length, take, drop, set, length-append}
use lib.Seq.{length-take-le, take-length, take_at, drop-append-add, drop-drop, sets-eq, paste, paste-zero}
use Rattle.report.specs.Text.{TextPut}

-- no text
pub put-none : (at : ℕ) (o : List ℕ) → TextPut [] at o o at
put-none at o = record { ends = omega arith; puts = paste-zero o at [] }

-- a byte
pub put_one : (x at : ℕ) (o : List ℕ) → at + 1 ≤ length o → TextPut (x ∷ []) at o (set o at x) (at + 1)
put_one x at o h = record { ends = refl; puts = sets-eq (x ∷ []) o at h }

-- a text that is copied whole
pub put_copied : (text : List ℕ) (at i : ℕ) (o o' : List ℕ) → i ≡ length text → o' ≡ paste o at text i
    → TextPut text at o o' (at + i)
put_copied text at i o o' e p = record {
  ends = ap (λ (k : ℕ). at + k) e;
  puts = p ∙ ap (λ (k : ℕ). paste o at text k) e ∙ ap (λ (t : List ℕ). take at o ++ t ++ drop (at + length text) o) (take-length text);
}

module _ {a b : List ℕ} {at m e : ℕ} {o o₁ o₂ : List ℕ} where
  -- a text behind a text
  pub put-more : at ≤ length o → TextPut a at o o₁ m → TextPut b m o₁ o₂ e → TextPut (a ++ b) at o o₂ e
  put-more h p q =
      let front = take at o ++ a in
      let rest = drop (at + length a) o in
      let long : length front ≡ m = length-append (take at o) a ∙ ap (λ (k : ℕ). k + length a) (length-take-le at o h) ∙ sym p.ends in
      let last : m + length b ≡ at + length (a ++ b) = omega (arith, p.ends, length-append a b) in
      let behind : drop (m + length b) (front ++ rest) ≡ drop (at + length (a ++ b)) o =
      ap (λ (k : ℕ). drop (k + length b) (front ++ rest)) (sym long) ∙ drop-append-add front rest (length b)
      ∙ drop-drop (length b) (at + length a) o ∙ ap (λ (k : ℕ). drop (k + length b) o) (sym p.ends) ∙ ap (λ (k : ℕ). drop k o) last in
      record {
        ends = q.ends ∙ last;
        puts =
            q.puts
            ∙ ap (λ (t : List ℕ). take m t ++ b ++ drop (m + length b) t) p.puts
            ∙ rw (take_at front rest m long, behind, append_assoc (take at o) a b);
      }

-- two texts behind a text
pub put_pair : (b d : List ℕ) {a : List ℕ} {at m e : ℕ} {o o₁ o₂ : List ℕ} → at ≤ length o → TextPut a at o o₁ m
    → TextPut (b ++ d) m o₁ o₂ e
    → TextPut (a ++ b ++ d) at o o₂ e
put_pair b d {a} h p q = rw (append_assoc a b d) (put-more h p q)

-- a text and another behind a text, one after the other
pub put_both : {a b d : List ℕ} {at m k e : ℕ} {o o₁ o₂ o₃ : List ℕ} → at ≤ length o → TextPut a at o o₁ m
    → TextPut b m o₁ o₂ k
    → TextPut d k o₂ o₃ e
    → TextPut (a ++ (b ++ d)) at o o₃ e
put_both {a} {b} {d} h p q r = rw (sym (append_assoc a b d)) (put-more h (put-more h p q) r)
