-- Bytes put into the output, one part after another or the first part last: each part keeps what stands outside it.
-- Assumes nothing.
use Prim.Native.Nat.{ℕ, ◌+◌, ◌-◌, ◌≤◌, ◌<◌}
use mathlib.Core.Path.{◌≡◌, refl, sym, ap, ap₂, ◌∙◌}
use mathlib.Core.List.{List, [], ◌∷◌, ◌++◌, append-nil, append_assoc}
use native.Mathlib.Numerals.{add-one}
use native.Mathlib.Omega.{arith}
use lib.ListN.{length, take, drop, set, length-append, length-take, take-append-drop}
use lib.Seq.{drop_at, take-take, drop-drop, take-add, take-append-le, length-take-le, take-suc-set}
use lib.Seq.{drop-set-lt}
use borrow.Rule.Slice.PartMut.{put_mid}
use Rattle.std.proofs.lemmas.Slice.{take-put_mid, drop-put_mid}
use Rattle.registering.specs.Image.{Put}

pub put-none : (at : ℕ) (out : List ℕ) → Put [] at out out at
put-none at out = record { ends = omega arith; before = sym (append-nil (take at out)); after = refl }

module _ {k l : List ℕ} {at mid end : ℕ} {out out₁ out₂ : List ℕ} where
  -- one part after the other
  pub put_both : Put k at out out₁ mid → Put l mid out₁ out₂ end → Put (k ++ l) at out out₂ end
  put_both a b = record {
    ends = omega (arith, a.ends, b.ends, length-append k l);
    before = b.before ∙ rw (a.before, append_assoc);
    after = b.after
        ∙ rw b.ends
        (sym (drop-drop (length l) mid out₁) ∙ ap (drop (length l)) a.after ∙ drop-drop (length l) mid out);
  }

  -- the first part last
  pub put_front : mid ≤ length out → mid ≤ length out₁ → Put l mid out out₁ end → Put k at out₁ out₂ mid
      → Put (k ++ l) at out out₂ end
  put_front h i a b = record {
    ends = omega (arith, a.ends, b.ends, length-append k l);
    before =
        ap (λ n. take n out₂) a.ends
        ∙ take-add mid (length l) out₂
        ∙ ap₂ ◌++◌ (b.before ∙ ap (λ x. x ++ k) front) (ap (take (length l)) b.after ∙ part)
        ∙ append_assoc (take at out) k l;
    after =
        ap (λ n. drop n out₂) a.ends
        ∙ sym (drop-drop (length l) mid out₂)
        ∙ ap (drop (length l)) b.after
        ∙ drop-drop (length l) mid out₁
        ∙ ap (λ n. drop n out₁) (sym a.ends)
        ∙ a.after;
  }
    where
      front : take at out₁ ≡ take at out
      front =
          let p : at ≤ end = omega (arith, a.ends, b.ends) in
          let q : at ≤ mid = omega (arith, b.ends) in
          sym (take-take at end out₁ p)
          ∙ ap (take at) a.before
          ∙ take-append-le at (take mid out) l (omega (arith, length-take mid out))
          ∙ take-take at mid out q

      part : take (length l) (drop mid out₁) ≡ l
      part =
          sym (drop_at (take mid out₁) (take (length l) (drop mid out₁)) mid (length-take-le mid out₁ i))
          ∙ ap (drop mid) (sym (take-add mid (length l) out₁) ∙ ap (λ n. take n out₁) (sym a.ends) ∙ a.before)
          ∙ drop_at (take mid out) l mid (length-take-le mid out h)

pub put_byte : (b at : ℕ) (out : List ℕ) → at < length out → Put (b ∷ []) at out (set out at b) (at + 1)
put_byte b at out h = record {
  ends = refl;
  before = rw add-one (take-suc-set out at b h);
  after = drop-set-lt (at + 1) out at b (omega arith);
}

-- bytes copied to an offset
pub put_part : (bytes part : List ℕ) (at end : ℕ) (out : List ℕ) → part ≡ bytes → end ≡ at + length bytes
    → end ≤ length out → Put bytes at out (put_mid at (end - at) out part) end
put_part bytes part at end out e f h = record {
  ends = f;
  before = take-put_mid at (end - at) out part end (omega (arith, ap length e)) (omega arith)
      ∙ ap (λ l. take at out ++ l) e;
  after = drop-put_mid at (end - at) out part end (omega arith) (omega arith) (omega (arith, ap length e));
}

-- from the start on
pub put_all : {bytes out out' : List ℕ} {end : ℕ} → Put bytes 0 out out' end → out' ≡ bytes ++ drop (length bytes) out
put_all {bytes} {out} {out'} {end} p =
    let e : end ≡ length bytes = omega (arith, p.ends) in
    sym (take-append-drop end out') ∙ ap₂ ◌++◌ p.before (p.after ∙ ap (λ n. drop n out) e)
