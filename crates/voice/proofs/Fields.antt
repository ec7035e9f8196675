-- What a verdict says of the fields: an image is well formed exactly where each field is there and in its range and the last ends at the
-- image's length; else the first bad field decides, or the bytes go on after the last. And what it is that fields fill an image, one after
-- the other. By going through the fields in order, as the verdict does. Assumes nothing.
use mathlib.Core.Path.{◌≡◌, refl, sym, ap, ◌∙◌}
use mathlib.Core.Bool.{Bool, true, false, cond}
use mathlib.Core.List.{List, [], ◌∷◌, ◌++◌, flat_map, append-nil, Memᴰ}
use Prim.Native.Nat.{ℕ, zero, suc, ◌+◌, ◌≤◌, ◌<◌}
use native.Mathlib.Omega.{arith}
use lib.Dec.{eqb, leb}
use borrow.Author.Tests.{eqb-true, eqb-false, leb-true, leb-false, le-leb, lt-leb}
use Rattle.endian.specs.Lists.{from}
use Rattle.voice.specs.Fields.{Field, end, Verdict, well_formed, wrong_length, out_of_range, verdict}

-- a field of an image of len bytes is there, and in its range
pub record Good (len : ℕ) (f : Field) : Type 0 where
  pub there : end f ≤ len
  pub in_range : f.in_range ≡ true

abbrev pub AllGood : ℕ → List Field → Type 0
AllGood len fields = (f : Field) → Memᴰ f fields → Good len f

-- where the last of the fields ends, if they follow what ends at done
abbrev pub end_of : ℕ → List Field → ℕ
end_of done [] = done
end_of done (f ∷ fields) = end_of (end f) fields

-- the fields fill the bytes from a to b: each begins where the one before it ends
abbrev pub Tiles : ℕ → ℕ → List Field → Type 0
Tiles a b [] = a ≡ b
Tiles a b (f ∷ l) = (f.at ≡ a) × Tiles (end f) b l

pub tiles_append : (a b c : ℕ) (l m : List Field) → Tiles a b l → Tiles b c m → Tiles a c (l ++ m)
tiles_append a b c [] m t u = rw t u
tiles_append a b c (f ∷ l) m t u = (t.0, tiles_append (end f) b c l m t.1 u)

-- rows of fields, one for each of n numbers, where each row begins at its number's offset
pub tiles_rows : (offset : ℕ → ℕ) (row : ℕ → List Field) → ((i : ℕ) → Tiles (offset i) (offset (suc i)) (row i)) → (a n b : ℕ) → b ≡ a + n → Tiles (offset a) (offset b) (flat_map row (from a n))
unfolding flat_map from
tiles_rows offset row t a zero b e = let q : a ≡ b = omega arith in ap offset q
tiles_rows offset row t a (suc n) b e = tiles_append (offset a) _ _ (row a) _ (t a) (tiles_rows offset row t (suc a) n b (omega arith))

pub tiles_end : (a b : ℕ) (l : List Field) → Tiles a b l → end_of a l ≡ b
tiles_end a b [] t = t
tiles_end a b (f ∷ l) t = tiles_end (end f) b l t.1

-- what each verdict means: the bytes are filled, or go on after the last field, or a first bad field is there
pub data VerdictCase (len done : ℕ) (fields : List Field) : Verdict → Type 0 where
  filled : AllGood len fields → end_of done fields ≡ len → VerdictCase len done fields well_formed
  longer : AllGood len fields → (end_of done fields ≡ len → ⊥) → VerdictCase len done fields wrong_length
  short : (l : List Field) (f : Field) (m : List Field) → fields ≡ l ++ f ∷ m → AllGood len l → len < end f
      → VerdictCase len done fields wrong_length
  out : (l : List Field) (f : Field) (m : List Field) → fields ≡ l ++ f ∷ m → AllGood len l → end f ≤ len
      → f.in_range ≡ false → VerdictCase len done fields out_of_range

module _ {len : ℕ} where
  none-good : AllGood len []
  none-good f m = elim m [ ]

  more-good : {f : Field} {l : List Field} → Good len f → AllGood len l → AllGood len (f ∷ l)
  more-good u g k (Memᴰ.head q) = rw q u
  more-good u g k (Memᴰ.tail m) = g k m

  passed : {done : ℕ} {f : Field} {fields : List Field} {w : Verdict} → Good len f → VerdictCase len (end f) fields w
      → VerdictCase len done (f ∷ fields) w
  passed u (filled g e) = filled (more-good u g) e
  passed u (longer g n) = longer (more-good u g) n
  passed {f = k} u (short l f m e g h) = short (k ∷ l) f m (rw e) (more-good u g) h
  passed {f = k} u (out l f m e g h r) = out (k ∷ l) f m (rw e) (more-good u g) h r

  pub verdict_case : (done : ℕ) (fields : List Field) → VerdictCase len done fields (verdict len done fields)
  unfolding verdict
  verdict_case done [] = go (eqb done len) refl
    where
      go : (b : Bool) → eqb done len ≡ b → VerdictCase len done [] (cond b well_formed wrong_length)
      go true e = filled none-good (eqb-true done len e)
      go false e = longer none-good (eqb-false done len e)
  verdict_case done (f ∷ l) = go (leb (end f) len) f.in_range refl refl (verdict_case (end f) l)
    where
      go : (a b : Bool) → leb (end f) len ≡ a → f.in_range ≡ b → VerdictCase len (end f) l (verdict len (end f) l)
          → VerdictCase len done (f ∷ l) (cond a (cond b (verdict len (end f) l) out_of_range) wrong_length)
      go true true e k ih = passed (record { there = leb-true (end f) len e; in_range = k }) ih
      go true false e k ih = out [] f l refl none-good (leb-true (end f) len e) k
      go false b e k ih = short [] f l refl none-good (leb-false (end f) len e)

  pub well_formed-says : (done : ℕ) (fields : List Field) → verdict len done fields ≡ well_formed → AllGood len fields × (end_of done fields ≡ len)
  well_formed-says done fields h = go (verdict_case done fields) h
    where
      go : {w : Verdict} → VerdictCase len done fields w → w ≡ well_formed
          → AllGood len fields × (end_of done fields ≡ len)
      go (filled g e) q = (g, e)
      go (longer g n) q = let z : ◌≡◌ {A = ℕ} 0 1 = cc in absurd (omega arith)
      go (short l f m e g k) q = let z : ◌≡◌ {A = ℕ} 0 1 = cc in absurd (omega arith)
      go (out l f m e g k r) q = let z : ◌≡◌ {A = ℕ} 0 1 = cc in absurd (omega arith)

  -- good fields are passed over
  pub verdict-append : (done : ℕ) (l m : List Field) → AllGood len l → verdict len done (l ++ m) ≡ verdict len (end_of done l) m
  unfolding verdict
  verdict-append done [] m g = refl
  verdict-append done (f ∷ l) m g =
      let u = g f (Memᴰ.head refl) in
      rw (le-leb (end f) len u.there, u.in_range) (verdict-append (end f) l m (λ k i. g k (Memᴰ.tail i)))

  -- where all are good, the length decides
  pub verdict-good : (done : ℕ) (l : List Field) → AllGood len l → verdict len done l ≡ cond (eqb (end_of done l) len) well_formed wrong_length
  unfolding verdict
  verdict-good done l g = ap (verdict len done) (sym (append-nil l)) ∙ verdict-append done l [] g

  -- the first bad field decides: the bytes end inside it, or it is out of its range
  pub verdict-short : (done : ℕ) (l : List Field) (f : Field) (m : List Field) → AllGood len l → len < end f → verdict len done (l ++ f ∷ m) ≡ wrong_length
  unfolding verdict
  verdict-short done l f m g h = verdict-append done l (f ∷ m) g ∙ rw (lt-leb (end f) len h)

  pub verdict-out : (done : ℕ) (l : List Field) (f : Field) (m : List Field) → AllGood len l → end f ≤ len → f.in_range ≡ false → verdict len done (l ++ f ∷ m) ≡ out_of_range
  unfolding verdict
  verdict-out done l f m g h k = verdict-append done l (f ∷ m) g ∙ rw (le-leb (end f) len h, k)

-- fields that follow one another fill a well-formed image
pub tiles_whole : (len a b : ℕ) (l : List Field) → Tiles a b l → verdict len a l ≡ well_formed → Tiles a len l
tiles_whole len a b l t h = rw (sym (tiles_end a b l t) ∙ (well_formed-says a l h).1) at t

-- ---- one step: a field is missing, is out of its range, or is good and the rest decides

module _ {len : ℕ} (done : ℕ) (f : Field) (later : List Field) where
  pub step-missing : len < end f → verdict len done (f ∷ later) ≡ wrong_length
  unfolding verdict
  step-missing h = rw (lt-leb (end f) len h)

  pub step-out : end f ≤ len → f.in_range ≡ false → verdict len done (f ∷ later) ≡ out_of_range
  unfolding verdict
  step-out h k = rw (le-leb (end f) len h, k)

  pub step-good : end f ≤ len → f.in_range ≡ true → verdict len done (f ∷ later) ≡ verdict len (end f) later
  unfolding verdict
  step-good h k = rw (le-leb (end f) len h, k)
