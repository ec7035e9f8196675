-- Laws of a call's table: it answers its value exactly where no row applies, and a refusal exactly where that row applies and none before it.
-- Assumes nothing.
use mathlib.Core.Path.{◌≡◌, refl, sym, ap, ◌∙◌}
use mathlib.Core.Bool.{Bool, true, false, not, ◌&&◌, false≢true}
use mathlib.Core.List.{List, [], ◌∷◌, ◌++◌, append-nil, append_assoc}
use Prim.Native.Nat.{ℕ}
use native.Mathlib.Omega.{arith}
use borrow.Author.Tests.{not-true}
use Rattle.endian.specs.Lists.{all}
use Rattle.endian.proofs.Booleans.{and_in, and-out}
use Rattle.call.specs.declared.Refusal.{Refusal}
use Rattle.call.specs.Table.{Answer, value, refused, Row, on, none_applies, unless}
use Rattle.call.specs.Table.{FirstApplies, AnswersBy, by_value, by-refusal}

none-append : (rows more : List Row) → none_applies (rows ++ more) ≡ none_applies rows && none_applies more
unfolding none_applies all
none-append [] more = refl
none-append (r ∷ rows) more = go (not r.applies) (none-append rows more)
  where
    go : (b : Bool) → none_applies (rows ++ more) ≡ none_applies rows && none_applies more → b && none_applies (rows ++ more) ≡ b && none_applies rows && none_applies more
    go true h = h
    go false h = refl

pub none_join : (rows more : List Row) → none_applies rows ≡ true → none_applies more ≡ true → none_applies (rows ++ more) ≡ true
none_join rows more h k = none-append rows more ∙ and_in h k

pub none-parts : (rows more : List Row) → none_applies (rows ++ more) ≡ true → (none_applies rows ≡ true) × (none_applies more ≡ true)
none-parts rows more h = and-out (none_applies rows) (none_applies more) (sym (none-append rows more) ∙ h)

-- each row, one after the other, does not apply
abbrev pub EachPassed : List Row → Type 0
EachPassed [] = Unit {0}
EachPassed (r ∷ rows) = (r.applies ≡ false) × EachPassed rows

pub none-says : (rows : List Row) → none_applies rows ≡ true → EachPassed rows
unfolding none_applies all
none-says [] h = tt
none-says (r ∷ rows) h = let u = and-out (not r.applies) (none_applies rows) h in (not-true r.applies u.0, none-says rows u.1)

pub passed_none : (rows : List Row) → EachPassed rows → none_applies rows ≡ true
unfolding none_applies all
passed_none [] u = refl
passed_none (r ∷ rows) u = rw u.0 (passed_none rows u.1)

module _ {A : Type 0} where
  -- rows that do not apply are passed over
  pub unless-past : (rows more : List Row) (a : A) → none_applies rows ≡ true → unless (rows ++ more) a ≡ unless more a
  unfolding none_applies all unless
  unless-past [] more a h = refl
  unless-past (r ∷ rows) more a h = go r.applies refl h (unless-past rows more a)
    where
      go : (b : Bool) → r.applies ≡ b → not b && none_applies rows ≡ true → (none_applies rows ≡ true → unless (rows ++ more) a ≡ unless more a) → unless ((r ∷ rows) ++ more) a ≡ unless more a
      go true e h ih = absurd (false≢true h)
      go false e h ih = rw e (ih h)

  -- the value, where no row applies
  pub unless-value : (rows : List Row) (a : A) → none_applies rows ≡ true → unless rows a ≡ value a
  unfolding none_applies all unless
  unless-value [] a h = refl
  unless-value (r ∷ rows) a h = go r.applies refl h (unless-value rows a)
    where
      go : (b : Bool) → r.applies ≡ b → not b && none_applies rows ≡ true → (none_applies rows ≡ true → unless rows a ≡ value a) → unless (r ∷ rows) a ≡ value a
      go true e h ih = absurd (false≢true h)
      go false e h ih = rw e (ih h)

  -- the first row that applies
  pub unless-first : (rows : List Row) (r : Refusal) (more : List Row) (a : A) → none_applies rows ≡ true → unless (rows ++ on r true ∷ more) a ≡ refused r
  unless-first rows r more a h = unless-past rows (on r true ∷ more) a h ∙ (unfold unless in refl)

  pub same-value : {a b : A} → value a ≡ value b → a ≡ b
  same-value e = cc

  pub refused-no-value : {r : Refusal} {a : A} → refused r ≡ value a → ⊥
  refused-no-value e = let z : ◌≡◌ {A = ℕ} 0 1 = cc in omega arith

  -- a value shows that no row applies, and that it is the call's
  pub value-passed : (rows : List Row) (a b : A) → unless rows a ≡ value b → (none_applies rows ≡ true) × (a ≡ b)
  unfolding none_applies all unless
  value-passed [] a b h = (refl, same-value h)
  value-passed (r ∷ rows) a b h = go r.applies refl h (value-passed rows a b)
    where
      go : (t : Bool) → r.applies ≡ t → unless (r ∷ rows) a ≡ value b → (unless rows a ≡ value b → (none_applies rows ≡ true) × (a ≡ b)) → (none_applies (r ∷ rows) ≡ true) × (a ≡ b)
      go true e h ih = absurd (refused-no-value {r = r.refusal} {a = b} (rw e at h))
      go false e h ih = rw e (ih (rw e at h))

  -- a refusal shows its row
  pub refused-first : (rows : List Row) (a : A) (r : Refusal) → unless rows a ≡ refused r → FirstApplies rows r
  unfolding none_applies all unless
  refused-first [] a r h = absurd (refused-no-value (sym h))
  refused-first (q ∷ rows) a r h = go q.applies refl h (refused-first rows a r)
    where
      go : (t : Bool) → q.applies ≡ t → unless (q ∷ rows) a ≡ refused r → (unless rows a ≡ refused r → FirstApplies rows r) → FirstApplies (q ∷ rows) r
      go true e h ih =
          let k : refused q.refusal ≡ refused r = rw e at h in
          let s : q.refusal ≡ r = cc in
          record { earlier = []; later = rows; split = λ i. record { refusal = s i; applies = e i } ∷ rows; none_before = refl }
      go false e h ih =
          let f = ih (rw e at h) in
          record { earlier = q ∷ f.earlier; later = f.later; split = ap (λ (l : List Row). q ∷ l) f.split; none_before = rw e f.none_before }

  -- what a table answers, whatever its rows and its value
  pub answers_by : {rows : List Row} {a : A} → AnswersBy rows a (unless rows a)
  answers_by {rows} {a} = go (unless rows a) refl
    where
      go : (b : Answer A) → unless rows a ≡ b → AnswersBy rows a b
      go (value b) e = let u = value-passed rows a b e in rw (← u.1) (by_value u.0)
      go (refused r) e = by-refusal (refused-first rows a r e)

module _ {A B : Type 0} where
  -- neither rows after the one that decides nor the value change a refusal
  pub refused-before : (rows more : List Row) (a : A) (b : B) {r : Refusal} → unless rows a ≡ refused r → unless (rows ++ more) b ≡ refused r
  refused-before rows more a b {r} h =
      let f = refused-first rows a r h in
      rw (f.split, append_assoc f.earlier (on r true ∷ f.later) more) (unless-first f.earlier r (f.later ++ more) b f.none_before)

  pub refused_with : (rows : List Row) (a : A) (b : B) {r : Refusal} → unless rows a ≡ refused r → unless rows b ≡ refused r
  refused_with rows a b h = rw append-nil at (refused-before rows [] a b h)
