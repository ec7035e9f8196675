-- Which tokens come over a move: those that were where it begins, with its score and increment added, where the score is possible.
-- Assumes nothing.
use Prim.Native.Nat.{ℕ, ◌+◌}
use mathlib.Core.Path.{◌≡◌, refl, sym, ◌∙◌, ap, ap₂}
use mathlib.Core.Bool.{Bool, true, false, cond}
use mathlib.Core.List.Memᴰ
use mathlib.Core.List.Memᴰ.{eq_of_singleton as only}
use mathlib.Core.List.Memᴰ.{head as here}
use mathlib.Core.List.Memᴰ.{not-nil}
use mathlib.Core.List.{List, [], ◌∷◌}
use mathlib.Core.Option.{Option, none, some}
use native.Mathlib.Omega.{arith}
use lib.IntN.{ℤ, pos, ◌+ℤ◌, +ℤ_idl}
use Rattle.endian.specs.Integers.{eq_z}
use Rattle.voice.specs.Voice.{impossible}
use Rattle.ranking.specs.Hits.{Hit, hit}
use Rattle.ranking.proofs.Hits.{hit-path}
use Rattle.decoder.specs.Score.{possible, plus}
use Rattle.decoder.proofs.Runs.{Adds}
use Rattle.decoder.proofs.TrueScore.{some≢none}
use Rattle.passing.specs.Best.{shift}
use Rattle.passing.specs.Tokens.{carried}
use Rattle.passing.proofs.Order.{◌∈◌}

pub record Carried (o : Option ℤ) (d : ℕ) (l : List Hit) (c : Hit) : Type 0 where
  pub was : Hit
  pub listed : was ∈ l
  pub gain : ℤ
  pub scores : o ≡ some gain
  pub score : c.score ≡ was.score +ℤ gain
  pub code : c.code ≡ was.code + d

pub carried-out : (o : Option ℤ) (d : ℕ) (l : List Hit) {c : Hit} → c ∈ carried o d l → Carried o d l c
unfolding carried shift
carried-out none d l i = absurd (not-nil i)
carried-out (some k) d l i =
    let r = Memᴰ.of_map (shift k d) l i in
    record { was = r.0; listed = r.1; gain = k; scores = refl; score = ap (λ h. h.score) (sym r.2); code = ap (λ h. h.code) (sym r.2) }

pub carried_in : (o : Option ℤ) (d : ℕ) (l : List Hit) {c : Hit} → Carried o d l c → c ∈ carried o d l
unfolding carried shift
carried_in o d l C = rw C.scores (Memᴰ.cast (hit-path C.score C.code) (Memᴰ.map (shift C.gain d) C.listed))

possible_in : {a : ℤ} → eq_z a impossible ≡ false → possible a ≡ some a
unfolding possible
possible_in e = rw e

possible-out : (a : ℤ) {b : ℤ} → possible a ≡ some b → (eq_z a impossible ≡ false) × (b ≡ a)
unfolding possible
possible-out a {b} h = by (eq_z a impossible) refl h
  where
    by : (t : Bool) → eq_z a impossible ≡ t → cond t none (some a) ≡ some b → (eq_z a impossible ≡ false) × (b ≡ a)
    by true e h = absurd (some≢none h refl)
    by false e h = (e, cc)

plus-out : (o p : Option ℤ) {k : ℤ} → plus o p ≡ some k → (a : ℤ) × (b : ℤ) × (o ≡ some a) × (p ≡ some b) × (k ≡ a +ℤ b)
unfolding plus
plus-out none p e = absurd (some≢none e refl)
plus-out (some a) none e = absurd (some≢none e refl)
plus-out (some a) (some b) e = (a, b, refl, refl, cc)

-- over a move of score m, to an emission e
pub record Moved (m e : ℤ) (d : ℕ) (l : List Hit) (c : Hit) : Type 0 where
  pub was : Hit
  pub listed : was ∈ l
  pub adds : Adds m e was.score c.score
  pub code : c.code ≡ was.code + d

pub moved_out : (m e : ℤ) (d : ℕ) (l : List Hit) {c : Hit} → c ∈ carried (plus (possible m) (possible e)) d l → Moved m e d l c
moved_out m e d l i =
    let C = carried-out (plus (possible m) (possible e)) d l i in
    let p = plus-out (possible m) (possible e) C.scores in
    let a = possible-out m p.2 in
    let b = possible-out e p.3 in
    record {
      was = C.was;
      listed = C.listed;
      adds =
          record {
            moved = a.0;
            emitted = b.0;
            total = C.score ∙ ap (λ k. C.was.score +ℤ k)
                (p.4 ∙ ap₂ (λ x y. x +ℤ y) a.1 b.1);
          };
      code = C.code;
    }

pub moved_in_lem : (m e : ℤ) (d : ℕ) (l : List Hit) {c : Hit} → Moved m e d l c → c ∈ carried (plus (possible m) (possible e)) d l
unfolding plus
moved_in_lem m e d l M = carried_in (plus (possible m) (possible e)) d l (record {
  was = M.was;
  listed = M.listed;
  gain = m +ℤ e;
  scores = rw (possible_in M.adds.moved, possible_in M.adds.emitted);
  score = M.adds.total;
  code = M.code;
})

-- the root's token over an arc of score 0, to an emission e
pub root-out : (e : ℤ) (d : ℕ) {c : Hit} → c ∈ carried (plus (some (pos 0)) (possible e)) d (hit (pos 0) 0 ∷ [])
    → (eq_z e impossible ≡ false) × (c.score ≡ e) × (c.code ≡ d)
root-out e d {c} i =
    let C = carried-out (plus (some (pos 0)) (possible e)) d (hit (pos 0) 0 ∷ []) i in
    let p = plus-out (some (pos 0)) (possible e) C.scores in
    let b = possible-out e p.3 in
    let z : p.0 ≡ pos 0 = cc p.2 in
    (b.0, score C.score (only C.listed) p.4 z b.1, C.code ∙ ap (λ h. h.code + d) (only C.listed) ∙ omega arith)
  where
    score : {w : Hit} {k x y : ℤ} → c.score ≡ w.score +ℤ k → w ≡ hit (pos 0) 0 → k ≡ x +ℤ y → x ≡ pos 0 → y ≡ e → c.score ≡ e
    score f w k x y = rw (w, k, x, y) at f ∙ +ℤ_idl (pos 0 +ℤ e) ∙ +ℤ_idl e

pub root_in : (e : ℤ) (d : ℕ) → eq_z e impossible ≡ false → hit e d ∈ carried (plus (some (pos 0)) (possible e)) d (hit (pos 0) 0 ∷ [])
unfolding plus
root_in e d h = carried_in (plus (some (pos 0)) (possible e)) d (hit (pos 0) 0 ∷ []) (record {
  was = hit (pos 0) 0;
  listed = here refl;
  gain = pos 0 +ℤ e;
  scores = rw (possible_in h);
  score = sym (+ℤ_idl (pos 0 +ℤ e) ∙ +ℤ_idl e);
  code = omega arith;
})
