-- The permitted state paths of a word are its runs. A run knows no word, only the letters that it has passed, the latest first, so that a
-- link is a cons; the last move of the one is the last move of the other, frame by frame. Assumes nothing.
use Prim.Native.Nat.{ℕ, zero, suc, ◌+◌, ◌-◌}
use mathlib.Core.Path.{◌≡◌, refl, sym, ◌∙◌, ap}
use mathlib.Core.Bool.{true, false, not, ◌&&◌}
use mathlib.Core.Logic.{inl, inr}
use mathlib.Core.List.Memᴰ
use mathlib.Core.List.Memᴰ.{cases_cons as cases}
use mathlib.Core.List.Memᴰ.{eq_of_singleton as only}
use mathlib.Core.List.Memᴰ.{head as here}
use mathlib.Core.List.Memᴰ.{tail as there}
use mathlib.Core.List.{List, [], ◌∷◌, map, Memᴰ}
use native.Mathlib.Omega.{arith}
use borrow.Author.Tests.{eqb-true, not-true}
use lib.IntN.{ℤ, ◌+ℤ◌, +ℤ_idr}
use lib.ListN.{length, get_or}
use lib.Dec.{eqb}
use Rattle.endian.specs.Lists.{all}
use Rattle.endian.proofs.Booleans.{and_in, and-out, not_in}
use Rattle.endian.proofs.Integers.{ints, sum}
use Rattle.endian.proofs.Lists.{mem_flat_map, of_flat_map, when_out}
use Rattle.voice.specs.Voice.{states, first_state, loop_score, step_score, link_score, emission, impossible}
use Rattle.endian.specs.Integers.{sum_z, eq_z}
use Rattle.decoder.specs.StatePaths.{Spot, spot, letter_at, state_at, last_spot, permitted}
use Rattle.decoder.specs.TrueScore.{Move, move, stay, moves_to, paths_to, parts}

-- a move of score m into a state that scores e brings a score from b to a
pub record Adds (m e b a : ℤ) : Type 0 where
  pub moved : eq_z m impossible ≡ false
  pub emitted : eq_z e impossible ≡ false
  pub total : a ≡ b +ℤ (m +ℤ e)

-- the latest letter
abbrev pub latest : List ℕ → ℕ
latest ls = get_or ls 0 0

-- the number of a state of the latest letter
abbrev pub state_in : List ℕ → List ℕ → ℕ → ℕ
state_in v ls s = first_state v (latest ls) + s

module _ (v frames : List ℕ) where
  -- what a state scores at frame t
  abbrev pub run_emission : ℕ → List ℕ → ℕ → ℤ
  run_emission t ls s = emission v (state_in v ls s) (get_or frames t 0)

  -- over the frames 0 to t, through these letters and to this state of the latest, with this score
  pub data Run : ℕ → List ℕ → ℕ → ℤ → Type 0 where
    begin : {l : ℕ} {a : ℤ} → eq_z a impossible ≡ false → a ≡ run_emission 0 (l ∷ []) 0 → Run zero (l ∷ []) zero a
    loop : {t s : ℕ} {ls : List ℕ} {a b : ℤ} → Run t ls s b
        → Adds (loop_score v (state_in v ls s)) (run_emission (suc t) ls s) b a
        → Run (suc t) ls s a
    step : {t s : ℕ} {ls : List ℕ} {a b : ℤ} → Run t ls s b
        → Adds (step_score v (state_in v ls s)) (run_emission (suc t) ls (suc s)) b a
        → Run (suc t) ls (suc s) a
    link : {t l s : ℕ} {ls : List ℕ} {a b : ℤ} → Run t ls s b → s ≡ states v (latest ls) - 1
        → Adds (link_score v (latest ls)) (run_emission (suc t) (l ∷ ls) 0) b a → Run (suc t) (l ∷ ls) zero a

  pub some-letter : {t s : ℕ} {a : ℤ} → ¬ Run t [] s a
  some-letter (loop r d) = some-letter r
  some-letter (step r d) = some-letter r

-- ---- the letters of a word up to position i, the latest first

abbrev pub passed : List ℕ → ℕ → List ℕ
passed word zero = letter_at word zero ∷ []
passed word (suc i) = letter_at word (suc i) ∷ passed word i

pub latest-passed : (word : List ℕ) (i : ℕ) → latest (passed word i) ≡ letter_at word i
latest-passed word zero = refl
latest-passed word (suc i) = refl

length-passed : (word : List ℕ) (i : ℕ) → length (passed word i) ≡ suc i
length-passed word zero = refl
length-passed word (suc i) = ap suc (length-passed word i)

pub first-passed : (word : List ℕ) (i l : ℕ) → l ∷ [] ≡ passed word i → (i ≡ 0) × (l ≡ letter_at word 0)
first-passed word i l e =
    let z : i ≡ 0 = omega (arith, ap length e, length-passed word i) in
    (z, ap latest e ∙ latest-passed word i ∙ ap (letter_at word) z)

-- a is the score of a run of the whole word over all frames
abbrev pub WordRun : List ℕ → List ℕ → List ℕ → ℤ → Type 0
WordRun v [] frames a = ⊥
WordRun v (l ∷ letters) [] a = ⊥
WordRun v (l ∷ letters) (k ∷ frames) a =
    Run v (k ∷ frames) (length frames) (passed (l ∷ letters) (length letters)) (states v (letter_at (l ∷ letters) (length letters)) - 1) a

-- ---- the state paths that the true score is made from, one frame at a time

-- the parts stand with the latest first, and a run adds at the end
latest-first : (e m b : ℤ) → e +ℤ (m +ℤ b) ≡ b +ℤ (m +ℤ e)
latest-first e m b = omega (arith, ints, sum e (m +ℤ b), sum m b, sum b (m +ℤ e), sum m e)

module _ (v word frames : List ℕ) where
  -- what a spot scores at frame t
  abbrev pub emission_at : ℕ → Spot → ℤ
  emission_at t q = emission v (state_at v word q) (get_or frames t 0)

  -- a is the score of a permitted one over the frames 0 to t that ends in q
  pub record Reaches (t : ℕ) (q : Spot) (a : ℤ) : Type 0 where
    pub moves : List Move
    pub among : Memᴰ moves (paths_to v word t q)
    pub clear : permitted (parts v word frames t q moves) ≡ true
    pub total : a ≡ sum_z (parts v word frames t q moves)

  -- its last move, and what it was before
  record Last (t : ℕ) (q : Spot) (a : ℤ) : Type 0 where
    over : Move
    before : ℤ
    listed : Memᴰ over (moves_to v word q.position q.state)
    came : Reaches t over.leaves before
    adds : Adds over.score (emission_at (suc t) q) before a

  reaches_in : {t : ℕ} {q : Spot} {a : ℤ} → Last t q a → Reaches (suc t) q a
  unfolding paths_to parts permitted all sum_z
  reaches_in {t} {q} L =
      let m = L.over in
      record {
        moves = m ∷ L.came.moves;
        among = mem_flat_map (λ m. map (λ p. m ∷ p) (paths_to v word t m.leaves)) L.listed (Memᴰ.map (λ p. m ∷ p) L.came.among);
        clear = and_in (not_in L.adds.emitted) (and_in (not_in L.adds.moved) L.came.clear);
        total = L.adds.total ∙ sym (latest-first (emission_at (suc t) q) m.score L.before) ∙ rw L.came.total;
      }

  reaches_out : {t : ℕ} {q : Spot} {a : ℤ} → Reaches (suc t) q a → Last t q a
  unfolding paths_to parts permitted all sum_z
  reaches_out {t} {q} {a} R =
      let f = of_flat_map (λ m. map (λ p. m ∷ p) (paths_to v word t m.leaves)) (moves_to v word q.position q.state) R.among in
      let m = f.0 in
      let r = Memᴰ.of_map (λ p. m ∷ p) (paths_to v word t m.leaves) f.2 in
      let p = r.0 in
      let e = emission_at (suc t) q in
      let b = sum_z (parts v word frames t m.leaves p) in
      let total' : a ≡ e +ℤ (m.score +ℤ b) = rw (← r.2) at R.total in
      let clear' : permitted (parts v word frames (suc t) q (m ∷ p)) ≡ true = rw (← r.2) at R.clear in
      let c = and-out (not (eq_z e impossible)) (not (eq_z m.score impossible) && permitted (parts v word frames t m.leaves p)) clear' in
      let d = and-out (not (eq_z m.score impossible)) (permitted (parts v word frames t m.leaves p)) c.1 in
      record {
        over = m;
        before = b;
        listed = f.1;
        came = record { moves = p; among = r.1; clear = d.1; total = refl };
        adds = record {
          moved = not-true (eq_z m.score impossible) d.0;
          emitted = not-true (eq_z e impossible) c.0;
          total = total' ∙ latest-first e m.score b;
        };
      }

  -- ---- such a path to position i is a run through the letters up to i

  pub reaches_run : {t i s : ℕ} {a : ℤ} → Reaches t (spot i s) a → Run v frames t (passed word i) s a
  unfolding paths_to parts permitted all sum_z state_at moves_to stay last_spot
  reaches_run {t = zero} {i} {s} {a} R =
      let w = and-out (eqb i 0) (eqb s 0) (when_out (eqb i 0 && eqb s 0) ([] ∷ []) R.among).0 in
      let p = eqb-true i 0 w.0 in
      let q = eqb-true s 0 w.1 in
      rw (p, q) (begin (rw (← one) at (not-true (eq_z e impossible) (and-out (not (eq_z e impossible)) true R.clear).0)) (rw (p, q) at one))
    where
      e : ℤ
      e = emission_at 0 (spot i s)

      one : a ≡ e
      one = R.total ∙ +ℤ_idr e
  reaches_run {t = suc t} {i} {s} {a} R = go i s (reaches_out R) (λ i s b r. reaches_run r)
    where
      go : (i s : ℕ) → Last t (spot i s) a → ((i s : ℕ) (b : ℤ) → Reaches t (spot i s) b → Run v frames t (passed word i) s b)
          → Run v frames (suc t) (passed word i) s a
      go i (suc s) L ih = elim (cases L.listed) [
        | inl e ↦ loop (ih _ _ _ (rw e at L.came)) (rw (e, ← latest-passed word i) at L.adds)
        | inr k ↦ let e = only k in step (ih _ _ _ (rw e at L.came)) (rw (e, ← latest-passed word i) at L.adds)
      ]
      go zero zero L ih = let e = only L.listed in loop (ih _ _ _ (rw e at L.came)) (rw e at L.adds)
      go (suc i) zero L ih = elim (cases L.listed) [
        | inl e ↦ loop (ih _ _ _ (rw e at L.came)) (rw e at L.adds)
        | inr k ↦ let e = only k in
            link (ih _ _ _ (rw e at L.came)) (rw (latest-passed word i)) (rw (e, ← latest-passed word i) at L.adds)
      ]

  -- ---- and such a run is such a path

  stay_listed : (i s : ℕ) → Memᴰ (stay v word (spot i s)) (moves_to v word i s)
  unfolding moves_to
  stay_listed i (suc s) = here refl
  stay_listed zero zero = here refl
  stay_listed (suc i) zero = here refl

  pub run_reaches : {t i s : ℕ} {ls : List ℕ} {a : ℤ} → Run v frames t ls s a → ls ≡ passed word i → Reaches t (spot i s) a
  unfolding paths_to parts permitted all sum_z state_at moves_to stay last_spot
  run_reaches {i} (begin {l} {a} c h) e =
      let z = first-passed word i l e in
      let g : a ≡ emission_at 0 (spot 0 0) = rw z.1 at h in
      rw z.0 (record { moves = []; among = here refl; clear = and_in (not_in (rw g at c)) refl; total = g ∙ sym (+ℤ_idr _) })
  run_reaches {i} (loop {s} {b} r d) e = reaches_in (record {
    over = stay v word (spot i s);
    before = b;
    listed = stay_listed i s;
    came = run_reaches r e;
    adds = rw (ap latest e ∙ latest-passed word i) at d;
  })
  run_reaches {i} (step {s} {b} r d) e = reaches_in (record {
    over = move (spot i s) (step_score v (state_at v word (spot i s)));
    before = b;
    listed = there (here refl);
    came = run_reaches r e;
    adds = rw (ap latest e ∙ latest-passed word i) at d;
  })
  run_reaches {i = zero} (link {ls} r h d) e = let n : ls ≡ [] = cc in absurd (some-letter v frames (rw n at r))
  run_reaches {i = suc i} (link {l} {s} {ls} {b} r h d) e =
      let f : ls ≡ passed word i = cc in
      let k : l ≡ letter_at word (suc i) = cc in
      let g : latest ls ≡ letter_at word i = ap latest f ∙ latest-passed word i in
      reaches_in (record {
        over = move (last_spot v word i) (link_score v (letter_at word i));
        before = b;
        listed = there (here refl);
        came = rw (h ∙ ap (λ l. states v l - 1) g) at (run_reaches {i = i} r f);
        adds = rw (k, g) at d;
      })
