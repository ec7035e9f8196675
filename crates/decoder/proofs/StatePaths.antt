-- The literal state paths that are permitted are the runs of a word: the spots of such a path, frame by frame, make a run of the same score,
-- and the spots of a run are such a path. Assumes nothing.
use Prim.Native.Nat.{ℕ, zero, suc, ◌-◌, ◌≤◌, ◌<◌}
use mathlib.Core.Path.{◌≡◌, refl, sym, ◌∙◌, ap}
use mathlib.Core.Bool.{true, false, not}
use mathlib.Core.Logic.{inl, inr}
use mathlib.Core.List.Memᴰ
use mathlib.Core.List.Memᴰ.{append_cases}
use mathlib.Core.List.{List, [], ◌∷◌, ◌++◌, map, Memᴰ}
use native.Mathlib.Omega.{arith}
use native.Mathlib.Decide.{ℕ_discrete}
use borrow.Author.Tests.{eq-eqb, ne_eqb, not-true}
use lib.IntN.{ℤ}
use lib.ListN.{length, length-append, get_or-append}
use lib.Seq.{get_or_at}
use Rattle.endian.specs.Lists.{from}
use Rattle.endian.proofs.Booleans.{not_in}
use Rattle.endian.proofs.Lists.{mem_get_d, all_in, all_out, from_in, from_out}
use Rattle.voice.specs.Voice.{states, loop_score, step_score, link_score, impossible, voice_verdict}
use Rattle.voice.specs.Fields.{well_formed}
use Rattle.voice.proofs.Letters.{states-range}
use Rattle.graph.proofs.Spelling.{Known}
use Rattle.endian.specs.Integers.{eq_z}
use Rattle.decoder.specs.StatePaths.{Spot, spot, letter_at, state_at, last_spot, spot_at, Inside, Follows, stays, steps, links, move_score, StatePath, parts_of, score_of, permitted, Attains}
use Rattle.decoder.proofs.Runs.{Run, begin, loop, step, link, Adds, latest, passed, latest-passed, first-passed}
use Rattle.decoder.proofs.Runs.{some-letter, emission_at, WordRun}
use Rattle.decoder.proofs.Sums.{sum_from, sum-append, total, total-zero, total-last, total-same}

-- each letter of a word has a state
abbrev pub Stated : List ℕ → List ℕ → Type 0
Stated v word = (i : ℕ) → i < length word → 1 ≤ states v (letter_at word i)

-- so it is with the letters of an accepted voice model
pub accepted_stated : (v : List ℕ) → voice_verdict v ≡ well_formed → {word : List ℕ} → Known v word → Stated v word
accepted_stated v accepted {word} known i h = (states-range v accepted (known (letter_at word i) (mem_get_d word i 0 h))).0

-- what a path scores at frame t, and in the move after it
abbrev pub path_emission : List ℕ → List ℕ → List ℕ → List Spot → ℕ → ℤ
path_emission v word frames path t = emission_at v word frames t (spot_at path t)

abbrev pub moved_in : List ℕ → List ℕ → List Spot → ℕ → ℤ
moved_in v word path t = move_score v word (spot_at path t) (spot_at path (suc t))

module _ (v word frames : List ℕ) where
  record Stands (t : ℕ) (q : Spot) : Type 0 where
    inside : Inside v word q
    emitted : eq_z (emission_at v word frames t q) impossible ≡ false

  record PossibleMove (q r : Spot) : Type 0 where
    follows : Follows v word q r
    moved : eq_z (move_score v word q r) impossible ≡ false

  record Permits (path : List Spot) (t : ℕ) : Type 0 where
    begins : spot_at path 0 ≡ spot 0 0
    stands : (j : ℕ) → j ≤ t → Stands j (spot_at path j)
    moves : (j : ℕ) → j < t → PossibleMove (spot_at path j) (spot_at path (suc j))

  total_to : List Spot → ℕ → ℤ
  total_to path t = total (path_emission v word frames path) (moved_in v word path) t

  -- one that ends in q, with its score
  record PathEnding (t : ℕ) (q : Spot) (a : ℤ) : Type 0 where
    path : List Spot
    permits : Permits path t
    one_each : length path ≡ suc t
    ends : spot_at path t ≡ q
    scores : total_to path t ≡ a

  -- one frame more
  extend : {t : ℕ} {q r : Spot} {a b : ℤ} → PathEnding t q b → Follows v word q r → Inside v word r
      → Adds (move_score v word q r) (emission_at v word frames (suc t) r) b a → PathEnding (suc t) r a
  unfolding total_to
  extend {t} {q} {r} {a} {b} A f i d = record {
    path = new;
    permits = record { begins = old_at 0 (omega arith) ∙ P.begins; stands = stand; moves = moves' };
    one_each = length-append A.path (r ∷ []) ∙ omega (arith, A.one_each);
    ends = new_at;
    scores =
        total-last (path_emission v word frames new) (moved_in v word new) t
        ∙ rw (same, old_at t (omega arith), A.ends, new_at) (sym d.total);
  }
    where
      P : Permits A.path t
      P = A.permits

      new : List Spot
      new = A.path ++ (r ∷ [])

      old_at : (j : ℕ) → j ≤ t → spot_at new j ≡ spot_at A.path j
      old_at j k = get_or-append A.path (r ∷ []) (spot 0 0) j (omega (arith, A.one_each))

      new_at : spot_at new (suc t) ≡ r
      new_at = get_or_at A.path r [] (spot 0 0) (suc t) A.one_each

      stand : (j : ℕ) → j ≤ suc t → Stands j (spot_at new j)
      stand j k = elim (ℕ_discrete j (suc t)) [
        | yes e ↦ rw (e, new_at) (record { inside = i; emitted = d.emitted })
        | no n ↦ rw (old_at j (omega arith)) (P.stands j (omega arith))
      ]

      moves' : (j : ℕ) → j < suc t → PossibleMove (spot_at new j) (spot_at new (suc j))
      moves' j k = elim (ℕ_discrete j t) [
        | yes e ↦ rw (e, old_at t (omega arith), A.ends, new_at) (record { follows = f; moved = d.moved })
        | no n ↦ rw (old_at j (omega arith), old_at (suc j) (omega arith)) (P.moves j (omega arith))
      ]

      same : total (path_emission v word frames new) (moved_in v word new) t ≡ b
      same = total-same _ _ _ _ t (λ j k. rw (old_at j k)) (λ j k. rw (old_at j (omega arith), old_at (suc j) k)) ∙ A.scores

  -- what the moves score
  score_stays : (q : Spot) → move_score v word q q ≡ loop_score v (state_at v word q)
  unfolding move_score
  score_stays q = rw (eq-eqb q.position q.position refl, eq-eqb q.state q.state refl)

  score_steps : (i s : ℕ) → move_score v word (spot i s) (spot i (suc s)) ≡ step_score v (state_at v word (spot i s))
  unfolding move_score
  score_steps i s = rw (eq-eqb i i refl, ne_eqb (suc s) s (omega arith))

  pub score_links : (i s : ℕ) → move_score v word (spot i s) (spot (suc i) 0) ≡ link_score v (letter_at word i)
  unfolding move_score
  score_links i s = rw (ne_eqb (suc i) i (omega arith))

  -- ---- the spots of a run are such a path

  run_ending : Stated v word → {t i s : ℕ} {ls : List ℕ} {a : ℤ} → Run v frames t ls s a → ls ≡ passed word i
      → Inside v word (spot i s)
      → PathEnding t (spot i s) a
  unfolding state_at total_to
  run_ending st {i} (begin {l} {a} h e) q I =
      let z = first-passed word i l q in
      let g : a ≡ emission_at v word frames 0 (spot 0 0) = rw z.1 at e in
      rw z.0 (record {
        path = spot 0 0 ∷ [];
        permits = record {
          begins = refl;
          stands = λ j k. let y : j ≡ 0 = omega arith in rw y (record { inside = rw z.0 at I; emitted = rw g at h });
          moves = λ j k. absurd (omega arith);
        };
        one_each = refl;
        ends = refl;
        scores = total-zero _ _ ∙ sym g;
      })
  run_ending st {i} (loop {s} r d) q I =
      extend (run_ending st r q I) stays I (rw (score_stays (spot i s)) (rw (ap latest q ∙ latest-passed word i) at d))
  run_ending st {i} (step {s} r d) q I =
      let J : Inside v word (spot i s) = record { letter = I.letter; state = omega (arith, I.state) } in
      extend (run_ending st r q J) steps I (rw (score_steps i s) (rw (ap latest q ∙ latest-passed word i) at d))
  run_ending st {i = zero} (link {ls} r h d) q I = let z : ls ≡ [] = cc in absurd (some-letter v frames (rw z at r))
  run_ending st {i = suc i} (link {l} {s} {ls} r h d) q I =
      let z : ls ≡ passed word i = cc in
      let y : l ≡ letter_at word (suc i) = cc in
      let g : latest ls ≡ letter_at word i = ap latest z ∙ latest-passed word i in
      let e : s ≡ states v (letter_at word i) - 1 = h ∙ ap (λ l. states v l - 1) g in
      let b : i < length word = omega (arith, I.letter) in
      extend (run_ending st r z (record { letter = b; state = omega (arith, st i b) })) (links e) I
      (rw (score_links i s) (rw (y, g) at d))

  -- ---- such a path is a run

  follow_run : {t : ℕ} {q r : Spot} {a b : ℤ} → Follows v word q r → Run v frames t (passed word q.position) q.state b
      → Adds (move_score v word q r) (emission_at v word frames (suc t) r) b a
      → Run v frames (suc t) (passed word r.position) r.state a
  unfolding state_at
  follow_run (stays {q}) r d = loop r (rw (score_stays q, ← latest-passed word q.position) at d)
  follow_run (steps {i} {s}) r d = step r (rw (score_steps i s, ← latest-passed word i) at d)
  follow_run (links {i} {s} e) r d = link r (rw (latest-passed word i) e) (rw (score_links i s, ← latest-passed word i) at d)

  permits_run : {path : List Spot} (t : ℕ) → Permits path t
      → Run v frames t (passed word (spot_at path t).position) (spot_at path t).state (total_to path t)
  unfolding total_to state_at
  permits_run {path} zero P =
      rw (total-zero (path_emission v word frames path) (moved_in v word path), P.begins)
      (begin (rw P.begins at (P.stands 0 (omega arith)).emitted) refl)
  permits_run {path} (suc t) P = follow_run (P.moves t (omega arith)).follows (permits_run t shorter) (record {
    moved = (P.moves t (omega arith)).moved;
    emitted = (P.stands (suc t) (omega arith)).emitted;
    total = total-last (path_emission v word frames path) (moved_in v word path) t;
  })
    where
      shorter : Permits path t
      shorter = record { begins = P.begins; stands = λ j k. P.stands j (omega arith); moves = λ j k. P.moves j (omega arith) }

  -- ---- the literal state path

  -- its parts are those of the frames and of the moves between them
  module _ (path : List Spot) (t : ℕ) (one_each : length path ≡ suc t) where
    abbrev emitted : ℕ → ℤ
    emitted = path_emission v word frames path

    abbrev moved : ℕ → ℤ
    moved = moved_in v word path

    literal_parts : parts_of v word frames path ≡ map emitted (from 0 (suc t)) ++ map moved (from 0 t)
    unfolding parts_of
    literal_parts = let e : suc t - 1 ≡ t = omega arith in rw (one_each, e)

    literal_score : score_of v word frames path ≡ total_to path t
    unfolding score_of total_to total sum_from
    literal_score = rw literal_parts (sum-append _ _)

    literal_permits : Permits path t → permitted (parts_of v word frames path) ≡ true
    unfolding permitted
    literal_permits P = rw literal_parts (all_in _ _ (λ a m. elim (append_cases (map emitted (from 0 (suc t))) m) [
      | inl k ↦ let r = Memᴰ.of_map emitted (from 0 (suc t)) k in
          not_in (rw r.2 at (P.stands r.0 (omega (arith, from_out 0 (suc t) r.1))).emitted)
      | inr k ↦ let r = Memᴰ.of_map moved (from 0 t) k in
          not_in (rw r.2 at (P.moves r.0 (omega (arith, from_out 0 t r.1))).moved)
    ]))

    permits_literal : StatePath v word (suc t) path → permitted (parts_of v word frames path) ≡ true → Permits path t
    unfolding permitted
    permits_literal P c = record {
      begins = P.begins;
      stands = λ j k. record {
        inside = P.inside j (omega arith);
        emitted = possible (Memᴰ.append_left _ (Memᴰ.map emitted (from_in 0 (suc t) j (omega arith) (omega arith))));
      };
      moves = λ j k. record {
        follows = P.follows j (omega arith);
        moved =
            possible
            (Memᴰ.append_right (map emitted (from 0 (suc t)))
            (Memᴰ.map moved (from_in 0 t j (omega arith) (omega arith))));
      };
    }
      where
        possible : {a : ℤ} → Memᴰ a (map emitted (from 0 (suc t)) ++ map moved (from 0 t))
            → eq_z a impossible ≡ false
        possible {a} m = not-true (eq_z a impossible) (all_out (λ a. not (eq_z a impossible)) (rw literal_parts at c) m)

  -- over all frames, to the last letter
  module _ {t i : ℕ} (T : length frames ≡ suc t) (L : length word ≡ suc i) where
    last_frame : length frames - 1 ≡ t
    last_frame = omega arith

    last_position : length word - 1 ≡ i
    last_position = omega arith

    ending_attains : {a : ℤ} → PathEnding t (last_spot v word i) a → Attains v word frames a
    ending_attains A = record {
      path = A.path;
      is_path = record {
        some_frame = omega arith;
        one_each = A.one_each ∙ sym T;
        inside = λ j k. (P.stands j (omega arith)).inside;
        begins = P.begins;
        follows = λ j k. (P.moves j (omega arith)).follows;
        ends = rw (last_frame, last_position) A.ends;
      };
      is_permitted = literal_permits A.path t A.one_each P;
      scores = literal_score A.path t A.one_each ∙ A.scores;
    }
      where
        P : Permits A.path t
        P = A.permits

    attains_run : {a : ℤ} → Attains v word frames a → Run v frames t (passed word i) (last_spot v word i).state a
    unfolding last_spot
    attains_run {a} A = rw (s, e) at r
      where
        o : length A.path ≡ suc t
        o = A.is_path.one_each ∙ T

        r : Run v frames t (passed word (spot_at A.path t).position) (spot_at A.path t).state (total_to A.path t)
        r = permits_run t (permits_literal A.path t o (rw T at A.is_path) A.is_permitted)

        s : total_to A.path t ≡ a
        s = sym (literal_score A.path t o) ∙ A.scores

        e : spot_at A.path t ≡ last_spot v word i
        e = rw (last_frame, last_position) at A.is_path.ends

-- ---- the whole word, over all frames

pub word-run-attained : (v word frames : List ℕ) {a : ℤ} → Stated v word → WordRun v word frames a
    → Attains v word frames a
unfolding last_spot
word-run-attained v [] frames st r = absurd r
word-run-attained v (l ∷ letters) [] st r = absurd r
word-run-attained v (l ∷ letters) (k ∷ frames) st r =
    let h = st (length letters) (omega arith) in
    ending_attains v (l ∷ letters) (k ∷ frames) {i = length letters} refl refl
    (run_ending v (l ∷ letters) (k ∷ frames) st r refl (record { letter = omega arith; state = omega arith }))

pub attained-word-run : (v word frames : List ℕ) {a : ℤ} → Attains v word frames a → WordRun v word frames a
unfolding last_spot
attained-word-run v [] frames A = omega (arith, (A.is_path.inside 0 A.is_path.some_frame).letter)
attained-word-run v (l ∷ letters) [] A = omega (arith, A.is_path.some_frame)
attained-word-run v (l ∷ letters) (k ∷ frames) A = attains_run v (l ∷ letters) (k ∷ frames) refl refl A
