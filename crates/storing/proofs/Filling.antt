-- The tables of a call and of a frame while they are filled: state by state, letter by letter; and what they say of the
-- letters of nodes. Assumes nothing.
use Prim.Native.Nat.{ℕ, suc, ◌+◌, ◌-◌, ◌*◌, ◌≤◌, ◌<◌}
use mathlib.Core.Path.{◌≡◌, refl, sym, ap, ◌∙◌}
use mathlib.Core.Bool.{Bool, true, false, false≢true}
use mathlib.Core.List.{List}
use native.Mathlib.Omega.{arith}
use native.Mathlib.Decide.{ℕ_discrete}
use native.Mathlib.Nat.{add-suc, suc-mul}
use borrow.Author.Tests.{lt-ltb}
use lib.IntN.{ℤ}
use lib.ListN.{length, get_or, set, length-set}
use lib.Seq.{get_or-set_same, get_or-set_other}
use Rattle.endian.specs.Bytes.{i16}
use Rattle.endian.proofs.Bytes.{i16-range}
use Rattle.voice.specs.Fields.{well_formed}
use Rattle.voice.specs.Voice.{letter_count, states, first_state, loop_score, step_score, symbols_at, symbol_count}
use Rattle.voice.specs.Voice.{emission, voice_verdict}
use Rattle.voice.proofs.Letters.{states-range}
use Rattle.voice.proofs.Scores.{emission-there}
use Rattle.lexicon.specs.Lexicon.{node_count, node_letter}
use Rattle.decoder.specs.Score.{number_of, possible}
use Rattle.storing.specs.declared.Moves.{Moves}
use Rattle.storing.specs.declared.Letter.{Letter}
use Rattle.storing.specs.Gains.{no_moves, no_letter, StatesRoom, LettersRoom, GainsRoom}
use Rattle.storing.specs.Gains.{NearBias, number_sum, letter_pairs, pair_score, loop_number, step_number, loop_gain}
use Rattle.storing.specs.Gains.{step_gain, LettersMarked, LetterEntries, letter_in, LetterRow, letter_at, HasRow}
use Rattle.storing.specs.Gains.{NodeLetters, GainRow, Gained, MoveGains, EntryGains, KnownSymbol}
use Rattle.storing.specs.Gains.{AtLetter, StatePut, FirstPut, link_number, LinkTable}
use Rattle.storing.proofs.Gaining.{number_near, sum_both, letter-small, state-there, loop-score}
use Rattle.storing.proofs.Gaining.{step-score, LettersPassed, letters-start, letters_next}
use Rattle.storing.proofs.Carrying.{emission-range}

-- ---- the letters in use

pub marks-start : {x : List ℕ} {marks : List Bool} → length marks ≡ 64 → LettersMarked x 0 marks
marks-start e = record { long = e; marked = λ u l h. absurd (omega arith) }

-- the letter of the next node gets its mark
pub marks-next : {x : List ℕ} {m : ℕ} {marks : List Bool} → get_or x (2 + m) 0 < 64 → LettersMarked x m marks
    → LettersMarked x (m + 1) (set marks (get_or x (2 + m) 0) true)
unfolding node_letter
marks-next {x} {m} {marks} h d = record {
  long = length-set marks (get_or x (2 + m) 0) true ∙ d.long;
  marked = λ u l k. at u l k (ℕ_discrete (get_or x (1 + u) 0) (get_or x (2 + m) 0)) (ℕ_discrete u (suc m));
}
  where
    at : (u : ℕ) → 1 ≤ u → u ≤ m + 1 → Dec (get_or x (1 + u) 0 ≡ get_or x (2 + m) 0) → Dec (u ≡ suc m)
        → get_or (set marks (get_or x (2 + m) 0) true) (get_or x (1 + u) 0) false ≡ true
    at u l k (yes e) q = rw e (get_or-set_same marks (get_or x (2 + m) 0) true false (omega (arith, d.long)))
    at u l k (no e) (yes q) = let at : 1 + u ≡ 2 + m = omega arith in absurd (e (ap (λ j. get_or x j 0) at))
    at u l k (no e) (no q) = get_or-set_other marks (get_or x (2 + m) 0) (get_or x (1 + u) 0) true false e ∙ d.marked u l (omega (arith, q))

-- ---- the links

pub links-start : {v links : List ℕ} → length links ≡ 64 → LinkTable v 0 links
links-start e = record { long = e; link = λ l h. absurd (omega arith) }

-- the link of the next letter is put
pub links-next : {v : List ℕ} {n : ℕ} {links : List ℕ} {a : ℕ} → n < 64 → a ≡ link_number v n → LinkTable v n links
    → LinkTable v (n + 1) (set links n a)
links-next {v} {n} {links} {a} h e t = record {
  long = length-set links n a ∙ t.long;
  link = λ l k. at l k (ℕ_discrete l n);
}
  where
    at : (l : ℕ) → l < n + 1 → Dec (l ≡ n) → get_or (set links n a) l 0 ≡ link_number v l
    at l k (yes q) = rw q (get_or-set_same links n a 0 (omega (arith, t.long)) ∙ e)
    at l k (no q) = get_or-set_other links n l a 0 q ∙ t.link l (omega (arith, q))

-- ---- the row of one letter

-- the entries of its states below s are filled
pub record Filling (v : List ℕ) (loop step : ℕ → ℕ → ℕ) (l s : ℕ) (row : Moves) : Type 0 where
  pub room : StatesRoom row
  pub loop_at : (r : ℕ) → r < s → get_or row.loops r 0 ≡ loop l r
  pub step_at : (r : ℕ) → suc r < s → get_or row.steps (suc r) 0 ≡ step l r

pub fill_start : {v : List ℕ} {loop step : ℕ → ℕ → ℕ} {l : ℕ} {row : Moves} → StatesRoom row
    → Filling v loop step l 0 row
fill_start e = record { room = e; loop_at = λ r h. absurd (omega arith); step_at = λ r h. absurd (omega arith) }

-- the next state's loop, and the step into it where it isn't the first
pub fill-next : {v : List ℕ} {loop step : ℕ → ℕ → ℕ} {l s a b : ℕ} {row row' : Moves} → Filling v loop step l s row
    → StatePut row s a b row' → a ≡ loop l s → ((p : ℕ) → s ≡ suc p → b ≡ step l p) → Filling v loop step l (s + 1) row'
fill-next {v} {loop} {step} {l} {s} {a} {b} {row} {row'} f e loop-is step_is = record {
  room = e.room;
  loop_at = λ r k. loop_at r k (ℕ_discrete r s);
  step_at = λ r k. step_at r k (ℕ_discrete (suc r) s);
}
  where
    loop_at : (r : ℕ) → r < s + 1 → Dec (r ≡ s) → get_or row'.loops r 0 ≡ loop l r
    loop_at r k (yes d) = rw d (e.loop ∙ loop-is)
    loop_at r k (no d) = e.other_loops r d ∙ f.loop_at r (omega (arith, d))

    step_at : (r : ℕ) → suc r < s + 1 → Dec (suc r ≡ s) → get_or row'.steps (suc r) 0 ≡ step l r
    step_at r k (yes d) = rw d (e.step (omega arith) ∙ step_is r (sym d))
    step_at r k (no d) = e.other_steps (suc r) d ∙ f.step_at r (omega (arith, d))

-- after its states the letter is done
pub fill_done : {v : List ℕ} {loop step : ℕ → ℕ → ℕ} {l s : ℕ} {row : Moves} → states v l ≤ s
    → Filling v loop step l s row
    → LetterEntries v loop step l row
fill_done h f = record { loop_at = λ r k. f.loop_at r (omega arith); step_at = λ r k. f.step_at r (omega arith) }

-- what a state's stores leave
module _ {row : Moves} {s : ℕ} (h : s < 4) (e : StatesRoom row) where
  pub put-loop : {a a' b : ℕ} → s ≡ 0 → a' ≡ a
      → StatePut row s a b record { loops = set row.loops s a'; steps = row.steps }
  put-loop {a} {a'} z p = record {
    room = record { loops = omega (arith, e.loops, length-set row.loops s a'); steps = e.steps };
    loop = get_or-set_same row.loops s a' 0 (omega (arith, e.loops)) ∙ p;
    step = λ k. absurd (omega arith);
    other_loops = λ i d. get_or-set_other row.loops s i a' 0 d;
    other_steps = λ i d. refl;
  }

  pub put_both : {a a' b b' : ℕ} → a' ≡ a → b' ≡ b
      → StatePut row s a b record { loops = set row.loops s a'; steps = set row.steps s b' }
  put_both {a} {a'} {b} {b'} p q = record {
    room = record {
      loops = omega (arith, e.loops, length-set row.loops s a');
      steps = omega (arith, e.steps, length-set row.steps s b');
    };
    loop = get_or-set_same row.loops s a' 0 (omega (arith, e.loops)) ∙ p;
    step = λ k. get_or-set_same row.steps s b' 0 (omega (arith, e.steps)) ∙ q;
    other_loops = λ i d. get_or-set_other row.loops s i a' 0 d;
    other_steps = λ i d. get_or-set_other row.steps s i b' 0 d;
  }

-- the scores of the next state
pub scores-next : {v : List ℕ} {l first s : ℕ} {pairs : List (List ℤ)} {row row' : Moves} → AtLetter v l first
    → s < states v l
    → pairs ≡ letter_pairs v first (states v l) → Filling v (loop_number v) (step_number v) l s row
    → StatePut row s (pair_score pairs s 0) (pair_score pairs (s - 1) 1) row'
    → Filling v (loop_number v) (step_number v) l (s + 1) row'
scores-next {v} {l} {first} {s} {pairs} a h e f p =
    fill-next f p (rw e (loop-score a s h))
    (λ r q. let z : s - 1 ≡ r = omega arith in rw (z, e) (step-score a r (omega arith)))

-- ---- row by row

-- the marked letters below this one have their rows, there is room for those that are left, and the first state of this
-- one is known
pub record Tabling (v : List ℕ) (marks : List Bool) (used first letter : ℕ) (letters : List Letter) : Type 0 where
  pub long : length letters ≡ 64
  pub wide : {i : ℕ} → used ≤ i → i < 64 → StatesRoom (get_or letters i no_letter).moves
  pub passed : LettersPassed v first letter
  pub few : used ≤ letter
  pub row : (i : ℕ) → i < used → LetterRow v (get_or letters i no_letter)
  pub all : (l : ℕ) → l < letter → get_or marks l false ≡ true → HasRow letters used l

pub tabling_start : {v : List ℕ} {marks : List Bool} {letters : List Letter} → LettersRoom letters
    → Tabling v marks 0 0 0 letters
tabling_start {v} e = record {
  long = e.long;
  wide = λ k h. e.wide h;
  passed = letters-start v;
  few = omega arith;
  row = λ i h. absurd (omega arith);
  all = λ l h. absurd (omega arith);
}

module _ {v : List ℕ} {marks : List Bool} {used first letter : ℕ} {letters : List Letter}
    (a : AtLetter v letter first)
    (f : Tabling v marks used first letter letters) where
  pub tabling_take : {row : Letter} → LetterRow v row → letter_in row ≡ letter
      → Tabling v marks (used + 1) (first + states v letter) (letter + 1) (set letters used row)
  tabling_take {row} r e = record {
    long = length-set letters used row ∙ f.long;
    wide = λ {i} k h. rw (get_or-set_other letters used i row no_letter (λ q. omega arith)) (f.wide (omega arith) h);
    passed = letters_next a f.passed;
    few = omega (arith, f.few);
    row = λ i k. rows i k (ℕ_discrete i used);
    all = λ l k m. all l k m (ℕ_discrete l letter);
  }
    where
      here : get_or (set letters used row) used no_letter ≡ row
      here = get_or-set_same letters used row no_letter (omega (arith, f.long, f.few, letter-small a))

      rows : (i : ℕ) → i < used + 1 → Dec (i ≡ used) → LetterRow v (get_or (set letters used row) i no_letter)
      rows i k (yes q) = rw (q, here) r
      rows i k (no q) = rw (get_or-set_other letters used i row no_letter q) (f.row i (omega (arith, q)))

      all : (l : ℕ) → l < letter + 1 → get_or marks l false ≡ true → Dec (l ≡ letter) → HasRow (set letters used row)
          (used + 1) l
      all l k m (yes q) = record { at = used; inside = omega arith; same = ap letter_in here ∙ e ∙ sym q }
      all l k m (no q) =
          let h = f.all l (omega (arith, q)) m in
          let i = h.inside in
          record {
            at = h.at;
            inside = omega arith;
            same = ap letter_in (get_or-set_other letters used h.at row no_letter (λ z. omega arith)) ∙ h.same;
          }

  pub tabling_skip : get_or marks letter false ≡ false → Tabling v marks used (first + states v letter)
      (letter + 1) letters
  tabling_skip e = record {
    long = f.long;
    wide = f.wide;
    passed = letters_next a f.passed;
    few = omega (arith, f.few);
    row = f.row;
    all = λ l k m. all l k m (ℕ_discrete l letter);
  }
    where
      all : (l : ℕ) → l < letter + 1 → get_or marks l false ≡ true → Dec (l ≡ letter) → HasRow letters used l
      all l k m (yes q) = absurd (false≢true (sym e ∙ ap (λ j. get_or marks j false) (sym q) ∙ m))
      all l k m (no q) = f.all l (omega (arith, q)) m

pub tabling_done : {v x : List ℕ} {marks : List Bool} {used first letter : ℕ} {letters : List Letter}
    → letter_count v ≤ 64
    → ((u : ℕ) → 1 ≤ u → u ≤ node_count x → node_letter x u < letter_count v)
    → letter_count v ≤ letter → LettersMarked x (node_count x) marks → Tabling v marks used first letter letters
    → NodeLetters v x used letters
tabling_done few known h m f = record {
  table = record { few = omega (arith, f.few, f.passed.inside); row = f.row };
  all = λ u l k. f.all _ (omega (arith, known u l k)) (m.marked u l k);
}

pub gained-start : {v : List ℕ} {k : ℕ} {scores : List Letter} {gains : List Moves} → GainsRoom gains
    → Gained v k scores 0 gains
gained-start e = record { room = e; row = λ i h. absurd (omega arith) }

pub gained-next : {v : List ℕ} {k i : ℕ} {scores : List Letter} {gains : List Moves} {row : Moves}
    → letter_at scores i < 64 → Gained v k scores i gains → StatesRoom row
    → GainRow v k (letter_at scores i) row → Gained v k scores (i + 1) (set gains (letter_at scores i) row)
gained-next {v} {k} {i} {scores} {gains} {row} h d w p = record {
  room = record {
    long = length-set gains (letter_at scores i) row ∙ d.room.long;
    wide = λ {i = l} m. wide l m (ℕ_discrete l (letter_at scores i));
  };
  row = λ j m. at j m (ℕ_discrete (letter_at scores j) (letter_at scores i));
}
  where
    wide : (l : ℕ) → l < 64 → Dec (l ≡ letter_at scores i)
        → StatesRoom (get_or (set gains (letter_at scores i) row) l no_moves)
    wide l m (yes e) = rw (e, get_or-set_same gains (letter_at scores i) row no_moves (omega (arith, d.room.long))) w
    wide l m (no e) = rw (get_or-set_other gains (letter_at scores i) l row no_moves e) (d.room.wide m)

    at : (j : ℕ) → j < i + 1 → Dec (letter_at scores j ≡ letter_at scores i)
        → GainRow v k (letter_at scores j) (get_or (set gains (letter_at scores i) row) (letter_at scores j) no_moves)
    at j m (yes e) = rw (e, get_or-set_same gains (letter_at scores i) row no_moves (omega (arith, d.room.long))) p
    at j m (no e) = rw (get_or-set_other gains (letter_at scores i) (letter_at scores j) row no_moves e)
        (d.row j (before (ℕ_discrete j i)))
      where
        before : Dec (j ≡ i) → j < i
        before (yes q) = absurd (e (ap (λ m. letter_at scores m) q))
        before (no q) = omega (arith, q)

pub gains_room : {v : List ℕ} {k n : ℕ} {scores : List Letter} {gains : List Moves} → Gained v k scores n gains
    → GainsRoom gains
gains_room d = d.room

pub gained-done : {v : List ℕ} {k n i : ℕ} {scores : List Letter} {gains : List Moves} → n ≤ i
    → Gained v k scores i gains → Gained v k scores n gains
gained-done h d = record { room = d.room; row = λ j k. d.row j (omega arith) }

pub letter-scored : {v : List ℕ} {row : Letter} {l first : ℕ} → AtLetter v l first → row.index ≡ l
    → row.first_state ≡ first → LetterEntries v (loop_number v) (step_number v) l row.moves → LetterRow v row
letter-scored {v} {row} {l} a e f d = record {
  letter = rw e a.letter;
  first = rw e (f ∙ a.begins);
  scores = rw e d;
}

pub row-letter : {v : List ℕ} {row : Letter} → voice_verdict v ≡ well_formed → LetterRow v row
    → AtLetter v row.index row.first_state
row-letter w r = record { formed = w; letter = r.letter; begins = r.first }

-- ---- one letter at a frame

module _ {v : List ℕ} {l : ℕ} {scores : Moves} (e : LetterEntries v (loop_number v) (step_number v) l scores) where
  pub loop_near : {s : ℕ} → s < states v l → NearBias (get_or scores.loops s 0)
  unfolding loop_number loop_score
  loop_near {s} h = rw (e.loop_at s h) (number_near (loop_score v (first_state v l + s)) (i16-range v _))

  pub step_near : {s p : ℕ} → s ≡ suc p → s < states v l → NearBias (get_or scores.steps s 0)
  unfolding step_number step_score
  step_near {s} {p} q h = rw (q, e.step_at p (omega arith))
      (number_near (step_score v (first_state v l + p)) (i16-range v _))

  pub loop-gain : (k : ℕ) {s emitted : ℕ} → s < states v l
      → emitted ≡ number_of (possible (emission v (first_state v l + s) k))
      → number_sum (get_or scores.loops s 0) emitted ≡ loop_gain v k l s
  unfolding loop_number loop_score loop_gain
  loop-gain k {s} h q = rw (e.loop_at s h, q)
      (sum_both (loop_score v (first_state v l + s)) (emission v (first_state v l + s) k) (i16-range v _)
      (emission-range v _ k))

  pub step-gain : (k : ℕ) {s emitted : ℕ} → suc s < states v l
      → emitted ≡ number_of (possible (emission v (first_state v l + suc s) k))
      → number_sum (get_or scores.steps (suc s) 0) emitted ≡ step_gain v k l s
  unfolding step_number step_score step_gain
  step-gain k {s} h q = rw (e.step_at s h, q)
      (sum_both (step_score v (first_state v l + s)) (emission v (first_state v l + suc s) k) (i16-range v _)
      (emission-range v _ k))

  -- the gain of the first state's loop
  pub first-gained : (k : ℕ) {first emitted b : ℕ} {row : Moves} → AtLetter v l first
      → emitted ≡ number_of (possible (emission v (first + 0) k))
      → FirstPut (number_sum (get_or scores.loops 0 0) emitted) b row
      → Filling v (loop_gain v k) (step_gain v k) l 1 row
  first-gained k {first} {emitted} {b} {row} a q d = record {
    room = d.room;
    loop_at = λ r h. at r h (ℕ_discrete r 0);
    step_at = λ r h. absurd (omega arith);
  }
    where
      one : 1 ≤ states v l
      one = (states-range v a.formed a.letter).0

      at : (r : ℕ) → r < 1 → Dec (r ≡ 0) → get_or row.loops r 0 ≡ loop_gain v k l r
      at r h (yes z) = rw z (d.loop ∙ loop-gain k {s = 0} one (rw a.begins at q))
      at r h (no z) = absurd (z (omega arith))

  -- the gains of the next state
  pub next-gained : (k : ℕ) {first s p emitted : ℕ} {row row' : Moves} → AtLetter v l first → s ≡ suc p
      → s < states v l
      → emitted ≡ number_of (possible (emission v (first + s) k)) → Filling v (loop_gain v k) (step_gain v k) l s row
      → StatePut row s (number_sum (get_or scores.loops s 0) emitted) (number_sum (get_or scores.steps s 0) emitted)
      row'
      → Filling v (loop_gain v k) (step_gain v k) l (s + 1) row'
  next-gained k {first} {s} {p} {emitted} a e h q f d =
      let i : emitted ≡ number_of (possible (emission v (first_state v l + s) k)) = rw a.begins at q in
      fill-next f d (loop-gain k h i)
      (λ r w. rw w (step-gain k {s = r} (omega arith) (rw w at i)))

-- ---- where an emission stands

module _ {v : List ℕ} {k : ℕ} (h : KnownSymbol v k) where
  pub emitted-is : (n : ℕ) {place emitted : ℕ} → place ≡ symbols_at v + 1 + 2 * (n * symbol_count v + k)
      → emitted ≡ number_of (possible (i16 v place))
      → emitted ≡ number_of (possible (emission v n k))
  unfolding emission
  emitted-is n e q = q ∙ rw (e, lt-ltb k (symbol_count v) h.known)

  pub emission-inside : {l first n place : ℕ} → AtLetter v l first → n < states v l
      → place ≡ symbols_at v + 1 + 2 * ((first + n) * symbol_count v + k)
      → place + 2 ≤ length v
  emission-inside a m e = rw e (emission-there v h.formed (state-there a m) h.known)

-- one state further
pub emission-next : (v : List ℕ) (k first p : ℕ) {place : ℕ} → place ≡ symbols_at v + 1 + 2 * ((first + p) * symbol_count v + k)
    → place + 2 * symbol_count v ≡ symbols_at v + 1 + 2 * ((first + suc p) * symbol_count v + k)
emission-next v k first p e =
    let a : (first + suc p) * symbol_count v ≡ (first + p) * symbol_count v + symbol_count v = rw add-suc (suc-mul (first + p) (symbol_count v)) in
    omega (arith, e, a)

pub emission_near : (v : List ℕ) (place : ℕ) {emitted : ℕ} → emitted ≡ number_of (possible (i16 v place))
    → NearBias emitted
emission_near v place e = rw e (number_near (i16 v place) (i16-range v place))

-- ---- the letters of nodes

module _ {v x : List ℕ} {n : ℕ} {scores : List Letter} (t : NodeLetters v x n scores) {k : ℕ} {gains : List Moves}
    (g : Gained v k scores n gains) where
  node_row : (u : ℕ) → 1 ≤ u → u ≤ node_count x
      → GainRow v k (node_letter x u) (get_or gains (node_letter x u) no_moves)
  node_row u l h = let a = t.all u l h in rw a.same at (g.row a.at a.inside)

  pub move_gains : MoveGains v x k gains
  move_gains = λ u l h. (node_row u l h).moves

  pub entry_gains : EntryGains v x k gains
  entry_gains = λ u l h. (node_row u l h).entry
