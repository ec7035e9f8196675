-- Frame by frame: what the places hold after the root's token is passed on, while the nodes take their turns, and when
-- all have had theirs. By the theorems of token passing in one store. Assumes nothing.
use Prim.Native.Nat.{ℕ, zero, suc, ◌+◌, ◌-◌, ◌*◌, ◌≤◌, ◌<◌}
use mathlib.Core.Path.{◌≡◌, refl, sym, ap, ◌∙◌}
use mathlib.Core.Bool.{true, false, true≢false}
use mathlib.Core.List.Memᴰ.{eq_of_singleton as only}
use mathlib.Core.List.Memᴰ.{not-nil}
use mathlib.Core.List.{List, [], ◌∷◌, Memᴰ}
use mathlib.Core.Option.{some}
use native.Mathlib.Omega.{arith}
use borrow.Author.Tests.{leb-false, not-false}
use lib.Dec.{leb}
use lib.IntN.{pos}
use lib.ListN.{length, get_or, replicate}
use lib.Seq.{take-nil}
use Rattle.endian.specs.Lists.{any}
use Rattle.endian.specs.Integers.{eq_z}
use Rattle.endian.proofs.Booleans.{or-none}
use Rattle.endian.proofs.Ranges.{bounds}
use Rattle.call.specs.Limits.{bad_frame_count}
use Rattle.call.proofs.Table.{none-says}
use Rattle.voice.specs.Voice.{letter_count, symbol_count, impossible}
use Rattle.lexicon.specs.Lexicon.{node_count}
use Rattle.graph.specs.Graph.{graph_of, sink, word_count}
use Rattle.graph.proofs.Sound.{Sound, sound}
use Rattle.graph.proofs.Accepted.{accepted}
use Rattle.checking.specs.declared.Vertex.{Vertex}
use Rattle.ranking.specs.Hits.{Hit, hit}
use Rattle.decoder.specs.Score.{bias, frame_limit, raised, number_of, possible}
use Rattle.decoder.specs.Decoding.{AcceptedFrames, frame_rows}
use Rattle.passing.specs.Best.{insert, row_of}
use Rattle.passing.specs.Tokens.{Store, best_tokens, tokens, initial_score}
use Rattle.passing.specs.InPlace.{pass_node, pass_down, pass_root}
use Rattle.passing.proofs.InPlace.{first_frame, next_frame}
use Rattle.passing.proofs.Bounds.{token_bounded}
use Rattle.storing.specs.declared.Moves.{Moves}
use Rattle.storing.specs.declared.Letter.{Letter}
use Rattle.storing.specs.Slots.{slots}
use Rattle.storing.specs.Gains.{LinkTable, GainsRoom, Gained, MoveGains, KnownSymbol}
use Rattle.storing.specs.Places.{NodesRead, EmissionsPut}
use Rattle.storing.specs.Stored.{VertexTable, NodeEmissions, StoreRoom, Bound, Stored, Within, source, PassingOn}
use Rattle.storing.specs.Stored.{passed_on, PassedOn, Turn, turned, TurnDone}
use Rattle.storing.proofs.Held.{held_none}
use Rattle.storing.proofs.Filling.{gains_room, entry_gains, move_gains}
use Rattle.storing.proofs.Storing.{stored_ext}
use Rattle.storing.proofs.PassingOn.{lexicon-formed, letter-few}
use Rattle.search.specs.declared.frames.Numbers.{Numbers}
use Rattle.search.specs.Running.{Empty, Run, StoredAt, CallNumbers, FrameTables, Frame}

-- ---- stores

pub roomy-same : {v x : List ℕ} {n : ℕ} {b b' : List ℕ} → length b' ≡ length b → StoreRoom v x n b → StoreRoom v x n b'
roomy-same e r = record { one = r.one; few = r.few; room = rw e r.room }

pub empty-slots : (n k : ℕ) (b : List ℕ) → Empty b → slots n k b ≡ replicate n 0
unfolding slots
empty-slots zero k b e = refl
empty-slots (suc n) k b e = rw (e k) (ap (λ l. 0 ∷ l) (empty-slots n (k + 1) b e))

pub none-best : (n : ℕ) → best_tokens n [] ≡ []
unfolding row_of
none-best n = take-nil n

-- ---- frames

module _ (v frames : List ℕ) (h : AcceptedFrames v frames) where
  tests : (bad_frame_count (length frames) ≡ false) × (any (λ k. leb (symbol_count v) k) frames ≡ false)
  unfolding frame_rows
  tests = or-none (bad_frame_count (length frames)) (any (λ k. leb (symbol_count v) k) frames)
      (none-says (frame_rows v frames) h).0

  pub frame_count : (1 ≤ length frames) × (length frames ≤ 1000)
  unfolding bad_frame_count
  frame_count = bounds 1 1000 (length frames) (not-false _ tests.0)

  pub symbol_known : (i : ℕ) → i < length frames → get_or frames i 0 < symbol_count v
  unfolding any
  symbol_known i l = go frames tests.1 i l
    where
      go : (l : List ℕ) → any (λ k. leb (symbol_count v) k) l ≡ false → (i : ℕ) → i < length l
          → get_or l i 0 < symbol_count v
      go [] e i k = absurd (omega arith)
      go (y ∷ l) e zero k = leb-false (symbol_count v) y
          (or-none (leb (symbol_count v) y) (any (λ k. leb (symbol_count v) k) l) e).0
      go (y ∷ l) e (suc i) k = go l (or-none (leb (symbol_count v) y) (any (λ k. leb (symbol_count v) k) l) e).1 i
          (omega arith)

module _ {v x frames : List ℕ} {n : ℕ} {vertices : List Vertex} {b : List ℕ} (r : Run v x frames n vertices b) where
  pub sound-run : Sound (graph_of x)
  sound-run = sound (letter_count v) x (accepted r.ready.accepted).lexicon

  pub known_symbol : (i : ℕ) → i < length frames → KnownSymbol v (get_or frames i 0)
  known_symbol i l = record {
    formed = (accepted r.ready.accepted).voice;
    known = symbol_known v frames
        r.accepted i l;
  }

  -- ---- the first frame

  module _ (e : Empty b) (emissions : NodeEmissions v x (get_or frames 0 0) vertices) where
    pub one-best : (n : ℕ) → 1 ≤ n → best_tokens n (hit (pos 0) 0 ∷ []) ≡ hit (pos 0) 0 ∷ []
    unfolding row_of insert
    one-best zero h = absurd (omega arith)
    one-best (suc n) h = ap (λ l. hit (pos 0) 0 ∷ l) (take-nil n)

    pub root-bound : {h : Hit} → Memᴰ h (hit (pos 0) 0 ∷ []) → Bound (graph_of x) 0 0 h
    unfolding word_count
    root-bound i = rw (only i) (record { score = omega arith; code = omega arith })

    unfoldable pub root_passing : PassingOn x n vertices bias 0 true 0 b
    unfolding possible impossible eq_z source number_of raised
    root_passing = record {
      v = v;
      k = get_or frames 0 0;
      M = 0;
      score = some (pos 0);
      l = hit (pos 0) 0 ∷ [];
      Q = λ u s. [];
      ready = r.ready;
      roomy = r.roomy;
      vertex = omega arith;
      root_is = λ e. refl;
      moved = pos 0;
      score_is = refl;
      small = omega arith;
      link_is = refl;
      emissions = emissions;
      given = refl;
      inside = λ z. absurd (true≢false z);
      apart = λ z. absurd (true≢false z);
      best = one-best n r.roomy.one;
      bound = root-bound;
      fits = omega arith;
      stored = record { holds = λ p. empty-slots n _ b e ∙ held_none n; kept = λ p. none-best n };
      above = λ p l i. absurd (not-nil i);
    }

    pub root-stored : {b' : List ℕ} → PassedOn root_passing b' → StoredAt v x frames n 0 b'
    unfolding root_passing passed_on pass_root initial_score
    root-stored h = stored_ext h.stored (λ u s p. sym (first_frame v sound-run frames n u s))

-- ---- a later frame

-- the nodes above m have had their turn at the frame after frame t
pub record TurnsLeft (v x frames : List ℕ) (n t m : ℕ) (b₀ b : List ℕ) : Type 0 where
  pub Q : Store
  pub stored : Stored v (graph_of x) n Q b
  pub within : Within v (graph_of x) m (frame_limit * suc t) Q
  -- the turns left give what all turns give
  pub left : pass_down v (graph_of x) n (get_or frames (suc t) 0) m Q
      ≡ pass_down v (graph_of x) n (get_or frames (suc t) 0) (node_count x) (tokens v (graph_of x) frames n t)
  pub low : m ≤ node_count x
  pub long : length b ≡ length b₀

module _ {v x frames : List ℕ} {n : ℕ} {vertices : List Vertex} {b₀ : List ℕ} (r : Run v x frames n vertices b₀)
    (t : ℕ) where
  pub turns-start : {m : ℕ} → m ≡ node_count x → StoredAt v x frames n t b₀ → TurnsLeft v x frames n t m b₀ b₀
  unfolding sink
  turns-start e s = rw e (record {
    Q = tokens v (graph_of x) frames n t;
    stored = s;
    within = record {
      old = λ {u} {s} p l i. let B = token_bounded v (sound-run r) frames n t u s i in record
          { score = B.score; code = B.code };
      new = λ p l i. absurd (omega (arith, p.high));
    };
    left = refl;
    low = omega arith;
    long = refl;
  })

  one-turn : (m : ℕ) (Q : Store) → 1 ≤ m
      → pass_down v (graph_of x) n (get_or frames (suc t) 0) (m - 1)
      (pass_node v (graph_of x) n (get_or frames (suc t) 0) m Q)
      ≡ pass_down v (graph_of x) n (get_or frames (suc t) 0) m Q
  unfolding pass_down
  one-turn zero Q h = absurd (omega arith)
  one-turn (suc m) Q h = let e : suc m - 1 ≡ m = omega arith in rw e

  module _ (h : suc t < length frames) {gains : List Moves} (moves : MoveGains v x (get_or frames (suc t) 0) gains)
      (emissions : NodeEmissions v x (get_or frames (suc t) 0) vertices) {links : List ℕ}
      (linked : LinkTable v (letter_count v) links) {m : ℕ} {b : List ℕ} (k : 1 ≤ m)
      (d : TurnsLeft v x frames n t m b₀ b) where
    unfoldable pub turn-next : Turn v x n vertices gains links m b
    turn-next = record {
      k = get_or frames (suc t) 0;
      M = frame_limit * suc t;
      P = d.Q;
      ready = r.ready;
      roomy = roomy-same d.long r.roomy;
      low = k;
      high = d.low;
      moves = moves;
      emissions = emissions;
      linked = linked;
      stored = d.stored;
      within = d.within;
      fits = omega (arith, frame_count v frames r.accepted);
    }

    pub turns_next : {b' : List ℕ} → ((T : Turn v x n vertices gains links m b) → TurnDone T b')
        → TurnsLeft v x frames n t (m - 1) b₀ b'
    unfolding turn-next turned
    turns_next f = let e = f turn-next in record {
      Q = pass_node v (graph_of x) n (get_or frames (suc t) 0) m d.Q;
      stored = e.stored;
      within = e.within;
      left = one-turn m d.Q k ∙ d.left;
      low = omega (arith, d.low);
      long = e.long ∙ d.long;
    }

  pub turns-done : {m : ℕ} {b : List ℕ} → m ≤ 0 → TurnsLeft v x frames n t m b₀ b → StoredAt v x frames n (suc t) b
  unfolding pass_down
  turns-done {m} h d =
      let z : m ≡ 0 = omega arith in
      let e : pass_down v (graph_of x) n (get_or frames (suc t) 0) 0 d.Q ≡ pass_down v (graph_of x) n
      (get_or frames (suc t) 0) (node_count x) (tokens v (graph_of x) frames n t) =
      ap (λ j. pass_down v (graph_of x) n (get_or frames (suc t) 0) j d.Q) (sym z) ∙ d.left in
      stored_ext d.stored (λ u s p. sym (ap (λ (P : Store). P u s) e ∙ next_frame v (sound-run r) frames n u s t p.low
      p.high p.state))

-- ---- one frame

module _ {v x : List ℕ} {t n nodes : ℕ} {vertices : List Vertex} {gains : List Moves} {links b₀ : List ℕ}
    (f : Frame v x t n nodes vertices gains links b₀) where
  -- the first: the root's token enters
  module _ (z : t ≡ 0) where
    pub first-emissions : NodeEmissions v x (get_or f.frames 0 0) vertices
    first-emissions = rw z at f.emissions

    unfoldable pub entering : PassingOn x n vertices bias 0 true 0 b₀
    entering = root_passing f.run (f.empty z) first-emissions

    pub entered : {b : List ℕ} → PassedOn entering b → StoredAt v x f.frames n t b
    unfolding entering
    entered d = rw z (root-stored f.run (f.empty z) first-emissions d)

  -- a later one: turn by turn
  module _ (l : ¬ (t ≡ 0)) where
    after : suc (t - 1) ≡ t
    after = omega (arith, l)

    inside : suc (t - 1) < length f.frames
    inside = rw after f.inside

    moves : MoveGains v x (get_or f.frames (suc (t - 1)) 0) gains
    moves = rw after f.moves

    emissions : NodeEmissions v x (get_or f.frames (suc (t - 1)) 0) vertices
    emissions = rw after f.emissions

    pub before-turns : TurnsLeft v x f.frames n (t - 1) nodes b₀ b₀
    before-turns = turns-start f.run (t - 1) f.all (f.stored (omega (arith, l)))

    module _ {m : ℕ} {b : List ℕ} (k : 1 ≤ m) (d : TurnsLeft v x f.frames n (t - 1) m b₀ b) where
      pub this-turn : Turn v x n vertices gains links m b
      this-turn = turn-next f.run (t - 1) inside moves emissions f.linked k d

      pub after_turn : {b' : List ℕ} → ((T : Turn v x n vertices gains links m b) → TurnDone T b')
          → TurnsLeft v x f.frames n (t - 1) (m - 1) b₀ b'
      after_turn = turns_next f.run (t - 1) inside moves emissions f.linked k d

    pub after-turns : {m : ℕ} {b : List ℕ} → m ≤ 0 → TurnsLeft v x f.frames n (t - 1) m b₀ b
        → StoredAt v x f.frames n t b
    after-turns {b = b} k d = rw after at (turns-done f.run (t - 1) k d)

-- ---- all frames

pub run_with : {v x frames : List ℕ} {n : ℕ} {vertices vertices' : List Vertex} {b b' : List ℕ}
    → VertexTable v x n vertices' → length b' ≡ length b → Run v x frames n vertices b → Run v x frames n vertices' b'
run_with t e r = record { ready = t; roomy = roomy-same e r.roomy; accepted = r.accepted }

-- after the first t frames: what the places hold and the tables of the last of them, or an empty store
pub record FramesDone (v x frames : List ℕ) (t : ℕ) (c : Numbers) (letters : List Letter) (gains : List Moves)
    (vertices : List Vertex) (b : List ℕ) : Type 0 where
  pub table : VertexTable v x c.n vertices
  pub room : GainsRoom gains
  pub empty : t ≡ 0 → Empty b
  pub stored : 0 < t → StoredAt v x frames c.n (t - 1) b
  pub tables : 0 < t → FrameTables v x (get_or frames (t - 1) 0) c letters gains vertices

module _ {v x frames : List ℕ} {c : Numbers} {letters : List Letter} {gains : List Moves}
    {vertices : List Vertex} {b : List ℕ} where
  pub frames-start : VertexTable v x c.n vertices → GainsRoom gains → Empty b
      → FramesDone v x frames 0 c letters gains vertices b
  frames-start t r e = record {
    table = t;
    room = r;
    empty = λ z. e;
    stored = λ h. absurd (omega arith);
    tables = λ h. absurd (omega arith);
  }

  -- the next one, once its tables are made
  unfoldable pub frame_of : {t : ℕ} {gains' : List Moves} {vertices' : List Vertex} {links : List ℕ}
      → AcceptedFrames v frames → StoreRoom v x c.n b → t < length frames → CallNumbers v x c letters → LinkTable v (letter_count v) links
      → FramesDone v x frames t c letters gains vertices b → FrameTables v x (get_or frames t 0) c letters gains'
      vertices'
      → Frame v x t c.n c.nodes vertices' gains' links b
  frame_of a r h numbers linked d g = record {
    frames = frames;
    run = record { ready = g.table; roomy = r; accepted = a };
    inside = h;
    all = numbers.nodes;
    moves = move_gains numbers.letters_of g.gained;
    emissions = g.emissions;
    linked = linked;
    empty = d.empty;
    stored = d.stored;
  }

  pub frames-next : (t : ℕ) → StoredAt v x frames c.n t b → FrameTables v x (get_or frames t 0) c letters gains vertices
      → FramesDone v x frames (t + 1) c letters gains vertices b
  frames-next t d g =
      let e : t + 1 - 1 ≡ t = omega arith in
      record {
        table = g.table;
        room = gains_room g.gained;
        empty = λ z. absurd (omega arith);
        stored = λ h. rw e d;
        tables = λ h. rw e g;
      }

  pub frames_end : {t : ℕ} → AcceptedFrames v frames → length frames ≤ t → t ≤ length frames
      → FramesDone v x frames t c letters gains vertices b → StoredAt v x frames c.n (length frames - 1) b
  frames_end {t} a h l d =
      let e : length frames - 1 ≡ t - 1 = omega arith in
      rw e (d.stored (omega (arith, frame_count v frames a)))

-- what is read for the emissions
pub nodes-read : {v x : List ℕ} {c : Numbers} {letters : List Letter} {vertices : List Vertex}
    → CallNumbers v x c letters → VertexTable v x c.n vertices → NodesRead x c.nodes
nodes-read c t = record { formed = lexicon-formed t; all = c.nodes; letter = letter-few t }

-- the tables of a frame, once its emissions are put
pub tables-put : {v x : List ℕ} {k : ℕ} {c : Numbers} {letters : List Letter} {gains : List Moves}
    {vertices vertices' : List Vertex}
    → CallNumbers v x c letters → VertexTable v x c.n vertices → Gained v k letters c.used gains
    → EmissionsPut x gains vertices vertices' → FrameTables v x k c letters gains vertices'
tables-put c t g p = record {
  gained = g;
  table = record {
    accepted = t.accepted;
    rows = p.rows;
    arcs = λ {u} h. p.arcs u ∙ t.arcs h;
    paths = λ {u} h. p.paths u ∙ t.paths h;
    first = λ {u} l h. p.first u ∙ t.first l h;
    sink = p.sink ∙ t.sink;
  };
  emissions = λ u l h. p.emission l h ∙ entry_gains c.letters_of g u l h;
}
