-- Going through the list of a vertex, arc by arc: what is left of it at an offset. Assumes nothing.
use mathlib.Core.Path.{◌≡◌, refl}
use mathlib.Core.List.{List, [], ◌∷◌, Memᴰ}
use Prim.Native.Nat.{ℕ, suc, ◌+◌, ◌*◌, ◌≤◌, ◌<◌}
use native.Mathlib.Omega.{arith}
use lib.ListN.{length, get_or}
use Rattle.endian.specs.Bytes.{u16, u16s}
use Rattle.voice.specs.Fields.{well_formed}
use Rattle.voice.specs.Voice.{letter_count, voice_verdict}
use Rattle.voice.proofs.Scores.{letters-few}
use Rattle.lexicon.specs.Lexicon.{node_count, sink_of, arcs_at, arc_count, successors, lexicon_verdict}
use Rattle.lexicon.proofs.Shape.{Shape, shape, arcs-next}
use Rattle.lexicon.proofs.Readers.{length-successors}
use Rattle.lexicon.proofs.WellFormed.{letter_known}
use Rattle.graph.specs.Graph.{graph_of, sink}
use Rattle.graph.proofs.Sound.{Sound, sound}
use Rattle.checking.specs.Tables.{WellFormed, FewLetters, WithOffsets}
use Rattle.checking.proofs.Tables.{entry}

pub shape_of : {x : List ℕ} → WellFormed x → Shape x
shape_of w = shape w.letters _ w.judged

pub sound_of : {x : List ℕ} → WellFormed x → Sound (graph_of x)
sound_of w = sound w.letters _ w.judged

-- the letters of the nodes stand before the lists, inside the image
pub nodes-there : {x : List ℕ} → WellFormed x → 2 + node_count x ≤ length x
unfolding arcs_at sink_of
nodes-there {x} w = omega (arith, (shape_of w).there {u = 0} (omega arith))

-- a lexicon that is judged with a voice model has its letters
pub few-letters : (v x : List ℕ) → voice_verdict v ≡ well_formed → lexicon_verdict (letter_count v) x ≡ well_formed
    → FewLetters x
few-letters v x a b = λ u l h. omega (arith, letter_known _ x b u l h, letters-few v a)

-- the list that begins at the offset ends inside the image, at a small offset
pub record ListThere (x : List ℕ) (at : ℕ) : Type 0 where
  pub there : at + 2 + 2 * u16 x at ≤ length x
  pub small : at + 2 + 2 * u16 x at ≤ 9204

pub list-there : {x : List ℕ} → WellFormed x → {u at : ℕ} → u ≤ node_count x → at ≡ arcs_at x u → ListThere x at
unfolding arcs_at sink_of
list-there w {u} h e = rw e (record { there = (shape_of w).there {u = u} (omega arith); small = (shape_of w).small {u = suc u} (omega arith) })

-- a vertex has an entry of a table
pub has-entry : {x : List ℕ} → WellFormed x → {u : ℕ} → u ≤ sink_of x → u < 402
unfolding sink_of
has-entry w h = omega (arith, (shape_of w).few)

-- and by the table of offsets its own list is found
module _ {x offsets : List ℕ} (l : WithOffsets x offsets) {u : ℕ} (h : u ≤ node_count x) where
  pub list-entry : get_or offsets u 0 ≡ arcs_at x u
  unfolding sink_of
  list-entry = entry l.table (omega arith)

  pub list_at : ListThere x (get_or offsets u 0)
  list_at = list-there l.formed h list-entry

-- the offset stands before the last arcs of u's list, which ends at stop
pub record ArcsToRead (x : List ℕ) (u at stop : ℕ) (left : List ℕ) : Type 0 where
  pub read : u16s x at (length left) ≡ left
  pub size : stop ≡ at + 2 * length left
  pub there : stop ≤ length x
  -- they lead up, to the sink at most
  pub rise : {s : ℕ} → Memᴰ s left → (u < s) × (s ≤ sink_of x)

-- at the list's first arc, all are left
pub arcs-start : {x : List ℕ} → WellFormed x → {u at : ℕ} → u ≤ node_count x → at ≡ arcs_at x u
    → ArcsToRead x u (at + 2) (at + 2 + 2 * u16 x at) (successors x u)
unfolding sink_of sink arc_count successors
arcs-start {x} w {u} {at} h e = rw e (record {
  read = rw (length-successors x u) refl;
  size = rw (length-successors x u) refl;
  there = omega (arith, arcs-next x u, (shape_of w).there {u = u} (omega arith));
  rise = λ m. (sound_of w).rises (omega arith) m;
})

-- before the end there is an arc, and the others are left after it
pub record ArcNext (x : List ℕ) (u at stop : ℕ) (left : List ℕ) : Type 0 where
  pub others : List ℕ
  pub split : left ≡ u16 x at ∷ others
  pub rises : u < u16 x at
  pub bounded : u16 x at ≤ sink_of x
  pub room : at + 2 ≤ stop
  pub after : ArcsToRead x u (at + 2) stop others

pub arc-next : {x : List ℕ} {u at stop : ℕ} {left : List ℕ} → ArcsToRead x u at stop left → at < stop
    → ArcNext x u at stop left
unfolding u16s
arc-next {x} {u} {at} {stop} {left} a h = go left a
  where
    go : (left : List ℕ) → ArcsToRead x u at stop left → ArcNext x u at stop left
    go [] a = absurd (omega (arith, a.size))
    go (s ∷ l) a =
        let e : u16 x at ≡ s = let r = a.read in cc in
        let f : u16s x (at + 2) (length l) ≡ l = let r = a.read in cc in
        let m = a.rise (Memᴰ.head refl) in
        record {
          others = l;
          split = rw e;
          rises = rw e m.0;
          bounded = rw e m.1;
          room = omega (arith, a.size);
          after = record { read = f; size = omega (arith, a.size); there = a.there; rise = λ i. a.rise (Memᴰ.tail i) };
        }

-- at its end none is left
pub arcs-done : {x : List ℕ} {u at stop : ℕ} {left : List ℕ} → ArcsToRead x u at stop left → stop ≤ at → left ≡ []
arcs-done {left = []} a h = refl
arcs-done {left = s ∷ l} a h = absurd (omega (arith, a.size))
