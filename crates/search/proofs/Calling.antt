-- The call: it answers as checking does where that refuses, and else by its own rows; then the hits are found. Assumes
-- nothing.
use Prim.Native.Nat.{ℕ, ◌*◌, ◌≤◌}
use mathlib.Core.Path.{◌≡◌, refl, sym, ap, ◌∙◌}
use mathlib.Core.List.{List, [], ◌∷◌, ◌++◌, append_assoc}
use native.Mathlib.Omega.{arith}
use native.Mathlib.Nat.{mul-le-mul}
use lib.Dec.{ltb}
use lib.ListN.{length, take, drop, replicate, length-append, take-append-drop}
use lib.Seq.{drop_at, take_at, length-take-le}
use borrow.Author.Tests.{not-false}
use Rattle.endian.proofs.Ranges.{bounds}
use Rattle.call.specs.declared.Refusal.{Refusal}
use Rattle.call.specs.declared.Refusal.TheVariants.{Count, Output}
use Rattle.call.specs.Table.{Answer, value, refused, on, unless}
use Rattle.call.specs.Limits.{bad_count}
use Rattle.call.specs.Buffers.{cleared}
use Rattle.call.proofs.Table.{none-parts, none-says, unless-past, value-passed, refused-before}
use Rattle.call.proofs.Buffers.{cleared-front, cleared-length, cleared_twice}
use Rattle.lexicon.specs.Lexicon.{sink_of}
use Rattle.graph.specs.Graph.{graph_of, word_count}
use Rattle.graph.specs.Conditions.{place_count}
use Rattle.graph.specs.Checking.{Accepted, first_rows, check_answer}
use Rattle.graph.proofs.Accepted.{Passed, passed, accepted, places-limit}
use Rattle.checking.specs.declared.Vertex.{Vertex}
use Rattle.checking.specs.Tables.{Vertices, list_field, paths_field}
use Rattle.checking.proofs.Tables.{entry}
use Rattle.checking.proofs.Columns.{column-at}
use Rattle.decoder.specs.Decoding.{AcceptedFrames, frame_rows, hits, decode_rows}
use Rattle.storing.specs.Held.{held}
use Rattle.storing.specs.Places.{SlotsPut}
use Rattle.search.specs.Found.{search_answer, found, search_tokens}
use Rattle.search.specs.Calling.{call_rows}
use Rattle.search.specs.Running.{Empty, Run}
use Rattle.search.proofs.Whole.{zeros-empty}

-- ---- the work space

-- the part that is lent is empty
part-empty : (m : ℕ) (b w : List ℕ) → b ≡ cleared w → m ≤ 64000 → 64000 ≤ length w → Empty (take m b)
part-empty m b w e k h j = rw (e, cleared-front m w k h) (zeros-empty m j)

-- zero again, it leaves the work space cleared
part-zeroed : (m : ℕ) (b w ys zs : List ℕ) → b ≡ cleared w → m ≤ 64000 → 64000 ≤ length w → length ys ≡ m
    → zs ≡ replicate (length (take m (ys ++ drop m b))) 0 → zs ++ drop m (ys ++ drop m b) ≡ cleared w
part-zeroed m b w ys zs e k h long z =
    let front : take m b ≡ replicate m 0 = rw e (cleared-front m w k h) in
    let zeros : zs ≡ take m b =
    z ∙ ap (λ l. replicate {A = ℕ} (length l) 0) (take_at ys (drop m b) m long)
    ∙ ap (λ (i : ℕ). replicate {A = ℕ} i 0) long ∙ sym front in
    ap (λ l. zs ++ l) (drop_at ys (drop m b) m long) ∙ ap (λ l. l ++ drop m b) zeros ∙ take-append-drop m b ∙ e

-- ---- after checking

-- no row applies, and the work space and the table are as checking leaves them
pub record Called (v x frames : List ℕ) (n : ℕ) (vertices : List Vertex) (work : List ℕ) : Type 0 where
  pub images : Accepted v x
  pub accepted : AcceptedFrames v frames
  pub one : 1 ≤ n
  pub few : n ≤ 8
  pub table : Vertices x vertices
  pub room : 64000 ≤ length work
  pub clear : work ≡ cleared work

module _ (v x work : List ℕ) where
  -- checking has answered W
  pub call-passed : {W : ℕ} {a : Answer ℕ} → a ≡ check_answer v x work → a ≡ value W → Passed v x work W
  call-passed c e = passed v x work (sym c ∙ e)

  module _ (frames : List ℕ) (n : ℕ) (out : List ℕ) where
    rows_so : decode_rows v x frames n work out ≡ first_rows v x work ++ call_rows v frames n out
    unfolding decode_rows call_rows
    rows_so = append_assoc (first_rows v x work) (frame_rows v frames) _

    pub search_refused : {r : Refusal} {a : Answer ℕ} → a ≡ check_answer v x work → a ≡ refused r
        → search_answer v x frames n work out ≡ refused r
    unfolding check_answer search_answer
    search_refused c e = rw rows_so
        (refused-before (first_rows v x work) (call_rows v frames n out) (word_count (graph_of x)) _ (sym c ∙ e))

    -- past checking, its own rows decide
    pub call-judged : {W : ℕ} {a : Answer (Unit {0})} → Passed v x work W → a ≡ unless (call_rows v frames n out) tt
        → search_answer v x frames n work out ≡ a
    unfolding search_answer
    call-judged p c = rw rows_so (unless-past (first_rows v x work) (call_rows v frames n out) _ p.rows) ∙ sym c

    -- the hits where it answers a value, and the tokens as they were after a refusal
    pub found_some : (t : List ℕ) {l : List ℕ} {k : Unit {0}} → l ≡ held 8 (hits v (graph_of x) frames n)
        → search_answer v x frames n work out ≡ value k
        → l ≡ search_tokens v x frames n work out t
    unfolding search_tokens found
    found_some t h e = rw (e, h)

    pub found_none : {r : Refusal} {t : List ℕ} → search_answer v x frames n work out ≡ refused r
        → t ≡ search_tokens v x frames n work out t
    unfolding search_tokens found
    found_none e = rw e

    pub call-clear : {W : ℕ} {k : Unit {0}} {t : List Vertex} {b : List ℕ} {a : Answer (Unit {0})} → Passed v x work W
        → Vertices x t → b ≡ cleared work
        → a ≡ unless (call_rows v frames n out) tt → a ≡ value k → Called v x frames n t b
    unfolding call_rows bad_count
    call-clear {k = k} p o z c e =
        let q = none-parts (frame_rows v frames) (on Count (bad_count n) ∷ on Output (ltb (length out) (8 * n)) ∷ [])
        (value-passed {A = Unit {0}} (call_rows v frames n out) tt k (sym c ∙ e)).0 in
        let s = none-says (on Count (bad_count n) ∷ on Output (ltb (length out) (8 * n)) ∷ []) q.1 in
        let l = bounds 1 8 n (not-false _ s.0) in
        record {
          images = p.images;
          accepted = q.0;
          one = l.0;
          few = l.1;
          table = o;
          room = omega (arith, ap length z, cleared-length work, p.room);
          clear = z ∙ sym (cleared_twice work p.room) ∙ ap cleared (sym z);
        }

-- ---- the store

module _ {v x frames : List ℕ} {n : ℕ} {t : List Vertex} {w : List ℕ} (c : Called v x frames n t w)
    {t' : List Vertex} {r : ℕ} (s : SlotsPut v x n t t' r) where
  -- it lies in the work space
  pub store_few : 8 * r ≤ 64000
  store_few =
      let room : n * place_count v (graph_of x) ≤ 8 * 1000 =
      mul-le-mul {n₂ = 8} {m₂ = 1000} c.few (places-limit (accepted c.images)) in
      omega (arith, room, s.total)

  pub store_fits : 8 * r ≤ length w
  store_fits = omega (arith, store_few, c.room)

  -- n tokens a place
  pub store_run : Run v x frames n t' (take (8 * r) w)
  unfolding sink_of
  store_run = record {
    ready = record {
      accepted = c.images;
      rows = s.rows;
      arcs = λ {u} h. s.arcs u ∙ sym (column-at list_field refl u t) ∙ entry c.table.tables.located (omega arith);
      paths = λ {u} h. s.paths u ∙ sym (column-at paths_field refl u t) ∙ entry c.table.tables.counted (omega arith);
      first = s.first;
      sink = s.sink;
    };
    roomy = record { one = c.one; few = c.few; room = omega (arith, length-take-le (8 * r) w store_fits, s.total) };
    accepted = c.accepted;
  }

  -- none yet
  pub store_empty : Empty (take (8 * r) w)
  store_empty = part-empty (8 * r) w w c.clear store_few c.room

  -- it lies there as well where it has changed
  pub store_there : (ys : List ℕ) → length ys ≡ length (take (8 * r) w) → 8 * r ≤ length (ys ++ drop (8 * r) w)
  store_there ys long = omega (arith, long, length-take-le (8 * r) w store_fits, length-append ys (drop (8 * r) w))

  -- zero again, it leaves the work space as it was
  pub store_zeroed : (ys zs u : List ℕ) → length ys ≡ length (take (8 * r) w)
      → zs ≡ replicate (length (take (8 * r) (ys ++ drop (8 * r) w))) 0
      → w ≡ u → zs ++ drop (8 * r) (ys ++ drop (8 * r) w) ≡ u
  store_zeroed ys zs u long z e =
      part-zeroed (8 * r) w w ys zs c.clear store_few c.room (long ∙ length-take-le (8 * r) w store_fits) z
      ∙ sym c.clear
      ∙ e
