-- The section Arcs: how the verdict moves on with each successor of a list that is good, and with each list. Assumes nothing.
use mathlib.Core.Path.{◌≡◌, refl, sym, ap, ◌∙◌}
use mathlib.Core.Bool.{true, ◌&&◌}
use mathlib.Core.List.{List, [], ◌∷◌, ◌++◌, append_assoc}
use Prim.Native.Nat.{ℕ, suc, ◌+◌, ◌*◌, ◌-◌, min, ◌≤◌, ◌<◌}
use native.Mathlib.Numerals.{add-one}
use native.Mathlib.Omega.{arith}
use lib.ListN.{length, set}
use lib.Dec.{leb}
use borrow.Author.Tests.{leb-true, le-leb}
use Rattle.endian.specs.Lists.{within}
use Rattle.endian.specs.Bytes.{u16, u16s}
use Rattle.endian.proofs.Booleans.{and_in, and-out}
use Rattle.endian.proofs.Ranges.{inside, bounds}
use Rattle.voice.specs.declared.Fault.{Fault}
use Rattle.voice.specs.Fields.{Field, field, verdict}
use Rattle.voice.proofs.Fields.{step-good}
use Rattle.std.specs.Prelude.{Ok, Err}
use Rattle.lexicon.specs.Lexicon.{node_count, sink_of, arcs_at, arc_count, successors, reserve_at, allowed, successor_fields, arc_fields}
use Rattle.lexicon.specs.Sections.{Found, number_at, arc_at, FieldsBad, Table, Listing, ListGood, list_fields, ArcsGood}
use Rattle.lexicon.proofs.Sections.Numbers.{number-says, number_fails}
use Rattle.lexicon.proofs.Sections.Successors.{Marks, SuccessorRead, marks-none, marks-more, highest-most}
use Rattle.lexicon.proofs.Sections.Successors.{arc_says, arc_fails}

-- ---- the list of a vertex

u16s-next : (x : List ℕ) (at n i : ℕ) → i < n → u16s x at (n - i) ≡ u16 x at ∷ u16s x (at + 2) (n - (i + 1))
unfolding u16s
u16s-next x at n i h = let e : n - i ≡ suc (n - (i + 1)) = omega arith in rw e

-- the successors after the first i are left, and later fields
pub record ListLeft (x : List ℕ) (u total count : ℕ) (seen : List ℕ) (at i : ℕ) : Type 0 where
  pub earlier : List ℕ
  pub marks : Marks seen u earlier
  pub number : count ≡ arc_count x u
  pub room : total + count ≤ 4000
  pub last : i ≤ count
  pub place : at ≡ arcs_at x u + 2 + 2 * i
  pub there : at ≤ length x
  pub passes : (later : List Field) → verdict (length x) (arcs_at x u) (list_fields x u total ++ later)
      ≡ verdict (length x) at (successor_fields x u at earlier (u16s x at (count - i)) ++ later)

-- the code reads the count up to `high`
module _ (x : List ℕ) (at u n total : ℕ) (seen : List ℕ) (given : Listing x at u n total seen) (high : ℕ) (limit : high ≡ min (n + 1) (4000 - total)) where
  -- what is in the count's range is in the one that the code tests
  count-range : within 1 (sink_of x) (u16 x at) && leb (total + u16 x at) 4000 ≡ true → within 1 high (u16 x at) ≡ true
  unfolding sink_of
  count-range h =
      let a = and-out (within 1 (sink_of x) (u16 x at)) (leb (total + u16 x at) 4000) h in
      let b = bounds 1 (suc (node_count x)) (u16 x at) a.0 in
      let r = leb-true (total + u16 x at) 4000 a.1 in
      inside 1 high (u16 x at) b.0 (omega (arith, given.number))

  pub list_uncounted : {f : Found} {v : Fault} → f ≡ number_at x at 1 high → f ≡ Err v
      → FieldsBad x (arcs_at x u) (list_fields x u total) v
  unfolding list_fields arc_count
  list_uncounted k e later =
      rw (← given.start) (number_fails x at 1 high (sym k ∙ e) (within 1 (sink_of x) (u16 x at) && leb (total + u16 x at) 4000) count-range at _)

  pub list_counted : {f : Found} {count : ℕ} → f ≡ number_at x at 1 high → f ≡ Ok count → ListLeft x u total count seen (at + 2) 0
  unfolding list_fields arc_count successors sink_of
  list_counted {count = count} q e =
      let k = number-says x at 1 high (sym q ∙ e) in
      let v : count ≡ u16 x (arcs_at x u) = rw given.start at k.value in
      let z : count - 0 ≡ u16 x (arcs_at x u) = omega arith in
      let c = u16 x (arcs_at x u) in
      let good : within 1 (suc (node_count x)) c && leb (total + c) 4000 ≡ true =
      and_in (inside 1 (suc (node_count x)) c (omega (arith, k.least)) (omega (arith, k.most, given.number))) (le-leb (total + c) 4000 (omega (arith, k.most, given.room))) in
      record {
        earlier = [];
        marks = marks-none seen u given.table;
        number = v;
        room = omega (arith, k.most, given.room);
        last = omega arith;
        place = omega (arith, given.start);
        there = k.there;
        passes = λ later. step-good (arcs_at x u) (field (arcs_at x u) 2 _) _ (rw given.start at k.there) good ∙ rw (given.start, z);
      }

module _ (x : List ℕ) (u total count : ℕ) (seen : List ℕ) (at i : ℕ) (left : ListLeft x u total count seen at i) where
  next_successor : i < count → (later : List Field) → verdict (length x) (arcs_at x u) (list_fields x u total ++ later)
      ≡ verdict (length x) at (field at 2 (allowed x u left.earlier (u16 x at)) ∷ successor_fields x u (at + 2) (u16 x at ∷ left.earlier) (u16s x (at + 2) (count - (i + 1))) ++ later)
  unfolding successor_fields
  next_successor h later = left.passes later ∙ rw (u16s-next x at count i h)

  -- f is what the code finds of the next successor
  module _ (n : ℕ) (number : n ≡ node_count x) {f : Found} (found : f ≡ arc_at x at u n seen) where
    pub list-fails : {v : Fault} → i < count → f ≡ Err v → FieldsBad x (arcs_at x u) (list_fields x u total) v
    list-fails h e later = next_successor h later ∙ arc_fails x at u seen left.earlier left.marks (sym (rw number at found) ∙ e) at _

    read : {s : ℕ} → f ≡ Ok s → SuccessorRead x at u seen left.earlier left.marks s
    read e = arc_says x at u seen left.earlier left.marks (sym (rw number at found) ∙ e)

    -- it has an entry of the table
    pub list-entry : {s : ℕ} → n ≤ 400 → f ≡ Ok s → s < 402
    list-entry b e = omega (arith, (read e).number.most, highest-most u (node_count x))

    pub list-next : {s : ℕ} → n ≤ 400 → i < count → f ≡ Ok s → (mark : ℕ) → mark ≡ u + 1 → ListLeft x u total count (set seen s mark) (at + 2) (i + 1)
    list-next {s} b h e mark m =
        let a = read e in
        rw m (record {
          earlier = u16 x at ∷ left.earlier;
          marks = rw (← a.number.value) (marks-more seen u left.earlier s left.marks (list-entry b e));
          number = left.number;
          room = left.room;
          last = omega arith;
          place = omega (arith, left.place);
          there = a.number.there;
          passes = λ later. next_successor h later ∙ step-good at (field at 2 (allowed x u left.earlier (u16 x at))) _ a.number.there a.new;
        })

  pub list-whole : count ≤ i → ListGood x u total seen count
  unfolding arcs_at arc_count u16s successor_fields
  list-whole h =
      let z : count - i ≡ 0 = omega arith in
      let e : at ≡ arcs_at x (suc u) = omega (arith, left.place, left.last, left.number) in
      record {
        number = left.number;
        room = left.room;
        there = rw (← e) left.there;
        table = left.marks.table;
        passes = λ later. left.passes later ∙ rw (z, e);
      }

-- ---- all lists

-- the lists from a vertex on are left, and later fields
pub record ListsLeft (x : List ℕ) (seen : List ℕ) (at total u : ℕ) : Type 0 where
  pub last : u ≤ node_count x + 1
  pub room : total ≤ 4000
  pub place : at ≡ arcs_at x u
  pub there : at ≤ length x
  pub table : Table u seen
  pub passes : (later : List Field) → verdict (length x) (2 + node_count x) (arc_fields x 0 0 (sink_of x) ++ later)
      ≡ verdict (length x) at (arc_fields x u total (node_count x + 1 - u) ++ later)

module _ (x : List ℕ) where
  pub arcs-start : (seen : List ℕ) → Table 0 seen → 2 + node_count x ≤ length x → ListsLeft x seen (2 + node_count x) 0 0
  unfolding arcs_at sink_of
  arcs-start seen t h = record {
    last = omega arith;
    room = omega arith;
    place = refl;
    there = h;
    table = t;
    passes = λ later. let e : suc (node_count x) ≡ node_count x + 1 - 0 = omega arith in rw e;
  }

  module _ (seen : List ℕ) (at total u : ℕ) (left : ListsLeft x seen at total u) where
    next-list : u ≤ node_count x → (later : List Field) → verdict (length x) (2 + node_count x) (arc_fields x 0 0 (sink_of x) ++ later)
        ≡ verdict (length x) (arcs_at x u) (list_fields x u total ++ (arc_fields x (u + 1) (total + arc_count x u) (node_count x + 1 - (u + 1)) ++ later))
    unfolding arc_fields list_fields
    next-list h later =
        let e : node_count x + 1 - u ≡ suc (node_count x + 1 - (u + 1)) = omega arith in
        let mine = successor_fields x u (arcs_at x u + 2) [] (successors x u) in
        left.passes later ∙ rw (left.place, e, add-one u, append_assoc mine (arc_fields x (suc u) (total + arc_count x u) (node_count x + 1 - suc u)) later)

    pub arcs_fail : (v : Fault) → u ≤ node_count x → FieldsBad x (arcs_at x u) (list_fields x u total) v
        → FieldsBad x (2 + node_count x) (arc_fields x 0 0 (sink_of x)) v
    arcs_fail v h f later = next-list h later ∙ f _

    pub arcs-next : (now : List ℕ) (count : ℕ) → u ≤ node_count x → ListGood x u total now count
        → ListsLeft x now (at + (2 + 2 * count)) (total + count) (u + 1)
    unfolding arcs_at arc_count
    arcs-next now count h g =
        let e : at + (2 + 2 * count) ≡ arcs_at x (suc u) = omega (arith, left.place, g.number) in
        record {
          last = omega arith;
          room = g.room;
          place = rw add-one e;
          there = rw e g.there;
          table = g.table;
          passes = λ later. next-list h later ∙ g.passes _ ∙ rw (e, g.number);
        }

    pub arcs_whole : node_count x < u → ArcsGood x at
    unfolding reserve_at sink_of arc_fields
    arcs_whole h =
        let e : u ≡ suc (node_count x) = omega (arith, left.last) in
        let z : node_count x + 1 - u ≡ 0 = omega arith in
        record {
          place = left.place ∙ ap (arcs_at x) e;
          there = left.there;
          passes = λ later. left.passes later ∙ rw z;
        }
