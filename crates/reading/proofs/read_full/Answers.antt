use Rattle.std.proofs.Common.{◌≡◌, ℕ, ◌+◌, ◌-◌, ◌≤◌, List, ◌++◌, None, Some, IfSome, length, take, slice_range}
use Rattle.std.proofs.Common.{rules, arith, sym, ap, ◌∙◌, subst, le_refl, drop_at, length-take-le}
use Rattle.std.proofs.lemmas.Slice.{take-put_mid_below}
use Rattle.std.specs.declared.option.Option.{Option}
use Rattle.std.specs.Io.KnownBytes.{Consumes}
use Rattle.std.proofs.KnownBytes.{Consumes-trans}
use borrow.Rule.Slice.PartMut.{put_mid, post_of}
use lib.Seq.{take-add, take-append-le, take-append_seam}
use Rattle.reading.proofs.read_full.Goals as goal

-- the first a bytes stayed, and those up to b follow them
take_split : (a b : ℕ) (old new : List ℕ) → a ≤ b → take a new ≡ take a old
    → take a old ++ slice_range new a b ≡ take b new
take_split a b old new h front =
    let same : a + (b - a) ≡ b = omega arith in
    ap (λ l. l ++ slice_range new a b) (sym front) ∙ sym (take-add a (b - a) new) ∙ ap (λ n. take n new) same

-- the n bytes from a on are the first n that were put there
slice_range-put_mid : (a k n : ℕ) (xs ys : List ℕ) → a ≤ length xs → n ≤ length ys
    → slice_range (put_mid a k xs ys) a (a + n) ≡ take n ys
slice_range-put_mid a k n xs ys within fits =
    let same : (a + n) - a ≡ n = omega arith in
    let after = post_of a k xs in
    ap (take ((a + n) - a)) (drop_at (take a xs) (ys ++ after) a (length-take-le a xs within))
    ∙ ap (λ m. take m (ys ++ after)) same ∙ take-append-le n ys after fits

-- a space that is full holds what its length takes of the known bytes
full : (a b : Option (List ℕ)) (n m : ℕ) (space : List ℕ) → Consumes a b (take n space) → n ≤ length space
    → length space ≤ n → length space ≡ m → IfSome a (λ xs. take n space ≡ take m xs)
full None b n m space p within over same = tt
full (Some xs) None n m space p within over same = absurd p
full (Some xs) (Some ys) n m space p within over same =
    let long : length (take n space) ≡ m = length-take-le n space within ∙ (omega arith) in
    sym (ap (take m) p ∙ ap (λ k. take k (take n space ++ ys)) (sym long) ∙ take-append_seam (take n space) ys)

pub loop-got-preserved : goal.loop-got-preserved
loop-got-preserved g c =
    let from = c.loop-got.got in
    let n = c.in_ok-n.n in
    let space = c.loop-got.space in
    let put = c.read.new.buf in
    let room = length space - from in
    let within = c.loop-got.invariant.room in
    let part = slice_range-put_mid from room n space put within c.in_ok-n.ensures.bound.0 in
    let joined = take_split from (from + n) space (put_mid from room space put) (omega arith)
    (take-put_mid_below _ _ _ _ _ (le_refl _) within) in
    record {
      room = search rules;
      given = subst (Consumes _ _) (ap (λ l. take from space ++ l) (sym part) ∙ joined)
          (Consumes-trans _ _ _ _ _ c.loop-got.invariant.given c.in_ok-n.ensures.bytes.0);
    }

pub returns-after-loop-got-clause-bytes : goal.returns-after-loop-got-clause-bytes
returns-after-loop-got-clause-bytes g c =
    let i = c.loop-got.invariant in
    full _ _ _ _ c.loop-got.space i.given i.room c.loop-got-test.false c.loop-got.auto.space
