-- `judge_unpack` goes through the rows in the table's order: each test is the row's condition. Assumes nothing.
use Prim.Native.Nat.{◌*◌}
use mathlib.Core.Path.{◌≡◌, sym, ◌∙◌}
use mathlib.Core.Bool.{false}
use borrow.Author.Tests.{lt-ltb, le-ltb}
use lib.ListN.{length}
use Rattle.endian.specs.Lists.{any}
use Rattle.call.specs.Table.{unless}
use Rattle.packing.specs.Width.{width, given_rows, bad_word_count}
use Rattle.call.specs.Limits.{bad_count, bad_code}
use Rattle.packing.specs.Packing.{unpack_answer, unpacked, bad_packed, unpack_rows}
use Rattle.packing.specs.Offsets.{CodeLimits}
use Rattle.packing.proofs.Laws.Width.{width-limit}
use Rattle.packing.proofs.Laws.Calls.{inside, good-packed}
use mathlib.Core.Path.{ap}
use mathlib.Core.Bool.{not}
use Rattle.packing.proofs.judge_unpack.Goals as goal
use Rattle.packing.proofs.judge_unpack.Tie as tie
use Rattle.packing.proofs.judge_unpack.Lts as lts
use Rattle.packing.proofs.judge_unpack.Reads as reads

-- the rows that were passed
pub returns-then-not-inside : goal.returns-then-not-inside
unfolding unpack_answer unpack_rows given_rows unless bad_word_count
returns-then-not-inside c = rw (← c.inside.ensures, c.if-not-inside.true)

words-good : (c : lts.Else1 tie.the-claims reads.Pre reads.Post) → bad_word_count c.args.words ≡ false
unfolding bad_word_count
words-good c = rw (← c.inside.ensures) (ap not c.if-not-inside.false)

count-good : (c : lts.Else2 tie.the-claims reads.Pre reads.Post) → bad_count c.args.n ≡ false
unfolding bad_count
count-good c = rw (← c.inside-2.ensures) (ap not c.if-not-inside-2.false)

small : (c : lts.After-width_of tie.the-claims reads.Pre reads.Post)
    → CodeLimits c.args.n c.width_of-b.result
unfolding bad_word_count bad_count
small c =
    let a = c.args in
    record {
      few = (inside 1 8 a.n (count-good c.before)).1;
      short = rw c.width_of-b.ensures (width-limit a.words (inside 1 1048576 a.words (words-good c.before.before.before)).1);
    }

packed-good : (c : lts.Else3 tie.the-claims reads.Pre reads.Post) →
    let a = c.args in
    bad_packed (width a.words) a.n a.packed.now ≡ false
packed-good c = let e = c.width_of-b.ensures in rw (← e) (sym c.is_bad_packed.ensures ∙ c.if-is_bad_packed.false)

codes-good : (c : lts.Else4 tie.the-claims reads.Pre reads.Post) →
    let a = c.args in
    any (bad_code a.words) (unpacked (width a.words) a.n a.packed.now) ≡ false
codes-good c = let e = c.width_of-b.ensures in rw (← e) (sym c.has_bad_unpacked.ensures ∙ c.if-has_bad_unpacked.false)

pub returns-then-not-inside-2 : goal.returns-then-not-inside-2
unfolding unpack_answer unpack_rows given_rows unless bad_count
returns-then-not-inside-2 c = rw (words-good c.before.before.before, ← c.inside-2.ensures, c.if-not-inside-2.true)

pub width_of-b-requires : goal.width_of-b-requires
unfolding bad_word_count
width_of-b-requires c =
    let d = c.before.before.before in
    (inside 1 1048576 d.args.words (words-good d)).0

pub returns-then-is_bad_packed : goal.returns-then-is_bad_packed
unfolding unpack_answer unpack_rows given_rows unless
returns-then-is_bad_packed c =
    let d = c.before.before.before.before in
    let e = c.width_of-b.ensures in
    rw (words-good d.before.before, count-good d, ← e, sym c.is_bad_packed.ensures ∙ c.if-is_bad_packed.true)

pub has_bad_unpacked-requires : goal.has_bad_unpacked-requires
has_bad_unpacked-requires c =
    let e = c.width_of-b.ensures in
    record { small = small c.before.before.before; size = rw e (good-packed _ _ _ (packed-good c.before)).0 }

pub returns-then-has_bad_unpacked : goal.returns-then-has_bad_unpacked
unfolding unpack_answer unpack_rows given_rows unless
returns-then-has_bad_unpacked c =
    let p = c.before.before.before in
    let d = p.before.before.before in
    let e = p.width_of-b.ensures in
    rw (words-good d.before.before, count-good d, packed-good p, ← e, sym c.has_bad_unpacked.ensures ∙ c.if-has_bad_unpacked.true)

pub returns-then-out-count : goal.returns-then-out-count
unfolding unpack_answer unpack_rows given_rows unless
returns-then-out-count c =
    let p = c.before.before.before.before in
    let d = p.before.before.before in
    let a = d.args in
    rw (words-good d.before.before, count-good d, packed-good p, codes-good c.before.before, lt-ltb (length a.out.now) (4 * a.n) c.if-out-count.true)

pub returns : goal.returns
unfolding unpack_answer unpack_rows given_rows unless
returns c =
    let p = c.before.before.before.before in
    let d = p.before.before.before in
    let a = d.args in
    rw (words-good d.before.before, count-good d, packed-good p, codes-good c.before.before, le-ltb (length a.out.now) (4 * a.n) c.if-out-count.false)

pub is_bad_packed-requires : goal.is_bad_packed-requires
is_bad_packed-requires c = small c.before
