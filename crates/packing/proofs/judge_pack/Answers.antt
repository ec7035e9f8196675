-- `judge_pack` goes through the rows in the table's order: each test is the row's condition. Assumes nothing.
use mathlib.Core.Path.{◌≡◌, sym, ◌∙◌}
use native.Mathlib.Omega.{arith}
use borrow.Author.Tests.{lt-ltb, le-ltb}
use Rattle.call.specs.Table.{unless}
use Rattle.packing.specs.Width.{width, given_rows, bad_word_count}
use Rattle.call.specs.Limits.{bad_count, bad_code}
use Rattle.packing.specs.Packing.{pack_answer, packed_size, pack_rows}
use Rattle.packing.specs.Offsets.{CodeLimits}
use Rattle.endian.specs.Lists.{any}
use lib.ListN.{length}
use mathlib.Core.Bool.{false}
use native.Mathlib.Nat.{mul-le-mul}
use Rattle.packing.proofs.Laws.Width.{width-limit}
use Rattle.packing.proofs.Laws.Calls.{inside}
use mathlib.Core.Path.{ap}
use mathlib.Core.Bool.{not}
use Rattle.packing.proofs.judge_pack.Goals as goal
use Rattle.packing.proofs.judge_pack.Tie as tie
use Rattle.packing.proofs.judge_pack.Lts as lts
use Rattle.packing.proofs.judge_pack.Reads as reads

-- the rows that were passed
pub returns-then-not-inside : goal.returns-then-not-inside
unfolding pack_answer pack_rows given_rows unless bad_word_count
returns-then-not-inside c = rw (← c.inside.ensures, c.if-not-inside.true)

words-good : (c : lts.Else1 tie.the-claims reads.Pre reads.Post) → bad_word_count c.args.words ≡ false
unfolding bad_word_count
words-good c = rw (← c.inside.ensures) (ap not c.if-not-inside.false)

count-good : (c : lts.Else2 tie.the-claims reads.Pre reads.Post) → bad_count (length c.args.codes.now) ≡ false
unfolding bad_count
count-good c = rw (← c.inside-2.ensures) (ap not c.if-not-inside-2.false)

codes-good : (c : lts.Else3 tie.the-claims reads.Pre reads.Post) →
    let a = c.args in
    any (bad_code a.words) a.codes.now ≡ false
codes-good c = sym c.has_bad_code.ensures ∙ c.if-has_bad_code.false

small : (c : lts.After-width_of tie.the-claims reads.Pre reads.Post)
    → CodeLimits (length c.args.codes.now)
    c.width_of.result
unfolding bad_word_count bad_count
small c =
    let a = c.args in
    record {
      few = (inside 1 8 (length a.codes.now) (count-good c.before.before.before)).1;
      short = rw c.width_of.ensures (width-limit a.words (inside 1 1048576 a.words (words-good c.before.before.before.before.before)).1);
    }

size_is : (c : lts.After-packed_size tie.the-claims reads.Pre reads.Post) →
    let a = c.args in
    c.packed_size-size.result ≡ packed_size (width a.words) (length a.codes.now)
size_is c = let e = c.width_of.ensures in rw (c.packed_size-size.ensures, e)

pub returns-then-not-inside-2 : goal.returns-then-not-inside-2
unfolding pack_answer pack_rows given_rows unless bad_count
returns-then-not-inside-2 c = rw (words-good c.before.before.before, ← c.inside-2.ensures, c.if-not-inside-2.true)

pub returns-then-has_bad_code : goal.returns-then-has_bad_code
unfolding pack_answer pack_rows given_rows unless
returns-then-has_bad_code c = rw (words-good c.before.before.before.before.before, count-good c.before.before.before, sym c.has_bad_code.ensures ∙ c.if-has_bad_code.true)

pub width_of-requires : goal.width_of-requires
unfolding bad_word_count
width_of-requires c =
    let d = c.before.before.before.before.before in
    (inside 1 1048576 d.args.words (words-good d)).0

pub returns-then-out-size : goal.returns-then-out-size
unfolding pack_answer pack_rows given_rows unless
returns-then-out-size c =
    let d = c.before.before.before.before in
    rw (words-good d.before.before.before.before, count-good d.before.before, codes-good d, ← size_is c.before.before, lt-ltb _ _ c.if-out-size.true)

pub overflow_cast-result : goal.overflow_cast-result
unfolding packed_size
overflow_cast-result c =
    let h = small c.before.before.before in
    omega (arith, mul-le-mul h.few h.short, c.packed_size-size.ensures)

pub returns : goal.returns
unfolding pack_answer pack_rows given_rows unless
returns c =
    let d = c.before.before.before.before in
    rw (words-good d.before.before.before.before, count-good d.before.before, codes-good d, ← size_is c.before.before, le-ltb _ _ c.if-out-size.false)

pub packed_size-size-requires : goal.packed_size-size-requires
packed_size-size-requires c = small c.before
