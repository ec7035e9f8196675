-- `descent::put_word` meets its contract: the print bytes of the letters passed stand at the output's start. Assumes nothing.
use Prim.Native.Nat.{ℕ, ◌+◌, ◌*◌, ◌≤◌, ◌<◌}
use mathlib.Core.Path.{◌≡◌, refl, sym, ap, ◌∙◌}
use mathlib.Core.List.{◌++◌}
use lib.ListN.{length, get_or, take, drop, length-set}
use native.Mathlib.Omega.{arith}
use borrow.Author.Rules.{rules}
use Rattle.call.proofs.Buffers.{written-refused}
use Rattle.voice.specs.Voice.{print_byte}
use Rattle.graph.specs.Words.{spelled}
use Rattle.codes.proofs.Words.{first-spelled, spelled_at, print-there}
use Rattle.codes.proofs.Calls.{copy_more, no_room, has_room, room-written}
use Rattle.codes.proofs.descent.put_word.Goals as goal
use Rattle.codes.proofs.descent.put_word.Goals.{In-loop-i, Start}

long : (c : Start) → c.args.n ≤ length c.args.letters.now
long c = omega (arith, c.requires.0, c.requires.1)

-- what is written has n bytes
size : (c : Start) →
    length (spelled c.args.voice.now (take c.args.n c.args.letters.now)) ≡ c.args.n
size c = first-spelled c.args.voice.now c.args.letters.now (long c)

pub returns-then-out-n : goal.returns-then-out-n
returns-then-out-n c =
    let o = c.args.out.now in
    record {
      result_value = no_room _ o (size (goal.at.returns-then-out-n c).Start) c.if-out-n.true;
      out_after = sym (written-refused _ o refl);
    }

pub loop-i-init : goal.loop-i-init
loop-i-init c = (refl, refl)

pub bounds-letters-i : goal.bounds-letters-i
bounds-letters-i c = omega (arith, c.loop-i-test.true, c.requires.0)

-- the print byte of the letter lies inside the voice model
there : (c : In-loop-i) →
    let a = c.args in
    1 + 2 * get_or a.letters.now c.loop-i.i 0 < length a.voice.now
there c =
    print-there c.args.voice.now c.args.letters.now (omega (arith, c.requires.0, c.requires.1)) c.loop-i-test.true
    c.requires.2

pub bounds-out-i : goal.bounds-out-i
bounds-out-i c = omega (arith, c.loop-i-test.true, c.if-out-n.false, c.loop-i.invariant.0)

pub loop-i-preserved : goal.loop-i-preserved
unfolding print_byte
loop-i-preserved c =
    let a = c.args in
    let t = c.loop-i-test.true in
    let word = spelled a.voice.now (take a.n a.letters.now) in (
      length-set c.loop-i.out c.loop-i.i _ ∙ c.loop-i.invariant.0,
      rw (c.loop-i.invariant.1, ← spelled_at a.voice.now a.letters.now (long (goal.at.loop-i-preserved c).Start) t)
          (copy_more word a.out.now c.loop-i.i (print_byte a.voice.now 0)
          (omega (arith, size (goal.at.loop-i-preserved c).Start))
          (omega (arith, c.if-out-n.false))),
    )

pub shape_of-out : goal.shape_of-out
shape_of-out c = c.loop-i.invariant.0

pub returns : goal.returns
returns c =
    let a = c.args in
    let word = spelled a.voice.now (take a.n a.letters.now) in
    let e : c.loop-i.i ≡ a.n = omega arith in record {
      result_value = has_room word a.out.now (size (goal.at.returns c).Start) c.if-out-n.false;
      out_after = c.loop-i.invariant.1
          ∙ ap (λ (j : ℕ). take j word ++ drop j a.out.now) e
          ∙ room-written word a.out.now (size (goal.at.returns c).Start);
    }

pub overflow_cast-out : goal.overflow_cast-out
overflow_cast-out c = let h = there (goal.at.overflow_cast-out c).In-loop-i in search rules

pub overflow_mul-out : goal.overflow_mul-out
overflow_mul-out c = let h = there (goal.at.overflow_mul-out c).In-loop-i in search rules

pub overflow_add-out : goal.overflow_add-out
overflow_add-out c = let h = there (goal.at.overflow_add-out c).In-loop-i in search rules

pub bounds-voice-letters : goal.bounds-voice-letters
bounds-voice-letters c = there (goal.at.bounds-voice-letters c).In-loop-i
