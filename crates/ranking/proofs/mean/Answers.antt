-- `ranking::mean` meets its contract: a comparison chooses between the quotient and the next number, of the score
-- without its sign. Assumes nothing.
use mathlib.Core.Path.{◌≡◌, ap, ◌∙◌}
use Prim.Native.Nat.{ℕ, ◌^◌, ◌≤◌, ◌<◌}
use native.Mathlib.Omega.{arith}
use lib.IntN.{ℤ}
use lib.Signed.{mag}
use mir.Syntax.{w32}
use mir.Val.{to_z, of_z}
use mir.Facts.{to_z-of_z}
use mathlib.Core.Bool.{false}
use Rattle.endian.specs.Lists.{within}
use Rattle.call.specs.declared.Refusal.TheVariants.{Frames}
use Rattle.call.specs.Table.{value, refused, unless}
use Rattle.call.specs.Limits.{bad_frame_count}
use Rattle.endian.proofs.Ranges.{inside, below, above}
use Rattle.ranking.specs.Mean.{mean, mean_answer}
use Rattle.ranking.proofs.Rounding.{mean-next, mean-quotient}
use Rattle.ranking.proofs.mean.Goals as goal
use Rattle.ranking.proofs.mean.Goals.{then-frames-eq0-via-then-frames-eq0, then-frames-eq0-via-else-frames-eq0+then-frames-gt-FRAMES}

-- where T is out of range
outside : (score : ℤ) (T : ℕ) → within 1 1000 T ≡ false → refused Frames ≡ mean_answer score T
unfolding mean_answer bad_frame_count unless
outside score T e = rw e

pub returns-then-frames-eq0 : goal.returns-then-frames-eq0
returns-then-frames-eq0 c =
    outside c.args.score c.args.frames
    (elim c.then-frames-eq0.branch [
      | then-frames-eq0-via-then-frames-eq0 w ↦ below 1 1000 c.args.frames (omega arith)
      | then-frames-eq0-via-else-frames-eq0+then-frames-gt-FRAMES w ↦ above 1 1000 c.args.frames (omega arith)
    ])

-- where T is in range: r, which is the mean of the score as it is handed on
answered : (T : ℕ) {r z score : ℤ} → 1 ≤ T → T ≤ 1000 → mag r < 2 ^ 31 → r ≡ mean z T → z ≡ score
    → value (to_z w32 (of_z w32 r)) ≡ mean_answer score T
unfolding mean_answer bad_frame_count unless
answered T some few fit e f =
    rw (inside 1 1000 T some few) (ap value (to_z-of_z {w = w32} (record { sfits = fit }) ∙ e ∙ ap (λ (z : ℤ). mean z T) f))

pub returns-then-frames-number : goal.returns-then-frames-number
returns-then-frames-number c =
    let k = c.unsigned_abs-number in
    answered c.args.frames (omega arith) (omega arith) c.with_sign.type_inv
    (c.with_sign.ensures ∙ mean-next _ _ k.result k.ensures.value c.if-frames-number.true)
    (to_z-of_z c.ranges.score)

pub returns : goal.returns
returns c =
    let k = c.unsigned_abs-number in
    answered c.args.frames (omega arith) (omega arith) c.with_sign-2.type_inv
    (c.with_sign-2.ensures ∙ mean-quotient _ _ k.result k.ensures.value c.if-frames-number.false)
    (to_z-of_z c.ranges.score)
