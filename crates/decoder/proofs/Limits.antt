-- Scores lie within ±65,501,233. An i16 is at least -32,768, which is the one that is impossible, so that every part of a permitted state
-- path is at most 32,767 in size; T frames give T emissions and T - 1 moves; a sum is no larger than its parts together. Assumes nothing.
use Prim.Native.Nat.{ℕ, zero, suc, ◌+◌, ◌*◌, ◌-◌, ◌^◌, ◌≤◌, ◌<◌}
use mathlib.Core.Path.{◌≡◌, refl, ap}
use mathlib.Core.Bool.{false, not, cond, true≢false}
use mathlib.Core.Logic.{⊎_elim}
use mathlib.Core.List.Memᴰ
use mathlib.Core.List.Memᴰ.{append_cases}
use mathlib.Core.List.{List, map, Memᴰ}
use mathlib.Core.Option.{some}
use native.Mathlib.Omega.{arith}
use native.Mathlib.Decide.{ℕ_discrete}
use borrow.Author.Tests.{not-true}
use lib.IntN.{ℤ, pos, negsuc, nat_abs}
use lib.Signed.{mag}
use lib.ListN.{length, length-append, length-map, get_or}
use lib.Dec.{ltb, eqb}
use Rattle.endian.specs.Lists.{from}
use Rattle.endian.specs.Bytes.{i16}
use Rattle.endian.proofs.Booleans.{cond_cases}
use Rattle.endian.proofs.Bytes.{i16-range}
use Rattle.endian.proofs.Lists.{all_out}
use Rattle.voice.specs.Voice.{symbol_count, symbols_at, loop_score, step_score, link_score, emission, impossible}
use Rattle.endian.specs.Integers.{eq_z}
use Rattle.decoder.specs.StatePaths.{Spot, letter_at, spot_at, state_at, move_score, parts_of, score_of, permitted, Attains, score_limit}
use Rattle.decoder.specs.TrueScore.{true_score}
use Rattle.decoder.proofs.Sums.{sum-size}
use Rattle.decoder.proofs.StatePaths.{Stated, path_emission, moved_in}
use Rattle.decoder.proofs.Literal.{true-attained}

-- ---- every part is an i16, and none that is permitted is the least

emission-range : (v : List ℕ) (s k : ℕ) → mag (emission v s k) < 2 ^ 15
unfolding emission impossible
emission-range v s k =
    let at = symbols_at v + 1 + 2 * (s * symbol_count v + k) in
    cond_cases (λ a. mag a < 2 ^ 15) (ltb k (symbol_count v)) (i16 v at) (negsuc 32767) (λ t. i16-range v at) (λ t. omega arith)

move-range : (v word : List ℕ) (q r : Spot) → mag (move_score v word q r) < 2 ^ 15
unfolding move_score loop_score step_score link_score
move-range v word q r =
    let loop = loop_score v (state_at v word q) in
    let step = step_score v (state_at v word q) in
    let link = link_score v (letter_at word q.position) in
    cond_cases (λ a. mag a < 2 ^ 15) (eqb r.position q.position) (cond (eqb r.state q.state) loop step) link
    (λ t. cond_cases (λ a. mag a < 2 ^ 15) (eqb r.state q.state) loop step (λ t. i16-range v _) (λ t. i16-range v _))
    (λ t. i16-range v _)

part-range : (v word frames : List ℕ) (path : List Spot) {a : ℤ} → Memᴰ a (parts_of v word frames path) → mag a < 2 ^ 15
unfolding parts_of
part-range v word frames path {a} m =
    ⊎_elim emitted moved (append_cases (map (path_emission v word frames path) (from 0 (length path))) m)
  where
    emitted : Memᴰ a (map (path_emission v word frames path) (from 0 (length path))) → mag a < 2 ^ 15
    emitted k =
        let r = Memᴰ.of_map (path_emission v word frames path) (from 0 (length path)) k in
        rw r.2 at (emission-range v (state_at v word (spot_at path r.0)) (get_or frames r.0 0))

    moved : Memᴰ a (map (moved_in v word path) (from 0 (length path - 1))) → mag a < 2 ^ 15
    moved k =
        let r = Memᴰ.of_map (moved_in v word path) (from 0 (length path - 1)) k in
        rw r.2 at (move-range v word (spot_at path r.0) (spot_at path (suc r.0)))

possible-size : (a : ℤ) → mag a < 2 ^ 15 → eq_z a impossible ≡ false → nat_abs a ≤ 32767
unfolding eq_z impossible
possible-size (pos n) h e = omega arith
possible-size (negsuc n) h e = elim (ℕ_discrete n 32767) [ yes q ↦ absurd (true≢false (rw q at e)) | no d ↦ omega arith ]

-- ---- the sum

length_from : (a n : ℕ) → length (from a n) ≡ n
unfolding from
length_from a zero = refl
length_from a (suc n) = ap suc (length_from (suc a) n)

part_count : (v word frames : List ℕ) (path : List Spot) → length (parts_of v word frames path) ≡ length path + (length path - 1)
unfolding parts_of
part_count v word frames path = simp (length-append, length-map, length_from)

-- T frames give T emissions and T - 1 moves
pub attained-size : {v word frames : List ℕ} {a : ℤ} → Attains v word frames a → nat_abs a ≤ 32767 * (2 * length frames - 1)
unfolding permitted score_of
attained-size {v} {word} {frames} A =
    let h = sum-size 32767 (parts_of v word frames A.path) small in
    rw (← A.scores) (omega (arith, part_count v word frames A.path, A.is_path.one_each))
  where
    small : (b : ℤ) → Memᴰ b (parts_of v word frames A.path) → nat_abs b ≤ 32767
    small b m =
        let possible = not-true (eq_z b impossible) (all_out (λ a. not (eq_z a impossible)) A.is_permitted m) in
        possible-size b (part-range v word frames A.path m) possible

-- scores lie within ±65,501,233
pub attained-within : {v word frames : List ℕ} {a : ℤ} → length frames ≤ 1000 → Attains v word frames a → nat_abs a ≤ score_limit
unfolding score_limit
attained-within h A = omega (arith, attained-size A)

pub true-within : (v word frames : List ℕ) {a : ℤ} → length frames ≤ 1000 → true_score v word frames ≡ some a → Stated v word
    → nat_abs a ≤ score_limit
true-within v word frames h e st = attained-within h (true-attained e st)

-- so a score is an i32
pub within-i32 : (a : ℤ) → nat_abs a ≤ score_limit → mag a < 2 ^ 31
unfolding score_limit
within-i32 (pos n) h = omega arith
within-i32 (negsuc n) h = omega arith
