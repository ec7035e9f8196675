-- `letters::letter_pairs` meets its contract: the pairs follow each other, four bytes each. Assumes nothing.
use Prim.Native.Nat.{ℕ, ◌+◌, ◌*◌, ◌<◌, ◌≤◌}
use native.Mathlib.Omega.{arith}
use borrow.Author.Rules.{rules}
use borrow.Author.Tests.{ltb-true}
use mathlib.Core.Path.{◌≡◌}
use mathlib.Core.List.{List}
use lib.ListN.{length, get_or}
use Rattle.voice.specs.Fields.{well_formed}
use Rattle.voice.specs.Voice.{states_at, links_at, state_count, voice_verdict}
use Rattle.voice.proofs.Scores.{letters-few, links-there, pair_there}
use Rattle.storing.proofs.Gaining.{pairs-read}
use Rattle.search.proofs.letters.letter_pairs.Goals as goal

-- the offset of the first pair
offset : (v : List ℕ) (first states : ℕ) → voice_verdict v ≡ well_formed → first + states ≤ state_count v →
    3 + 2 * get_or v 0 0 + 4 * first ≤ length v
unfolding links_at states_at
offset v first states f b = omega (arith, links-there v f, b)

-- the pair of each state that the letter has is inside the model
inside : (v : List ℕ) (first : ℕ) {states : ℕ} → voice_verdict v ≡ well_formed → first + states ≤ state_count v →
    (j : ℕ) → j < states → 3 + 2 * get_or v 0 0 + 4 * first + 4 * j + 4 ≤ length v
unfolding states_at
inside v first f b j h = omega (arith, pair_there v f {s = first + j} (omega (arith, b)))

pub pair_at-first_pair-requires : goal.pair_at-first_pair-requires
pair_at-first_pair-requires c e =
    omega (
      arith,
      inside c.args.voice.now c.args.first c.requires.voice_value c.requires.states_bound 0
          (ltb-true _ _ e),
    )

pub pair_at-second_pair-requires : goal.pair_at-second_pair-requires
pair_at-second_pair-requires c e =
    omega (
      arith,
      inside c.args.voice.now c.args.first c.requires.voice_value c.requires.states_bound 1
          (ltb-true _ _ e),
    )

pub pair_at-third_pair-requires : goal.pair_at-third_pair-requires
pair_at-third_pair-requires c e =
    omega (
      arith,
      inside c.args.voice.now c.args.first c.requires.voice_value c.requires.states_bound 2
          (ltb-true _ _ e),
    )

pub pair_at-fourth_pair-requires : goal.pair_at-fourth_pair-requires
pair_at-fourth_pair-requires c e =
    omega (
      arith,
      inside c.args.voice.now c.args.first c.requires.voice_value c.requires.states_bound 3
          (ltb-true _ _ e),
    )

pub returns : goal.returns
returns c =
    let a = c.args in
    pairs-read a.voice.now a.first a.states c.pair_at-first_pair.ensures c.pair_at-second_pair.ensures
    c.pair_at-third_pair.ensures
    c.pair_at-fourth_pair.ensures

pub bounds-voice-0 : goal.bounds-voice-0
bounds-voice-0 c =
    let h = offset c.args.voice.now c.args.first c.args.states c.requires.voice_value c.requires.states_bound in
    search rules

pub overflow_cast-at : goal.overflow_cast-at
overflow_cast-at c = let h = letters-few _ c.requires.voice_value in search rules

pub overflow_mul-at : goal.overflow_mul-at
overflow_mul-at c = let h = letters-few _ c.requires.voice_value in search rules

pub overflow_add-at : goal.overflow_add-at
overflow_add-at c =
    let h = offset c.args.voice.now c.args.first c.args.states c.requires.voice_value c.requires.states_bound in
    search rules

pub overflow_mul-at-2 : goal.overflow_mul-at-2
overflow_mul-at-2 c =
    let h = offset c.args.voice.now c.args.first c.args.states c.requires.voice_value c.requires.states_bound in
    search rules

pub overflow_add-at-2 : goal.overflow_add-at-2
overflow_add-at-2 c =
    let h = offset c.args.voice.now c.args.first c.args.states c.requires.voice_value c.requires.states_bound in
    search rules

pub overflow_add-at-3 : goal.overflow_add-at-3
overflow_add-at-3 c =
    let h = offset c.args.voice.now c.args.first c.args.states c.requires.voice_value c.requires.states_bound in
    search rules

pub overflow_add-at-4 : goal.overflow_add-at-4
overflow_add-at-4 c =
    let h = offset c.args.voice.now c.args.first c.args.states c.requires.voice_value c.requires.states_bound in
    search rules

pub overflow_add-at-5 : goal.overflow_add-at-5
overflow_add-at-5 c =
    let h = offset c.args.voice.now c.args.first c.args.states c.requires.voice_value c.requires.states_bound in
    search rules
