-- `letters::mark_letters` meets its contract: before each turn the letters of the nodes up to this number have a mark.
-- Assumes nothing.
use Rattle.std.proofs.Common.{ℕ, ◌+◌, ◌-◌, ◌<◌, ◌≡◌, ◌∙◌, List, length, get_or, take, drop, arith}
use Rattle.std.proofs.lemmas.List.{length-take, length-drop, get_or-take, get_or-drop}
use Rattle.lexicon.specs.Lexicon.{node_count, node_letter}
use Rattle.checking.specs.Tables.{WellFormed, FewLetters}
use Rattle.checking.proofs.Arcs.{nodes-there}
use Rattle.storing.proofs.Filling.{marks-next}
use Rattle.search.proofs.letters.mark_letters.Goals as goal

pub loop-letter-init : goal.loop-letter-init
loop-letter-init c = c.requires.letters_marked

-- the letter of the node whose turn it is
letter : (x : List ℕ) (node : ℕ) → FewLetters x → node < node_count x → get_or x (2 + node) 0 < 64
unfolding node_letter
letter x node f h =
    let e : 1 + (1 + node) ≡ 2 + node = omega arith in
    rw e at (f (1 + node) (omega arith) (omega arith))

-- the part of the image that is gone through: a letter for each node
module _ {x : List ℕ} {nodes : ℕ} (f : WellFormed x) (e : nodes ≡ node_count x) where
  long : length (take (2 + nodes - 2) (drop 2 x)) ≡ node_count x
  long = simp (length-take, length-drop) (omega (arith, e, nodes-there f))

  read : (i : ℕ) → i < node_count x → get_or (take (2 + nodes - 2) (drop 2 x)) i 0 ≡ get_or x (2 + i) 0
  read i h = get_or-take (2 + nodes - 2) (drop 2 x) i 0 (omega (arith, e)) ∙ get_or-drop 2 x i 0

pub slice_bounds-letter-items-end : goal.slice_bounds-letter-items-end
unfolding node_count
slice_bounds-letter-items-end c =
    omega (arith, c.u16_at-nodes.ensures, nodes-there c.requires.well_formed.0)

pub bounds-marks-letter : goal.bounds-marks-letter
unfolding node_count
bounds-marks-letter c =
    let w = c.requires.well_formed in
    let h : c.loop-letter.letter-index < node_count c.args.lexicon.now =
    rw (← long w.0 c.u16_at-nodes.ensures) c.loop-letter-test.true in
    rw (read w.0 c.u16_at-nodes.ensures _ h) (letter _ _ w.1 h)

pub loop-letter-preserved : goal.loop-letter-preserved
unfolding node_count
loop-letter-preserved c =
    let w = c.requires.well_formed in
    let h : c.loop-letter.letter-index < node_count c.args.lexicon.now =
    rw (← long w.0 c.u16_at-nodes.ensures) c.loop-letter-test.true in
    rw (read w.0 c.u16_at-nodes.ensures _ h) (marks-next (letter _ _ w.1 h) c.loop-letter.invariant)

pub returns : goal.returns
unfolding node_count
returns c =
    let w = c.requires.well_formed in
    let e : c.loop-letter.letter-index ≡ node_count c.args.lexicon.now =
    omega (arith, long w.0 c.u16_at-nodes.ensures) in
    rw e at c.loop-letter.invariant
