-- `gains::frame_gains` meets its contract: before each turn the entries of the letters before this one are filled.
-- Assumes nothing.
use Rattle.std.proofs.Common.{ℕ, ◌<◌, ◌≡◌, List, length, get_or, take, arith}
use Rattle.std.proofs.lemmas.List.{length-take, get_or-take}
use Rattle.storing.specs.declared.Letter.{Letter}
use Rattle.storing.specs.Gains.{no_letter}
use Rattle.storing.specs.Gains.{KnownSymbol, LetterTable}
use Rattle.storing.proofs.Gaining.{letter-small}
use Rattle.storing.proofs.Filling.{gained-start, gained-next, gained-done, row-letter}
use Rattle.search.proofs.gains.frame_gains.Goals as goal

-- the row whose turn it is, of those in use
module _ (letters : List Letter) (used i : ℕ) (h : i < length (take used letters)) where
  below : i < used
  below = omega (arith, h, length-take used letters)

  read : get_or (take used letters) i no_letter ≡ get_or letters i no_letter
  read = get_or-take used letters i no_letter below

  row-small : {v : List ℕ} {k : ℕ} → KnownSymbol v k → LetterTable v used letters
      → (get_or (take used letters) i no_letter).index < 64
  row-small s t = rw read (letter-small (row-letter s.formed (t.row i below)))

pub loop-letter-init : goal.loop-letter-init
loop-letter-init c = gained-start c.requires.letter_table.1

pub bounds-gains-index : goal.bounds-gains-index
bounds-gains-index c =
    row-small _ _ _ c.loop-letter-test.true c.requires.known_symbol.0 c.requires.letter_table.0

pub letter_gains-requires : goal.letter_gains-requires
letter_gains-requires c =
    let h = c.loop-letter-test.true in
    let small = row-small _ _ _ h c.requires.known_symbol.0 c.requires.letter_table.0 in
    record {
      known_symbol = c.requires.known_symbol;
      letter_row = (
        rw (read _ _ _ h) (c.requires.letter_table.0.row c.loop-letter.letter-index (below _ _ _ h)),
        c.loop-letter.invariant.room.wide small,
      );
    }

pub loop-letter-preserved : goal.loop-letter-preserved
loop-letter-preserved c =
    let h = c.loop-letter-test.true in
    let small = row-small _ _ _ h c.requires.known_symbol.0 c.requires.letter_table.0 in
    rw (read _ _ _ h)
    (gained-next (rw (read _ _ _ h) at small) c.loop-letter.invariant c.letter_gains.ensures.1
    (rw (read _ _ _ h) at c.letter_gains.ensures.0))

pub returns : goal.returns
returns c =
    let few = c.requires.letter_table.0.few in
    gained-done (omega (arith, c.loop-letter-test.false, length-take c.args.used c.args.letters.now))
    c.loop-letter.invariant
