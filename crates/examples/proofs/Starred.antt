-- The starred rows hold: each is computed from the bytes. Assumes nothing.
use mathlib.Core.Path.{refl}
use Rattle.examples.specs.SmallLexicon.{Starred, Printed}
use Rattle.examples.proofs.Open.{everything}

pub starred : Starred
unfolding everything
starred = record {
  P-words = refl;
  P-width = refl;
  P-codes = refl;
  Q-codes = refl;
  P-three = refl;
  Q-three = refl;
  P-all = refl;
  P-one = refl;
  P-stays = refl;
  widths = refl;
  mean_half = refl;
  same-letters = refl;
  branches = refl;
}

pub printed : Printed
unfolding everything
printed = refl
