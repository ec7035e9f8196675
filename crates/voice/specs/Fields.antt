-- An image is a row of fields. How it is judged: fields are read in order, a missing field comes before its range, the earlier field wins,
-- and extra bytes come last (document 01, under the refusal table). Assumes nothing.
use Rattle.std.specs.Prelude.{ℕ, ◌+◌, Result, Ok, Err, Bool, cond, List, [], ◌∷◌, eqb, leb}
use Rattle.voice.specs.declared.Fault.{Fault}
use Rattle.voice.specs.declared.Fault.TheVariants.{WrongLength, OutOfRange}

-- A field: where its bytes begin, how many they are, and whether its value is in its range. Scores that may take any value and stand
-- together are one field.
pub record Field : Type 0 where
  pub at : ℕ
  pub size : ℕ
  pub in_range : Bool

abbrev pub field : ℕ → ℕ → Bool → Field
field at size in_range = record { at = at; size = size; in_range = in_range }

-- where a field's bytes end
abbrev pub end : Field → ℕ
end f = f.at + f.size

pub data Verdict : Type 0 where
  well_formed : Verdict
  -- the bytes end inside a field, or go on after the last
  wrong_length : Verdict
  -- a field is out of its range
  out_of_range : Verdict

-- the verdict that a fault is
abbrev pub fault_verdict : Fault → Verdict
fault_verdict WrongLength = wrong_length
fault_verdict OutOfRange = out_of_range

-- the verdict that a judge's result is
abbrev pub verdict_of : {A : Type 0} → Result A Fault → Verdict
verdict_of (Ok a) = well_formed
verdict_of (Err f) = fault_verdict f

-- on an image of len bytes: the last field read ends at done, and the fields are still to be read
unfoldable pub verdict : ℕ → ℕ → List Field → Verdict
verdict len done [] = cond (eqb done len) well_formed wrong_length
verdict len done (f ∷ fields) = cond (leb (end f) len) (cond f.in_range (verdict len (end f) fields) out_of_range) wrong_length
