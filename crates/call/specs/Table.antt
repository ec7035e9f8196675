-- The refusal tables of documents 01 and 02: each refusal's number, and how a call goes through its rows. Assumes
-- nothing.
use Rattle.std.specs.Prelude.{ℕ, ◌≡◌, Result, Ok, Err, Bool, true, false, cond, not, List, [], ◌∷◌, ◌++◌, map, ℤ, pos, neg_ℤ, eqb}
use Rattle.std.proofs.Math.Option.{Option, none, some}
use Rattle.endian.specs.Lists.{all}
use Rattle.call.specs.declared.Refusal.{Refusal}
use Rattle.call.specs.declared.Refusal.TheVariants.{WorkSpace, VoiceLength, VoiceRange, LexiconLength}
use Rattle.call.specs.declared.Refusal.TheVariants.{LexiconRange}
use Rattle.call.specs.declared.Refusal.TheVariants.{Orphan, Places, LongWord, WordCount, SameLetters}
use Rattle.call.specs.declared.Refusal.TheVariants.{Frames, Count}
use Rattle.call.specs.declared.Refusal.TheVariants.{NoWord, Packed, Code, Output, WordList, CanonicalImage}
use Rattle.call.specs.declared.Refusal.TheVariants.{Items}

-- the number of the tables of documents 01 and 02
abbrev pub number : Refusal → ℕ
number WorkSpace = 1
number VoiceLength = 2
number VoiceRange = 3
number LexiconLength = 4
number LexiconRange = 5
number Orphan = 6
number Places = 7
number LongWord = 8
number WordCount = 9
number SameLetters = 10
number Frames = 11
number Count = 12
number NoWord = 13
number Packed = 14
number Code = 15
number Output = 16
number WordList = 17
number CanonicalImage = 18
number Items = 19

-- what a call answers: a value, or a refusal
pub data Answer (A : Type 0) : Type 0 where
  value : A → Answer A
  refused : Refusal → Answer A

-- the answer that a call's result is
abbrev pub answer_of : {A : Type 0} → Result A Refusal → Answer A
answer_of (Ok a) = value a
answer_of (Err r) = refused r

-- the refusal of a result, where it has one
abbrev pub refusal_of : {A : Type 0} → Result A Refusal → Option Refusal
refusal_of (Ok a) = none
refusal_of (Err r) = some r

-- what C gets: a refusal is its number made negative
abbrev pub signed_answer : Answer ℕ → ℤ
signed_answer (value n) = pos n
signed_answer (refused r) = neg_ℤ (pos (number r))

-- a row of a call's table: a refusal, and whether its condition applies
pub record Row : Type 0 where
  pub refusal : Refusal
  pub applies : Bool

abbrev pub on : Refusal → Bool → Row
on r b = record { refusal = r; applies = b }

-- the refusal, where there is one, is r
unfoldable pub is_refusal : Refusal → Option Refusal → Bool
is_refusal r none = false
is_refusal r (some s) = eqb (number s) (number r)

-- the row of r, where a verdict gives one refusal at most
abbrev pub row_of : Option Refusal → Refusal → Row
row_of given r = on r (is_refusal r given)

-- the numbers of a table's rows, in its order
unfoldable pub numbers : List Row → List ℕ
numbers rows = map (λ r. number r.refusal) rows

-- no row applies
unfoldable pub none_applies : List Row → Bool
none_applies rows = all (λ r. not r.applies) rows

module _ {A : Type 0} where
  -- the first row that applies decides, in the order in which a call's rows are written; where none does, the answer is
  -- the value
  unfoldable pub unless : List Row → A → Answer A
  unless [] a = value a
  unless (r ∷ rows) a = let rest = unless rows a in cond r.applies (refused r.refusal) rest

-- ---- the same as a sentence; that `unless` answers so is proved in proofs/Table.antt

-- a row of this refusal applies, and none before it does
pub record FirstApplies (rows : List Row) (r : Refusal) : Type 0 where
  pub earlier : List Row
  pub later : List Row
  pub split : rows ≡ earlier ++ on r true ∷ later
  pub none_before : none_applies earlier ≡ true

-- an answer by a table: the value where no row applies, or the first refusal that applies
pub data AnswersBy {A : Type 0} (rows : List Row) (a : A) : Answer A → Type 0 where
  by_value : none_applies rows ≡ true → AnswersBy rows a (value a)
  by-refusal : {r : Refusal} → FirstApplies rows r → AnswersBy rows a (refused r)
