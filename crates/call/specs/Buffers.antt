-- What a call leaves in the buffers that it is lent (document 01, under the refusal table). The work space is the
-- call's scratch memory.
-- Assumes nothing.
use Rattle.std.specs.Prelude.{ℕ, ◌≤◌, ◌<◌, ◌≡◌, ◌⊎◌, Bool, cond, ◌||◌, List, [], ◌∷◌, ◌++◌, length, drop, replicate, ltb}
use Rattle.call.specs.declared.Refusal.{Refusal}
use Rattle.call.specs.declared.Refusal.TheVariants.{WorkSpace}
use Rattle.call.specs.Limits.{work_space, further_space}
use Rattle.call.specs.Table.{Answer, value, refused, Row, on}

-- 1: work space under 64,000 bytes, in any call with a lexicon
unfoldable pub space_rows : List ℕ → List Row
space_rows work = on WorkSpace (ltb (length work) work_space) ∷ []

-- the first n bytes are zero and later ones unchanged
unfoldable pub zeroed : ℕ → List ℕ → List ℕ
zeroed n b = replicate n 0 ++ drop n b

-- After a call that refusal 1 does not end, the first 64,000 work bytes are zero and later ones unchanged; refusal 1
-- leaves all as it was.
unfoldable pub cleared : List ℕ → List ℕ
cleared work = cond (ltb (length work) work_space) work (zeroed work_space work)

-- ---- a call that is lent a further work space (document 02, 3/13)

-- 1: the work space or the further one is too short
unfoldable pub short_spaces : List ℕ → List ℕ → Bool
short_spaces work further = ltb (length work) work_space || ltb (length further) further_space

unfoldable pub spaces_rows : List ℕ → List ℕ → List Row
spaces_rows work further = on WorkSpace (short_spaces work further) ∷ []

-- after a call that refusal 1 does not end, both are zeroed; refusal 1 leaves both as they were
unfoldable pub work_cleared : List ℕ → List ℕ → List ℕ
work_cleared work further = cond (short_spaces work further) work (zeroed work_space work)

unfoldable pub further_cleared : List ℕ → List ℕ → List ℕ
further_cleared work further = cond (short_spaces work further) further (zeroed further_space further)

-- ---- the output

module _ {A : Type 0} where
  -- a value comes with its bytes at the output's start, and the bytes after them keep their values; a refusal leaves
  -- the output unchanged
  unfoldable pub written : Answer A → List ℕ → List ℕ → List ℕ
  written (value a) bytes out = bytes ++ drop (length bytes) out
  written (refused r) bytes out = out

-- ---- the same as sentences; that `cleared` and `written` leave so is proved in proofs/Buffers.antt

-- refusal 1 leaves all as it was; after every other call the first 64,000 work bytes are zero and later ones unchanged
pub record Clears (work left : List ℕ) : Type 0 where
  pub short : length work < work_space → left ≡ work
  pub long : work_space ≤ length work → left ≡ replicate work_space 0 ++ drop work_space work

-- the same of two spaces: both are long enough, or one is too short
pub record ClearsBoth (work further left left' : List ℕ) : Type 0 where
  pub short : (length work < work_space) ⊎ (length further < further_space) → (left ≡ work) × (left' ≡ further)
  pub long : work_space ≤ length work → further_space ≤ length further
      → (left ≡ replicate work_space 0 ++ drop work_space work)
      × (left' ≡ replicate further_space 0 ++ drop further_space further)

-- a value comes with its bytes at the output's start and later ones unchanged; a refusal leaves the output unchanged
pub record Writes {A : Type 0} (answer : Answer A) (bytes out left : List ℕ) : Type 0 where
  pub on_value : (a : A) → answer ≡ value a → left ≡ bytes ++ drop (length bytes) out
  pub on_refusal : (r : Refusal) → answer ≡ refused r → left ≡ out
