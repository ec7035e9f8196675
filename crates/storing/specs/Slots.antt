-- Tokens in bytes, as numbers: what slots hold, and what is done to the list of a place's n tokens. What they mean as
-- candidates is said in Held.antt. No public contract cites these. Assumes nothing.
use Rattle.std.specs.Prelude.{ℕ, zero, suc, ◌+◌, ◌-◌, ◌*◌, ◌^◌, ◌<◌, ◌≤◌, ◌≡◌, ◌⊎◌, cond, ◌||◌, ltb, eqb, length, take}
use mathlib.Core.List.{List, [], ◌∷◌, Memᴰ}
use Rattle.endian.specs.Bytes.{u32}
use Rattle.decoder.specs.Token.{code_part, same_code}

-- ---- bytes

-- the token in slot k: bytes 8k to 8k + 7; missing bytes read as 0
unfoldable pub token_at : List ℕ → ℕ → ℕ
token_at b k = u32 b (8 * k) + 4294967296 * u32 b (8 * k + 4)

-- the n tokens from slot k on
unfoldable pub slots : ℕ → ℕ → List ℕ → List ℕ
slots zero k b = []
slots (suc n) k b = token_at b k ∷ slots n (k + 1) b

-- b' has the token in slot k, and is as b in every other
pub record SlotPut (b : List ℕ) (k token : ℕ) (b' : List ℕ) : Type 0 where
  pub here : token_at b' k ≡ token
  pub others : (j : ℕ) → ¬ (j ≡ k) → token_at b' j ≡ token_at b j
  pub long : length b' ≡ length b

-- b' holds these in the n slots from k on, and is as b in every other
pub record Changed (k n : ℕ) (l b b' : List ℕ) : Type 0 where
  pub inside : slots n k b' ≡ l
  pub outside : (j : ℕ) → (j < k) ⊎ (k + n ≤ j) → token_at b' j ≡ token_at b j

-- ---- a candidate

-- where x enters: before the first token that it outranks, unless one of its code stands before it; else past the end
unfoldable pub position : ℕ → List ℕ → ℕ
position x [] = 0
position x (y ∷ l) = cond (ltb y x) 0 (cond (same_code y x) (length (y ∷ l)) (suc (position x l)))

-- x in front and the others down by one, up to one of code part c or to no token; the last one goes
unfoldable pub push : ℕ → ℕ → List ℕ → List ℕ
push x c [] = []
push x c (y ∷ l) = x ∷ cond (eqb y 0 || eqb (code_part y) c) l (push y c l)

-- x pushed in before the first token that it outranks, unless one of its code stands before it
unfoldable pub enter : ℕ → List ℕ → List ℕ
enter x [] = []
enter x (y ∷ l) = cond (ltb y x) (push x (code_part x) (y ∷ l)) (cond (same_code y x) (y ∷ l) (y ∷ enter x l))

-- ---- tokens that move: `up` is added and `down` taken

-- the tokens of the first list, moved, are candidates for the second, one after another up to no token
unfoldable pub offered : ℕ → ℕ → List ℕ → List ℕ → List ℕ
offered up down [] l = l
offered up down (y ∷ from) l = cond (eqb y 0) l (offered up down from (enter (y + up - down) l))

-- the tokens up to no token, moved
unfoldable pub shifted : ℕ → ℕ → List ℕ → List ℕ
shifted up down [] = []
shifted up down (y ∷ l) = cond (eqb y 0) (y ∷ l) ((y + up - down) ∷ shifted up down l)

-- ---- what calls ask

-- a place of 1 to 8 slots, from slot k on
pub record PlaceRoom (n k : ℕ) (b : List ℕ) : Type 0 where
  pub one : 0 < n
  pub few : n ≤ 8
  pub room : 8 * k + 8 * n ≤ length b

-- the move keeps a number within 64 bits
pub record MoveFits (up down y : ℕ) : Type 0 where
  pub fits : y + up < 2 ^ 64
  pub covers : down ≤ y + up

abbrev pub Movable : ℕ → ℕ → List ℕ → Type 0
Movable up down l = (y : ℕ) → Memᴰ y l → ¬ (y ≡ 0) → MoveFits up down y

-- no token outranks one before it
pub data Falling : List ℕ → Type 0 where
  none : Falling []
  next : {x : ℕ} {l : List ℕ} → ((y : ℕ) → Memᴰ y l → y ≤ x) → Falling l → Falling (x ∷ l)

-- both places are in the order of rank: that of the tokens offered, and that from slot k on
pub record Offer (n k up down : ℕ) (from b : List ℕ) : Type 0 where
  pub room : PlaceRoom n k b
  pub long : n ≤ length from
  pub fits : Movable up down (take n from)
  pub source : Falling (take n from)
  pub target : Falling (slots n k b)
