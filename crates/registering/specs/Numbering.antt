-- The numbers of registered nodes: the places of the register in the order in which the nodes are numbered. They stand
-- in the register itself, in the fields of chain and mark, which are free once all nodes are registered. No public
-- contract cites them. Assumes nothing.
use Rattle.std.specs.Prelude.{ℕ, suc, ◌+◌, ◌≤◌, ◌<◌, ◌≡◌, length, get_or, take, eqb}
use mathlib.Core.List.{List, [], ◌++◌, map, flat_map}
use Rattle.endian.specs.Lists.{from, select}
use Rattle.canonical.specs.Nodes.{node, down_from, nodes, place_of}
use Rattle.sorting.specs.Slots.{words_from}
use Rattle.registering.specs.declared.Row.{Row}
use Rattle.registering.specs.Register.{node_in}

-- ---- fields of the register's rows

-- the letters of the longest continuation of the node at each place
abbrev pub heights_in : List Row → List ℕ
heights_in rows = map (λ row. row.longest) rows

-- the number of the node at each place
abbrev pub numbers_in : List Row → List ℕ
numbers_in rows = map (λ row. row.chain_or_number) rows

-- the places of the nodes, in the order of their numbers
abbrev pub order_in : List Row → List ℕ
order_in rows = map (λ row. row.mark_or_place) rows

-- a row without its number and place
abbrev pub bare : Row → Row
bare row = record row { chain_or_number = 0; mark_or_place = 0 }

-- only numbers and order were put
pub record SameRows (rows rows' : List Row) : Type 0 where
  pub kept : map bare rows' ≡ map bare rows

-- ---- places, as the heights order them

-- of many places from r on, those whose nodes have a longest continuation of h letters
unfoldable pub places_of : List ℕ → ℕ → ℕ → ℕ → List ℕ
places_of heights h r many = select (λ p. eqb (get_or heights p 0) h) (from r many)

-- of count places, those whose nodes have a longest continuation of less than h letters, longest first
unfoldable pub places_below : List ℕ → ℕ → ℕ → List ℕ
places_below heights count h = flat_map (λ k. places_of heights k 0 count) (down_from h)

-- no continuation has as many letters as top
abbrev pub Low : List ℕ → ℕ → ℕ → Type 0
Low heights count top = (r : ℕ) → r < count → get_or heights r 0 < top

-- count rows of words that have at most 32 letters
pub record Rows (rows : List Row) (count : ℕ) : Type 0 where
  pub few : count ≤ 400
  pub long : length rows ≡ 401
  pub low : Low (heights_in rows) count 33

-- k places of count are put in order, each with its number, and those in the list are left
pub record Placed (heights : List ℕ) (count : ℕ) (left order numbers : List ℕ) (k : ℕ) : Type 0 where
  pub top : ℕ
  pub low : Low heights count top
  pub places : take k order ++ left ≡ places_below heights count top
  pub size : k + length left ≡ length (places_below heights count top)
  pub back : (j : ℕ) → j < k → get_or numbers (get_or order j 0) 0 ≡ suc j
  pub order_long : length order ≡ 401
  pub numbers_long : length numbers ≡ 401

-- the same in rows that were made from others
pub record PlacedIn (rows rows' : List Row) (count : ℕ) (left : List ℕ) (k : ℕ) : Type 0 where
  pub same : SameRows rows rows'
  pub placed : Placed (heights_in rows) count left (order_in rows') (numbers_in rows') k

-- ---- numbers, as the nodes of the words have them

-- the row of nodes has count, each place has its node's number, and each number its place
pub record Numbered (t : List ℕ) (n : ℕ) (rows : List Row) (order numbers : List ℕ) (count : ℕ) : Type 0 where
  pub many : length (nodes (words_from t 0 n)) ≡ count
  pub inside : (k : ℕ) → k < count → get_or order k 0 < count
  pub node : (k : ℕ) → k < count
      → node_in t rows (get_or order k 0) ≡ get_or (nodes (words_from t 0 n)) k (node 0 [])
  pub number : (r : ℕ) → r < count → get_or numbers r 0 ≡ suc (place_of (node_in t rows r) (nodes (words_from t 0 n)))
