-- The vertices of the canonical graph, as the register has them: the words behind each, and where its arcs lead. No
-- public contract cites them. Assumes nothing.
use Rattle.std.specs.Prelude.{ℕ, zero, suc, ◌+◌, ◌*◌, ◌-◌, ◌≤◌, ◌<◌, ◌≡◌, cond, List, ◌∷◌, map, length, get_or, eqb}
use Rattle.endian.specs.Lists.{from, select}
use Rattle.registering.specs.declared.Row.{Row}
use Rattle.registering.specs.Register.{no_row}
use Rattle.registering.specs.Numbering.{numbers_in, order_in}

-- ---- the row of a vertex

-- the place of a vertex: that of the root is behind those of the nodes
unfoldable pub place_in : List Row → ℕ → ℕ
place_in rows zero = 400
place_in rows (suc k) = get_or (order_in rows) k 0

abbrev pub vertex_in : List Row → ℕ → Row
vertex_in rows u = get_or rows (place_in rows u) no_row

-- the root has all n words behind it and none of their letters before it, and is linked as the first of them is
abbrev pub root_row : ℕ → Row
root_row n = record no_row { many = n }

-- a vertex's first word can be read, and where that leads if it goes on
pub record NodeRow (t : List ℕ) (row : Row) (place : ℕ) : Type 0 where
  pub few : row.first < 2000
  pub there : 33 * row.first < length t
  pub linked : ¬ (get_or t (33 * row.first) 0 ≡ row.depth) → place < 400

-- the place of each vertex is in the register
pub record Places (rows : List Row) (count : ℕ) : Type 0 where
  pub few : count ≤ 400
  pub inside : (u : ℕ) → u ≤ count → place_in rows u ≤ 400

-- ---- its arcs

-- where its first arc leads: to the sink where the first word ends, else along that word to the node at a place
unfoldable pub first_arc : List ℕ → List ℕ → ℕ → Row → ℕ → ℕ
first_arc t numbers count row place =
    cond (eqb (get_or t (33 * row.first) 0) row.depth) (suc count) (get_or numbers place 0)

-- of many words from i on, those that part from the word before them behind e letters
unfoldable pub partings : List ℕ → ℕ → ℕ → ℕ → List ℕ
partings shared e i many = select (λ k. eqb (get_or shared k 0) e) (from i many)

-- the partings of a row's words
abbrev pub partings_of : List ℕ → Row → List ℕ
partings_of shared row = partings shared row.depth (suc row.first) (row.many - 1)

-- the number of the node that such a word leads to
abbrev pub link_number : List ℕ → List ℕ → ℕ → ℕ
link_number links numbers i = get_or numbers (get_or links (400 + i) 0) 0

-- the numbers that the arcs of a row lead to behind the first
abbrev pub later_arcs : List ℕ → List ℕ → List ℕ → Row → List ℕ
later_arcs shared links numbers row = map (link_number links numbers) (partings_of shared row)

-- with the first, which is given
unfoldable pub list_of : List ℕ → List ℕ → List ℕ → Row → ℕ → List ℕ
list_of shared links numbers row first = first ∷ later_arcs shared links numbers row

-- how many they are
unfoldable pub list_length : List ℕ → Row → ℕ
list_length shared row = suc (length (partings_of shared row))

-- the numbers that the arcs of a vertex lead to
abbrev pub vertex_list : List ℕ → List ℕ → List ℕ → List Row → ℕ → ℕ → List ℕ
vertex_list t shared links rows count u =
    list_of shared links (numbers_in rows) (vertex_in rows u)
    (first_arc t (numbers_in rows) count (vertex_in rows u) (get_or links (place_in rows u) 0))

-- its words are in the table
pub record Spanned (shared : List ℕ) (row : Row) : Type 0 where
  pub few : row.first + row.many ≤ 2000
  pub long : row.first + row.many ≤ length shared
  pub some : 1 ≤ row.many
  pub low : row.depth ≤ 32

-- and those that part have links
pub record Readable (shared links : List ℕ) (row : Row) : Type 0 where
  pub spanned : Spanned shared row
  pub linked : (i : ℕ) → row.first < i → i < row.first + row.many → get_or shared i 0 ≡ row.depth
      → get_or links (400 + i) 0 < 400
