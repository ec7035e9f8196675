-- The register of nodes over a table of words in dictionary order: marks of words, rows of numbers, chains of nodes
-- with one letter, and links from a node to those that follow it. No public contract cites them. Assumes nothing.
use Rattle.std.specs.Prelude.{ℕ, zero, suc, ◌+◌, ◌*◌, ◌%◌, ◌≤◌, ◌<◌, ◌≡◌, true, false, cond, List, [], ◌∷◌, length}
use Rattle.std.specs.Prelude.{get_or, take, drop, set, eqb, Option, Some, None}
use Rattle.canonical.specs.Dictionary.{words_in_order, longest}
use Rattle.canonical.specs.Nodes.{Node, node, same_node, node_of, reached}
use Rattle.canonical.specs.Groups.{begins, common}
use Rattle.sorting.specs.Slots.{word_at, Holds, words_from}
use Rattle.registering.specs.declared.Row.{Row}

-- ---- the words

-- n words, each of at least one letter, stand in the table in dictionary order
pub record Listed (t : List ℕ) (n : ℕ) : Type 0 where
  pub few : n ≤ 2000
  pub holds : Holds t n
  pub some : (i : ℕ) → i < n → 1 ≤ get_or t (33 * i) 0
  pub order : words_in_order (words_from t 0 n) ≡ words_from t 0 n

-- a byte that tells most words apart
unfoldable pub rest_mark : List ℕ → ℕ
rest_mark [] = 1
rest_mark (a ∷ r) = (37 * rest_mark r + a) % 256

-- a number that tells most lists of words apart, m being that of the words before them
unfoldable pub marks_of : ℕ → List (List ℕ) → ℕ
marks_of m [] = m
marks_of m (r ∷ rs) = marks_of ((91 * m + rest_mark r) % 65536) rs

-- words as they are listed, and behind their slots, in a slot for each, the marks of what follows its first letters
pub record Words (t : List ℕ) (n : ℕ) : Type 0 where
  pub few : n ≤ 2000
  pub holds : Holds t n
  pub some : (i : ℕ) → i < n → 1 ≤ get_or t (33 * i) 0
  pub order : words_in_order (words_from t 0 n) ≡ words_from t 0 n
  pub long : 132033 ≤ length t
  pub marks : (i d : ℕ) → i < n → d ≤ get_or t (33 * i) 0
      → get_or t (33 * (2001 + i) + d) 0 ≡ rest_mark (drop d (word_at t i))

-- the word before the one in slot i
unfoldable pub previous : List ℕ → ℕ → List ℕ
previous t zero = []
previous t (suc k) = word_at t k

-- how many letters each word begins with like the word before it
pub record Shared (t : List ℕ) (n : ℕ) (shared : List ℕ) : Type 0 where
  pub long : n ≤ length shared
  pub letters : (i : ℕ) → i < n → get_or shared i 0 ≡ common (previous t i) (word_at t i)

-- n of N words, from i on, are those from there that begin with the first d letters of the word in slot i
pub record Reach (t : List ℕ) (N i d n : ℕ) : Type 0 where
  pub inside : i + n ≤ N
  pub one : 1 ≤ n
  pub have : (k : ℕ) → i ≤ k → k < i + n → begins (take d (word_at t i)) (word_at t k) ≡ true
  pub behind : i + n < N → begins (take d (word_at t i)) (word_at t (i + n)) ≡ false

-- ---- nodes

-- what follows the first d letters of n words from i on
unfoldable pub rests_from : List ℕ → ℕ → ℕ → ℕ → List (List ℕ)
rests_from t d i zero = []
rests_from t d i (suc n) = drop d (word_at t i) ∷ rests_from t d (suc i) n

-- the node of the prefix of d letters that n words have, the first of them in slot i
unfoldable pub node_at : List ℕ → ℕ → ℕ → ℕ → Node
node_at t i n d = node (get_or t (33 * i + d) 0) (rests_from t d i n)

-- A node's row: the first word that has its prefix, how many have it, its letters, and the letters of its longest
-- continuation. While nodes are registered, two fields more are its chain and the mark of its continuations. The chain
-- is the place, from 1, of the node of the same letter that was registered last before it, or 0.
abbrev pub chain_of : Row → ℕ
chain_of row = row.chain_or_number

abbrev pub mark_of : Row → ℕ
mark_of row = row.mark_or_place

-- the row of no node
abbrev pub no_row : Row
no_row = record { first = 0; many = 0; depth = 0; longest = 0; chain_or_number = 0; mark_or_place = 0 }

unfoldable pub row_node : List ℕ → Row → Node
row_node t row = node_at t row.first row.many row.depth

-- the node at place r
abbrev pub node_in : List ℕ → List Row → ℕ → Node
node_in t rows r = row_node t (get_or rows r no_row)

-- count nodes from place r on
unfoldable pub registered : List ℕ → List Row → ℕ → ℕ → List Node
registered t rows r zero = []
registered t rows r (suc count) = node_in t rows r ∷ registered t rows (suc r) count

-- The group of words with the first d letters of the word in slot i, of which it is the first: n of N words, the
-- longest of what follows these letters, and the mark of what follows them.
pub record Group (t : List ℕ) (N i n d most mark : ℕ) : Type 0 where
  pub reach : Reach t N i d n
  pub letters : d ≤ get_or t (33 * i) 0
  pub some : 1 ≤ d
  pub new : begins (take d (word_at t i)) (previous t i) ≡ false
  pub high : most ≡ longest (rests_from t d i n)
  pub marked : mark ≡ marks_of 0 (rests_from t d i n)

-- a row is that of a group
abbrev pub GroupRow : List ℕ → ℕ → Row → Type 0
GroupRow t n row = Group t n row.first row.many row.depth row.longest (mark_of row)

-- count rows are filled; behind the 400 rows of nodes there is one for the root
pub record Register (t : List ℕ) (n : ℕ) (rows : List Row) (count : ℕ) : Type 0 where
  pub few : count ≤ 400
  pub long : length rows ≡ 401
  pub groups : (r : ℕ) → r < count → GroupRow t n (get_or rows r no_row)

-- ---- chains

-- the place, from 1, of the last node with letter a among the first count, or 0
unfoldable pub last_alike : List ℕ → List Row → ℕ → ℕ → ℕ
last_alike t rows a zero = 0
last_alike t rows a (suc r) =
    let earlier = last_alike t rows a r in
    cond (eqb a (node_in t rows r).letter) (suc r) earlier

pub record Chained (t : List ℕ) (rows : List Row) (table : List ℕ) (count : ℕ) : Type 0 where
  pub long : length table ≡ 256
  pub heads : (a : ℕ) → a < 256 → get_or table a 0 ≡ last_alike t rows a count
  pub chains : (r : ℕ) → r < count → chain_of (get_or rows r no_row) ≡ last_alike t rows (node_in t rows r).letter r

-- ---- links

-- the node at a place is that of the first d letters of the word in slot i
pub record Linked (t : List ℕ) (n : ℕ) (rows : List Row) (count place i d : ℕ) : Type 0 where
  pub inside : place < count
  pub node : node_in t rows place ≡ node_of (words_from t 0 n) (take d (word_at t i))

-- Links 0 to 399 lead from the node at that place, where its first word goes on, to the node of a letter more; links
-- from 400 on lead to the node of one letter more than the word in that slot shares with the word before it.
pub record Links (t : List ℕ) (n : ℕ) (shared : List ℕ) (rows : List Row) (links : List ℕ) (count : ℕ)
    : Type 0 where
  pub long : length links ≡ 2400
  pub down : (r : ℕ) → r < count → (get_or rows r no_row).depth < get_or t (33 * (get_or rows r no_row).first) 0
      → Linked t n rows count (get_or links r 0) (get_or rows r no_row).first ((get_or rows r no_row).depth + 1)
  pub across : (i r : ℕ) → r < count → (get_or rows r no_row).first < i
      → i < (get_or rows r no_row).first + (get_or rows r no_row).many
      → get_or shared i 0 ≡ (get_or rows r no_row).depth
      → Linked t n rows count (get_or links (400 + i) 0) i (get_or shared i 0 + 1)
  pub root : (i : ℕ) → i < n → get_or shared i 0 ≡ 0 → Linked t n rows count (get_or links (400 + i) 0) i 1

-- ---- what the walk through all prefixes leaves

-- the words' prefixes reach more nodes than there is room for
abbrev pub Full : List ℕ → ℕ → Type 0
Full t n = 400 < length (reached (words_from t 0 n))

-- the nodes that the words' prefixes reach are registered, in the order of their first prefixes, and linked
pub record Built (t : List ℕ) (n : ℕ) (shared : List ℕ) (rows : List Row) (table : List ℕ) (count : ℕ)
    : Type 0 where
  pub register : Register t n rows count
  pub nodes : registered t rows 0 count ≡ reached (words_from t 0 n)
  pub links : Links t n shared rows table count

-- ---- a node more

-- no node among the first count is this one
abbrev pub Unknown : List ℕ → List Row → ℕ → Node → Type 0
Unknown t rows count a = (r : ℕ) → r < count → same_node (node_in t rows r) a ≡ false

-- the row of a group of words was put behind count rows
pub record Added (t : List ℕ) (n : ℕ) (rows : List Row) (count i m d : ℕ) (rows' : List Row) : Type 0 where
  pub row : Row
  pub put : rows' ≡ set rows count row
  pub first : row.first ≡ i
  pub many : row.many ≡ m
  pub depth : row.depth ≡ d
  pub register : Register t n rows' (count + 1)

-- The node of m words with d letters, the first in slot i, was looked for among count nodes: it stands at the place
-- answered, and it was there already, or it was put there; or there is no room for it.
pub data Entered (t : List ℕ) (n : ℕ) (rows : List Row) (count i m d : ℕ) (rows' : List Row)
    (chains' : List ℕ) : Option ℕ → Type 0 where
  known : {r : ℕ} → r < count → rows' ≡ rows → node_in t rows r ≡ node_at t i m d → Chained t rows' chains' count
      → Entered t n rows count i m d rows' chains' (Some r)
  added : count < 400 → Unknown t rows count (node_at t i m d) → Added t n rows count i m d rows'
      → Chained t rows' chains' (count + 1)
      → Entered t n rows count i m d rows' chains' (Some count)
  full : count ≡ 400 → Unknown t rows count (node_at t i m d) → rows' ≡ rows
      → Entered t n rows count i m d rows' chains' None
