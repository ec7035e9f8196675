-- What holds on the way through the prefixes of the words: the nodes that are registered so far, and the links between
-- them. No public contract cites it. Assumes nothing.
use Rattle.std.specs.Prelude.{ℕ, ◌+◌, ◌*◌, ◌≤◌, ◌<◌, ◌≡◌, not, List, [], ◌++◌, map, length, get_or, take}
use Rattle.endian.specs.Lists.{select}
use Rattle.canonical.specs.Dictionary.{prefixes_of}
use Rattle.canonical.specs.Nodes.{Node, distinct, node_of}
use Rattle.canonical.specs.Groups.{begins, fresh_from}
use Rattle.sorting.specs.Slots.{word_at, words_from}
use Rattle.registering.specs.declared.Row.{Row}
use Rattle.registering.specs.Register.{previous, no_row, registered, Register, Chained}
use Rattle.registering.specs.Register.{Linked}

-- ---- nodes

-- the nodes of the prefixes of the first k words
unfoldable pub fresh_all : List ℕ → ℕ → ℕ → List Node
fresh_all t n k = map (node_of (words_from t 0 n)) (fresh_from [] (words_from t 0 k))

-- the nodes of the first d prefixes of the word in slot i that the word before it does not begin with
unfoldable pub fresh_to : List ℕ → ℕ → ℕ → ℕ → List Node
fresh_to t n i d =
    map (node_of (words_from t 0 n)) (select (λ p. not (begins p (previous t i))) (take d (prefixes_of (word_at t i))))

-- ---- links

-- the links as far as the words before slot i go, but for the one at place gap
pub record LinksTo (t : List ℕ) (n : ℕ) (shared : List ℕ) (rows : List Row) (links : List ℕ) (count i gap : ℕ)
    : Type 0 where
  pub long : length links ≡ 2400
  pub down : (r : ℕ) → r < count → ¬ (r ≡ gap)
      → (get_or rows r no_row).depth < get_or t (33 * (get_or rows r no_row).first) 0
      → Linked t n rows count (get_or links r 0) (get_or rows r no_row).first ((get_or rows r no_row).depth + 1)
  pub across : (j r : ℕ) → j < i → r < count → (get_or rows r no_row).first < j
      → j < (get_or rows r no_row).first + (get_or rows r no_row).many
      → get_or shared j 0 ≡ (get_or rows r no_row).depth
      → Linked t n rows count (get_or links (400 + j) 0) j (get_or shared j 0 + 1)
  pub root : (j : ℕ) → j < i → get_or shared j 0 ≡ 0 → Linked t n rows count (get_or links (400 + j) 0) j 1

-- The link that the next node found is put into, d letters into the word in slot i: the word's own, before its first
-- new prefix; then that of the node registered last, and the word's own is filled.
pub data Gap (t : List ℕ) (n : ℕ) (shared : List ℕ) (rows : List Row) (links : List ℕ) (count i d : ℕ)
    : ℕ → Type 0 where
  ahead : d ≡ get_or shared i 0 → Gap t n shared rows links count i d (400 + i)
  within : {r : ℕ} → r < count → (get_or rows r no_row).first ≡ i → (get_or rows r no_row).depth ≡ d
      → get_or shared i 0 < d
      → Linked t n rows count (get_or links (400 + i) 0) i (get_or shared i 0 + 1)
      → Gap t n shared rows links count i d r

-- ---- the walk

-- the nodes of the words before slot i are registered and linked
pub record Walked (t : List ℕ) (n : ℕ) (shared : List ℕ) (rows : List Row) (chains links : List ℕ) (count i : ℕ)
    : Type 0 where
  pub register : Register t n rows count
  pub chained : Chained t rows chains count
  pub nodes : registered t rows 0 count ≡ distinct (fresh_all t n i)
  pub before : (r : ℕ) → r < count → (get_or rows r no_row).first < i
  pub linked : LinksTo t n shared rows links count i (400 + i)

-- those of the words before slot i, and of the first d prefixes of the word in it
pub record Walking (t : List ℕ) (n : ℕ) (shared : List ℕ) (rows : List Row) (chains links : List ℕ)
    (count i d link : ℕ) : Type 0 where
  pub register : Register t n rows count
  pub chained : Chained t rows chains count
  pub nodes : registered t rows 0 count ≡ distinct (fresh_all t n i ++ fresh_to t n i d)
  pub before : (r : ℕ) → r < count → (get_or rows r no_row).first ≤ i
  pub own : (r : ℕ) → r < count → (get_or rows r no_row).first ≡ i → (get_or rows r no_row).depth ≤ d
  pub linked : LinksTo t n shared rows links count i link
  pub gap : Gap t n shared rows links count i d link

-- the walk goes on from slot i to slot next with count nodes
pub record Passed (t : List ℕ) (n : ℕ) (shared : List ℕ) (rows : List Row) (chains links : List ℕ)
    (i count next : ℕ) : Type 0 where
  pub more : i < next
  pub inside : next ≤ n
  pub walked : Walked t n shared rows chains links count next
