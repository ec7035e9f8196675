-- The canonical image, as the tables make it. No public contract cites it. Assumes nothing.
use Rattle.std.specs.Prelude.{ℕ, suc, ◌+◌, ◌*◌, ◌≤◌, ◌<◌, ◌≡◌, length, get_or, take, drop}
use mathlib.Core.List.{List, ◌++◌, map, flat_map}
use Rattle.endian.specs.Lists.{from, sum}
use Rattle.endian.specs.Bytes.{u16_bytes}
use Rattle.voice.specs.Fields.{well_formed}
use Rattle.voice.specs.Voice.{letter_count, voice_verdict}
use Rattle.image.specs.Image.{list_bytes}
use Rattle.registering.specs.declared.Row.{Row}
use Rattle.registering.specs.Register.{Shared, Built}
use Rattle.registering.specs.Building.{Buildable}
use Rattle.registering.specs.Arcs.{place_in, vertex_in, partings_of, later_arcs, vertex_list, list_length}
use Rattle.registering.specs.Arcs.{NodeRow, Places, Spanned, Readable}

-- ---- bytes in the output

-- bytes stand from an offset of the output on, up to the end
pub record Put (bytes : List ℕ) (at : ℕ) (out out' : List ℕ) (end : ℕ) : Type 0 where
  pub ends : end ≡ at + length bytes
  pub before : take end out' ≡ take at out ++ bytes
  pub after : drop end out' ≡ drop end out

-- so many numbers that the arcs of a row lead to behind the first
pub record ArcsPut (shared links numbers : List ℕ) (row : Row) (at : ℕ) (out out' : List ℕ) (arcs : ℕ) : Type 0 where
  pub count : arcs ≡ length (partings_of shared row)
  pub put : Put (flat_map u16_bytes (later_arcs shared links numbers row)) at out out' (at + 2 * arcs)

-- ---- the image

-- the letter of a vertex, which is the last before the words behind it
abbrev pub letter_in : List ℕ → Row → ℕ
letter_in t row = get_or t (33 * row.first + row.depth) 0

-- of the nodes from vertex u on
unfoldable pub letters_from : List ℕ → List Row → ℕ → ℕ → List ℕ
letters_from t rows u many = map (λ k. letter_in t (vertex_in rows k)) (from u many)

-- the bytes of the lists of the vertices from u on
unfoldable pub lists_from : List ℕ → List ℕ → List ℕ → List Row → ℕ → ℕ → ℕ → List ℕ
lists_from t shared links rows count u many =
    flat_map (λ k. list_bytes (vertex_list t shared links rows count k)) (from u many)

-- how many these are
unfoldable pub lists_length : List ℕ → List Row → ℕ → ℕ → ℕ
lists_length shared rows u many = sum (map (λ k. 2 + 2 * list_length shared (vertex_in rows k)) (from u many))

-- the image of the root and count nodes
unfoldable pub table_image : List ℕ → List ℕ → List ℕ → List Row → ℕ → List ℕ
table_image t shared links rows count =
    u16_bytes count
    ++ letters_from t rows 1 count
    ++ lists_from t shared links rows count 0 (suc count)
    ++ u16_bytes 0

-- ---- what is read for it

-- the letter of a vertex is there
pub record LetterRow (t : List ℕ) (row : Row) : Type 0 where
  pub first : row.first < 2000
  pub low : row.depth ≤ 32
  pub there : 33 * row.first + row.depth < length t

-- those of all nodes
pub record Lettered (t : List ℕ) (rows : List Row) (count : ℕ) : Type 0 where
  pub places : Places rows count
  pub row : (k : ℕ) → k < count → LetterRow t (vertex_in rows (k + 1))

-- the words of all vertices
pub record Measured (shared : List ℕ) (rows : List Row) (count : ℕ) : Type 0 where
  pub places : Places rows count
  pub row : (u : ℕ) → u ≤ count → Spanned shared (vertex_in rows u)

-- and their links
pub record Listed (t shared links : List ℕ) (rows : List Row) (count : ℕ) : Type 0 where
  pub places : Places rows count
  pub row : (u : ℕ) → u ≤ count → Readable shared links (vertex_in rows u)
  pub first : (u : ℕ) → u ≤ count → NodeRow t (vertex_in rows u) (get_or links (place_in rows u) 0)

-- the letters of all nodes are in a voice model
pub record Voiced (v t : List ℕ) (rows : List Row) (count : ℕ) : Type 0 where
  pub voice : voice_verdict v ≡ well_formed
  pub known : (k : ℕ) → k < count → letter_in t (vertex_in rows (k + 1)) < letter_count v

-- ---- the call

-- words in the letters of a voice model, and their nodes
pub record Drawn (v t : List ℕ) (n : ℕ) (shared : List ℕ) (rows : List Row) (links : List ℕ) (count : ℕ)
    : Type 0 where
  pub buildable : Buildable v t n
  pub some : 1 ≤ n
  pub alike : Shared t n shared
  pub built : Built t n shared rows links count
