-- The parts of the image, vertex by vertex: a vertex more adds its letter, its states, its list and the bytes of that.
-- Assumes nothing.
use Prim.Native.Nat.{ℕ, zero, suc, ◌+◌, ◌*◌, ◌-◌, ◌≤◌, ◌<◌}
use mathlib.Core.Path.{◌≡◌, refl, ap, ◌∙◌}
use mathlib.Core.Bool.{Bool}
use mathlib.Core.List.{List, [], ◌∷◌, ◌++◌, map, flat_map, append-nil, map-append}
use native.Mathlib.Nat.{zero-add, add_comm, add-zero}
use native.Mathlib.Numerals.{add-one}
use native.Mathlib.Omega.{arith}
use lib.ListN.{length, get_or, length-append, length-map}
use lib.Dec.{eqb}
use Rattle.endian.specs.Lists.{from, sum, select}
use Rattle.endian.specs.Bytes.{u16_bytes}
use Rattle.endian.proofs.Booleans.{cond_cases}
use Rattle.endian.proofs.Lists.{flat_map_append, from-add, sum-append, map_cong, length_flat_map}
use Rattle.voice.specs.Voice.{states}
use Rattle.image.specs.Image.{list_bytes}
use Rattle.image.proofs.Reading.{length_from, length-u16}
use Rattle.registering.specs.declared.Row.{Row}
use Rattle.registering.specs.Numbering.{numbers_in}
use Rattle.registering.specs.Arcs.{place_in, vertex_in, first_arc, vertex_list, partings, partings_of, list_of}
use Rattle.registering.specs.Arcs.{list_length, Spanned}
use Rattle.registering.specs.Image.{Put, letter_in, letters_from, lists_from, lists_length, table_image}
use Rattle.registering.specs.Image.{LetterRow, Lettered, Measured}
use Rattle.registering.proofs.Putting.{put_both}
use Rattle.registering.proofs.Partings.{list-long}

-- ---- letters, and their states

-- what is asked for reading a node's letter
pub node-read : {t : List ℕ} {rows : List Row} {count k : ℕ} → Lettered t rows count → k < count
    → ((k + 1 ≤ 400) × (place_in rows (k + 1) ≤ 400)) × LetterRow t (vertex_in rows (k + 1))
node-read {k = k} l h = ((omega (arith, l.places.few), l.places.inside (k + 1) (omega arith)), l.row k h)

module _ (t : List ℕ) (rows : List Row) where
  pub letters-none : letters_from t rows 1 0 ≡ []
  unfolding letters_from from
  letters-none = refl

  pub letters-more : (node : ℕ)
      → letters_from t rows 1 (node + 1)
      ≡ letters_from t rows 1 node ++ letter_in t (vertex_in rows (node + 1)) ∷ []
  unfolding letters_from from
  letters-more node =
      let f : ℕ → ℕ = λ k. letter_in t (vertex_in rows k) in
      ap (map f) (from-add 1 node 1)
      ∙ map-append f (from 1 node) (from (1 + node) 1)
      ∙ ap (λ k. map f (from 1 node) ++ f k ∷ []) (add_comm 1 node)

  pub letters-length : (count : ℕ) → length (letters_from t rows 1 count) ≡ count
  unfolding letters_from
  letters-length count = length-map (from 1 count) (λ k. letter_in t (vertex_in rows k)) ∙ length_from 1 count

  pub states-none : (v : List ℕ) → sum (map (states v) (letters_from t rows 1 0)) ≡ 0
  unfolding letters_from from sum
  states-none v = refl

  pub states-more : (v : List ℕ) (node : ℕ)
      → sum (map (states v) (letters_from t rows 1 (node + 1)))
      ≡ sum (map (states v) (letters_from t rows 1 node)) + states v (letter_in t (vertex_in rows (node + 1)))
  unfolding sum
  states-more v node =
      let l = letters_from t rows 1 node in
      let a = letter_in t (vertex_in rows (node + 1)) in
      ap (λ m. sum (map (states v) m)) (letters-more node)
      ∙ ap sum (map-append (states v) l (a ∷ []))
      ∙ sum-append (map (states v) l) (states v a ∷ [])
      ∙ omega arith

-- ---- lists

select-few : {A : Type 0} (p : A → Bool) (l : List A) → length (select p l) ≤ length l
unfolding select
select-few p [] = omega arith
select-few p (a ∷ l) =
    let ih = select-few p l in
    cond_cases (λ m. length m ≤ suc (length l)) (p a) (a ∷ select p l) (select p l)
    (λ e. omega arith) (λ e. omega arith)

pub parts-few : {shared : List ℕ} {row : Row} → Spanned shared row → length (partings_of shared row) < 2000
unfolding partings
parts-few {shared} {row} s =
    omega (
      arith,
      select-few (λ k. eqb (get_or shared k 0) row.depth) (from (suc row.first) (row.many - 1)),
      length_from (suc row.first) (row.many - 1),
      s.few,
      s.some,
    )

pub list-few : {shared : List ℕ} {row : Row} → Spanned shared row → list_length shared row ≤ 2000
unfolding list_length
list-few s = parts-few s

list-bytes : (shared links numbers : List ℕ) (row : Row) (first : ℕ)
    → length (list_bytes (list_of shared links numbers row first)) ≡ 2 + 2 * list_length shared row
unfolding list_length
list-bytes shared links numbers row first = omega (arith, list-long shared links numbers row first)

module _ (t shared links : List ℕ) (rows : List Row) (count : ℕ) where
  abbrev own : ℕ → List ℕ
  own k = list_bytes (vertex_list t shared links rows count k)

  -- of many vertices from u on
  abbrev listed : ℕ → ℕ → List ℕ
  listed u many = lists_from t shared links rows count u many

  pub lists-none : lists_from t shared links rows count 0 0 ≡ []
  unfolding lists_from from flat_map
  lists-none = refl

  lists_both : (m n : ℕ) → listed 0 (m + n) ≡ listed 0 m ++ listed m n
  unfolding lists_from
  lists_both m n =
      ap (flat_map own) (from-add 0 m n)
      ∙ flat_map_append own (from 0 m) (from (0 + m) n)
      ∙ ap (λ k. flat_map own (from 0 m) ++ flat_map own (from k n)) (zero-add m)

  pub lists-more : (u : ℕ) → listed 0 (u + 1) ≡ listed 0 u ++ own u
  unfolding lists_from from flat_map
  lists-more u = lists_both u 1 ∙ ap (λ l. flat_map own (from 0 u) ++ l) (append-nil (own u))

  -- the next list is one of them
  pub lists-room : (u : ℕ) → u ≤ count → length (listed 0 u) + length (own u) ≤ length (listed 0 (suc count))
  lists-room u h =
      let e : u + 1 + (count - u) ≡ suc count = omega arith in
      omega (
        arith,
        ap (λ n. length (listed 0 n)) e,
        ap length (lists_both (u + 1) (count - u)),
        length-append (listed 0 (u + 1)) (listed (u + 1) (count - u)),
        ap length (lists-more u),
        length-append (listed 0 u) (own u),
      )

  pub lists_length_lem : (u n : ℕ) → length (listed u n) ≡ lists_length shared rows u n
  unfolding lists_from lists_length
  lists_length_lem u n =
      length_flat_map own (from u n)
      ∙ ap sum (map_cong (λ k. length (own k)) (λ k. 2 + 2 * list_length shared (vertex_in rows k)) (from u n)
      (λ k m. list-bytes shared links (numbers_in rows) (vertex_in rows k)
      (first_arc t (numbers_in rows) count (vertex_in rows k) (get_or links (place_in rows k) 0))))

module _ (shared : List ℕ) (rows : List Row) where
  pub size_none : lists_length shared rows 0 0 ≡ 0
  unfolding lists_length from sum
  size_none = refl

  pub size-more : (u : ℕ)
      → lists_length shared rows 0 (u + 1)
      ≡ lists_length shared rows 0 u + (2 + 2 * list_length shared (vertex_in rows u))
  unfolding lists_length from sum
  size-more u =
      let f : ℕ → ℕ = λ k. 2 + 2 * list_length shared (vertex_in rows k) in
      ap (λ l. sum (map f l)) (from-add 0 u 1)
      ∙ ap sum (map-append f (from 0 u) (from (0 + u) 1))
      ∙ sum-append (map f (from 0 u)) (map f (from (0 + u) 1))
      ∙ ap (λ k. sum (map f (from 0 u)) + (f k + 0)) (zero-add u)
      ∙ ap (λ k. sum (map f (from 0 u)) + k) (add-zero (f u))

  pub size_few : {count : ℕ} → Measured shared rows count → (u : ℕ) → u ≤ suc count
      → lists_length shared rows 0 u ≤ 4002 * u
  size_few m zero h = omega (arith, size_none)
  size_few m (suc u) h =
      omega (
        arith,
        size_few m u (omega arith),
        ap (lists_length shared rows 0) (add-one u),
        size-more u,
        list-few (m.row u (omega arith)),
      )

-- ---- all of it

module _ (t shared links : List ℕ) (rows : List Row) (count : ℕ) where
  abbrev letters : List ℕ
  letters = letters_from t rows 1 count

  abbrev lists : List ℕ
  lists = lists_from t shared links rows count 0 (suc count)

  abbrev image : List ℕ
  image = table_image t shared links rows count

  pub image-length : length image ≡ 4 + count + lists_length shared rows 0 (suc count)
  unfolding table_image
  image-length =
      omega (
        arith,
        length-append (u16_bytes count ++ letters ++ lists) (u16_bytes 0),
        length-append (u16_bytes count ++ letters) lists,
        length-append (u16_bytes count) letters,
        length-u16 count,
        length-u16 0,
        letters-length t rows count,
        lists_length_lem t shared links rows count 0 (suc count),
      )

  -- its parts have room where it has
  pub image-parts : length image ≡ 2 + count + length lists + 2
  image-parts = omega (arith, image-length, lists_length_lem t shared links rows count 0 (suc count))

  -- and put one after the other they are the image
  pub image-put : {out out₁ out₂ out₃ out₄ : List ℕ} {end : ℕ} → Put (u16_bytes count) 0 out out₁ 2
      → Put letters 2 out₁ out₂ (2 + count) → Put lists (2 + count) out₂ out₃ end
      → Put (u16_bytes 0) end out₃ out₄ (end + 2) → Put image 0 out out₄ (length image)
  unfolding table_image
  image-put {end = end} a b c d =
      let e : end + 2 ≡ length image = omega (arith, image-parts, c.ends) in
      rw e at (put_both (put_both (put_both a b) c) d)
