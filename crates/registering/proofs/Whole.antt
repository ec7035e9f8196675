-- The image that the tables make is the canonical image of the words, and its places are the canonical graph's:
-- vertex by vertex the letters and the lists are the same. And what is answered. Assumes nothing.
use Prim.Native.Nat.{ℕ, zero, suc, ◌+◌, ◌≤◌, ◌<◌}
use mathlib.Core.Path.{◌≡◌, refl, sym, ap, ap₂, ◌∙◌}
use mathlib.Core.List.{List, [], ◌++◌, map, map-map, flat_map}
use native.Mathlib.Omega.{arith}
use lib.ListN.{length, get_or, set, length-set}
use lib.Seq.{get_or-set_same, get_or-set_other}
use borrow.Author.Tests.{lt-ltb, le-ltb}
use Rattle.endian.specs.Lists.{from, sum}
use Rattle.endian.specs.Bytes.{u16_bytes}
use Rattle.endian.proofs.Lists.{map_cong, flat_map_cong, from_out}
use Rattle.call.specs.declared.Refusal.TheVariants.{Output, CanonicalImage}
use Rattle.call.specs.Table.{refused, value, unless}
use Rattle.call.specs.Buffers.{written}
use Rattle.voice.specs.Voice.{letter_count, states}
use Rattle.graph.specs.Graph.{sink}
use Rattle.graph.specs.Conditions.{place_count, many_places}
use Rattle.image.specs.Image.{list_bytes, image_of}
use Rattle.canonical.specs.Nodes.{letter_of, rest_of, arcs_of, canonical_graph}
use Rattle.canonical.specs.Canonical.{words_graph, words_image, outside_limits, outside_rows}
use Rattle.sorting.specs.Slots.{words_from}
use Rattle.sorting.proofs.SlotWords.{words-length}
use Rattle.registering.specs.declared.Row.{Row}
use Rattle.registering.specs.Register.{no_row, Register}
use Rattle.registering.specs.Numbering.{heights_in, bare, Rows, PlacedIn}
use Rattle.registering.specs.Arcs.{vertex_in, root_row, vertex_list}
use Rattle.registering.specs.Image.{Put, letter_in, letters_from, lists_from, table_image, Lettered, Measured}
use Rattle.registering.specs.Image.{Listed, Voiced, Drawn}
use Rattle.registering.specs.Building.{build_rows, ImageAnswered}
use Rattle.registering.proofs.Fields.{field-at}
use Rattle.registering.proofs.Numbers.{numbers_are}
use Rattle.registering.proofs.Placing.{row-same}
use Rattle.registering.proofs.Putting.{put_all}
use Rattle.registering.proofs.Behind.{word-list, register_rows}
use Rattle.registering.proofs.Limits.{limits-kept}
use Rattle.registering.proofs.Vertex.{Tables, measured, listed, lettered, letter_is, letter_known, list-of}

-- ---- what each step asks

module _ {v t : List ℕ} {n : ℕ} {shared : List ℕ} {rows : List Row} {links : List ℕ} {count : ℕ}
    (d : Drawn v t n shared rows links count) where
  register : Register t n rows count
  register = d.built.register

  -- the register with the root's row behind those of the nodes
  abbrev rooted : List Row
  rooted = set rows 400 (root_row n)

  root-at : get_or rooted 400 no_row ≡ root_row n
  root-at = get_or-set_same rows 400 (root_row n) no_row (omega (arith, register.long))

  node_at_lem : (r : ℕ) → ¬ (r ≡ 400) → get_or rooted r no_row ≡ get_or rows r no_row
  node_at_lem r h = get_or-set_other rows 400 r (root_row n) no_row h

  -- the nodes keep their heights
  high : (r : ℕ) → r < count → get_or (heights_in rooted) r 0 ≡ (get_or rows r no_row).longest
  high r h =
      field-at (λ row. row.longest) r rooted no_row
      ∙ ap (λ row. row.longest) (node_at_lem r (omega (arith, register.few)))

  pub drawn_rows : Rows rooted count
  drawn_rows =
      let g = register_rows d.buildable.words register in
      record {
        few = register.few;
        long = length-set rows 400 (root_row n) ∙ g.long;
        low = λ r h. rw (high r h, sym (field-at (λ row. row.longest) r rows no_row)) (g.low r h);
      }

  module _ {numbered : List Row} (p : PlacedIn rooted numbered count [] count) where
    entry : (r : ℕ) → ¬ (r ≡ 400) → bare (get_or numbered r no_row) ≡ bare (get_or rows r no_row)
    entry r k = row-same p.same r ∙ ap bare (node_at_lem r k)

    root_entry : bare (get_or numbered 400 no_row) ≡ root_row n
    root_entry = row-same p.same 400 ∙ ap bare root-at

    tables : Tables t n shared rows links numbered count
    tables = record {
      words = d.buildable.words;
      some = d.some;
      alike = d.alike;
      register = register;
      linked = d.built.links;
      numbers = numbers_are (heights_in rooted) register d.built.nodes high p.placed;
      root = record {
        first = ap (λ row. row.first) root_entry;
        many = ap (λ row. row.many) root_entry;
        depth = ap (λ row. row.depth) root_entry;
      };
      same = λ r h.
          let k : ¬ (r ≡ 400) = omega (arith, register.few) in
          record {
            first = ap (λ row. row.first) (entry r k);
            many = ap (λ row. row.many) (entry r k);
            depth = ap (λ row. row.depth) (entry r k);
          };
    }

    pub drawn_limits : outside_limits v (words_graph v (words_from t 0 n))
        ≡ many_places (place_count v (words_graph v (words_from t 0 n)))
    drawn_limits =
        limits-kept v (word-list d.buildable.words d.buildable.letters d.some)
        (omega (arith, tables.numbers.many, register.few))
        (omega (arith, words-length t 0 n, d.buildable.words.few))

    pub drawn_measured : Measured shared numbered count
    drawn_measured = measured tables

    pub drawn_listed : Listed t shared links numbered count
    drawn_listed = listed tables

    pub drawn_lettered : Lettered t numbered count
    drawn_lettered = lettered tables

    pub drawn_voiced : Voiced v t numbered count
    drawn_voiced = record { voice = d.buildable.voice; known = letter_known tables d.buildable.letters }

    -- ---- the image

    abbrev ws : List (List ℕ)
    ws = words_from t 0 n

    letters : letters_from t numbered 1 count ≡ map (letter_of ws) (from 1 count)
    unfolding letters_from
    letters =
        map_cong (λ k. letter_in t (vertex_in numbered k)) (letter_of ws) (from 1 count)
        (λ k m. go k (from_out 1 count m))
      where
        go : (k : ℕ) → (1 ≤ k) × (k < 1 + count) → letter_in t (vertex_in numbered k) ≡ letter_of ws k
        go zero h = absurd (omega (arith, h.0))
        go (suc k) h = letter_is tables k (omega (arith, h.1))

    arcs : ℕ → List ℕ
    arcs u = list_bytes (arcs_of (letter_count v) ws (rest_of ws u))

    lists : lists_from t shared links numbered count 0 (suc count) ≡ flat_map arcs (from 0 (suc count))
    unfolding lists_from arcs
    lists =
        flat_map_cong (λ u. list_bytes (vertex_list t shared links numbered count u)) arcs (from 0 (suc count))
        (λ u m. ap list_bytes (list-of tables d.buildable.letters u (omega (arith, (from_out 0 (suc count) m).1))))

    image_with : ℕ → List ℕ
    image_with k = u16_bytes k ++ map (letter_of ws) (from 1 k) ++ flat_map arcs (from 0 (suc k)) ++ u16_bytes 0

    pub image_is : table_image t shared links numbered count ≡ words_image v ws
    unfolding table_image image_of canonical_graph sink image_with arcs
    image_is =
        ap₂ (λ l m. u16_bytes count ++ l ++ m ++ u16_bytes 0) letters lists
        ∙ ap image_with (sym tables.numbers.many)

    pub places_is : sum (map (states v) (letters_from t numbered 1 count)) ≡ place_count v (words_graph v ws)
    unfolding place_count canonical_graph
    places_is =
        ap (λ l. sum (map (states v) l)) letters
        ∙ ap sum (map-map (states v) (letter_of ws) (from 1 count))
        ∙ ap (λ k. sum (map (λ n. states v (letter_of ws n)) (from 1 k))) (sym tables.numbers.many)

-- ---- what is answered

module _ {v : List ℕ} {ws : List (List ℕ)} {out : List ℕ}
    (kept : outside_limits v (words_graph v ws) ≡ many_places (place_count v (words_graph v ws))) where
  pub too_many : 1000 < place_count v (words_graph v ws) → ImageAnswered v ws (refused CanonicalImage) out out
  unfolding build_rows outside_rows unless many_places written
  too_many h = record { says = rw (kept, lt-ltb 1000 (place_count v (words_graph v ws)) h); leaves = refl }

  module _ (few : place_count v (words_graph v ws) ≤ 1000) where
    pub no_room : length out < length (words_image v ws) → ImageAnswered v ws (refused Output) out out
    unfolding build_rows outside_rows unless many_places written
    no_room h = record {
      says = rw (
        kept,
        le-ltb 1000 (place_count v (words_graph v ws)) few,
        lt-ltb (length out) (length (words_image v ws)) h,
      );
      leaves = refl;
    }

    pub all-written : {out' : List ℕ} {size end : ℕ} → length (words_image v ws) ≤ length out
        → size ≡ length (words_image v ws) → Put (words_image v ws) 0 out out' end
        → ImageAnswered v ws (value size) out out'
    unfolding build_rows outside_rows unless many_places written
    all-written h e p = record {
      says = rw (
        kept,
        le-ltb 1000 (place_count v (words_graph v ws)) few,
        le-ltb (length out) (length (words_image v ws)) h,
        e,
      );
      leaves = put_all p;
    }
