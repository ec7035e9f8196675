-- The lexicon image: what it holds, its fields in stored order, and its verdict (document 01, Lexicon). In the literature: a DAWG, a
-- directed acyclic word graph, here with the letters on the nodes. Assumes nothing.
use Rattle.std.specs.Prelude.{ℕ, zero, suc, ◌+◌, ◌*◌, Bool, cond, ◌&&◌, ◌||◌, not, List, [], ◌∷◌, ◌++◌, map, length, take, drop, eqb, leb, ltb}
use Rattle.std.proofs.Math.Option.{Option, none, some}
use Rattle.endian.specs.Lists.{within, from, has}
use Rattle.endian.specs.Bytes.{u8, u16, u16s}
use Rattle.call.specs.declared.Refusal.{Refusal}
use Rattle.call.specs.declared.Refusal.TheVariants.{LexiconLength, LexiconRange}
use Rattle.voice.specs.Fields.{Field, field, Verdict, well_formed, wrong_length, out_of_range, verdict}

-- ---- what it holds

-- N
unfoldable pub node_count : List ℕ → ℕ
node_count x = u16 x 0

-- vertex 0 is the root, 1 to N are the nodes, N + 1 is the sink
unfoldable pub sink_of : List ℕ → ℕ
sink_of x = suc (node_count x)

-- the letter index of node n, 1 to N
unfoldable pub node_letter : List ℕ → ℕ → ℕ
node_letter x n = u8 x (1 + n)

-- where the list of vertex u begins, with its count: after the lists of the vertices below it
unfoldable pub arcs_at : List ℕ → ℕ → ℕ
arcs_at x zero = 2 + node_count x
arcs_at x (suc u) = let at = arcs_at x u in at + 2 + 2 * u16 x at

unfoldable pub arc_count : List ℕ → ℕ → ℕ
arc_count x u = u16 x (arcs_at x u)

-- the successors of vertex u, 0 to N, in stored order
unfoldable pub successors : List ℕ → ℕ → List ℕ
successors x u = u16s x (arcs_at x u + 2) (arc_count x u)

-- The part of the image that holds the successors of vertex u, for any bytes and any vertex: empty where u is above the N read there or
-- the bytes end before its list does
unfoldable pub successor_part : List ℕ → ℕ → List ℕ
successor_part x u =
    cond (leb u (node_count x) && leb (arcs_at x (suc u)) (length x)) (take (2 * arc_count x u) (drop (arcs_at x u + 2) x)) []

-- The numbers of the list that stands at an offset behind its count, for any bytes and any offset: none where the bytes
-- end before it does
unfoldable pub listed : List ℕ → ℕ → List ℕ
listed x at = cond (leb (at + 2 + 2 * u16 x at) (length x)) (u16s x (at + 2) (u16 x at)) []

-- the numbers that stand in two bytes each
unfoldable pub numbers_of : List (List ℕ) → List ℕ
numbers_of pairs = map (λ pair. u16 pair 0) pairs

-- where the section Reserve begins
unfoldable pub reserve_at : List ℕ → ℕ
reserve_at x = arcs_at x (sink_of x)

-- ---- its fields, in stored order

-- the letter of each node is below L
abbrev pub node_field : ℕ → List ℕ → ℕ → Field
node_field L x n = field (1 + n) 1 (ltb (node_letter x n) L)

unfoldable pub node_fields : ℕ → List ℕ → List Field
node_fields L x = map (node_field L x) (from 1 (node_count x))

-- A successor s of u is greater than u, at most N + 1, and not yet in this list; the root does not lead to the sink
unfoldable pub allowed : List ℕ → ℕ → List ℕ → ℕ → Bool
allowed x u earlier s = ltb u s && leb s (sink_of x) && not (has s earlier) && (ltb 0 u || not (eqb s (sink_of x)))

-- the successors of u that are left, from the offset on, after the earlier ones
unfoldable pub successor_fields : List ℕ → ℕ → ℕ → List ℕ → List ℕ → List Field
successor_fields x u at earlier [] = []
successor_fields x u at earlier (s ∷ later) = field at 2 (allowed x u earlier s) ∷ successor_fields x u (at + 2) (s ∷ earlier) later

-- the lists of the n vertices from u on; the counts before them add up to total
unfoldable pub arc_fields : List ℕ → ℕ → ℕ → ℕ → List Field
arc_fields x u total zero = []
arc_fields x u total (suc n) =
    field (arcs_at x u) 2 (within 1 (sink_of x) (arc_count x u) && leb (total + arc_count x u) 4000)
    ∷ successor_fields x u (arcs_at x u + 2) [] (successors x u)
    ++ arc_fields x (suc u) (total + arc_count x u) n

-- L is the number of letters of the voice model
unfoldable pub lexicon_fields : ℕ → List ℕ → List Field
lexicon_fields L x =
    field 0 2 (within 1 400 (node_count x))
    ∷ node_fields L x
    ++ arc_fields x 0 0 (sink_of x)
    ++ field (reserve_at x) 2 (eqb (u16 x (reserve_at x)) 0)
    ∷ []

-- ---- its verdict

unfoldable pub lexicon_verdict : ℕ → List ℕ → Verdict
lexicon_verdict L x = verdict (length x) 0 (lexicon_fields L x)

-- what each verdict on a lexicon returns: no number where it is well formed, 4 for a wrong length, 5 for a field out of
-- its range
unfoldable pub lexicon_refusal : Verdict → Option Refusal
lexicon_refusal well_formed = none
lexicon_refusal wrong_length = some LexiconLength
lexicon_refusal out_of_range = some LexiconRange

-- what these bytes return as a lexicon
unfoldable pub lexicon_refused : ℕ → List ℕ → Option Refusal
lexicon_refused L x = lexicon_refusal (lexicon_verdict L x)
