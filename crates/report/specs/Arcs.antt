-- The program arcs: the bytes that it prints for a lexicon image. A line for each vertex below the sink: its number,
-- for a node its letter index, a colon, and its successors in stored order. Assumes nothing.
use Rattle.std.specs.Prelude.{ℕ, zero, suc}
use mathlib.Core.List.{List, [], ◌∷◌, ◌++◌, flat_map}
use Rattle.std.proofs.Math.Option.{Option, none, some}
use Rattle.endian.specs.Lists.{from}
use Rattle.call.specs.declared.Refusal.{Refusal}
use Rattle.call.specs.Table.{number}
use Rattle.lexicon.specs.Lexicon.{sink_of, node_letter, successors, lexicon_refused}
use Rattle.report.specs.Report.{decimal, refused_text}

-- each number behind a space, byte 32
unfoldable pub spaced : List ℕ → List ℕ
spaced numbers = flat_map (λ n. 32 ∷ decimal n) numbers

-- the root has no letter
unfoldable pub letter_text : List ℕ → ℕ → List ℕ
letter_text x zero = []
letter_text x (suc n) = 32 ∷ decimal (node_letter x (suc n))

-- byte 58 is the colon, and byte 10 ends the line
unfoldable pub vertex_line : List ℕ → ℕ → List ℕ
vertex_line x u = decimal u ++ letter_text x u ++ 58 ∷ spaced (successors x u) ++ (10 ∷ [])

-- what is printed where the image returns no number, and where it returns 4 or 5
unfoldable pub arcs_printed : List ℕ → Option Refusal → List ℕ
arcs_printed x none = flat_map (vertex_line x) (from 0 (sink_of x))
arcs_printed x (some r) = refused_text ++ decimal (number r) ++ (10 ∷ [])

-- any byte is a letter index here: which letters there are is the voice model's
unfoldable pub arcs_text : List ℕ → List ℕ
arcs_text x = arcs_printed x (lexicon_refused 256 x)
