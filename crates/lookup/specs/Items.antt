-- The vocabulary of the contracts of the private functions that read a stock list and answer it. No public contract
-- cites it. Assumes nothing.
use Rattle.std.specs.Prelude.{ℕ, length}
use mathlib.Core.List.{List, [], ◌∷◌, flat_map}
use Rattle.call.specs.declared.Refusal.TheVariants.{Items}
use Rattle.call.specs.Table.{Answer, on, unless}
use Rattle.graph.specs.Graph.{Graph}
use Rattle.codes.specs.Items.{items_of, bad_items, answer_bytes}
use Rattle.lookup.specs.Seeking.{sought_answer}

-- 19, or the number of items
unfoldable pub count_answer : List ℕ → Answer ℕ
count_answer items = unless (on Items (bad_items items) ∷ []) (length (items_of items))

-- the bytes of the answers to these words
unfoldable pub sought_bytes : List ℕ → Graph → List (List ℕ) → List ℕ
sought_bytes prints g words = flat_map (λ word. answer_bytes (sought_answer prints g word)) words
