-- What the private functions of the search test once the images are accepted: rows 11, 12 and 16. No public contract
-- cites this. Assumes nothing.
use Rattle.std.specs.Prelude.{ℕ, ◌*◌, List, [], ◌∷◌, ◌++◌, ltb, length}
use Rattle.call.specs.declared.Refusal.TheVariants.{Count, Output}
use Rattle.call.specs.Table.{Row, on}
use Rattle.call.specs.Limits.{bad_count}
use Rattle.decoder.specs.Decoding.{frame_rows}

-- 11, 12 and 16
unfoldable pub call_rows : List ℕ → List ℕ → ℕ → List ℕ → List Row
call_rows v frames n out = frame_rows v frames ++ on Count (bad_count n) ∷ on Output (ltb (length out) (8 * n)) ∷ []
