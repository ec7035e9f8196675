-- Text on a page: where it is put, and what is left. No public contract cites this. Assumes nothing.
use Rattle.std.specs.Prelude.{ℕ, ◌+◌, ◌≡◌, List, ◌++◌, length, take, drop}
use Rattle.report.specs.declared.Page.{Page}

-- out' is out with the text from `at` on, which stops before `end`; all other bytes keep their values
pub record TextPut (text : List ℕ) (at : ℕ) (out out' : List ℕ) (end : ℕ) : Type 0 where
  pub ends : end ≡ at + length text
  pub puts : out' ≡ take at out ++ text ++ drop (at + length text) out

-- the text stands behind what the page showed before
abbrev pub Written : {N : ℕ} → List ℕ → Page N → Page N → Type 0
Written text page page' = TextPut text page.length page.text page'.text page'.length
