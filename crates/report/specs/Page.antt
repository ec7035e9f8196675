-- What a program prints, in a page of so many bytes. Assumes nothing.
use Rattle.std.specs.Prelude.{ℕ, ◌-◌, ◌≡◌, List, ◌++◌, length, replicate}

-- nothing is printed on it
unfoldable pub blank_page : ℕ → List ℕ
blank_page size = replicate size 0

-- the bytes of the page, of which `end` are printed, are the text and then zeros
pub record Shows (size : ℕ) (text bytes : List ℕ) (end : ℕ) : Type 0 where
  pub ends : end ≡ length text
  pub shows : bytes ≡ text ++ replicate (size - length text) 0
