-- Two rows of an accepted voice model's letters that spell the same are the same, since print bytes rise. Assumes nothing.
use Prim.Native.Nat.{ℕ, ◌<◌}
use mathlib.Core.Path.{◌≡◌}
use mathlib.Core.List.{List, Memᴰ}
use Rattle.endian.proofs.Lists.{map_injective}
use Rattle.voice.specs.Fields.{well_formed}
use Rattle.voice.specs.Voice.{letter_count, print_byte, voice_verdict}
use Rattle.voice.proofs.Letters.{print_injective}
use Rattle.graph.specs.Words.{spelled}

-- each is a letter of the model
abbrev pub Known : List ℕ → List ℕ → Type 0
Known v letters = (l : ℕ) → Memᴰ l letters → l < letter_count v

pub spelled_injective : (v : List ℕ) → voice_verdict v ≡ well_formed → {l m : List ℕ} → Known v l → Known v m
    → spelled v l ≡ spelled v m → l ≡ m
unfolding spelled
spelled_injective v accepted {l} {m} h k = map_injective (print_byte v) l m (λ a b p q. print_injective v accepted (h a p) (k b q))
