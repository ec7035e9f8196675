-- Answers that a C int can hold. No public contract cites this. Assumes nothing.
use Rattle.std.specs.Prelude.{ℕ, ◌^◌, ◌<◌, ◌≡◌}
use Rattle.call.specs.Table.{Answer, value}

-- the value, where there is one, is below 2^31; every refusal's number is
pub record FitsInt (answer : Answer ℕ) : Type 0 where
  pub below : (n : ℕ) → answer ≡ value n → n < 2 ^ 31
