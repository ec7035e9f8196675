-- `Token::bytes` puts the bytes of the two halves together. Assumes nothing.
use Prim.Native.Nat.{ℕ, ◌/◌, ◌%◌}
use mathlib.Core.Path.{◌≡◌, ◌∙◌}
use mathlib.Core.List.{[], ◌∷◌}
use native.Mathlib.Omega.{arith}
use Rattle.endian.specs.Bytes.{u32_bytes}
use Rattle.decoder.specs.Token.{token_bytes, unit}
use Rattle.decoder.proofs.token.Token.bytes.Goals as goal

halves : (x : ℕ) →
    x % 256 ∷ x / 256 % 256 ∷ x / 65536 % 256 ∷ x / 16777216 % 256
    ∷ x / 4294967296 % 256 ∷ x / 1099511627776 % 256 ∷ x / 281474976710656 % 256 ∷ x / 72057594037927936 % 256 ∷ []
    ≡ token_bytes x
unfolding token_bytes u32_bytes
halves x =
    let b0 : x % unit % 256 ≡ x % 256 = omega arith in
    let b1 : x % unit / 256 % 256 ≡ x / 256 % 256 = omega arith in
    let b2 : x % unit / 65536 % 256 ≡ x / 65536 % 256 = omega arith in
    let b3 : x % unit / 16777216 % 256 ≡ x / 16777216 % 256 = omega arith in
    let b5 : x / unit / 256 % 256 ≡ x / 1099511627776 % 256 = omega arith in
    let b6 : x / unit / 65536 % 256 ≡ x / 281474976710656 % 256 = omega arith in
    let b7 : x / unit / 16777216 % 256 ≡ x / 72057594037927936 % 256 = omega arith in
    rw (b0, b1, b2, b3, b5, b6, b7)

pub returns : goal.returns
returns c = c.to_le_bytes.ensures ∙ halves c.args.self.0
