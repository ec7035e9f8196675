-- What the contracts of the walks of request 5 say (src/putting.rt, src/taking.rt): places in bytes, and the bits that
-- are held in a number between codes and bytes. Assumes nothing.
use Rattle.std.specs.Prelude.{ℕ, ◌+◌, ◌-◌, ◌*◌, ◌/◌, ◌%◌, ◌^◌, ◌≤◌, ◌<◌, ◌≡◌, List, ◌++◌, length, get_or, take, drop, replicate}
use Rattle.packing.specs.Packing.{bits, number_of, to_bits, packed_size, unpacked}

-- ---- packing

-- code i, of b bits, begins at bit `bit` of byte `byte`: quotient and remainder of i × b by 8
pub record CodeStart (i b byte bit : ℕ) : Type 0 where
  pub quotient : byte ≡ i * b / 8
  pub remainder : bit ≡ i * b % 8

-- codes of b bits, for which the output has room
pub record Packable (b : ℕ) (codes out : List ℕ) : Type 0 where
  pub short : b ≤ 20
  pub low : (i : ℕ) → i < length codes → get_or codes i 0 < 2 ^ b
  pub fits : packed_size b (length codes) ≤ length out

-- the bits of the bytes before byte `byte`, and behind them the last `bit` bits of a number
unfoldable pub bits_before : ℕ → ℕ → ℕ → List ℕ → List ℕ
bits_before byte bit number out = to_bits (take byte out) ++ bits bit number

-- from byte `byte` on the output has room for `bit` bits: 7 before a code and 20 of its own, at most
pub record BitsFit (byte bit : ℕ) (out : List ℕ) : Type 0 where
  pub within : bit ≤ 27
  pub room : byte * 8 + bit ≤ length out * 8

-- of `bit` bits behind byte `byte` eight are put, if there are so many; the row of all bits is the same
pub record BytePut (joined byte bit byte' bit' : ℕ) (before after : List ℕ) : Type 0 where
  pub none : bit < 8 → bit' ≡ bit
  pub one : 8 ≤ bit → bit' + 8 ≡ bit
  pub offset : byte' * 8 + bit' ≡ byte * 8 + bit
  pub same : bits_before byte' bit' joined after ≡ bits_before byte bit joined before
  pub untouched : drop byte' after ≡ drop byte' before

-- behind `bit` bits that are in no byte yet the output has room for a code
pub record CodeFits (b byte bit : ℕ) (out : List ℕ) : Type 0 where
  pub within : bit < 8
  pub short : b ≤ 20
  pub room : byte * 8 + bit + b ≤ length out * 8

-- from code to code: b bits further on, and where code i begins at byte and bit, code i + 1 begins at byte' and bit'
pub record CodePut (b joined byte bit byte' bit' : ℕ) (before after : List ℕ) : Type 0 where
  pub within : bit' < 8
  pub offset : byte' * 8 + bit' ≡ byte * 8 + bit + b
  pub next : (i : ℕ) → CodeStart i b byte bit → CodeStart (i + 1) b byte' bit'
  pub same : bits_before byte' bit' joined after ≡ bits_before byte (bit + b) joined before
  pub untouched : drop byte' after ≡ drop byte' before

-- the output has room for the bits that are in no byte yet
pub record RestFits (byte bit held : ℕ) (out : List ℕ) : Type 0 where
  pub within : bit < 8
  pub low : held < 256
  pub room : byte * 8 + bit ≤ length out * 8

-- so many bytes hold the bits, and zero bits behind them
pub record RestPut (size byte bit held : ℕ) (before after : List ℕ) : Type 0 where
  pub padded : to_bits (take size after)
      ≡ bits_before byte bit held before ++ replicate (size * 8 - (byte * 8 + bit)) 0
  pub untouched : drop size after ≡ drop size before

-- ---- unpacking

-- the bytes are as many as n packed codes of b bits take
pub record PackedLength (b n : ℕ) (bytes : List ℕ) : Type 0 where
  pub short : b ≤ 20
  pub size : length bytes ≡ packed_size b n

-- the last `d` bits of a number, and behind them those of the bytes from `taken` on
unfoldable pub bits_after : ℕ → ℕ → ℕ → List ℕ → List ℕ
bits_after taken d number packed = bits d number ++ to_bits (drop taken packed)

-- the bits that are held, as the number held, and those of the bytes that are not taken are b or more
pub record CanTake (b taken d held : ℕ) (packed : List ℕ) : Type 0 where
  pub within : d ≤ 7
  pub short : b ≤ 20
  pub low : held < 2 ^ d
  pub room : taken * 8 + b ≤ length packed * 8 + d

-- bytes are taken until b bits are held, and no more: the bits from the same place on are the same
pub record BytesTaken (b taken d held taken' d' held' : ℕ) (packed : List ℕ) : Type 0 where
  pub enough : b ≤ d'
  pub fewer : d' ≤ b + 7
  pub low : held' < 2 ^ d'
  pub place : taken' * 8 + d ≡ taken * 8 + d'
  pub same : bits_after taken' d' held' packed ≡ bits_after taken d held packed

-- n codes stand at the front, and the bits behind them make the number of the padding
pub record CodesRead (b n padding : ℕ) (packed codes : List ℕ) : Type 0 where
  pub read : take n codes ≡ unpacked b n packed
  pub behind : padding ≡ number_of (drop (n * b) (to_bits packed))
