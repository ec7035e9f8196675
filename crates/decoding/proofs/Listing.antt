-- Tokens and the hits that they say: each undoes the other; and the output while the hits are written, one after the
-- other.
-- Assumes nothing.
use Prim.Native.Nat.{ℕ, zero, suc, ◌+◌, ◌-◌, ◌*◌, ◌/◌, ◌%◌, ◌<◌, ◌≤◌}
use mathlib.Core.Path.{◌≡◌, refl, sym, ap, ap₂, ◌∙◌}
use mathlib.Core.List.Memᴰ.{head as here}
use mathlib.Core.List.{List, [], ◌∷◌, ◌++◌, flat_map, append_assoc, append-nil, Memᴰ}
use mathlib.Core.List.Memᴰ.{tail as there}
use native.Mathlib.Omega.{arith}
use native.Mathlib.Numerals.{add-one}
use borrow.Author.Tests.{eq-eqb, ne_eqb}
use lib.IntN.{nat_abs}
use lib.ListN.{length, get_or, take, drop, length-append, length-drop, drop_of_length-le}
use lib.Seq.{sets, sets-eq, length-sets, drop-cons, drop-append-add, take-append_seam, drop-drop}
use Rattle.endian.specs.Bytes.{i32_bytes, u32_bytes}
use Rattle.endian.proofs.Integers.{size}
use Rattle.endian.proofs.Lists.{flat_map_append}
use Rattle.ranking.specs.Hits.{Hit, hit, hit_bytes}
use Rattle.ranking.proofs.Hits.{length-hit_bytes}
use Rattle.decoder.specs.StatePaths.{score_limit}
use Rattle.decoder.specs.Score.{bias, raised, value_of}
use Rattle.decoder.proofs.Biased.{raised_is, value-back}
use Rattle.storing.specs.Held.{token_of, pad, held}
use Rattle.decoding.specs.Listing.{hit_of, hits_of, Listable}

-- the eight bytes of a hit
abbrev pub bytes_of : Hit → List ℕ
bytes_of h = i32_bytes h.score ++ u32_bytes h.code

hit_bytes-append : (l m : List Hit) → hit_bytes (l ++ m) ≡ hit_bytes l ++ hit_bytes m
unfolding hit_bytes
hit_bytes-append l m = flat_map_append _ l m

-- ---- writing

-- the first i tokens are written
pub record Written (tokens out₀ out : List ℕ) (i : ℕ) : Type 0 where
  pub done : List Hit
  pub count : length done ≡ i
  pub inside : i ≤ length tokens
  pub split : hits_of tokens ≡ done ++ hits_of (drop i tokens)
  pub bytes : out ≡ hit_bytes done ++ drop (8 * i) out₀
  pub long : length out ≡ length out₀

pub write_start : (tokens out : List ℕ) → Written tokens out out 0
unfolding hit_bytes flat_map
write_start tokens out =
    record { done = []; count = refl; inside = omega arith; split = refl; bytes = refl; long = refl }

module _ {tokens out₀ out : List ℕ} {i : ℕ} (l : Listable tokens out₀) (w : Written tokens out₀ out i) where
  -- no token: the list ends
  pub write_stop : i < length tokens → get_or tokens i 0 ≡ 0 → hits_of tokens ≡ w.done
  unfolding hits_of
  write_stop h e = w.split ∙ rw (drop-cons tokens i 0 h, eq-eqb (get_or tokens i 0) 0 e) (append-nil w.done)

  -- or all eight are written
  pub write-all : length tokens ≤ i → hits_of tokens ≡ w.done
  unfolding hits_of
  write-all h = w.split ∙ rw (drop_of_length-le tokens h) (append-nil w.done)

  -- what is written then
  pub write_done : hits_of tokens ≡ w.done
      → (out ≡ hit_bytes (hits_of tokens) ++ drop (length (hit_bytes (hits_of tokens))) out₀)
      × (i ≡ length (hits_of tokens))
  write_done e =
      rw e (
        w.bytes ∙ ap (λ n. hit_bytes w.done ++ drop n out₀)
            (sym (length-hit_bytes w.done ∙ ap (λ n. 8 * n) w.count)),
        sym w.count,
      )

  module _ (h : i < length tokens) (n : ¬ (get_or tokens i 0 ≡ 0)) where
    next : hits_of tokens ≡ (w.done ++ (hit_of (get_or tokens i 0) ∷ [])) ++ hits_of (drop (suc i) tokens)
    unfolding hits_of
    next =
        w.split
        ∙ rw (drop-cons tokens i 0 h, ne_eqb (get_or tokens i 0) 0 n)
        (sym (append_assoc w.done (hit_of (get_or tokens i 0) ∷ []) (hits_of (drop (suc i) tokens))))

    -- there is room for one more
    pub write_room : 8 * i + 8 ≤ length out
    write_room =
        let all : length (hits_of tokens) ≡ suc i + length (hits_of (drop (suc i) tokens)) =
        ap length next ∙ length-append (w.done ++ (hit_of (get_or tokens i 0) ∷ [])) _
        ∙ rw (length-append w.done (hit_of (get_or tokens i 0) ∷ []), w.count) (omega arith) in
        let long : length out ≡ 8 * i + (length out₀ - 8 * i) =
        ap length w.bytes ∙ length-append (hit_bytes w.done) (drop (8 * i) out₀)
        ∙ rw (length-hit_bytes w.done, w.count, length-drop) in
        omega (arith, all, long, l.room)

    pub write_next : {out' : List ℕ} → out' ≡ sets out (8 * i) (bytes_of (hit_of (get_or tokens i 0)))
        → Written tokens out₀ out' (i + 1)
    unfolding i32_bytes u32_bytes
    write_next {out'} e = rw add-one (record {
      done = w.done ++ (h' ∷ []);
      count = length-append w.done (h' ∷ []) ∙ rw w.count (omega arith);
      inside = omega arith;
      split = next;
      bytes =
          e ∙ sets-eq (bytes_of h') out (8 * i) write_room ∙ ap₂ (λ a b. a ++ bytes_of h' ++ b) front back
          ∙ ap (λ a. a ++ drop (8 * suc i) out₀) whole;
      long = ap length e ∙ length-sets out (8 * i) (bytes_of h') ∙ w.long;
    })
      where
        h' : Hit
        h' = hit_of (get_or tokens i 0)

        long : length (hit_bytes w.done) ≡ 8 * i
        long = length-hit_bytes w.done ∙ ap (λ n. 8 * n) w.count

        front : take (8 * i) out ≡ hit_bytes w.done
        front =
            ap (take (8 * i)) w.bytes ∙ ap (λ n. take n (hit_bytes w.done ++ drop (8 * i) out₀)) (sym long)
            ∙ take-append_seam (hit_bytes w.done) (drop (8 * i) out₀)

        back : drop (8 * i + 8) out ≡ drop (8 * suc i) out₀
        back =
            let e : 8 * i + 8 ≡ length (hit_bytes w.done) + 8 = omega (arith, long) in
            let f : 8 * i + 8 ≡ 8 * suc i = omega arith in
            ap (drop (8 * i + 8)) w.bytes ∙ ap (λ n. drop n (hit_bytes w.done ++ drop (8 * i) out₀)) e
            ∙ drop-append-add (hit_bytes w.done) (drop (8 * i) out₀) 8 ∙ drop-drop 8 (8 * i) out₀
            ∙ ap (λ n. drop n out₀) f

        one : hit_bytes (h' ∷ []) ≡ bytes_of h'
        one = unfold hit_bytes flat_map in append-nil (bytes_of h')

        whole : hit_bytes w.done ++ bytes_of h' ≡ hit_bytes (w.done ++ (h' ∷ []))
        whole = sym (hit_bytes-append w.done (h' ∷ []) ∙ ap (λ a. hit_bytes w.done ++ a) one)

-- ---- what tokens of candidates say

-- a hit within the limits of scores and words
abbrev pub Within : Hit → Type 0
Within h = (nat_abs h.score ≤ score_limit) × (h.code < 1048576)

module _ (h : Hit) (s : Within h) where
  number-some : 0 < raised bias h.score
  unfolding score_limit
  number-some = omega (arith, raised_is bias h.score (omega (arith, s.0)), size h.score, s.0)

  -- a token is not 'no token', and it says its candidate
  pub token_there : ¬ (token_of h ≡ 0)
  unfolding token_of
  token_there e = let r = number-some in omega arith

  pub token_says : hit_of (token_of h) ≡ h
  unfolding token_of hit_of
  token_says =
      let c = s.1 in
      let high : (raised bias h.score * 4294967296 + (4294967295 - h.code)) / 4294967296 ≡ raised bias h.score =
      omega arith in
      let low : 4294967295 - (raised bias h.score * 4294967296 + (4294967295 - h.code)) % 4294967296 ≡ h.code =
      omega arith in
      ap₂ hit (ap value_of high ∙ value-back h.score s.0) low

-- so the tokens of a list of candidates say the list
pub hits-held : (n : ℕ) (l : List Hit) → length l ≤ n → ((h : Hit) → Memᴰ h l → Within h) → hits_of (held n l) ≡ l
unfolding hits_of pad
hits-held zero [] k s = refl
hits-held zero (h ∷ l) k s = absurd (omega arith)
hits-held (suc n) [] k s = refl
hits-held (suc n) (h ∷ l) k s =
    let t = s h (here refl) in
    rw (ne_eqb (token_of h) 0 (token_there h t))
    (ap₂ ◌∷◌ (token_says h t) (hits-held n l (omega arith) (λ g m. s g (there m))))
