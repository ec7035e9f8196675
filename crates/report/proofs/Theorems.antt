-- The theorem of specs/Theorems.antt: both images are the same in the cut, and more than 1,000 frames are left of a longer input and of its
-- cut, so that both are refused by the same number. Assumes nothing.
use Prim.Native.Nat.{ℕ, zero, suc, ◌+◌, ◌-◌, ◌≤◌, ◌<◌}
use mathlib.Core.Path.{◌≡◌, refl, sym, ap, ◌∙◌}
use mathlib.Core.Bool.{Bool, true, false}
use mathlib.Core.List.{List, [], ◌∷◌, ◌++◌, append_assoc}
use native.Mathlib.Decide.{dec_le}
use native.Mathlib.Omega.{arith}
use lib.ListN.{length, take, drop, get_or, replicate, length-take, length-drop}
use lib.Seq.{take_all, take-nil, take-take, get_or-take, get_or-drop}
use Rattle.endian.specs.Bytes.{u16}
use Rattle.endian.proofs.Ranges.{above}
use Rattle.call.specs.declared.Refusal.{Refusal}
use Rattle.call.specs.declared.Refusal.TheVariants.{Frames}
use Rattle.call.specs.Table.{refused, Row, on, unless}
use Rattle.call.specs.Limits.{work_space, bad_frame_count}
use Rattle.graph.specs.Graph.{graph_of}
use Rattle.graph.specs.Checking.{first_rows}
use Rattle.decoder.specs.Decoding.{frame_rows, decode_rows, decode_answer}
use Rattle.report.specs.Lines.{lent_answer}
use Rattle.report.specs.Report.{image_in, after_image, voice_in, lexicon_in, frames_in, count_in, reported, report}
use Rattle.report.specs.Theorems.{CutReportsTheSame}
use Rattle.report.proofs.Decoded.{reported-refused}
use Rattle.report.proofs.Paging.{report-is}

-- ---- more than 1,000 frames

-- behind a row that applies, neither rows nor the value count
same-refusal : {A : Type 0} (rows : List Row) (q : Refusal)
    → (r : Refusal) × ((more : List Row) (a : A) → unless (rows ++ on q true ∷ more) a ≡ refused r)
unfolding unless
same-refusal [] q = (q, λ more a. refl)
same-refusal {A} (p ∷ rows) q = go p.applies refl (same-refusal rows q)
  where
    go : (b : Bool) → p.applies ≡ b → (r : Refusal) × ((more : List Row) (a : A) → unless (rows ++ on q true ∷ more) a ≡ refused r)
        → (r : Refusal) × ((more : List Row) (a : A) → unless ((p ∷ rows) ++ on q true ∷ more) a ≡ refused r)
    go true e u = (p.refusal, λ more a. rw e)
    go false e u = (u.0, λ more a. rw e (u.1 more a))

module _ (v x : List ℕ) where
  many-refused : (work out : List ℕ)
      → (r : Refusal) × ((frames : List ℕ) (n : ℕ) → 1000 < length frames → decode_answer v x frames n work out ≡ refused r)
  unfolding decode_answer decode_rows frame_rows bad_frame_count
  many-refused work out =
      let u = same-refusal {A = ℕ} (first_rows v x work) Frames in
      (u.0, λ frames n h. rw (append_assoc (first_rows v x work), above 1 1000 (length frames) h) (u.1 _ _))

  many-same : (f f' : List ℕ) (n n' : ℕ) → 1000 < length f → 1000 < length f'
      → reported v (graph_of x) f n (lent_answer v x f n) ≡ reported v (graph_of x) f' n' (lent_answer v x f' n')
  unfolding lent_answer
  many-same f f' n n' h h' =
      let u = many-refused (replicate work_space 0) (replicate 64 0) in
      sym (reported-refused v x f n (u.1 f n h)) ∙ reported-refused v x f' n' (u.1 f' n' h')

-- ---- the parts of a cut input

drop-take : {A : Type 0} (k n : ℕ) (l : List A) → drop k (take n l) ≡ take (n - k) (drop k l)
drop-take zero n l = let e : n - 0 ≡ n = omega arith in rw e
drop-take (suc k) zero l = let e : 0 - suc k ≡ 0 = omega arith in rw e
drop-take (suc k) (suc n) [] = sym (take-nil (suc n - suc k))
drop-take (suc k) (suc n) (a ∷ l) = let e : suc n - suc k ≡ n - k = omega arith in rw e (drop-take k n l)

module _ (n : ℕ) (b : List ℕ) where
  length_cut : 2 ≤ n → u16 (take n b) 0 ≡ u16 b 0
  unfolding u16
  length_cut h = rw (get_or-take n b 0 0 (omega arith), get_or-take n b 1 0 (omega arith))

  image_cut : 2 + u16 b 0 ≤ n → image_in (take n b) ≡ image_in b
  unfolding image_in
  image_cut h = rw (length_cut (omega arith), drop-take 2 n b) (take-take (u16 b 0) (n - 2) (drop 2 b) (omega arith))

  after_cut : 2 ≤ n → after_image (take n b) ≡ take (n - (2 + u16 b 0)) (after_image b)
  unfolding after_image
  after_cut h = rw (length_cut h) (drop-take (2 + u16 b 0) n b)

module _ (b : List ℕ) (bytes : (i : ℕ) → get_or b i 0 < 256) where
  length-small : u16 b 0 ≤ 65535
  unfolding u16
  length-small = omega (arith, bytes 0, bytes 1)

  bytes_after : (i : ℕ) → get_or (after_image b) i 0 < 256
  unfolding after_image
  bytes_after i = rw (get_or-drop (2 + u16 b 0) b i 0) (bytes (2 + u16 b 0 + i))

  rest-long : length b ≤ length (after_image b) + 65537
  unfolding after_image
  rest-long = omega (arith, length-drop (2 + u16 b 0) b, length-small)

-- cut at 132,076 or later; how many hits are wanted is of no account, for 11 comes before 12
module _ (n : ℕ) (late : 132076 ≤ n) (input : List ℕ) (bytes : (i : ℕ) → get_or input i 0 < 256) where
  longer-same : n < length input → report (take n input) ≡ report input
  unfolding voice_in lexicon_in frames_in
  longer-same long =
      let after = after_image input in
      let rest = after_image after in
      let bytes' = bytes_after input bytes in
      let voice-small = length-small input bytes in
      let lexicon-small = length-small after bytes' in
      let m = n - (2 + u16 input 0) in
      let k = m - (2 + u16 after 0) in
      let cut : after_image (take n input) ≡ take m after = after_cut n input (omega arith) in
      let lexicon : image_in (after_image (take n input)) ≡ image_in after = ap image_in cut ∙ image_cut m after (omega arith) in
      let end : after_image (after_image (take n input)) ≡ take k rest = ap after_image cut ∙ after_cut m after (omega arith) in
      let left : 1002 ≤ length rest = omega (arith, rest-long input bytes, rest-long after bytes') in
      let many : 1000 < length (drop 1 rest) = omega (arith, length-drop 1 rest) in
      let many-cut : 1000 < length (drop 1 (take k rest)) = omega (arith, length-drop 1 (take k rest), length-take k rest) in
      rw (report-is (take n input), report-is input, image_cut n input (omega arith), lexicon, end)
      (many-same (image_in input) (image_in after) (drop 1 (take k rest)) (drop 1 rest) (count_in (take n input)) (count_in input) many-cut many)

  cut_same : report (take n input) ≡ report input
  cut_same = elim (dec_le (length input) n) [
    | yes h ↦ ap report (take_all n input h)
    | no h ↦ longer-same (omega arith)
  ]

pub cut_reports_the_same : CutReportsTheSame
cut_reports_the_same = cut_same 132076 (omega arith)
