-- What is printed, from the parts of the input, and the page that shows it. Assumes nothing.
use Prim.Native.Nat.{ℕ, zero, suc, ◌-◌, ◌≤◌}
use mathlib.Core.Path.{◌≡◌, refl, ap, ◌∙◌}
use mathlib.Core.List.{List, ◌++◌}
use native.Mathlib.Nat.{zero-add}
use native.Mathlib.Omega.{arith}
use lib.ListN.{length, drop, get_or, replicate, length-append}
use Rattle.endian.specs.Bytes.{u8}
use Rattle.graph.specs.Graph.{graph_of}
use Rattle.report.specs.Lines.{lent_answer}
use Rattle.report.specs.Page.{blank_page, Shows}
use Rattle.report.specs.Text.{TextPut, Written}
use Rattle.report.specs.declared.Page.{Page}
use Rattle.report.specs.Report.{image_in, after_image, voice_in, lexicon_in, count_in, frames_in, reported, report}

pub report-is : (input : List ℕ)
    → report input
    ≡ reported (voice_in input) (graph_of (lexicon_in input)) (frames_in input) (count_in input)
    (lent_answer (voice_in input) (lexicon_in input) (frames_in input) (count_in input))
unfolding report lent_answer
report-is input = refl

-- the rest of a row of one byte
drop-replicate : (n m a : ℕ) → drop n (replicate m a) ≡ replicate (m - n) a
drop-replicate zero m a = let e : m - 0 ≡ m = omega arith in rw e
drop-replicate (suc n) zero a = let e : 0 - suc n ≡ 0 = omega arith in rw e
drop-replicate (suc n) (suc m) a = let e : suc m - suc n ≡ m - n = omega arith in rw e (drop-replicate n m a)

put-shows : (size : ℕ) {text bytes : List ℕ} {end : ℕ} → TextPut text 0 (blank_page size) bytes end
    → Shows size text bytes end
unfolding blank_page
put-shows size {text} p = record {
  ends = omega (arith, p.ends);
  shows = p.puts ∙ ap (λ (l : List ℕ). text ++ l) (rw zero-add (drop-replicate (length text) size 0));
}

-- what is written on a blank page
pub written-shows : {size : ℕ} {text : List ℕ} {blank page : Page size} → blank.text ≡ blank_page size
    → blank.length ≡ 0 → Written text blank page
    → Shows size text page.text page.length
written-shows {size} e z p = put-shows size (rw (e, z) at p)

-- what is printed lies in the page
pub shown_within : {size : ℕ} {text bytes : List ℕ} {end : ℕ} → Shows size text bytes end → end ≤ length bytes
shown_within {size} {text} s =
    omega (arith, s.ends, ap length s.shows, length-append text (replicate {A = ℕ} (size - length text) 0))

-- the code's cuts, its answer, and its page
pub report_shown : (input : List ℕ) {v after x rest frames : List ℕ} {n : ℕ} {blank page : Page 640}
    → v ≡ image_in input → after ≡ after_image input → x ≡ image_in after → rest ≡ after_image after → n ≡ u8 rest 0 → frames ≡ drop 1 rest
    → blank.text ≡ blank_page 640 → blank.length ≡ 0
    → Written (reported v (graph_of x) frames n (lent_answer v x frames n)) blank page
    → Shows 640 (report input) page.text page.length
unfolding voice_in lexicon_in count_in frames_in
report_shown input {rest = rest} {n} a b c d e f g z p =
    let whole : rest ≡ after_image (after_image input) = d ∙ ap after_image b in
    let count : n ≡ get_or (after_image (after_image input)) 0 0 = e ∙ ap (λ (l : List ℕ). get_or l 0 0) whole in
    rw (report-is input) (written-shows g z (rw (a, c ∙ ap image_in b, count, f ∙ ap (drop 1) whole) at p))
