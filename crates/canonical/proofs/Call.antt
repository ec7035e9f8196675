-- The call answers a number exactly where no row of its table applies, and then that many bytes of the output are the
-- image: so the bytes that two calls write are equal where their images are. Assumes nothing.
use Prim.Native.Nat.{ℕ}
use mathlib.Core.Path.{◌≡◌, sym, ap, ◌∙◌}
use mathlib.Core.List.{List, [], ◌∷◌, ◌++◌}
use lib.ListN.{length, take, drop}
use lib.Seq.{take-append_seam}
use lib.Dec.{ltb}
use borrow.Author.Tests.{ltb-false, le-ltb}
use Rattle.call.specs.declared.Refusal.TheVariants.{Output}
use Rattle.call.specs.Table.{value, on}
use Rattle.call.specs.Buffers.{spaces_rows, written}
use Rattle.call.proofs.Table.{value-passed, unless-value, none-parts, none_join, none-says, passed_none}
use Rattle.call.proofs.Buffers.{spaces_passed, passed_spaces}
use Rattle.graph.specs.Graph.{graph_of}
use Rattle.graph.specs.Checking.{image_rows}
use Rattle.canonical.specs.Canonical.{sorted_words, canonical_image, word_list_rows}
use Rattle.canonical.specs.Canonical.{canonical_rows, canonical_answer, canonical_out}
use Rattle.canonical.specs.Theorems.{Answered, CallAnswers, EqualBytes}
use Rattle.canonical.proofs.Theorems.{one-image}

module _ (v x work further out : List ℕ) where
  pub answered : (k : ℕ) → canonical_answer v x work further out ≡ value k → Answered v x work further out k
  unfolding canonical_answer canonical_rows
  answered k e =
      let image = length (canonical_image v x) in
      let words = word_list_rows v (sorted_words (graph_of x)) in
      let room = on Output (ltb (length out) image) ∷ [] in
      let u = value-passed (canonical_rows v x work further out) image k e in
      let a = none-parts (spaces_rows work further ++ image_rows v x ++ words) room u.0 in
      let b = none-parts (spaces_rows work further ++ image_rows v x) words a.0 in
      let c = none-parts (spaces_rows work further) (image_rows v x) b.0 in
      let s = spaces_passed work further c.0 in
      record {
        listable = record { images = c.1; limits = b.1 };
        space = s.0;
        further-space = s.1;
        bytes = sym u.1;
        room = rw u.1 at (ltb-false (length out) image (none-says room a.1).0);
      }

  answers : (k : ℕ) → Answered v x work further out k → canonical_answer v x work further out ≡ value k
  unfolding canonical_answer canonical_rows
  answers k a =
      let image = length (canonical_image v x) in
      let words = word_list_rows v (sorted_words (graph_of x)) in
      let room = on Output (ltb (length out) image) ∷ [] in
      unless-value (canonical_rows v x work further out) image
      (none_join (spaces_rows work further ++ image_rows v x ++ words) room
      (none_join (spaces_rows work further ++ image_rows v x) words
      (none_join (spaces_rows work further) (image_rows v x) (passed_spaces work further a.space a.further-space)
      a.listable.images)
      a.listable.limits)
      (passed_none room (le-ltb (length out) image (rw a.bytes at a.room), tt)))
      ∙ ap value (sym a.bytes)

  -- the bytes that it writes are the image
  pub bytes_written : (k : ℕ) → canonical_answer v x work further out ≡ value k
      → take k (canonical_out v x work further out) ≡ canonical_image v x
  unfolding canonical_out written
  bytes_written k e =
      let image = canonical_image v x in
      rw (e, (answered k e).bytes) (take-append_seam image (drop (length image) out))

pub call-answers : CallAnswers
call-answers v x work further out k = (answered v x work further out k, answers v x work further out k)

pub equal-bytes : EqualBytes
equal-bytes v x y work further out work' further' out' k k' e f =
    rw (bytes_written v x work further out k e, bytes_written v y work' further' out' k' f)
    (one-image v x y (answered v x work further out k e).listable (answered v y work' further' out' k' f).listable)
