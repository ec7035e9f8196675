-- The theorems of specs/Theorems.antt. The canonical image is made from the words in dictionary order, which the set of
-- words determines; and its full paths spell these words in that order, so the words are read back from the bytes,
-- codes are ranks, and it is its own canonical image. Assumes nothing.
use Prim.Native.Nat.{ℕ}
use mathlib.Core.Path.{◌≡◌, sym, ap, subst, ◌∙◌}
use mathlib.Core.Logic.{◌↔◌}
use mathlib.Core.Bool.{true}
use mathlib.Core.List.{List, Memᴰ as In}
use Rattle.call.specs.Table.{none_applies}
use Rattle.call.proofs.Table.{none-parts}
use Rattle.voice.specs.Voice.{letter_count, voice_rows}
use Rattle.graph.specs.Graph.{graph_of, FullPath, path_code, path_letters}
use Rattle.graph.specs.Checking.{lexicon_rows, image_rows, Accepted}
use Rattle.graph.proofs.Sound.{Sound}
use Rattle.graph.proofs.Accepted.{AcceptedImages, accepted}
use Rattle.graph.specs.Words.{letter_words}
use Rattle.graph.specs.Conditions.{same_letters}
use Rattle.canonical.specs.Canonical.{sorted_words, canonical_image, words_image, word_list_rows}
use Rattle.canonical.specs.Theorems.{Spells, SameWords, Listable, rank, OneImage, CanonicalTheorems}
use Rattle.canonical.specs.Theorems.{CanonicalImages}
use Rattle.canonical.proofs.Sorting.{order-out, order-in, order_same}
use Rattle.canonical.proofs.Ranks.{rank-order}
use Rattle.canonical.proofs.Vertices.{WordList}
use Rattle.canonical.proofs.ReadBack.{spells_in, in_spells, limits_of, sound_of}
use Rattle.canonical.proofs.ReadBack.{lexicon-words, words_back, sound_back, sorted_back}
use Rattle.canonical.proofs.Acceptance.{accepted-back, code-rank}

voice-passed : (v x : List ℕ) → Accepted v x → none_applies (voice_rows v) ≡ true
unfolding image_rows
voice-passed v x h = (none-parts (voice_rows v) (lexicon_rows v x) h).0

-- ---- the image of a word list

record ListImage (v : List ℕ) (ws : List (List ℕ)) : Type 0 where
  listable : Listable v (words_image v ws)
  spells : (w : List ℕ) → Spells (graph_of (words_image v ws)) w ↔ In w ws
  ranks : (p : List ℕ) → FullPath (graph_of (words_image v ws)) p
      → path_code (graph_of (words_image v ws)) p ≡ rank (path_letters (graph_of (words_image v ws)) p) ws
  itself : canonical_image v (words_image v ws) ≡ words_image v ws

list-image : {v : List ℕ} {ws : List (List ℕ)} → WordList (letter_count v) ws → none_applies (voice_rows v) ≡ true
    → none_applies (word_list_rows v ws) ≡ true → ListImage v ws
unfolding canonical_image
list-image {v} {ws} ok h k =
    let limits = limits_of k in
    let sorted = sorted_back ok limits in
    let back = words_back ok limits in
    let sound = sound_back ok limits in
    record {
      listable = record { images = accepted-back ok limits h; limits = rw sorted k };
      spells =
          λ w. (
            λ s. subst (λ l. In w l) back (spells_in sound s),
            λ m. in_spells sound (subst (λ l. In w l) (sym back) m),
          );
      ranks = code-rank ok limits;
      itself = ap (words_image v) sorted;
    }

-- ---- the canonical image of a lexicon

module _ {v x : List ℕ} (ok : Listable v x) where
  images : AcceptedImages v x
  images = accepted ok.images

  sound-lexicon : Sound (graph_of x)
  sound-lexicon = sound_of images

  image : ListImage v (sorted_words (graph_of x))
  image = list-image (lexicon-words images) (voice-passed v x ok.images) ok.limits

  canonical_words : SameWords x (canonical_image v x)
  unfolding canonical_image sorted_words
  canonical_words w = (
    λ s. (image.spells w).1 (order-in (spells_in sound-lexicon s)),
    λ s. in_spells sound-lexicon (order-out (letter_words (graph_of x)) ((image.spells w).0 s)),
  )

  canonical_theorems : CanonicalTheorems v x
  unfolding canonical_image sorted_words same_letters
  canonical_theorems = record {
    listable = image.listable;
    same-words = canonical_words;
    ranks = λ p full. image.ranks p full ∙ rank-order _ (letter_words (graph_of x)) images.other_letters;
    again = image.itself;
  }

-- the image goes by the words in order
same-image : (v x y : List ℕ) → ((w : List ℕ) → In w (letter_words (graph_of x)) ↔ In w (letter_words (graph_of y)))
    → canonical_image v x ≡ canonical_image v y
unfolding canonical_image sorted_words
same-image v x y s = ap (words_image v) (order_same (letter_words (graph_of x)) (letter_words (graph_of y)) s)

pub one-image : OneImage
one-image v x y a b = (to, from_words)
  where
    to : canonical_image v x ≡ canonical_image v y → SameWords x y
    to e w =
        let p = canonical_words a w in
        let q = canonical_words b w in (
          λ s. q.1 (subst (λ z. Spells (graph_of z) w) e (p.0 s)),
          λ s. p.1 (subst (λ z. Spells (graph_of z) w) (sym e) (q.0 s)),
        )

    from_words : SameWords x y → canonical_image v x ≡ canonical_image v y
    from_words s = same-image v x y (λ w. (
      λ m. spells_in (sound-lexicon b) ((s w).0 (in_spells (sound-lexicon a) m)),
      λ m. spells_in (sound-lexicon a) ((s w).1 (in_spells (sound-lexicon b) m)),
    ))

pub canonical_images : CanonicalImages
canonical_images v x ok = canonical_theorems ok
