-- In the table of words: where the node of the first suc k letters of word i is registered, the nodes of all prefixes
-- up to the end of the run of words that begin with these letters are. Assumes nothing.
use Prim.Native.Nat.{ℕ, zero, suc, ◌+◌, ◌-◌, ◌≤◌, ◌<◌}
use mathlib.Core.Path.{◌≡◌, refl, sym, ap, subst, ◌∙◌}
use mathlib.Core.Bool.{Bool, true, false, not}
use mathlib.Core.List.{List, [], ◌∷◌, ◌++◌, map, map-append, append-nil, append_assoc, Memᴰ as In}
use native.Mathlib.Nat.{add-zero}
use native.Mathlib.Omega.{arith}
use lib.ListN.{length, take, drop, take-append-drop}
use lib.Seq.{drop-cons}
use Rattle.endian.specs.Lists.{select}
use Rattle.canonical.specs.Dictionary.{prefixes_of, prefixes}
use Rattle.canonical.specs.Nodes.{distinct, node_of}
use Rattle.canonical.specs.Groups.{begins, fresh_from}
use Rattle.canonical.proofs.Groups.{select-append, fresh-prefixes}
use Rattle.canonical.proofs.Sorting.{Sorted}
use Rattle.canonical.proofs.PassedOver.{passed-run}
use Rattle.sorting.specs.Slots.{word_at, words_from}
use Rattle.registering.specs.Register.{previous}
use Rattle.registering.specs.Walking.{fresh_to, fresh_all}
use Rattle.registering.proofs.Fresh.{prefixes-length, prefixes-at, fresh-more, first_more}

-- the fresh prefixes of m words behind the first i
fresh_on : (t : List ℕ) (i m : ℕ)
    → fresh_from [] (words_from t 0 (i + m))
    ≡ fresh_from [] (words_from t 0 i) ++ fresh_from (previous t i) (words_from t i m)
unfolding fresh_from words_from
fresh_on t i zero = rw (add-zero, append-nil)
fresh_on t i (suc m) =
    let e : i + suc m ≡ suc (i + m) = omega arith in
    let row = select (λ p. not (begins p (previous t (i + m)))) (prefixes_of (word_at t (i + m))) in
    ap (λ j. fresh_from [] (words_from t 0 j)) e
    ∙ first_more t (i + m)
    ∙ ap (λ l. l ++ row) (fresh_on t i m)
    ∙ append_assoc (fresh_from [] (words_from t 0 i)) (fresh_from (previous t i) (words_from t i m)) row
    ∙ ap (λ l. fresh_from [] (words_from t 0 i) ++ l) (sym (fresh-more t i m))

module _ (t : List ℕ) (n i k m : ℕ) (sorted : Sorted ([] ∷ words_from t 0 n)) (long : k < length (word_at t i))
    (inside : i + suc m ≤ n) (new : begins (take (suc k) (word_at t i)) (previous t i) ≡ false)
    (have : (z : List ℕ) → In z (words_from t i (suc m)) → begins (take (suc k) (word_at t i)) z ≡ true) where
  abbrev ws : List (List ℕ)
  ws = words_from t 0 n

  abbrev p : List ℕ
  p = take (suc k) (word_at t i)

  abbrev fresh : List ℕ → Bool
  fresh q = not (begins q (previous t i))

  abbrev earlier : List (List ℕ)
  earlier = fresh_from [] (words_from t 0 i)

  abbrev front : List (List ℕ)
  front = select fresh (take k (prefixes_of (word_at t i)))

  abbrev longer : List (List ℕ)
  longer = select fresh (drop (suc k) (prefixes_of (word_at t i)))

  abbrev behind : List (List ℕ)
  behind = longer ++ fresh_from (word_at t i) (words_from t (suc i) m)

  abbrev later : List (List ℕ)
  later = fresh_from (previous t (i + suc m)) (words_from t (i + suc m) (n - (i + suc m)))

  own : select fresh (prefixes_of (word_at t i)) ≡ front ++ p ∷ longer
  unfolding select
  own =
      let w = prefixes_of (word_at t i) in
      let l = prefixes-length (word_at t i) in
      ap (select fresh)
      (sym (take-append-drop k w)
      ∙ ap (λ r. take k w ++ r)
      (drop-cons w k [] (omega arith) ∙ ap (λ q. q ∷ drop (suc k) w) (prefixes-at (word_at t i) k long)))
      ∙ select-append fresh (take k w) (p ∷ drop (suc k) w)
      ∙ ap (λ r. front ++ r) (rw new refl)

  group : fresh_from (previous t i) (words_from t i (suc m)) ≡ front ++ p ∷ behind
  unfolding fresh_from words_from
  group =
      ap (λ l. l ++ fresh_from (word_at t i) (words_from t (suc i) m)) own
      ∙ append_assoc front (p ∷ longer) (fresh_from (word_at t i) (words_from t (suc i) m))

  upto : fresh_from [] (words_from t 0 (i + suc m)) ≡ (earlier ++ front) ++ p ∷ behind
  upto = fresh_on t i (suc m) ∙ ap (λ l. earlier ++ l) group ∙ sym (append_assoc earlier front (p ∷ behind))

  whole : prefixes ws ≡ (earlier ++ front) ++ p ∷ (behind ++ later)
  whole =
      let e : i + suc m + (n - (i + suc m)) ≡ n = omega arith in
      sym (fresh-prefixes ws sorted)
      ∙ ap (λ j. fresh_from [] (words_from t 0 j)) (sym e)
      ∙ fresh_on t (i + suc m) (n - (i + suc m))
      ∙ ap (λ l. l ++ later) upto
      ∙ append_assoc (earlier ++ front) (p ∷ behind) later

  rows : map (node_of ws) (earlier ++ front) ≡ fresh_all t n i ++ fresh_to t n i k
  unfolding fresh_all fresh_to
  rows = map-append (node_of ws) earlier front

  -- the nodes up to the end of the run are those registered already
  pub run-passed : In (node_of ws p) (fresh_all t n i ++ fresh_to t n i k)
      → distinct (fresh_all t n (i + suc m)) ≡ distinct (fresh_all t n i ++ fresh_to t n i k)
  unfolding fresh_all
  run-passed found =
      ap distinct (ap (map (node_of ws)) upto ∙ map-append (node_of ws) (earlier ++ front) (p ∷ behind))
      ∙ passed-run ws (earlier ++ front) p (behind ++ later) whole (subst (In (node_of ws p)) (sym rows) found)
      (previous t i) (words_from t i (suc m)) front (p ∷ behind) later group refl have
      ∙ ap distinct rows
