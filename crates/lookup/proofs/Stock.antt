-- A stock list, item after item: while its items are counted, and while they are answered. Assumes nothing.
use Prim.Native.Nat.{ℕ, suc, ◌+◌, ◌*◌, ◌≤◌, ◌<◌}
use mathlib.Core.Path.{◌≡◌, refl, sym, ap, ap₂, ◌∙◌}
use mathlib.Core.Bool.{Bool, true, false, ◌||◌}
use mathlib.Core.List.{List, [], ◌∷◌, ◌++◌, flat_map, append-nil}
use native.Mathlib.Omega.{arith}
use lib.ListN.{length, take, drop, length-append, length-drop}
use lib.Seq.{drop-append-add, take-append_seam, drop-drop, append_snoc}
use lib.Dec.{ltb}
use borrow.Author.Tests.{lt-ltb, le-ltb, ltb-false}
use Rattle.endian.proofs.Booleans.{or-none}
use Rattle.endian.proofs.Lists.{flat_map_append, length_pieces}
use Rattle.call.specs.declared.Refusal.TheVariants.{Items}
use Rattle.call.specs.Table.{value, refused, on, unless}
use Rattle.graph.specs.Graph.{Graph}
use Rattle.codes.specs.Items.{items_of, runs_past, bad_items, answer_bytes}
use Rattle.codes.proofs.Items.{items_none, past-none, items_next, past_next, length-answer}
use Rattle.lookup.specs.Seeking.{sought_answer}
use Rattle.lookup.specs.Items.{count_answer, sought_bytes}

-- ---- the next item

module _ {rest : List ℕ} {k : ℕ} {behind : List ℕ} (here : rest ≡ k ∷ behind) where
  pub items_here : items_of rest ≡ take k behind ∷ items_of (drop k behind)
  items_here = ap items_of here ∙ items_next k behind

  pub past-here : runs_past rest ≡ (ltb (length behind) k || runs_past (drop k behind))
  past-here = ap runs_past here ∙ past_next k behind

  -- an item that doesn't run past the end
  pub inside : runs_past rest ≡ false → (k ≤ length behind) × (runs_past (drop k behind) ≡ false)
  inside e =
      let o = or-none (ltb (length behind) k) (runs_past (drop k behind)) (sym past-here ∙ e) in
      (ltb-false (length behind) k o.0, o.1)

-- ---- counting

-- the items before the rest are counted, and none of them runs past the end
pub record Counting (items rest : List ℕ) (count : ℕ) : Type 0 where
  pub few : count ≤ 1000
  pub counted : length (items_of items) ≡ count + length (items_of rest)
  pub past : runs_past items ≡ runs_past rest

pub count-start : (items : List ℕ) → Counting items items 0
count-start items = record { few = omega arith; counted = omega arith; past = refl }

module _ {items rest : List ℕ} {count : ℕ} (c : Counting items rest count) where
  module _ {k : ℕ} {behind : List ℕ} (here : rest ≡ k ∷ behind) where
    more : length (items_of items) ≡ count + suc (length (items_of (drop k behind)))
    more = c.counted ∙ ap (λ (l : List (List ℕ)). count + length l) (items_here here)

    pub count-many : count ≡ 1000 → refused Items ≡ count_answer items
    unfolding count_answer unless bad_items
    count-many e = rw (lt-ltb 1000 (length (items_of items)) (omega (arith, more))) (go (runs_past items))
      where
        go : (b : Bool) → refused Items ≡ unless (on Items (b || true) ∷ []) (length (items_of items))
        go true = refl
        go false = refl

    pub count_past : length behind < k → refused Items ≡ count_answer items
    unfolding count_answer unless bad_items
    count_past l = rw (c.past, past-here here, lt-ltb (length behind) k l) refl

    pub count_next : ¬ (count ≡ 1000) → k ≤ length behind → Counting items (drop k behind) (count + 1)
    count_next n l = record {
      few = omega (arith, c.few);
      counted = omega (arith, more);
      past = c.past ∙ past-here here ∙ rw (le-ltb (length behind) k l) refl;
    }

  pub count-done : rest ≡ [] → value count ≡ count_answer items
  unfolding count_answer unless bad_items
  count-done e =
      let n : length (items_of items) ≡ count = rw (c.counted, e, items_none) (omega arith) in
      rw (c.past, e, past-none, n, le-ltb 1000 count c.few) refl

-- ---- answering

-- bytes written behind those that are there already
bytes-more : (done more out₀ : List ℕ) {out : List ℕ} {n : ℕ} → length done ≡ n → out ≡ done ++ drop n out₀
    → (k : ℕ) → take n out ++ more ++ drop (n + k) out ≡ done ++ more ++ drop (n + k) out₀
bytes-more done more out₀ {out} {n} long e k = ap₂ (λ (a b : List ℕ). a ++ more ++ b) front back
  where
    front : take n out ≡ done
    front = ap (take n) e ∙ ap (λ k. take k (done ++ drop n out₀)) (sym long) ∙ take-append_seam done (drop n out₀)

    back : drop (n + k) out ≡ drop (n + k) out₀
    back =
        ap (drop (n + k)) e ∙ ap (λ j. drop (j + k) (done ++ drop n out₀)) (sym long)
        ∙ drop-append-add done (drop n out₀) k ∙ drop-drop k n out₀

module _ (prints : List ℕ) (g : Graph) where
  sought_append : (l m : List (List ℕ))
      → sought_bytes prints g (l ++ m) ≡ sought_bytes prints g l ++ sought_bytes prints g m
  unfolding sought_bytes
  sought_append l m = flat_map_append _ l m

  sought_one : (word : List ℕ) → sought_bytes prints g (word ∷ []) ≡ answer_bytes (sought_answer prints g word)
  unfolding sought_bytes flat_map
  sought_one word = append-nil (answer_bytes (sought_answer prints g word))

  pub length_sought : (words : List (List ℕ)) → length (sought_bytes prints g words) ≡ 8 * length words
  unfolding sought_bytes
  length_sought words =
      let answer : List ℕ → List ℕ = λ word. answer_bytes (sought_answer prints g word) in
      omega (arith, length_pieces answer 8 (λ word. length-answer (sought_answer prints g word)) words)

-- the items before the rest are answered
pub record Answering (prints : List ℕ) (g : Graph) (items out₀ out rest : List ℕ) (answered : ℕ) : Type 0 where
  pub past : runs_past rest ≡ false
  pub done : List (List ℕ)
  pub split : items_of items ≡ done ++ items_of rest
  pub count : answered ≡ 8 * length done
  pub bytes : out ≡ sought_bytes prints g done ++ drop answered out₀
  pub long : length out ≡ length out₀

pub answer-start : (prints : List ℕ) (g : Graph) {items : List ℕ} (out : List ℕ) → runs_past items ≡ false
    → Answering prints g items out out items 0
unfolding sought_bytes flat_map
answer-start prints g out e = record {
  past = e;
  done = [];
  split = refl;
  count = omega arith;
  bytes = refl;
  long = refl;
}

module _ {prints : List ℕ} {g : Graph} {items out₀ out rest : List ℕ} {answered : ℕ}
    (a : Answering prints g items out₀ out rest answered) where
  pub answer-out : rest ≡ [] → out ≡ sought_bytes prints g (items_of items) ++ drop (8 * length (items_of items)) out₀
  answer-out e =
      let all : items_of items ≡ a.done = a.split
      ∙ ap (λ (l : List ℕ). a.done ++ items_of l) e
      ∙ ap (λ (l : List (List ℕ)). a.done ++ l) items_none ∙ append-nil a.done in
      rw (all, ← a.count) a.bytes

  module _ {k : ℕ} {behind : List ℕ} (here : rest ≡ k ∷ behind) where
    abbrev item : List ℕ
    item = take k behind

    abbrev earlier : List ℕ
    earlier = sought_bytes prints g a.done

    abbrev answer : List ℕ
    answer = answer_bytes (sought_answer prints g item)

    pub item-inside : k ≤ length behind
    item-inside = (inside here a.past).0

    pub answer-room : 8 * length (items_of items) ≤ length out₀ → answered + 8 ≤ length out
    answer-room r =
        omega (
          arith,
          r,
          a.count,
          a.long,
          ap length a.split,
          ap length (items_here here),
          length-append a.done (items_of rest),
        )

    pub answer-next : 8 * length (items_of items) ≤ length out₀ → {out' : List ℕ}
        → out' ≡ take answered out ++ answer ++ drop (answered + 8) out
        → Answering prints g items out₀ out' (drop k behind) (answered + 8)
    answer-next r {out'} put = record {
      past = (inside here a.past).1;
      done = a.done ++ item ∷ [];
      split = a.split
          ∙ ap (λ (l : List (List ℕ)). a.done ++ l) (items_here here)
          ∙ sym (append_snoc a.done item (items_of (drop k behind)));
      count = omega (arith, a.count, length-append a.done (item ∷ []));
      bytes = e ∙ ap (λ (l : List ℕ). l ++ drop (answered + 8) out₀) whole;
      long = ap length e
          ∙ omega (
            arith,
            length-append (earlier ++ answer) (drop (answered + 8) out₀),
            length-append earlier answer,
            length-drop (answered + 8) out₀,
            length_sought prints g a.done,
            length-answer (sought_answer prints g item),
            answer-room r,
            a.count,
            a.long,
          );
    }
      where
        e : out' ≡ (earlier ++ answer) ++ drop (answered + 8) out₀
        e = put
            ∙ bytes-more earlier answer out₀ (length_sought prints g a.done ∙ sym a.count) a.bytes 8

        whole : earlier ++ answer ≡ sought_bytes prints g (a.done ++ item ∷ [])
        whole =
            ap (λ (l : List ℕ). earlier ++ l) (sym (sought_one prints g item))
            ∙ sym (sought_append prints g a.done (item ∷ []))
