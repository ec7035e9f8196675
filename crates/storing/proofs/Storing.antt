-- The store by node and state: one place is changed, or none; where the places lie in it; and the bounds of tokens that
-- move. By the numbers of the places, which differ. Assumes nothing.
use Prim.Native.Nat.{ℕ, ◌+◌, ◌*◌, ◌^◌, ◌≤◌, ◌<◌}
use mathlib.Core.Path.{◌≡◌, refl, ◌∙◌}
use mathlib.Core.Logic.{◌⊎◌, inl, inr}
use mathlib.Core.List.Memᴰ
use mathlib.Core.List.Memᴰ.{not-nil}
use mathlib.Core.List.{List, [], ◌∷◌, ◌++◌, append-nil, Memᴰ}
use mathlib.Core.Option.{Option, none, some}
use native.Mathlib.Omega.{arith}
use native.Mathlib.Nat.{mul-le-mul, mul-le-mul_right, mul_comm, suc-mul}
use native.Mathlib.Decide.{ℕ_discrete, dec_lt}
use lib.IntN.{ℤ, nat_abs}
use Rattle.endian.proofs.Integers.{size-sum}
use Rattle.graph.specs.Graph.{Graph, graph_of, sink, path_count, word_count, increment}
use Rattle.graph.specs.Conditions.{place_count}
use Rattle.graph.specs.Checking.{Accepted}
use Rattle.graph.proofs.Accepted.{accepted, places-limit, words-limit}
use Rattle.ranking.specs.Hits.{Hit}
use Rattle.decoder.specs.Score.{frame_limit, reach, plus}
use Rattle.passing.specs.Best.{shift}
use Rattle.passing.specs.Tokens.{Store, best_tokens, carried, symbol_score}
use Rattle.passing.specs.InPlace.{put, pass_on}
use Rattle.passing.proofs.InPlace.{put_here, put-node, put-state}
use Rattle.storing.specs.Slots.{slots, PlaceRoom, Changed}
use Rattle.storing.specs.Held.{held, Storable}
use Rattle.storing.specs.Places.{first_place}
use Rattle.storing.specs.Stored.{StoreRoom, Bound, Place, Stored}
use Rattle.storing.specs.Carrying.{Movers}
use Rattle.storing.proofs.Lending.{changed-apart}
use Rattle.storing.proofs.Numbering.{place-below, place-once}

-- ---- one place is changed

-- what is at (w, r) after state s of node u was put
pub data PutAt (P : Store) (u s : ℕ) (l : List Hit) (w r : ℕ) : Type 0 where
  same : w ≡ u → r ≡ s → put P u s l w r ≡ l → PutAt P u s l w r
  other : ((w ≡ u) × (r ≡ s) → ⊥) → put P u s l w r ≡ P w r → PutAt P u s l w r

pub put-at : (P : Store) (u s : ℕ) (l : List Hit) (w r : ℕ) → PutAt P u s l w r
put-at P u s l w r = elim (ℕ_discrete w u) [
  | yes e ↦ elim (ℕ_discrete r s) [
    | yes f ↦ same e f (rw (e, f) (put_here P u s l))
    | no d ↦ other (λ p. d p.1) (put-state P u s l d)
  ]
  | no d ↦ other (λ p. d p.0) (put-node P u s l d)
]

-- n slots of a place end before those of a greater one begin
pub block : (n : ℕ) {a b : ℕ} → a < b → n * a + n ≤ n * b
block n {a} {b} h = rw (mul_comm n a, mul_comm n b) (omega (arith, mul-le-mul_right n h, suc-mul a n))

-- every place holds the n best of its own
abbrev pub Kept : List ℕ → Graph → ℕ → Store → Type 0
Kept v g n P = (u s : ℕ) → Place v g u s → best_tokens n (P u s) ≡ P u s

pub carried-nothing : (o : Option ℤ) (d : ℕ) → carried o d [] ≡ []
unfolding carried
carried-nothing none d = refl
carried-nothing (some a) d = refl

closed : (o : Option ℤ) (d : ℕ) (l : List Hit) → carried (plus none o) d l ≡ []
unfolding carried plus
closed o d l = refl

module _ {v : List ℕ} {g : Graph} where
  apart : (n : ℕ) {u s w r : ℕ} → Place v g u s → Place v g w r → ((w ≡ u) × (r ≡ s) → ⊥)
      → (n * (first_place v g w + r) + n ≤ n * (first_place v g u + s)) ⊎ (n * (first_place v g u + s) + n ≤ n * (first_place v g w + r))
  apart n {u} {s} {w} {r} p q d = elim (dec_lt (first_place v g w + r) (first_place v g u + s)) [
    | yes l ↦ inl (block n l)
    | no a ↦ elim (dec_lt (first_place v g u + s) (first_place v g w + r)) [
      | yes l ↦ inr (block n l)
      | no b ↦ absurd (d (place-once v g {u = w} {w = u} {s = r} {r = s} q.low p.low q.state p.state (omega arith)))
    ]
  ]

  pub stored-put : {n : ℕ} {P : Store} {b b' : List ℕ} {u s : ℕ} {l : List Hit} → Place v g u s → Stored v g n P b
      → Changed (n * (first_place v g u + s)) n (held n l) b b' → best_tokens n l ≡ l → Stored v g n (put P u s l) b'
  stored-put {n} {P} {b} {b'} {u} {s} {l} p S c k = record { holds = λ q. at q (put-at P u s l _ _); kept = λ q. best q (put-at P u s l _ _) }
    where
      at : {w r : ℕ} → Place v g w r → PutAt P u s l w r → slots n (n * (first_place v g w + r)) b' ≡ held n (put P u s l w r)
      at q (same e f h) = rw (h, e, f) c.inside
      at {w} {r} q (other d h) = rw h (changed-apart c n (n * (first_place v g w + r)) (apart n p q d) ∙ S.holds q)

      best : {w r : ℕ} → Place v g w r → PutAt P u s l w r → best_tokens n (put P u s l w r) ≡ put P u s l w r
      best q (same e f h) = rw h k
      best q (other d h) = rw h (S.kept q)

  -- the same at every place
  pub stored_ext : {n : ℕ} {P Q : Store} {b : List ℕ} → Stored v g n P b → ((u s : ℕ) → Place v g u s → Q u s ≡ P u s) → Stored v g n Q b
  stored_ext S e = record { holds = λ p. rw (e _ _ p) (S.holds p); kept = λ p. rw (e _ _ p) (S.kept p) }

  -- nothing is offered
  pub put-nothing : (n : ℕ) (P : Store) (u s : ℕ) {m : List Hit} → Kept v g n P → m ≡ [] → {w r : ℕ} → Place v g w r
      → put P u s (best_tokens n (P u s ++ m)) w r ≡ P w r
  put-nothing n P u s {m} k z {w} {r} p = elim (put-at P u s (best_tokens n (P u s ++ m)) w r) [
    | same e f h ↦ h ∙ rw (z, append-nil, ← e, ← f) (k w r p)
    | other d h ↦ h
  ]

  pub pass_nothing : (n k : ℕ) (score : ℕ → Option ℤ) (w : ℕ) (us : List ℕ) (P : Store) → Kept v g n P → {u s : ℕ} → Place v g u s
      → pass_on v g n k score w [] us P u s ≡ P u s
  unfolding pass_on
  pass_nothing n k score w [] P K p = refl
  pass_nothing n k score w (x ∷ us) P K p =
      pass_nothing n k score w us _
      (λ u s q. rw (put-nothing n P x 0 K (carried-nothing (plus (score x) (symbol_score v g k x 0)) (increment g w x))
      q) (K u s q)) p
      ∙ put-nothing n P x 0 K (carried-nothing (plus (score x) (symbol_score v g k x 0)) (increment g w x)) p

  -- nothing is offered over arcs that are impossible
  pub pass_closed : (n k w : ℕ) (l : List Hit) (us : List ℕ) (P : Store) → Kept v g n P → {u s : ℕ} → Place v g u s
      → pass_on v g n k (λ u. none) w l us P u s ≡ P u s
  unfolding pass_on
  pass_closed n k w l [] P K p = refl
  pass_closed n k w l (x ∷ us) P K p =
      pass_closed n k w l us _ (λ u s q.
      rw (put-nothing n P x 0 K (closed (symbol_score v g k x 0) (increment g w x) l) q) (K u s q)) p
      ∙ put-nothing n P x 0 K (closed (symbol_score v g k x 0) (increment g w x) l) p

-- ---- where places lie

module _ (v x : List ℕ) where
  pub places-few : Accepted v x → place_count v (graph_of x) ≤ 1000
  places-few a = places-limit (accepted a)

  pub words-few : Accepted v x → word_count (graph_of x) < 2 ^ 32
  words-few a = omega (arith, words-limit (accepted a))

  pub place-there : {u s : ℕ} → Place v (graph_of x) u s → first_place v (graph_of x) u + s < place_count v (graph_of x)
  unfolding sink
  place-there p = place-below v (graph_of x) p.low (omega (arith, p.high)) p.state

  pub place-room : {n : ℕ} {b : List ℕ} {u s : ℕ} → StoreRoom v x n b → Place v (graph_of x) u s
      → PlaceRoom n (n * (first_place v (graph_of x) u + s)) b
  place-room {n} r p = record { one = r.one; few = r.few; room = omega (arith, r.room, block n (place-there p)) }

  pub slot_small : {n : ℕ} {b : List ℕ} {a : ℕ} → Accepted v x → StoreRoom v x n b → a ≤ place_count v (graph_of x)
      → n * a ≤ 8000
  slot_small {n} {b} {a} i r h = mul-le-mul {n₂ = 8} {m₂ = 1000} r.few (omega (arith, places-few i))

-- ---- bounds

module _ {g : Graph} where
  pub shift-bound : {M w u : ℕ} (d : ℕ) (a : ℤ) {h : Hit} → Bound g M w h → nat_abs a ≤ frame_limit
      → d + path_count g u ≤ path_count g w
      → Bound g (M + frame_limit) u (shift a d h)
  unfolding shift
  shift-bound d a {h} b s c = record {
    score = omega (arith, size-sum h.score a, b.score);
    code = omega (arith, b.code);
  }

  pub carried-bound : (M w u d : ℕ) (o : Option ℤ) (l : List Hit) → ((a : ℤ) → o ≡ some a → nat_abs a ≤ frame_limit)
      → ((h : Hit) → Memᴰ h l → Bound g M w h)
      → d + path_count g u ≤ path_count g w → {h : Hit} → Memᴰ h (carried o d l) → Bound g (M + frame_limit) u h
  unfolding carried
  carried-bound M w u d none l s f c i = absurd (not-nil i)
  carried-bound M w u d (some a) l s f c i =
      let r = Memᴰ.of_map (shift a d) l i in
      rw (← r.2) (shift-bound d a (f r.0 r.1) (s a refl) c)

  pub bound-storable : {M u : ℕ} {h : Hit} → word_count g < 2 ^ 32 → M ≤ reach → Bound g M u h → Storable h
  bound-storable f m b = record { score = omega (arith, b.score); code = omega (arith, b.code) }

  pub movers : (n M w u d : ℕ) (o : Option ℤ) (l : List Hit) → word_count g < 2 ^ 32 → M + frame_limit ≤ reach
      → best_tokens n l ≡ l
      → ((a : ℤ) → o ≡ some a → nat_abs a ≤ frame_limit) → ((h : Hit) → Memᴰ h l → Bound g M w h)
      → d + path_count g u ≤ path_count g w → Movers n o d l
  movers n M w u d o l W m k s f c = record {
    best = k;
    before = λ h i. bound-storable W (omega arith) (f h i);
    after = λ {a} e h i. bound-storable {u = u} W m (shift-bound d a (f h i) (s a e) c);
  }
