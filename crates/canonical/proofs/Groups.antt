-- Words in order that begin with a prefix stand together, so that the prefixes come in dictionary order, each at the
-- first word that has it, and what follows a prefix is what follows it in one run of words. Assumes nothing.
use Prim.Native.Nat.{ℕ, suc, ◌<◌}
use mathlib.Core.Path.{◌≡◌, refl, sym, ap, ap₂, ◌∙◌}
use mathlib.Core.Logic.{◌⊎◌, inl, inr, ⊎_elim}
use mathlib.Core.Bool.{Bool, true, false, cond, not, ◌&&◌, true≢false, false≢true}
use mathlib.Core.List.Memᴰ.{head as here}
use mathlib.Core.List.{List, [], ◌∷◌, ◌++◌, map, flat_map, append-nil, Memᴰ as In}
use mathlib.Core.List.Memᴰ.{cases_cons as cases}
use mathlib.Core.List.Memᴰ.{not-nil}
use mathlib.Core.List.Memᴰ.{tail as there}
use mathlib.Core.List.Memᴰ
use mathlib.Core.List.Memᴰ.{append_cases}
use native.Mathlib.Omega.{arith}
use lib.ListN.{length, drop}
use lib.Dec.{eqb}
use borrow.Author.Tests.{eqb-true, eq-eqb, not-true}
use Rattle.endian.specs.Lists.{select}
use Rattle.endian.proofs.Booleans.{and_in, and-out, not_in}
use Rattle.endian.proofs.Lists.{mem_flat_map, of_flat_map, select_in, select_out}
use Rattle.endian.proofs.Pairs.{none, next, pairs-append}
use Rattle.canonical.specs.Dictionary.{precedes, prefixes_of, prefixes, after, continuations}
use Rattle.canonical.specs.Groups.{begins, fresh_from}
use Rattle.canonical.proofs.Order.{Before, before-cases, before-letter, before-rest}
use Rattle.canonical.proofs.Related.{pairs-select, pairs-map}
use Rattle.canonical.proofs.Ranks.{select-none}
use Rattle.canonical.proofs.Sorting.{Sorted, sorted_unique, order-out, order-in, order-sorted}

-- ---- prefixes of a word

pub prefix_begins : {p : List ℕ} (w : List ℕ) → In p (prefixes_of w) → begins p w ≡ true
unfolding prefixes_of begins
prefix_begins [] m = absurd (not-nil m)
prefix_begins {p} (a ∷ w) m = go (cases m) (λ q k. prefix_begins {p = q} w k)
  where
    go : (p ≡ a ∷ []) ⊎ In p (map (λ q. a ∷ q) (prefixes_of w))
        → ((q : List ℕ) → In q (prefixes_of w) → begins q w ≡ true) → begins p (a ∷ w) ≡ true
    go (inl e) ih = rw e (and_in (eq-eqb a a refl) refl)
    go (inr k) ih =
        let t = Memᴰ.of_map (λ q. a ∷ q) (prefixes_of w) k in rw (← t.2) (and_in (eq-eqb a a refl) (ih t.0 t.1))

pub begins_prefix : (a : ℕ) (p w : List ℕ) → begins (a ∷ p) w ≡ true → In (a ∷ p) (prefixes_of w)
unfolding prefixes_of begins
begins_prefix a p [] h = absurd (false≢true h)
begins_prefix a [] (b ∷ w) h = rw (eqb-true a b (and-out (eqb a b) true h).0) (here refl)
begins_prefix a (c ∷ p) (b ∷ w) h =
    let u = and-out (eqb a b) (begins (c ∷ p) w) h in
    rw (eqb-true a b u.0) (there (Memᴰ.map (λ q. b ∷ q) (begins_prefix c p w u.1)))

-- a prefix has a letter
lettered : {p : List ℕ} (w : List ℕ) → In p (prefixes_of w) → Before [] p
unfolding prefixes_of precedes
lettered [] m = absurd (not-nil m)
lettered {p} (a ∷ w) m = ⊎_elim
    (λ e. rw e refl)
    (λ k. let t = Memᴰ.of_map (λ q. a ∷ q) (prefixes_of w) k in rw (← t.2) refl)
    (cases m)

prefixes-sorted : (w : List ℕ) → Sorted (prefixes_of w)
unfolding prefixes_of
prefixes-sorted [] = none
prefixes-sorted (a ∷ w) = next {a = a ∷ []}
    (λ q m. let t = Memᴰ.of_map (λ q. a ∷ q) (prefixes_of w) m in
    rw (← t.2) (before-rest a [] t.0 (lettered w t.1)))
    (pairs-map (λ q. a ∷ q) (prefixes-sorted w) (λ x y i j h. before-rest a x y h))

-- ---- words between two that begin with a prefix begin with it

pub between : (p x y z : List ℕ) → Before x y → Before y z → begins p x ≡ true → begins p z ≡ true → begins p y ≡ true
unfolding begins precedes
between [] x y z h k b e = refl
between (c ∷ p) [] y z h k b e = absurd (false≢true b)
between (c ∷ p) (a ∷ x) [] z h k b e = absurd (false≢true h)
between (c ∷ p) (a ∷ x) (d ∷ y) [] h k b e = absurd (false≢true k)
between (c ∷ p) (a ∷ x) (d ∷ y) (f ∷ z) h k b e =
    go (before-cases a d x y h) (before-cases d f y z k) (and-out (eqb c a) (begins p x) b)
    (and-out (eqb c f) (begins p z) e) (between p x y z)
  where
    go : (a < d) ⊎ ((a ≡ d) × Before x y) → (d < f) ⊎ ((d ≡ f) × Before y z) → (eqb c a ≡ true) × (begins p x ≡ true)
        → (eqb c f ≡ true) × (begins p z ≡ true)
        → (Before x y → Before y z → begins p x ≡ true → begins p z ≡ true → begins p y ≡ true)
        → eqb c d && begins p y ≡ true
    go (inl q) (inl r) b e ih = absurd (omega (arith, eqb-true c a b.0, eqb-true c f e.0))
    go (inl q) (inr r) b e ih = absurd (omega (arith, eqb-true c a b.0, eqb-true c f e.0, r.0))
    go (inr q) (inl r) b e ih = absurd (omega (arith, eqb-true c a b.0, eqb-true c f e.0, q.0))
    go (inr q) (inr r) b e ih = and_in (eq-eqb c d (eqb-true c a b.0 ∙ q.0)) (ih q.1 r.1 b.1 e.1)

-- a prefix of x stands before a prefix of a later z that x does not begin with
apart : (p q x z : List ℕ) → Before x z → begins p x ≡ true → begins q z ≡ true → begins q x ≡ false → Before p q
unfolding begins precedes
apart p [] x z h b e n = absurd (true≢false n)
apart [] (c ∷ q) x z h b e n = refl
apart (a ∷ p) (c ∷ q) [] z h b e n = absurd (false≢true b)
apart (a ∷ p) (c ∷ q) (d ∷ x) [] h b e n = absurd (false≢true h)
apart (a ∷ p) (c ∷ q) (d ∷ x) (f ∷ z) h b e n =
    go (before-cases d f x z h) (and-out (eqb a d) (begins p x) b) (and-out (eqb c f) (begins q z) e) n (apart p q x z)
  where
    go : (d < f) ⊎ ((d ≡ f) × Before x z) → (eqb a d ≡ true) × (begins p x ≡ true)
        → (eqb c f ≡ true) × (begins q z ≡ true) → eqb c d && begins q x ≡ false
        → (Before x z → begins p x ≡ true → begins q z ≡ true → begins q x ≡ false → Before p q)
        → Before (a ∷ p) (c ∷ q)
    go (inl k) b e n ih = before-letter a c p q (omega (arith, eqb-true a d b.0, eqb-true c f e.0))
    go (inr k) b e n ih =
        let s : c ≡ d = eqb-true c f e.0 ∙ sym k.0 in
        let t : a ≡ c = eqb-true a d b.0 ∙ sym s in
        let o : begins q x ≡ false = rw (eq-eqb c d s) at n in
        rw t (before-rest c p q (ih k.1 b.1 e.1 o))

-- ---- each prefix at the first word that has it

pub fresh-out : {q : List ℕ} (y : List ℕ) (ws : List (List ℕ)) → In q (fresh_from y ws)
    → (w : List ℕ) × In w ws × In q (prefixes_of w)
unfolding fresh_from
fresh-out y [] m = absurd (not-nil m)
fresh-out {q} y (w ∷ ws) m = ⊎_elim
    (λ k. (w, here refl, (select_out (λ p. not (begins p y)) (prefixes_of w) k).0))
    (λ k. let t = fresh-out w ws k in (t.0, there t.1, t.2))
    (append_cases (select (λ p. not (begins p y)) (prefixes_of w)) m)

fresh-new : {q : List ℕ} (y : List ℕ) (ws : List (List ℕ)) → Sorted (y ∷ ws) → In q (fresh_from y ws)
    → begins q y ≡ false
unfolding fresh_from
fresh-new y [] s m = absurd (not-nil m)
fresh-new {q} y (w ∷ ws) (next r (next o p)) m = ⊎_elim
    (λ k. not-true (begins q y) (select_out (λ p. not (begins p y)) (prefixes_of w) k).1)
    (λ k. go (begins q y) refl (fresh-new w ws (next o p) k) (fresh-out w ws k))
    (append_cases (select (λ p. not (begins p y)) (prefixes_of w)) m)
  where
    go : (b : Bool) → begins q y ≡ b → begins q w ≡ false → (z : List ℕ) × In z ws × In q (prefixes_of z) → b ≡ false
    go false e n t = refl
    go true e n t =
        absurd (true≢false
        (sym (between q y w t.0 (r w (here refl)) (o t.0 t.1) e (prefix_begins t.0 t.2)) ∙ n))

fresh_in : (a : ℕ) (q : List ℕ) {w : List ℕ} (y : List ℕ) {ws : List (List ℕ)} → In w ws → In (a ∷ q) (prefixes_of w)
    → begins (a ∷ q) y ≡ false → In (a ∷ q) (fresh_from y ws)
unfolding fresh_from
fresh_in a q y (here {x = v} {xs = ws} e) m n =
    Memᴰ.append_left (fresh_from v ws) (select_in (λ p. not (begins p y)) (rw e at m) (not_in n))
fresh_in a q y (there {x = v} {xs = ws} k) m n = go (begins (a ∷ q) v) refl (fresh_in a q v k m)
  where
    go : (b : Bool) → begins (a ∷ q) v ≡ b → (begins (a ∷ q) v ≡ false → In (a ∷ q) (fresh_from v ws))
        → In (a ∷ q) (select (λ p. not (begins p y)) (prefixes_of v) ++ fresh_from v ws)
    go true e ih =
        Memᴰ.append_left (fresh_from v ws) (select_in (λ p. not (begins p y)) (begins_prefix a q v e) (not_in n))
    go false e ih = Memᴰ.append_right (select (λ p. not (begins p y)) (prefixes_of v)) (ih e)

fresh-sorted : (y : List ℕ) (ws : List (List ℕ)) → Sorted (y ∷ ws) → Sorted (fresh_from y ws)
unfolding fresh_from
fresh-sorted y [] s = none
fresh-sorted y (w ∷ ws) (next r (next o p)) =
    pairs-append Before (pairs-select (λ p. not (begins p y)) (prefixes-sorted w)) (fresh-sorted w ws (next o p))
    (λ a b i j.
    let t = fresh-out w ws j in
    apart a b w t.0 (o t.0 t.1) (prefix_begins w (select_out (λ p. not (begins p y)) (prefixes_of w) i).0)
    (prefix_begins t.0 t.2)
    (fresh-new w ws (next o p) j))

-- no prefix is empty, and the empty word begins with none
pub empty : (w : List ℕ) → In [] (prefixes_of w) → ⊥
unfolding precedes
empty w m = false≢true (lettered w m)

none-begins : (a : ℕ) (q : List ℕ) → begins (a ∷ q) [] ≡ false
unfolding begins
none-begins a q = refl

-- so the prefixes in dictionary order are found by comparing each word with the one before it
pub fresh-prefixes : (ws : List (List ℕ)) → Sorted ([] ∷ ws) → fresh_from [] ws ≡ prefixes ws
unfolding prefixes
fresh-prefixes ws s = sorted_unique (fresh-sorted [] ws s) (order-sorted (flat_map prefixes_of ws))
    (λ q. (to q, back q))
  where
    to : (q : List ℕ) → In q (fresh_from [] ws) → In q (prefixes ws)
    to q m = let t = fresh-out [] ws m in order-in (mem_flat_map prefixes_of t.1 t.2)

    back : (q : List ℕ) → In q (prefixes ws) → In q (fresh_from [] ws)
    back q m = let t = of_flat_map prefixes_of ws (order-out (flat_map prefixes_of ws) m) in go q t.1 t.2
      where
        go : (q : List ℕ) {w : List ℕ} → In w ws → In q (prefixes_of w) → In q (fresh_from [] ws)
        go [] {w} i j = absurd (empty w j)
        go (a ∷ q) i j = fresh_in a q [] i j (none-begins a q)

-- ---- what follows a prefix, in the words that begin with it

select-every : {A : Type 0} (p : A → Bool) (l : List A) → ((a : A) → In a l → p a ≡ true) → select p l ≡ l
unfolding select
select-every p [] h = refl
select-every p (a ∷ l) h = rw (h a (here refl)) (ap (λ m. a ∷ m) (select-every p l (λ b m. h b (there m))))

map_whole : (l : List (List ℕ)) → map (drop 0) l ≡ l
map_whole [] = refl
map_whole (w ∷ l) = ap (λ m. w ∷ m) (map_whole l)

pub select-append : {A : Type 0} (p : A → Bool) (l m : List A) → select p (l ++ m) ≡ select p l ++ select p m
unfolding select
select-append p [] m = refl
select-append p (a ∷ l) m = go (p a) (select-append p l m)
  where
    go : (t : Bool) → select p (l ++ m) ≡ select p l ++ select p m
        → cond t (a ∷ select p (l ++ m)) (select p (l ++ m)) ≡ cond t (a ∷ select p l) (select p l) ++ select p m
    go true e = ap (λ k. a ∷ k) e
    go false e = e

after-select : (n a : ℕ) (p : List ℕ) (ws : List (List ℕ))
    → map (drop n) (select (begins p) (after a ws)) ≡ map (drop (suc n)) (select (begins (a ∷ p)) ws)
unfolding after select begins
after-select n a p [] = refl
after-select n a p ([] ∷ ws) = after-select n a p ws
after-select n a p ((b ∷ w) ∷ ws) = go (eqb a b) (begins p w) refl (after-select n a p ws)
  where
    go : (s t : Bool) → begins p w ≡ t
        → map (drop n) (select (begins p) (after a ws)) ≡ map (drop (suc n)) (select (begins (a ∷ p)) ws)
        → map (drop n) (select (begins p) (cond s (w ∷ after a ws) (after a ws)))
        ≡ map (drop (suc n)) (cond (s && t) ((b ∷ w) ∷ select (begins (a ∷ p)) ws) (select (begins (a ∷ p)) ws))
    go false t e ih = ih
    go true true e ih = rw e (ap (λ l. drop n w ∷ l) ih)
    go true false e ih = rw e ih

pub rest-select : (p : List ℕ) (ws : List (List ℕ)) → continuations p ws ≡ map (drop (length p)) (select (begins p) ws)
unfolding continuations begins
rest-select [] ws = sym (map_whole (select (begins []) ws) ∙ select-every (begins []) ws (λ w m. refl))
rest-select (a ∷ p) ws = rest-select p (after a ws) ∙ after-select (length p) a p ws

-- ---- the run of words that begin with a prefix ends with its neighbours

pub none_after : (p w y z : List ℕ) → Before w y → Before y z → begins p w ≡ true → begins p y ≡ false
    → begins p z ≡ false
none_after p w y z h k b n = go (begins p z) refl
  where
    go : (t : Bool) → begins p z ≡ t → t ≡ false
    go false e = refl
    go true e = absurd (true≢false (sym (between p w y z h k b e) ∙ n))

pub none_before : (p x z w : List ℕ) → Before x z → Before z w → begins p w ≡ true → begins p z ≡ false
    → begins p x ≡ false
none_before p x z w h k b n = go (begins p x) refl
  where
    go : (t : Bool) → begins p x ≡ t → t ≡ false
    go false e = refl
    go true e = absurd (true≢false (sym (between p x z w h k e b) ∙ n))

-- a run of words that all begin with it, where none before and none behind does
pub run : (p : List ℕ) (xs r ys : List (List ℕ)) → ((w : List ℕ) → In w xs → begins p w ≡ false)
    → ((w : List ℕ) → In w r → begins p w ≡ true) → ((w : List ℕ) → In w ys → begins p w ≡ false)
    → continuations p (xs ++ (r ++ ys)) ≡ map (drop (length p)) r
run p xs r ys h k l =
    rest-select p (xs ++ (r ++ ys))
    ∙ ap (map (drop (length p)))
    (select-append (begins p) xs (r ++ ys)
    ∙ ap₂ ◌++◌ (select-none (begins p) xs h)
    (select-append (begins p) r ys
    ∙ ap₂ ◌++◌ (select-every (begins p) r k) (select-none (begins p) ys l)
    ∙ append-nil r))
