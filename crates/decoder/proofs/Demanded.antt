-- The first n of the row meet demand 3, so what decoding leaves meets it; and only they do, so demand 3 determines the list. A word of an
-- accepted lexicon that has a permitted state path has one hit, which stands in the row, among the first n or behind them; as the row is ordered,
-- the first n stand before all others. Assumes nothing.
use Prim.Native.Nat.{ℕ, ◌-◌, ◌≤◌, ◌<◌}
use mathlib.Core.Path.{◌≡◌, refl, sym, ◌∙◌}
use mathlib.Core.Logic.{◌⊎◌, inl, inr, ⊎_elim}
use mathlib.Core.List.Memᴰ
use mathlib.Core.List.{List, [], Memᴰ}
use mathlib.Core.Option.{Option, none, some}
use native.Mathlib.Omega.{arith}
use native.Mathlib.Decide.{ℕ_discrete, dec_lt}
use lib.IntN.{ℤ, pos}
use lib.ListN.{length, take, length-take}
use lib.Seq.{get_or-take}
use Rattle.endian.proofs.Integers.{ints}
use Rattle.endian.proofs.Lists.{mem_get_d, index_of, take_out, some_or_none}
use Rattle.endian.proofs.Pairs.{pairs_of_places, first-of}
use Rattle.endian.proofs.Pigeonhole.{pigeonhole}
use Rattle.call.specs.Table.{Answer}
use Rattle.graph.specs.Graph.{graph_of, path_code}
use Rattle.graph.specs.Words.{LexiconWord}
use Rattle.graph.specs.Checking.{Accepted}
use Rattle.ranking.specs.Hits.{Hit, hit, ◌≻◌}
use Rattle.ranking.proofs.Hits.{hit-path}
use Rattle.ranking.proofs.Ranked.{≻-trans, ≻-asym}
use Rattle.decoder.specs.Decoding.{path_score, decode_answer, decode_out}
use Rattle.decoder.specs.Demand.{hit_at, Different, HasPath, HasNoPath, IsTrueScore, Names, Off, BehindLast, Demand3, IsRow, decoded_list, MeetsDemand3, DecodingMeetsDemand3, Demand3Determines}
use Rattle.decoder.proofs.Listed.{TrueHit, is-path-score, no-path-score, path_names, one_code, is_row, answered, decoded-first, lists_the_row}

-- what `hit_at` reads past the end
abbrev nothing : Hit
nothing = hit (pos 0) 0

module _ (v x frames : List ℕ) (ok : Accepted v x) where
  -- ---- a word has one hit

  -- a true hit has the true score of the word that it names
  its_score : {word : List ℕ} {h : Hit} → TrueHit v x frames h → Names v (graph_of x) frames h word
      → IsTrueScore v (graph_of x) frames word h.score
  its_score t N = rw (sym t.1.is_word ∙ N.is_word) at t.3

  one_hit : {word : List ℕ} {h k : Hit} → TrueHit v x frames h → TrueHit v x frames k → Names v (graph_of x) frames h word
      → Names v (graph_of x) frames k word → h ≡ k
  one_hit {word} {h} {k} s t N M =
      let a = its_score s N in
      let b = its_score t M in
      let le = b.highest h.score a.attained in
      let ge = a.highest k.score b.attained in
      hit-path (omega (arith, ints)) (one_code v x frames ok N M)

  module _ {r : List Hit} (R : IsRow v (graph_of x) frames r) where
    -- it has no permitted state path, or its hit is in the row
    hit_in_row : {word : List ℕ} → LexiconWord v (graph_of x) word
        → HasNoPath v (graph_of x) frames word ⊎ ((h : Hit) × Memᴰ h r × Names v (graph_of x) frames h word)
    hit_in_row {word} w = by (path_score v (graph_of x) w.path frames) refl
      where
        by : (o : Option ℤ) → path_score v (graph_of x) w.path frames ≡ o
            → HasNoPath v (graph_of x) frames word ⊎ ((h : Hit) × Memᴰ h r × Names v (graph_of x) frames h word)
        by none e = inl (no-path-score v x frames ok w e)
        by (some a) e =
            let h = hit a (path_code (graph_of x) w.path) in
            let N = path_names v x frames ok w a in
            inr (h, R.every h word N w ((is-path-score v x frames ok w a).0 e), N)

    -- ---- the first n of the row

    module _ (n : ℕ) where
      at_first : (i : ℕ) → i < length (take n r) → hit_at (take n r) i ≡ hit_at r i
      at_first i l = get_or-take n r i nothing (omega (arith, length-take n r))

      -- the word's hit stands in the row, but not among its first n
      record Beyond (word : List ℕ) : Type 0 where
        itself : Hit
        in_row : Memᴰ itself r
        names : Names v (graph_of x) frames itself word
        past : n ≤ (index_of nothing in_row).index

      off_first : {word : List ℕ} → LexiconWord v (graph_of x) word → Off v (graph_of x) frames (take n r) word
          → HasNoPath v (graph_of x) frames word ⊎ Beyond word
      off_first {word} w o = ⊎_elim inl (λ s. inr (beyond s.0 s.1 s.2)) (hit_in_row w)
        where
          beyond : (h : Hit) → Memᴰ h r → Names v (graph_of x) frames h word → Beyond word
          beyond h m N =
              let p = index_of nothing m in
              elim (dec_lt p.index n) [
                | yes l ↦
                    let k : p.index < length (take n r) = omega (arith, length-take n r, p.inside) in
                    absurd (o h (Memᴰ.cast (sym (at_first p.index k ∙ p.holds)) (mem_get_d (take n r) p.index nothing k)) N)
                | no f ↦ record { itself = h; in_row = m; names = N; past = omega arith }
              ]

      behind_last : {word : List ℕ} → 1 ≤ n → Beyond word → BehindLast v (graph_of x) frames (take n r) word
      behind_last wanted B =
          let p = index_of nothing B.in_row in
          let full : length (take n r) ≡ n = omega (arith, length-take n r, p.inside, B.past) in
          record {
            score = B.itself.score;
            code = B.itself.code;
            is_true = its_score (R.each B.itself B.in_row) B.names;
            is_code = B.names;
            listed_some = omega arith;
            behind = rw (full, at_first (n - 1) (omega arith), ← p.holds) (R.ordered (n - 1) p.index (omega (arith, B.past)) p.inside);
          }

      -- there are as many hits as words that have a permitted state path
      enough : (ws : List (List ℕ)) → Different ws
          → ((w : List ℕ) → Memᴰ w ws → LexiconWord v (graph_of x) w × HasPath v (graph_of x) frames w) → length ws ≤ length r
      enough ws d f =
          pigeonhole (Names v (graph_of x) frames) (λ h w u N M. sym N.is_word ∙ M.is_word) r (pairs_of_places _ [] ws d)
          (λ w m. let p = f w m in ⊎_elim (λ z. absurd (z p.1.0 p.1.1)) (λ s. s) (hit_in_row p.0))

      pub first_meets : 1 ≤ n → Demand3 v (graph_of x) frames n (take n r)
      first_meets wanted = record {
        listed = λ h m. R.each h (take_out n r m);
        differ = λ i j word l k N M. let s = rw (one_hit (true_at i (omega arith)) (true_at j k) N M) at (falls i j l k) in ≻-asym s s;
        ordered = falls;
        at_most = omega (arith, length-take n r);
        full = λ ws d f k. omega (arith, length-take n r, enough ws d f);
        off = λ word w o. ⊎_elim inl (λ B. inr (behind_last wanted B)) (off_first w o);
        short = λ k word w o.
            ⊎_elim (λ z. z)
            (λ B. absurd (omega (arith, length-take n r, (index_of nothing B.in_row).inside, B.past)))
            (off_first w o);
      }
        where
          true_at : (i : ℕ) → i < length (take n r) → TrueHit v x frames (hit_at (take n r) i)
          true_at i l = R.each (hit_at (take n r) i) (take_out n r (mem_get_d (take n r) i nothing l))

          falls : (i j : ℕ) → i < j → j < length (take n r) → hit_at (take n r) i ≻ hit_at (take n r) j
          falls i j l k = rw (at_first i (omega arith), at_first j k) (R.ordered i j l (omega (arith, length-take n r)))

    -- ---- no other list meets it

    module _ (n : ℕ) (hs : List Hit) (D : Demand3 v (graph_of x) frames n hs) where
      -- what stands behind the last stands behind all
      behind_all : {h : Hit} → hit_at hs (length hs - 1) ≻ h → (b : Hit) → Memᴰ b hs → b ≻ h
      behind_all o b m =
          let p = index_of nothing m in
          let last = length hs - 1 in
          rw (← p.holds) (elim (ℕ_discrete p.index last) [
            | yes e ↦ rw e o
            | no f ↦ ≻-trans (D.ordered p.index last (omega (arith, p.inside)) (omega (arith, p.inside))) o
          ])

      -- a hit of the row that is not listed stands behind n that are
      listed_or_behind : (h : Hit) → Memᴰ h r → Memᴰ h hs ⊎ ((n ≤ length hs) × ((b : Hit) → Memᴰ b hs → b ≻ h))
      listed_or_behind h m = ⊎_elim (λ s. inl (listed s.0 s.1 s.2)) (λ f. inr (all_listed (off f), behind_all (behind (off f))))
          (some_or_none (λ k. ℕ_discrete k.code h.code) hs)
        where
          t : TrueHit v x frames h
          t = R.each h m

          listed : (k : Hit) → Memᴰ k hs → k.code ≡ h.code → Memᴰ h hs
          listed k i e = Memᴰ.cast (one_hit t (D.listed k i) t.1 (record { below = rw e t.1.below; is_word = rw e t.1.is_word })) i

          off : ((k : Hit) → Memᴰ k hs → ¬ (k.code ≡ h.code)) → Off v (graph_of x) frames hs t.0
          off f k i M = f k i (one_code v x frames ok M t.1)

          all_listed : Off v (graph_of x) frames hs t.0 → n ≤ length hs
          all_listed o = elim (dec_lt (length hs) n) [
            | yes l ↦ absurd (D.short l t.0 t.2 o h.score t.3.attained)
            | no l ↦ omega arith
          ]

          behind : Off v (graph_of x) frames hs t.0 → hit_at hs (length hs - 1) ≻ h
          behind o = ⊎_elim
              (λ z. absurd (z h.score t.3.attained))
              (λ B. rw (one_hit t (t.0, B.is_code, t.2, B.is_true) t.1 B.is_code) B.behind)
              (D.off t.0 t.2 o)

      pub only_first : hs ≡ take n r
      only_first =
          first-of ◌≻◌ (λ a b. ≻-asym) n (pairs_of_places ◌≻◌ nothing hs D.ordered) (pairs_of_places ◌≻◌ nothing r R.ordered) D.at_most
          (λ h m. let t = D.listed h m in R.every h t.0 t.1 t.2 t.3)
          listed_or_behind

-- ---- the theorems

pub meets_demand_3 : DecodingMeetsDemand3
meets_demand_3 v x frames work out n k e =
    let a = answered v x frames work out n k e in
    rw (decoded-first v x frames work out n k e) (first_meets v x frames a.images (is_row v x frames a.images) n a.some_wanted)

pub left_meets : (v x frames work out : List ℕ) (n : ℕ) (answer : Answer ℕ) (left : List ℕ) → answer ≡ decode_answer v x frames n work out
    → left ≡ decode_out v x frames n work out → MeetsDemand3 v x frames n answer left
unfolding decoded_list
left_meets v x frames work out n answer left e l k a =
    let q = sym e ∙ a in
    rw l (meets_demand_3 v x frames work out n k q, lists_the_row v x frames work out n k q)

pub demand_3_determines : Demand3Determines
demand_3_determines v x frames n hs ks ok D E =
    let R = is_row v x frames ok in
    only_first v x frames ok R n hs D ∙ sym (only_first v x frames ok R n ks E)
