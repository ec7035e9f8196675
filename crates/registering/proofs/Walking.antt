-- The walk, step by step: what holds between words holds at the start of a word; a letter more puts a node behind the
-- others, or finds that its run of words can be passed over, or that there is no room; and what holds after the last
-- word is what the walk is for. Assumes nothing.
use Prim.Native.Nat.{ℕ, zero, suc, ◌+◌, ◌*◌, ◌≤◌, ◌<◌}
use mathlib.Core.Path.{◌≡◌, refl, sym, ap, subst, ◌∙◌}
use mathlib.Core.Bool.{true}
use mathlib.Core.List.{List, [], ◌∷◌, ◌++◌, append-nil, append_assoc, Memᴰ as In}
use native.Mathlib.Numerals.{add-one}
use native.Mathlib.Decide.{ℕ_discrete}
use native.Mathlib.Omega.{arith}
use lib.ListN.{length, get_or, take, set, length-take}
use lib.Seq.{get_or-set_same, get_or-set_other}
use Rattle.std.specs.Prelude.{Some, None}
use Rattle.canonical.specs.Nodes.{Node, distinct, node_of}
use Rattle.canonical.specs.Groups.{begins, common}
use Rattle.canonical.proofs.Nodes.{distinct-out}
use Rattle.sorting.specs.Slots.{word_at, words_from}
use Rattle.sorting.proofs.SlotWords.{words-out}
use Rattle.registering.specs.declared.Row.{Row}
use Rattle.registering.specs.Register.{Words, previous, Shared, Group, no_row, row_node, node_at, node_in}
use Rattle.registering.specs.Register.{registered, Register, Chained, Full, Built, Unknown, Added, Entered}
use Rattle.registering.specs.Register.{known, added, full}
use Rattle.registering.specs.Walking.{fresh_all, fresh_to, ahead, within, Walked, Walking}
use Rattle.registering.proofs.Common.{common-most, common-short}
use Rattle.registering.proofs.Runs.{previous_of, letters_of, in_order, ordered, run-node}
use Rattle.registering.proofs.Fresh.{to-next, to_none, all-next, all_none, all_reached, longest-row}
use Rattle.registering.proofs.PassedRuns.{run-passed}
use Rattle.registering.proofs.Registered.{registered_in, registered-more, unknown_next, unknown_length}
use Rattle.registering.proofs.Linking.{Kept, Filled, gap_shared, fill, filled_on, filled-end}

module _ {t : List ℕ} {n : ℕ} {shared : List ℕ} (w : Words t n) (s : Shared t n shared) where
  -- ---- letters shared

  -- a word begins with more letters than it shares with the word before it
  pub shared_short : (i : ℕ) → i < n → get_or shared i 0 < get_or t (33 * i) 0
  unfolding previous common
  shared_short zero h = omega (arith, s.letters 0 h, w.some 0 h)
  shared_short (suc k) h =
      omega (
        arith,
        s.letters (suc k) h,
        common-short (word_at t k) (word_at t (suc k)) (ordered w k (suc k) (omega arith) h),
        letters_of w h,
      )

  -- words of a group that are not its first share its letters
  alike : {f m d top mark : ℕ} → Group t n f m d top mark → (k : ℕ) → f < k → k < f + m → d ≤ get_or shared k 0
  alike {f} {m} {d} g zero h l = absurd (omega arith)
  alike {f} {m} {d} g (suc k) h l =
      let inside = g.reach.inside in
      let e = s.letters (suc k) (omega arith) ∙ ap (λ v. common v (word_at t (suc k))) (previous_of t k refl) in
      let most = common-most (take d (word_at t f)) (word_at t k) (word_at t (suc k))
      (g.reach.have k (omega arith) (omega arith)) (g.reach.have (suc k) (omega arith) l) in
      omega (arith, e, most, length-take d (word_at t f), letters_of w {i = f} (omega arith), g.letters)

  -- ---- between words

  pub walk_first : {rows : List Row} {chains links : List ℕ} → Register t n rows 0 → Chained t rows chains 0
      → length links ≡ 2400 → Walked t n shared rows chains links 0 0
  unfolding registered distinct
  walk_first g c l = record {
    register = g;
    chained = c;
    nodes = ap distinct (sym (all_none t n));
    before = λ r h. absurd (omega arith);
    linked = record {
      long = l;
      down = λ r h. absurd (omega arith);
      across = λ j r h. absurd (omega arith);
      root = λ j h. absurd (omega arith);
    };
  }

  pub walk-done : {rows : List Row} {chains links : List ℕ} {count : ℕ}
      → Walked t n shared rows chains links count n → Built t n shared rows links count
  walk-done {rows} {count} p = record {
    register = p.register;
    nodes = p.nodes ∙ all_reached w;
    links = record {
      long = p.linked.long;
      down = λ r k. p.linked.down r k (omega (arith, p.register.few));
      across = λ i r k a b. p.linked.across i r (omega (arith, (p.register.groups r k).reach.inside)) k a b;
      root = p.linked.root;
    };
  }

  pub walk_start : {rows : List Row} {chains links : List ℕ} {count i : ℕ} → i < n
      → Walked t n shared rows chains links count i
      → Walking t n shared rows chains links count i (get_or shared i 0) (400 + i)
  walk_start {i = i} low p = record {
    register = p.register;
    chained = p.chained;
    nodes =
        let none = to_none t n i (get_or shared i 0) (omega (arith, s.letters i low)) in
        p.nodes ∙ ap distinct (sym (ap (λ l. fresh_all t n i ++ l) none ∙ append-nil (fresh_all t n i)));
    before = λ r h. omega (arith, p.before r h);
    own = λ r h e. absurd (omega (arith, p.before r h));
    linked = p.linked;
    gap = ahead refl;
  }

  -- ---- at the end of a word

  module _ {rows : List Row} {chains links : List ℕ} {count i d link : ℕ} (low : i < n)
      (p : Walking t n shared rows chains links count i d link) where
    pub walk_end : d ≡ get_or t (33 * i) 0 → Walked t n shared rows chains links count (i + 1)
    walk_end e = record {
      register = p.register;
      chained = p.chained;
      nodes = p.nodes
          ∙ ap distinct
          (ap (λ k. fresh_all t n i ++ fresh_to t n i k) e
          ∙ sym (all-next n (w.holds i low))
          ∙ ap (fresh_all t n) (sym (add-one i)));
      before = λ r h. omega (arith, p.before r h);
      linked =
          filled_on (i + 1) (400 + (i + 1))
          (filled-end p.register.few p.linked p.gap e (omega (arith, shared_short i low)))
          (λ j a b. absurd (omega arith)) (λ j a b. absurd (omega arith));
    }

    -- ---- a letter more

    module _ (long : d < get_or t (33 * i) 0) {m top mark : ℕ} (g : Group t n i m (d + 1) top mark) where
      abbrev x : Node
      x = node_of (words_from t 0 n) (take (d + 1) (word_at t i))

      abbrev row : List Node
      row = fresh_all t n i ++ fresh_to t n i d

      row_next : fresh_all t n i ++ fresh_to t n i (d + 1) ≡ row ++ x ∷ []
      row_next =
          ap (λ l. fresh_all t n i ++ l) more ∙ sym (append_assoc (fresh_all t n i) (fresh_to t n i d) (x ∷ []))
        where
          more : fresh_to t n i (d + 1) ≡ fresh_to t n i d ++ x ∷ []
          more = rw add-one (to-next t n i d (omega (arith, letters_of w low)) (rw add-one at g.new))

      -- there is no room for it
      walk-full : count ≡ 400 → Unknown t rows count (node_at t i m (d + 1)) → Full t n
      walk-full e new =
          let size = unknown_length t rows count x row (rw (run-node w g) at new) p.nodes in
          omega (arith, size, ap (λ l. length (distinct l)) row_next, longest-row w i (d + 1) low (omega arith))

      -- its node is known: no word of its run wants a link
      passed : (k : ℕ) → k ≡ m → In x row → distinct (fresh_all t n (i + k)) ≡ distinct row
      passed zero e found = absurd (omega (arith, g.reach.one))
      passed (suc k) e found =
          run-passed t n i d k (in_order w) (omega (arith, letters_of w low)) (omega (arith, g.reach.inside))
          (rw add-one at g.new) have (rw add-one at found)
        where
          have : (z : List ℕ) → In z (words_from t i (suc k)) → begins (take (suc d) (word_at t i)) z ≡ true
          have z j =
              let u = words-out t i (suc k) j in
              rw (u.3, ← add-one d) (g.reach.have u.0 u.1 (omega (arith, u.2)))

      none : (j : ℕ) → i < j → j < i + m → (r : ℕ) → r < count → (get_or rows r no_row).first < j
          → j < (get_or rows r no_row).first + (get_or rows r no_row).many
          → ¬ (get_or shared j 0 ≡ (get_or rows r no_row).depth)
      none j a b r h c e q =
          let more = alike g j a b in
          elim (ℕ_discrete (get_or rows r no_row).first i) [
            | yes f ↦ omega (arith, p.own r h f)
            | no f ↦
                let first = p.before r h in
                omega (arith, alike (p.register.groups r h) i (omega arith) (omega arith), gap_shared p.gap)
          ]

      walk-known : {rows' : List Row} {chains' : List ℕ} {r : ℕ} → r < count → rows' ≡ rows
          → node_in t rows r ≡ node_at t i m (d + 1) → Chained t rows' chains' count
          → Walked t n shared rows' chains' (set links link r) count (i + m)
      walk-known {rows'} {chains'} {r} h e q c = rw e (record {
        register = p.register;
        chained = rw e at c;
        nodes = p.nodes ∙ sym (passed m refl found);
        before = λ k l. omega (arith, p.before k l, g.reach.one);
        linked = filled_on (i + m) (400 + (i + m)) filled none (λ j a b. omega (arith, alike g j a b));
      })
        where
          same : node_in t rows r ≡ x
          same = q ∙ run-node w g

          found : In x row
          found =
              distinct-out row
              (subst (λ l. In x l) p.nodes
              (subst (λ y. In y (registered t rows 0 count)) same (registered_in t rows count r h)))

          filled : Filled t n shared rows (set links link r) count count i
          filled =
              fill p.register.few (omega (arith, w.few)) p.linked p.gap (λ k l. refl) (omega arith)
              (record { inside = h; node = same })

      -- its node is put behind the others
      walk-added : {rows' : List Row} {chains' : List ℕ} → count < 400
          → Unknown t rows count (node_at t i m (d + 1))
          → Added t n rows count i m (d + 1) rows' → Chained t rows' chains' (count + 1)
          → Walking t n shared rows' chains' (set links link count) (count + 1) i (d + 1) count
      unfolding row_node
      walk-added {rows'} {chains'} room new a c = record {
        register = a.register;
        chained = c;
        nodes = ap (λ q. registered t q 0 (count + 1)) a.put
            ∙ registered-more t rows count a.row inside
            ∙ ap (λ y. registered t rows 0 count ++ y ∷ []) node
            ∙ sym (unknown_next t rows count x row (rw (run-node w g) at new) p.nodes)
            ∙ ap distinct (sym row_next);
        before = λ r h. elim (ℕ_discrete r count) [
          | yes e ↦ omega (arith, first-of r e)
          | no e ↦ rw (kept r (omega arith)) (p.before r (omega arith))
        ];
        own = λ r h. elim (ℕ_discrete r count) [
          | yes e ↦ λ f. omega (arith, depth-of r e)
          | no e ↦ rw (kept r (omega arith)) (λ f. omega (arith, p.own r (omega arith) f))
        ];
        linked = record {
          long = filled.long;
          down = λ r h e. filled.down r (omega arith);
          across = λ j r h k b. elim (ℕ_discrete r count) [
            | yes e ↦ absurd (omega (arith, first-of r e))
            | no e ↦ filled.across j r h (omega arith) b
          ];
          root = filled.root;
        };
        gap =
            within {r = count} (omega arith) (first-of count refl) (depth-of count refl)
            (omega (arith, gap_shared p.gap)) filled.entry;
      }
        where
          inside : count < length rows
          inside = omega (arith, p.register.long)

          here : (r : ℕ) → r ≡ count → get_or rows' r no_row ≡ a.row
          here r e =
              ap (λ q. get_or q r no_row) a.put
              ∙ ap (λ k. get_or (set rows count a.row) k no_row) e
              ∙ get_or-set_same rows count a.row no_row inside

          kept : Kept rows rows' count
          kept r h = ap (λ q. get_or q r no_row) a.put ∙ get_or-set_other rows count r a.row no_row (omega arith)

          first-of : (r : ℕ) → r ≡ count → (get_or rows' r no_row).first ≡ i
          first-of r e = ap (λ row. row.first) (here r e) ∙ a.first

          depth-of : (r : ℕ) → r ≡ count → (get_or rows' r no_row).depth ≡ d + 1
          depth-of r e = ap (λ row. row.depth) (here r e) ∙ a.depth

          node : row_node t a.row ≡ x
          node = rw (a.first, a.many, a.depth) (run-node w g)

          filled : Filled t n shared rows' (set links link count) count (count + 1) i
          filled =
              fill p.register.few (omega (arith, w.few)) p.linked p.gap kept (omega arith)
              (record { inside = omega arith; node = ap (row_node t) (here count refl) ∙ node })

      -- ---- by what the lookup answers

      module _ {rows' : List Row} {chains' : List ℕ} where
        pub step-known : {r : ℕ} → Entered t n rows count i m (d + 1) rows' chains' (Some r) → r < count
            → Walked t n shared rows' chains' (set links link r) count (i + m)
        step-known (known h e q c) l = walk-known h e q c
        step-known (added room new a c) l = absurd (omega arith)

        pub step-full : Entered t n rows count i m (d + 1) rows' chains' None → Full t n
        step-full (full e new k) = walk-full e new

        pub step_added : {r : ℕ} → Entered t n rows count i m (d + 1) rows' chains' (Some r) → count ≤ r
            → Walking t n shared rows' chains' (set links link r) (count + 1) i (d + 1) r
        step_added (known h e q c) l = absurd (omega arith)
        step_added (added room new a c) l = walk-added room new a c
