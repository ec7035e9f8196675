-- What the sentences say of a graph they say of every graph that agrees with it below the sink: ways, their letters and
-- full paths are the same in both. Assumes nothing.
use Prim.Native.Nat.{ℕ, ◌<◌}
use mathlib.Core.Path.{◌≡◌, sym, ap, subst, ◌∙◌}
use mathlib.Core.List.{List, [], ◌∷◌, ◌++◌, Memᴰ as In}
use native.Mathlib.Omega.{arith}
use Rattle.graph.specs.Graph.{Graph, sink, ArcPath, arrived, along, FullPath, from_root, path_letters}
use Rattle.image.proofs.Same.{Agree}
use Rattle.canonical.specs.Theorems.{Continues, Longest, Reaches, FirstReaches, successor_letters, CanonicalGraph}
use Rattle.canonical.proofs.Agreeing.{same-sink, same-letters}

agree-back : {g h : Graph} → Agree g h → Agree h g
unfolding sink
agree-back a = record {
  nodes = sym a.nodes;
  letters = λ k l. sym (a.letters k (omega (arith, a.nodes)));
  successors = λ k. sym (a.successors (omega (arith, a.nodes)));
}

module _ {g h : Graph} (a : Agree g h) where
  arcs-kept : {u : ℕ} {p : List ℕ} → ArcPath g u p → ArcPath h u p
  arcs-kept (arrived e) = arrived (e ∙ sym (same-sink a))
  arcs-kept {u} (along {s} k m w) =
      along {u = u} (rw (same-sink a) k) (subst (λ l. In s l) (sym (a.successors k)) m) (arcs-kept w)

  continues-kept : {u : ℕ} {w : List ℕ} → Continues g u w → Continues h u w
  continues-kept c = record {
    way = c.way;
    arcs = arcs-kept c.arcs;
    spells = same-letters a c.way ∙ c.spells;
  }

  full-kept : {p : List ℕ} → FullPath g p → FullPath h p
  full-kept (from_root w) = from_root (arcs-kept w)

  reaches-kept : {p : List ℕ} {n : ℕ} → Reaches g p n → Reaches h p n
  reaches-kept {p} {n} r = record {
    earlier = r.earlier;
    later = r.later;
    full = full-kept r.full;
    spells = same-letters a (r.earlier ++ n ∷ []) ∙ r.spells;
  }

module _ {g h : Graph} (a : Agree g h) where
  longest-kept : {u k : ℕ} → Longest g u k → Longest h u k
  longest-kept l = record {
    one = l.one;
    continues = continues-kept a l.continues;
    long = l.long;
    most = λ w c. l.most w (continues-kept (agree-back a) c);
  }

  first-kept : {p : List ℕ} {n : ℕ} → FirstReaches g p n → FirstReaches h p n
  first-kept f = record {
    reaches = reaches-kept a f.reaches;
    first = λ p r. f.first p (reaches-kept (agree-back a) r);
  }

  stored_same : {u : ℕ} → u < sink g → successor_letters h u ≡ successor_letters g u
  unfolding path_letters
  stored_same {u} k = same-letters a (h.successors u) ∙ ap (path_letters g) (a.successors k)

module _ {g h : Graph} (a : Agree g h) (c : CanonicalGraph g) where
  abbrev back : Agree h g
  back = agree-back a

  pub carried : CanonicalGraph h
  unfolding sink
  carried = record {
    merged = λ {m} {n} i j k l e s.
        c.merged i (rw a.nodes at j) k (rw a.nodes at l)
        (sym (a.letters i (rw a.nodes at j)) ∙ e ∙ a.letters k (rw a.nodes at l))
        (λ w. (
          λ t. continues-kept back ((s w).0 (continues-kept a t)),
          λ t. continues-kept back ((s w).1 (continues-kept a t)),
        ));
    sink_first = λ {u} k m.
        let below : u < sink g = omega (arith, a.nodes) in
        let e = a.successors below in
        rw (e, same-sink a) (c.sink_first {u = u} (rw a.nodes at k) (rw (e, same-sink a) at m));
    letters_rise = λ {u} {i} {j} k.
        let below : u < sink g = omega (arith, a.nodes) in
        rw (stored_same a below) (c.letters_rise {u = u} {i = i} {j = j} (rw a.nodes at k));
    numbered = λ i j k x y r s.
        c.numbered i j (rw a.nodes at k) (longest-kept back x) (longest-kept back y) (first-kept back r)
        (first-kept back s);
    has_longest = λ i j. let t = c.has_longest i (rw a.nodes at j) in (t.0, longest-kept a t.1);
    has_first = λ i j. let t = c.has_first i (rw a.nodes at j) in (t.0, first-kept a t.1);
  }
