-- `offer` lets the moved tokens enter one after another: before token i, to offer those from it on to what the slots
-- hold makes the whole offer. Both places are in the order of rank, so that nothing enters after the early exit.
-- Assumes nothing.
use Prim.Native.Nat.{ℕ, ◌+◌, ◌-◌, ◌<◌}
use mathlib.Core.Path.{◌≡◌, refl, ap, sym, ◌∙◌}
use mathlib.Core.List.{List}
use native.Mathlib.Omega.{arith}
use borrow.Author.Rules.{rules}
use lib.ListN.{get_or, take, drop}
use Rattle.storing.specs.Slots.{token_at, slots, enter, offered}
use Rattle.storing.proofs.Slots.{slots_get}
use Rattle.storing.proofs.Falling.{falling_enter}
use Rattle.storing.proofs.Lending.{take-slots}
use Rattle.storing.proofs.Moving.{from-holds, offered-ends, offered-goes, offered-late, offered-done}
use Rattle.search.proofs.Sums.{room-kept, less_by}
use Rattle.search.proofs.Told.{same_told, other_told, below_told}
use Rattle.search.proofs.store.offer.Goals as goal

pub loop-i-init : goal.loop-i-init
loop-i-init c =
    record {
      long = refl;
      falling = c.requires.1.target;
      left = ap (λ l. offered c.args.up c.args.down l (slots c.args.n 0 c.args.list.now))
          (take-slots c.args.n c.args.from c.args.store.now);
    }

-- the token that is read
read : (n i from : ℕ) (store : List ℕ) {t : ℕ} → t ≡ token_at store (from + i) → i < n →
    t ≡ get_or (slots n from store) i 0
read n i from store e h = e ∙ sym (slots_get n from i store 0 h)

pub returns-then-is_none : goal.returns-then-is_none
returns-then-is_none c =
    let l = c.loop-i in
    let a = c.args in
    let tokens = slots a.n a.from a.store.now in
    let told = read a.n c.loop-i.i a.from a.store.now c.token_at-token.ensures c.loop-i-test.true in
    sym (offered-ends a.up a.down a.n l.i tokens (slots a.n 0 l.list)
    c.loop-i-test.true c.requires.1.long
    (sym told ∙ same_told c.is_none.ensures c.if-is_none.true))
    ∙ l.invariant.left

pub moved-candidate-requires : goal.moved-candidate-requires
moved-candidate-requires c =
    let a = c.args in
    let tokens = slots a.n a.from a.store.now in
    let told = read a.n c.loop-i.i a.from a.store.now c.token_at-token.ensures c.loop-i-test.true in
    rw told (c.requires.1.fits _ (from-holds a.n c.loop-i.i tokens
    c.loop-i-test.true c.requires.1.long) (λ z. other_told c.is_none.ensures c.if-is_none.false (told ∙ z)))

pub returns-then-outranks : goal.returns-then-outranks
returns-then-outranks c =
    let l = c.loop-i in
    let a = c.args in
    let tokens = slots a.n a.from a.store.now in
    let told = read a.n c.loop-i.i a.from a.store.now c.token_at-token.ensures c.loop-i-test.true in
    let late : get_or tokens l.i 0 + a.up - a.down < token_at l.list (a.n - 1) =
    less_by (c.moved-candidate.ensures ∙ ap (λ y. y + a.up - a.down) told) c.token_at-last.ensures
    (below_told c.outranks.ensures c.if-outranks.true) in
    sym (offered-late a.up a.down a.n l.i 0 (a.n - 1) tokens l.list (omega arith)
    c.loop-i-test.true c.requires.1.long
    c.requires.1.source l.invariant.falling late)
    ∙ l.invariant.left

pub loop-i-preserved : goal.loop-i-preserved
loop-i-preserved c =
    let l = c.loop-i in
    let a = c.args in
    let tokens = slots a.n a.from a.store.now in
    let told = read a.n c.loop-i.i a.from a.store.now c.token_at-token.ensures c.loop-i-test.true in
    let entered = c.insert.ensures ∙ ap (λ x. enter x (slots a.n 0 l.list))
    (c.moved-candidate.ensures ∙ ap (λ y. y + a.up - a.down) told) in
    record {
      long = c.insert.auto.part ∙ l.invariant.long;
      falling = rw entered (falling_enter l.invariant.falling (get_or tokens l.i 0 + a.up - a.down));
      left = ap (offered a.up a.down (drop (l.i + 1) (take a.n tokens))) entered
          ∙ sym (offered-goes a.up a.down a.n l.i tokens (slots a.n 0 l.list)
          c.loop-i-test.true c.requires.1.long (λ z. other_told c.is_none.ensures c.if-is_none.false (told ∙ z)))
          ∙ l.invariant.left;
    }

pub returns : goal.returns
returns c =
    let l = c.loop-i in
    let a = c.args in
    sym (offered-done a.up a.down a.n l.i (slots a.n a.from a.store.now) (slots a.n 0 l.list) c.loop-i-test.false)
    ∙ l.invariant.left

pub overflow_add-from : goal.overflow_add-from
overflow_add-from c = let r = c.requires.0 in let h = c.loop-i-test.true in let k =
    r.room in search rules

pub token_at-token-requires : goal.token_at-token-requires
token_at-token-requires c = let r = c.requires.0 in omega (arith, c.loop-i-test.true, r.room)

pub shape_of-list-then-is_none : goal.shape_of-list-then-is_none
shape_of-list-then-is_none c = c.loop-i.invariant.long

pub shape_of-list-then-outranks : goal.shape_of-list-then-outranks
shape_of-list-then-outranks c = c.loop-i.invariant.long

pub insert-requires : goal.insert-requires
insert-requires c = room-kept _ c.requires.1.room.room c.loop-i.invariant.long

pub shape_of-list : goal.shape_of-list
shape_of-list c = c.loop-i.invariant.long
