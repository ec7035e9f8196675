-- `insert` pushes the token in where it enters, and leaves the list where it enters nowhere. Assumes nothing.
use Rattle.std.proofs.Common.{◌≤◌, append-nil, sym, ◌∙◌, arith}
use Rattle.storing.specs.Slots.{push}
use Rattle.storing.proofs.Slots.{slots-none}
use Rattle.storing.proofs.Entering.{enter-at}
use Rattle.search.proofs.store.insert.Goals as goal

pub push_down-requires : goal.push_down-requires
push_down-requires c = (omega arith, c.requires)

pub returns-in-Some : goal.returns-in-Some
returns-in-Some c =
    let a = c.args in
    c.push_down.ensures ∙ enter-at a.token.0 a.n a.part.now _ (sym c.in-Some.ensures.1)

pub returns-in_default : goal.returns-in_default
unfolding push
returns-in_default c =
    let a = c.args in
    let whole = enter-at a.token.0 a.n a.part.now a.n (sym (c.in_default.ensures)) in
    let past : a.n ≤ a.n = omega arith in
    rw (slots-none a.n a.n a.part.now past, append-nil) at whole
