-- `numbering::number_level` meets its contract: before each row the places of this height from it on are left. Assumes
-- nothing.
use Prim.Native.Nat.{ℕ, ◌+◌, ◌-◌, ◌<◌}
use mathlib.Core.Path.{◌≡◌, sym, ap, ◌∙◌}
use mathlib.Core.List.{List, ◌∷◌, ◌++◌}
use native.Mathlib.Omega.{arith}
use lib.ListN.{get_or}
use Rattle.registering.specs.declared.Row.{Row}
use Rattle.registering.specs.Register.{no_row}
use Rattle.registering.specs.Numbering.{heights_in, places_of, places_below, Rows, PlacedIn}
use Rattle.registering.proofs.Fields.{field-at}
use Rattle.registering.proofs.Numbers.{places-here, places-past, places-none}
use Rattle.registering.proofs.Placing.{row-same, place-room, placed-more}
use Rattle.building.proofs.numbering.number_level.Goals as goal
use Rattle.building.proofs.numbering.number_level.Goals.{then-rows-r, else-rows-r}

-- the turn of row r
module _ {rows now : List Row} {count r next : ℕ} (h : ℕ) (g : Rows rows count) (t : r < count)
    (p : PlacedIn rows now count
    (places_of (heights_in rows) h r (count - r) ++ places_below (heights_in rows) count h) next)
  where
    -- its height, which no number has changed
    height : get_or (heights_in rows) r 0 ≡ (get_or now r no_row).longest
    height = field-at (λ row. row.longest) r rows no_row ∙ ap (λ row. row.longest) (sym (row-same p.same r))

    low : (get_or now r no_row).longest < 33
    low = rw height at (g.low r t)

    module _ (e : (get_or now r no_row).longest ≡ h) where
      -- it has the next place
      here : PlacedIn rows now count
          (r ∷ places_of (heights_in rows) h (r + 1) (count - (r + 1)) ++ places_below (heights_in rows) count h) next
      here = rw (places-here (heights_in rows) h count r t (height ∙ e)) at p

      room : (r < 400) × (next < 400)
      room = place-room g here

    past : ((get_or now r no_row).longest ≡ h → ⊥) → PlacedIn rows now count
        (places_of (heights_in rows) h (r + 1) (count - (r + 1)) ++ places_below (heights_in rows) count h) next
    past n = rw (places-past (heights_in rows) h count r t (λ e. n (sym height ∙ e))) at p

pub loop-r-init : goal.loop-r-init
loop-r-init c = let e : c.args.count - 0 ≡ c.args.count = omega arith in rw e c.requires.placed_in

pub bounds-rows-next : goal.bounds-rows-next
bounds-rows-next c =
    omega (arith, (room c.args.h c.requires.rows c.loop-r-test.true c.loop-r.invariant c.if-rows-r.true).1)

pub loop-r-preserved : goal.loop-r-preserved
loop-r-preserved c =
    let t = c.loop-r-test.true in
    let p = c.loop-r.invariant in
    elim c.if-rows-r.branch [
      | then-rows-r w ↦ rw (w.rows-is, w.next-is)
          (placed-more c.requires.rows (here c.args.h c.requires.rows t p w.if-rows-r.true))
      | else-rows-r w ↦ rw (w.rows-is, w.next-is) (past c.args.h c.requires.rows t p w.if-rows-r.false)
    ]

pub returns : goal.returns
returns c =
    let l = c.loop-r in
    let a = c.args in
    rw (places-none (heights_in a.rows.now) a.h a.count l.r c.loop-r-test.false) at l.invariant
