-- `letters::symbols_at` meets its contract: the number of links says how many scores stand before. Assumes nothing.
use Prim.Native.Nat.{◌<◌, ◌≤◌}
use native.Mathlib.Omega.{arith}
use borrow.Author.Rules.{rules}
use lib.ListN.{length, get_or}
use Rattle.voice.specs.Voice.{link_count, symbols_at}
use Rattle.voice.proofs.Scores.{links-few, links-there}
use Rattle.search.proofs.letters.symbols_at.Goals as goal

pub returns : goal.returns
unfolding symbols_at link_count
returns c =
    rw c.links_at-at.ensures

pub overflow_add-result : goal.overflow_add-result
overflow_add-result c =
    let h : c.links_at-at.result < length c.args.voice.now =
    omega (arith, c.links_at-at.ensures, links-there _ c.requires) in
    search rules

pub bounds-voice-at : goal.bounds-voice-at
bounds-voice-at c = (omega (arith, c.links_at-at.ensures, links-there _ c.requires))

pub overflow_cast-result : goal.overflow_cast-result
unfolding link_count
overflow_cast-result c = let h : get_or c.args.voice.now c.links_at-at.result 0 ≤ 64 =
    rw c.links_at-at.ensures (links-few _ c.requires) in search rules

pub overflow_mul-result : goal.overflow_mul-result
unfolding link_count
overflow_mul-result c = let h : get_or c.args.voice.now c.links_at-at.result 0 ≤ 64 =
    rw c.links_at-at.ensures (links-few _ c.requires) in search rules

pub overflow_add-result-2 : goal.overflow_add-result-2
unfolding link_count
overflow_add-result-2 c =
    let h : c.links_at-at.result < length c.args.voice.now =
    omega (arith, c.links_at-at.ensures, links-there _ c.requires) in
    let f : get_or c.args.voice.now c.links_at-at.result 0 ≤ 64 =
    rw c.links_at-at.ensures (links-few _ c.requires) in search rules
