-- `lexicon::list_at` meets its contract: what is cut off, and what is there, is as the definition has it. Assumes nothing.
use mathlib.Core.Path.{sym}
use mathlib.Core.Logic.{⊎_elim}
use native.Mathlib.Omega.{arith}
use Rattle.lexicon.specs.Lexicon.{numbers_of}
use Rattle.lexicon.proofs.Listed.{cut, fewer, whole}
use Rattle.lexicon.proofs.list_at.Goals as goal

pub returns-in_default : goal.returns-in_default
unfolding numbers_of
returns-in_default c =
    sym (cut c.args.lexicon.now c.args.at (⊎_elim (λ h. omega arith) (λ h. omega arith) c.in_default.ensures.lookup.0))

pub returns-in_default-split_first_chunk : goal.returns-in_default-split_first_chunk
unfolding numbers_of
returns-in_default-split_first_chunk c =
    let l = c.in-Some.ensures.lookup.0 in
    sym (cut c.args.lexicon.now c.args.at (omega (arith, l.3, c.in_default-split_first_chunk.ensures.cases)))

pub returns-then-numbers-count : goal.returns-then-numbers-count
unfolding numbers_of
returns-then-numbers-count c =
    let l = c.in-Some.ensures.lookup.0 in
    let s = c.in-Some-split_first_chunk.ensures.cases in
    sym
    (fewer _ _ _ _ _ l.2 s.0 s.1 l.3 s.2 _ c.u16_of-count.ensures _ c.as_chunks.ensures.front_len
    c.if-numbers-count.true)

pub returns : goal.returns
unfolding numbers_of
returns c =
    let l = c.in-Some.ensures.lookup.0 in
    let s = c.in-Some-split_first_chunk.ensures.cases in
    whole _ _ _ _ _ l.2 s.0 s.1 l.3 s.2 _ c.u16_of-count.ensures _ c.as_chunks.ensures.front
    (omega (arith, c.as_chunks.ensures.front_len, c.if-numbers-count.false))
