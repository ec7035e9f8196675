-- `offer_from` lends the part of the place, and what stands before it. Assumes nothing.
use Rattle.storing.proofs.Lending.{lent_offer, lent_back}
use Rattle.search.proofs.store.offer_from.Goals as goal

pub offer-requires : goal.offer-requires
offer-requires c =
    let s = c.split_at_mut-before.ensures in
    rw (s.front, s.back) (lent_offer _ c.requires.0 c.requires.1)

pub returns : goal.returns
returns c =
    let s = c.split_at_mut-before.ensures in
    rw (s.front, s.back)
    (lent_back _ c.requires.0 c.requires.1 _ (rw s.back at c.offer.auto.list) (rw (s.front, s.back) at c.offer.ensures))
