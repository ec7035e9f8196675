-- `listing::put_listing` answers row 16 or the size of the listing, which is what the walk from the root on writes.
-- Assumes nothing. the size is that of the listing
use Prim.Native.Nat.{◌≤◌}
use mathlib.Core.Path.{◌≡◌, refl, ap}
use native.Mathlib.Omega.{arith}
use lib.ListN.{length}
use Rattle.graph.specs.Graph.{graph_of}
use Rattle.codes.specs.Lookup.{listing}
use Rattle.codes.proofs.Whole.{countable, root-passes, root-lines, size_is, no_room, all-written}
use Rattle.codes.proofs.listing.put_listing.Goals as goal
use Rattle.codes.proofs.listing.put_listing.Goals.{After-listing_size-size, Else-out-size}

size : (c : After-listing_size-size) →
    let a = c.args in c.listing_size-size.result ≡ length (listing a.voice.now (graph_of a.lexicon.now))
size c = size_is c.requires c.listing_size-size.ensures

-- it has room
room : (c : Else-out-size) →
    let a = c.args in length (listing a.voice.now (graph_of a.lexicon.now)) ≤ length a.out.now
room c = omega (arith, size_is c.requires c.listing_size-size.ensures, c.if-out-size.false)

pub returns-then-out-size : goal.returns-then-out-size
returns-then-out-size c =
    no_room (omega (arith, size (goal.at.returns-then-out-size c).After-listing_size-size, c.if-out-size.true))

pub vertex_step-requires : goal.vertex_step-requires
vertex_step-requires c =
    record {
      walks_from = root-passes c.requires;
      room_for_lines = record {
        long = refl;
        enough = omega
            (arith, room (goal.at.vertex_step-requires c).Else-out-size, ap length (root-lines c.requires));
      };
    }

pub returns : goal.returns
returns c =
    let wrote = c.vertex_step.ensures in
    all-written (room (goal.at.returns c).Else-out-size) (size (goal.at.returns c).After-listing_size-size)
    (rw (root-lines c.requires) at wrote)

pub listing_size-size-requires : goal.listing_size-size-requires
listing_size-size-requires c = countable c.requires
