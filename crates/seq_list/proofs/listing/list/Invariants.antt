use Rattle.std.proofs.Common.{◌≡◌, ◌+◌, ◌++◌, drop, length}
use Rattle.seq_list.specs.Listing.{left_over, listing}
use Rattle.seq_list.proofs.listing.list.Given as goal

abbrev pub invariant-loop-word : goal.invariant-loop-word
invariant-loop-word l = record {
  said : l.text ++ listing l.at l.rest ≡ listing 0 l.image.bytes;
  whole : l.at + length l.rest ≡ length l.image.bytes;
}

abbrev pub decreases-loop-word : goal.decreases-loop-word
decreases-loop-word l = length l.rest

abbrev pub invariant-loop-byte : goal.invariant-loop-byte
invariant-loop-byte l = record {
  said : l.text ++ left_over l.at (drop l.byte-index l.byte-items) ≡ listing 0 l.image.bytes;
  whole : l.at + length (drop l.byte-index l.byte-items) ≡ length l.image.bytes;
}
