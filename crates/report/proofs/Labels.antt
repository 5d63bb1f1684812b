-- Labels as they were read.
use Rattle.std.proofs.Common.{◌≡◌, List, map, length}
use lib.ListN.{length-map}
use Rattle.labels.specs.declared.Label.{Label}
use Rattle.labels.specs.Order.{label_of}
pub use Rattle.listing.proofs.Ranks.{labels_rank_by_bytes}

-- There are as many as stand for them.
pub as_many_labels : (labels : List Label) → length (map label_of labels) ≡ length labels
as_many_labels labels = length-map labels label_of
