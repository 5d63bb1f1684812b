use Rattle.std.proofs.Common.{◌≡◌, ◌++◌, map, drop, string_bytes}
use Rattle.text.specs.Written.{spaced}
use Rattle.entries.specs.Written.{written_lines}
use Rattle.logs.specs.Orders.{in_ranking_order}
use Rattle.listing.specs.Listing.{note_lines}
use Rattle.listing.proofs.ranked.write_ranked.Given as goal

abbrev pub invariant-loop-place : goal.invariant-loop-place
invariant-loop-place g l =
    let order = in_ranking_order g.N.Kind.precedes l.notes in
    let texts = map g.N.Written.text l.notes in
    string_bytes l.out ++ written_lines spaced (note_lines texts l.place (drop l.place order)) ≡ string_bytes l.initial.out ++ written_lines spaced (note_lines texts 0 order)
