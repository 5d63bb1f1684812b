-- What a card has heard in a round that it has left is what it knew on entering the next.
use Rattle.std.proofs.Common.{◌≡◌, ℕ, suc, ◌&&◌}
use Rattle.std.proofs.lemmas.Bool.{and_parts, and_from}
use Rattle.std.proofs.lemmas.Bool.Decides.{same_from_decides}
use Rattle.histories.specs.Histories.{Past, Fates, Left, History}
use Rattle.histories.specs.Moves.{heard_of}
use Rattle.histories.proofs.Puts.{any_decides}

pub heard_knew : (n : ℕ) (f : Fates) (h : Past) → History n f h → (p r x : ℕ) → Left n h p r → heard_of n h p r x ≡ h.knew p (suc r) x
heard_knew n f h g p r x l =
    same_from_decides (heard_of n h p r x) (h.knew p (suc r) x) (any_decides (λ y. h.counted p r y && h.knew y r x) n) (
      λ e. let m = g.known_was_heard p r x l e in (m.from, m.card, and_from _ _ m.counted m.knew),
      λ w.
          let c = and_parts (h.counted p r w.0) (h.knew w.0 r x) w.2 in
          g.heard_is_known p r x l (record { from = w.0; card = w.1; counted = c.0; there = (g.counted_met p r w.0 c.0).there; knew = c.1 }),
    )
