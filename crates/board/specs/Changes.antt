-- What a post, a carry and a crash change in the tables of a board.
use Rattle.std.specs.Prelude.{◌≡◌, ℕ, zero, suc, ◌<◌, ◌≤◌, true, false, ◌&&◌, ◌||◌, List, [], ◌∷◌, length, ◌==◌, slice_index_or, refl}
use Rattle.std.proofs.Common.{◌∙◌, arith}
use Rattle.std.specs.List.{AllByRecursion}
use Rattle.std.proofs.lemmas.Bool.{and_from, ne_eqb, not_from_false}
use Rattle.std.proofs.lemmas.Bool.Decides.{nat_tests}
use Rattle.notes.specs.Sets.{has}
use Rattle.cards.specs.Cards.{CardState, crashed_in}
use Rattle.tables.specs.Tables.{set_in, with_note}
use Rattle.tables.proofs.Changes.{noted_more}
use Rattle.wire.specs.Wires.{goes_to, senders}
use Rattle.wire.specs.declared.Item.{Item}

-- The carrier's item goes to every running card.
pub goes_to_running : (c : CardState) (p : ℕ) → c.count ≤ 6 → p < c.count → crashed_in c p ≡ false → goes_to c 7 p ≡ true
goes_to_running c p few h u = and_from _ _ (not_from_false _ u) (not_from_false _ (ne_eqb p 7 (λ e. omega arith)))

-- Whom a note was handed to, after one hand-over more.
pub handed_more : (t : List ℕ) (y : Item ℕ) (p m : ℕ) → y.to < length t → y.load < 32 → has (set_in (with_note t y.to y.load) p) m ≡ (has (set_in t p) m || (y.load == m && y.to == p))
handed_more t y p m h l = noted_more t y.to y.load p m h l ∙ grind (arith, nat_tests)

-- The sender of an item that the carrier sent.
pub carrier_sends : (xs : List (Item ℕ)) (i : ℕ) → AllByRecursion (λ y. y.from ≡ 7) xs → slice_index_or (senders xs) i 7 ≡ 7
carrier_sends [] i h = refl
carrier_sends (x ∷ xs) zero h = h.0
carrier_sends (x ∷ xs) (suc i) h = carrier_sends xs i h.1
