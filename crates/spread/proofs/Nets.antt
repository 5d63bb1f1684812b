-- Each call, from what it makes of a spread to what the interface says of its cards, its wire and its work.
use Rattle.std.proofs.Common.{◌≡◌, ℕ, ◌+◌, ◌<◌, ◌≤◌, false, ◌⊎◌, length, Some, refl, ◌∙◌, inl, arith}
use Rattle.std.specs.List.{slice_get}
use Rattle.std.proofs.ByRecursion.{All-map, All-weaker}
use Rattle.std.proofs.lemmas.Bool.{or_left, eq-eqb}
use Rattle.parts.specs.Views.{Net}
use Rattle.parts.specs.Nets.{NewNet, NetCarried, NetLost, NetCrashed, NetSuspected, LawfulNet}
use Rattle.cards.specs.Cards.{crashed_in, net_of}
use Rattle.tables.specs.Tables.{set_in}
use Rattle.wire.specs.Wires.{senders, elsewhere}
use Rattle.wire.specs.declared.Item.{Item}
use Rattle.tables.proofs.Changes.{posted_more, noted_others_stay}
use Rattle.wire.proofs.Items.{part_left}
use Rattle.cards.proofs.Nets.{new_net, same_cards, net_crashed, net_suspected, lawful_net}
use Rattle.wire.proofs.Taken.{senders_removed}
use Rattle.wire.proofs.Wires.{length_senders}
use Rattle.spread.specs.Spread.{SpreadState, spread_work, new_spread, meet_on, posted_by, post_on, without_item, crash_on, suspect_on}
use Rattle.spread.specs.Made.{Underway, SoundSpread}
use Rattle.spread.proofs.Keeps.{posted_sound, removed_sound, item_at}
use Rattle.spread.proofs.Rooms.{meet_cases}
use Rattle.spread.proofs.Works.{work_covers, new_work, meet_work, posted_work, removed_work, crash_work, suspect_work}

abbrev pub spread_net : SpreadState → Net
spread_net x = net_of x.cards (senders x.wire) (spread_work x)

pub new_spread_net : (n : ℕ) → NewNet n (spread_net (new_spread n))
new_spread_net n =
    let g = new_net n in
    record { cards = g.cards; no_crash = g.no_crash; no_suspicion = g.no_suspicion; no_item = refl; no_work = new_work n }

pub post_net : (x : SpreadState) (p m : ℕ) → SoundSpread x → p < x.cards.count → crashed_in x.cards p ≡ false → m < 32 → spread_work (post_on x p m) ≤ spread_work x + 30
post_net x p m g l up j =
    let met = meet_work (posted_by x p m) p m (posted_sound x p m g l j) up (posted_more x.posters m p m (omega (arith, g.notes)) ∙ or_left _ _ (eq-eqb m m refl)) in
    omega (arith, posted_work x p m g j)

pub receive_net : (x : SpreadState) (i : ℕ) (y : Item ℕ) → SoundSpread x → slice_get x.wire i ≡ Some y → i < length x.wire → NetCarried (spread_net x) (spread_net (meet_on (without_item x i) y.to y.load))
receive_net x i y g e l =
    let u = item_at x i y g e in
    let met = meet_work (without_item x i) y.to y.load (removed_sound x i g) u.up u.posted in
    record { same_cards = same_cards x.cards _ _ _ _; work_falls = omega (arith, removed_work x i l) }

pub lose_net : (x : SpreadState) (i : ℕ) → i < length x.wire → NetLost (spread_net x) (spread_net (without_item x i)) i
lose_net x i l = record { same_cards = same_cards x.cards _ _ _ _; item_leaves = senders_removed x.wire i; work_falls = removed_work x i l }

pub crash_net : (x : SpreadState) (p : ℕ) → SoundSpread x → p < x.cards.count → NetCrashed (spread_net x) (spread_net (crash_on x p)) p
crash_net x p g l = net_crashed x.cards p _ _ _ _ g.sound l (part_left (λ y. y.from) (elsewhere p) x.wire) (crash_work x p g l)

pub suspect_net : (x : SpreadState) (q p : ℕ) → SoundSpread x → q < x.cards.count → p < x.cards.count → NetSuspected (spread_net x) (spread_net (suspect_on x q p)) q p
suspect_net x q p g hq hp = net_suspected x.cards q p _ _ _ _ g.sound hq hp (omega (arith, suspect_work x q p))

pub lawful_spread_net : (x : SpreadState) → SoundSpread x → LawfulNet (spread_net x)
lawful_spread_net x g =
    lawful_net x.cards (senders x.wire) (spread_work x) g.sound
    (All-map (λ s. (s < x.cards.count) ⊎ (s ≡ 7)) (λ y. y.from) x.wire (All-weaker (Underway x) (λ y. (y.from < x.cards.count) ⊎ (y.from ≡ 7)) (λ y u. inl u.sender) x.wire g.items))
    (omega (arith, length_senders x.wire, work_covers x))

-- Only the card that meets the note relays more.
pub meet_others_stay : (x : SpreadState) (p m q : ℕ) → (q ≡ p → ⊥) → set_in (meet_on x p m).relayed q ≡ set_in x.relayed q
meet_others_stay x p m q n = meet_cases (λ z. set_in z.relayed q ≡ set_in x.relayed q) x p m (λ _. noted_others_stay x.relayed p m q n) (λ _. refl)
