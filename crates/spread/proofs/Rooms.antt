-- There is room for what a relay sends, and then for every relay still to come.
use Rattle.std.proofs.Common.{◌≡◌, ℕ, ◌+◌, ◌<◌, ◌≤◌, Bool, true, false, cond, ◌++◌, length, refl, ap, ◌∙◌, arith, length-set}
use Rattle.std.proofs.lemmas.List.{length-append}
use Rattle.std.proofs.lemmas.Bool.{and_parts, ltb-true, not-true}
use Rattle.std.proofs.lemmas.Bool.Decides.{nat_tests}
use Rattle.notes.specs.Sets.{has}
use Rattle.tables.specs.Tables.{set_in, with_note}
use Rattle.wire.specs.Wires.{WireState, holding, sent}
use Rattle.wire.proofs.Wires.{length_sent_others}
use Rattle.spread.specs.Spread.{SpreadState, Roomy, lacks, relay_on, meet_on}
use Rattle.spread.proofs.Pairs.{unrelayed_falls}

pub lacks_parts : (x : SpreadState) (p m : ℕ) → lacks x p m ≡ true → (p < x.cards.count) × (m < 32) × (has (set_in x.relayed p) m ≡ false)
lacks_parts x p m h =
    let a = and_parts _ _ h in
    let b = and_parts _ _ a.1 in
    (ltb-true _ _ a.0, ltb-true _ _ b.0, not-true _ b.1)

pub lacks_not : (x : SpreadState) (p m : ℕ) → p < x.cards.count → m < 32 → lacks x p m ≡ false → has (set_in x.relayed p) m ≡ true
lacks_not x p m l j h = grind (arith, nat_tests)

-- A card that meets a note relays it, or changes nothing.
pub meet_cases : (P : SpreadState → Type 0) (x : SpreadState) (p m : ℕ) → (lacks x p m ≡ true → P (relay_on x p m)) → (lacks x p m ≡ false → P x) → P (meet_on x p m)
meet_cases P x p m f g = by_test (lacks x p m) f g
  where
    by_test : (b : Bool) → (b ≡ true → P (relay_on x p m)) → (b ≡ false → P x)
        → P (record { cards = x.cards; posters = x.posters; relayed = cond b (relay_on x p m).relayed x.relayed; wire = cond b (relay_on x p m).wire x.wire })
    by_test true f g = f refl
    by_test false f g = g refl

pub relay_room : (x y : SpreadState) (wire : WireState ℕ) (p m : ℕ) → x ≡ y → Roomy x.cards x.relayed wire → lacks y p m ≡ true
    → (length wire.items + length (sent x.cards p m x.cards.count) ≤ wire.room) × Roomy x.cards (with_note x.relayed p m) (holding wire (wire.items ++ sent x.cards p m x.cards.count))
relay_room x y wire p m e g h =
    let l = lacks_parts x p m (ap (λ z. lacks z p m) e ∙ h) in
    let few = length_sent_others x.cards p m x.cards.count l.0 in
    let less = unrelayed_falls x.relayed p m g.sets (omega (arith, l.0, g.few)) l.1 l.2 in
    let all = length-append wire.items (sent x.cards p m x.cards.count) in
    (omega (arith, g.room, g.few), record { few = g.few; sets = simp length-set g.sets; room = omega (arith, g.room, g.few) })
