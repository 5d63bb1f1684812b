-- The work: by how much a post raises it, and that nothing else does.
use Rattle.std.proofs.Common.{◌≡◌, ℕ, ◌+◌, ◌-◌, ◌*◌, ◌<◌, ◌≤◌, true, false, length, is_some, None, refl, ap, mul-le-mul, mul-le-mul_left, mul-zero, mul-one, mul-add, arith}
use Rattle.std.proofs.lemmas.List.Edits.{length-remove}
use Rattle.std.proofs.lemmas.List.{length-append}
use Rattle.std.proofs.lemmas.Bool.{and_from, and_left, and_right, eq-eqb, not_from_false}
use Rattle.std.proofs.lemmas.Bool.Decides.{nat_tests}
use Rattle.cards.specs.Cards.{crashed_in}
use Rattle.tables.specs.Tables.{poster_in}
use Rattle.wire.specs.Wires.{sent, elsewhere}
use Rattle.tables.proofs.Changes.{posted_more, noted_more}
use Rattle.wire.proofs.Items.{length_left}
use Rattle.parts.proofs.Lists.{same_all}
use Rattle.cards.proofs.Nets.{crash_more}
use Rattle.wire.proofs.Wires.{length_sent_others}
use Rattle.spread.specs.Counts.{pairs}
use Rattle.spread.specs.Spread.{SpreadState, lacks, owes, spread_work, new_spread, relay_on, meet_on, posted_by, without_item, crash_on, suspect_on}
use Rattle.spread.specs.Made.{SoundSpread}
use Rattle.spread.proofs.Pairs.{pairs_none, pairs_le, pairs_lt, pairs_grow}
use Rattle.spread.proofs.Rooms.{lacks_parts, meet_cases}

-- A factor for each of fewer, and for each of a few more.
one_factor_less : (k a b : ℕ) → a < b → k * a + k ≤ k * b
one_factor_less k a b h =
    let l : a + 1 ≤ b = omega arith in
    let m : k * (a + 1) ≤ k * b = mul-le-mul_left k l in
    omega (arith, mul-add k a 1, mul-one k)

some_more : (k a b n : ℕ) → a ≤ b + n → k * a ≤ k * b + k * n
some_more k a b n h = let m : k * a ≤ k * (b + n) = mul-le-mul_left k h in omega (arith, mul-add k b n)

at_most_30 : (n : ℕ) → n ≤ 6 → (n - 1) * n ≤ 30
at_most_30 n h = let few : n - 1 ≤ 5 = omega arith in mul-le-mul few h

pub work_covers : (x : SpreadState) → length x.wire ≤ spread_work x
unfolding spread_work
work_covers x = omega arith

pub new_work : (n : ℕ) → spread_work (new_spread n) ≡ 0
unfolding spread_work
new_work n =
    let k = (new_spread n).cards.count in
    let none : pairs (owes (new_spread n)) k 32 ≡ 0 = pairs_none (owes (new_spread n)) k 32 (λ p m. and_right _ _ (and_left _ _ (ap is_some (same_all 32 m None)))) in
    omega (arith, ap (λ j. (k - 1) * j) none, mul-zero (k - 1))

relay_work : (x : SpreadState) (p m : ℕ) → length x.relayed ≡ 6 → x.cards.count ≤ 6 → crashed_in x.cards p ≡ false → is_some (poster_in x.posters m) ≡ true → lacks x p m ≡ true → spread_work (relay_on x p m) ≤ spread_work x
unfolding spread_work
relay_work x p m six few up posted h =
    let l = lacks_parts x p m h in
    let n = x.cards.count in
    let more : (q k : ℕ) → _ = λ q k. noted_more x.relayed p m q k (omega (arith, l.0)) l.1 in
    let less : pairs (owes (relay_on x p m)) n 32 < pairs (owes x) n 32 = pairs_lt (owes (relay_on x p m)) (owes x) n 32 p m
    (λ q k _ _ t. let a = more q k in grind (arith, nat_tests, a, t)) l.0 l.1
    (let a = more p m in let b = eq-eqb p p refl in let c = eq-eqb m m refl in grind (arith, nat_tests, a, b, c))
    (and_from _ _ (not_from_false _ up) (and_from _ _ posted (not_from_false _ l.2))) in
    omega (arith, one_factor_less (n - 1) _ _ less, length-append x.wire (sent x.cards p m n), length_sent_others x.cards p m n l.0)

pub meet_work : (x : SpreadState) (p m : ℕ) → SoundSpread x → crashed_in x.cards p ≡ false → is_some (poster_in x.posters m) ≡ true → spread_work (meet_on x p m) ≤ spread_work x
meet_work x p m g up posted = meet_cases (λ z. spread_work z ≤ spread_work x) x p m (relay_work x p m g.sets g.sound.few up posted) (λ _. omega arith)

pub posted_work : (x : SpreadState) (p m : ℕ) → SoundSpread x → m < 32 → spread_work (posted_by x p m) ≤ spread_work x + 30
unfolding spread_work
posted_work x p m g l =
    let n = x.cards.count in
    let more : pairs (owes (posted_by x p m)) n 32 ≤ pairs (owes x) n 32 + n = pairs_grow (owes (posted_by x p m)) (owes x) n 32 m
    (λ q k _ _ t. let a = posted_more x.posters m p k (omega (arith, g.notes)) in grind (arith, nat_tests, a, t)) in
    omega (arith, some_more (n - 1) _ _ n more, at_most_30 n g.sound.few)

pub removed_work : (x : SpreadState) (i : ℕ) → i < length x.wire → spread_work (without_item x i) < spread_work x
unfolding spread_work
removed_work x i l = omega (arith, length-remove x.wire i l)

pub crash_work : (x : SpreadState) (p : ℕ) → SoundSpread x → p < x.cards.count → spread_work (crash_on x p) ≤ spread_work x
unfolding spread_work
crash_work x p g l =
    let n = x.cards.count in
    let less : pairs (owes (crash_on x p)) n 32 ≤ pairs (owes x) n 32 = pairs_le (owes (crash_on x p)) (owes x) n 32
    (λ q k _ _ t. let a = crash_more x.cards p q g.sound l in grind (arith, nat_tests, a, t)) in
    omega (arith, mul-le-mul_left (n - 1) less, length_left (elsewhere p) x.wire)

pub suspect_work : (x : SpreadState) (q p : ℕ) → spread_work (suspect_on x q p) ≡ spread_work x
unfolding spread_work
suspect_work x q p = refl
