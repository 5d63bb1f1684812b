-- The cards: what is kept by a crash and a suspicion, and what the interfaces say of them.
use Rattle.std.proofs.Common.{◌≡◌, ℕ, ◌<◌, ◌≤◌, Bool, true, false, cond, ◌&&◌, ◌||◌, eqb, ltb, ◌⊎◌, List, [], length, get_or, set, replicate, sym, refl, ◌∙◌, subst, ⊎_elim, arith, length-set}
use borrow.Author.Tests.{clash}
use Rattle.std.specs.List.{AllByRecursion}
use Rattle.std.proofs.lemmas.Bool.{or_cases, or_parts, or_right, and_parts, eqb-true}
use Rattle.std.proofs.lemmas.Bool.Decides.{nat_tests}
use Rattle.parts.specs.Views.{Quiet}
use Rattle.parts.specs.Nets.{PartOf, NewNet, SameCards, NetCrashed, NetSuspected, LawfulNet}
use Rattle.cards.specs.Cards.{CardState, crashed_in, suspects_in, new_cards, with_crash, with_suspicion, net_of, AllSuspected, SoundCards}
use Rattle.parts.proofs.Lists.{get_or-set, row_written, rows_kept, same_all, same_rows, new_row}

-- New cards.

new_few : (n : ℕ) → cond (ltb 6 n) 0 n ≤ 6
new_few n = grind (arith, nat_tests)

pub new_sound : (n : ℕ) → SoundCards (new_cards n)
new_sound n =
    record {
      few = new_few n;
      crashes = refl;
      rows = refl;
      row = λ q h. new_row 6 q (replicate 6 false) h;
      crashed_cards = λ p h. absurd (clash (sym (same_all 6 p false) ∙ h));
      suspecting_cards = λ q p h. absurd (clash (sym (same_rows 6 6 q p false) ∙ h));
      suspected_crashed = λ q p h. absurd (clash (sym (same_rows 6 6 q p false) ∙ h));
    }

pub new_net : (n : ℕ) → NewNet n (net_of (new_cards n) [] 0)
new_net n = record { cards = refl; no_crash = λ p. same_all 6 p false; no_suspicion = λ q p. same_rows 6 6 q p false; no_item = refl; no_work = refl }

pub same_cards : (c : CardState) (w w' : List ℕ) (k k' : ℕ) → SameCards (net_of c w k) (net_of c w' k')
same_cards c w w' k k' = record { cards = refl; crashed = λ p. refl; suspects = λ q p. refl }

-- A crash.

true_or : (b d : Bool) → cond b true d ≡ (b || d)
true_or true d = refl
true_or false d = refl

marked : (xs : List Bool) (p q : ℕ) → p < length xs → get_or (set xs p true) q false ≡ (eqb q p || get_or xs q false)
marked xs p q h = get_or-set xs p q true false h ∙ true_or (eqb q p) (get_or xs q false)

pub crash_more : (c : CardState) (p q : ℕ) → SoundCards c → p < c.count → crashed_in (with_crash c p) q ≡ (eqb q p || crashed_in c q)
crash_more c p q g h = marked c.crashed p q (omega (arith, g.crashes, g.few))

-- A card that runs after a crash ran before it, and is not the one that crashed.
pub up_before : (c : CardState) (p q : ℕ) → SoundCards c → p < c.count → crashed_in (with_crash c p) q ≡ false → (eqb q p ≡ false) × (crashed_in c q ≡ false)
up_before c p q g h u = or_parts _ _ (sym (crash_more c p q g h) ∙ u)

pub crash_sound : (c : CardState) (p : ℕ) → SoundCards c → p < c.count → SoundCards (with_crash c p)
crash_sound c p g h =
    record {
      few = g.few;
      crashes = simp length-set g.crashes;
      rows = g.rows;
      row = g.row;
      crashed_cards = λ q e. ⊎_elim (λ s. subst (λ j. j < c.count) (sym (eqb-true q p s)) h) (λ s. g.crashed_cards q s) (or_cases _ _ (sym (crash_more c p q g h) ∙ e));
      suspecting_cards = g.suspecting_cards;
      suspected_crashed = λ q r e. crash_more c p r g h ∙ or_right _ _ (g.suspected_crashed q r e);
    }

pub net_crashed : (c : CardState) (p : ℕ) (w w' : List ℕ) (k k' : ℕ) → SoundCards c → p < c.count → PartOf w' w → k' ≤ k → NetCrashed (net_of c w k) (net_of (with_crash c p) w' k') p
net_crashed c p w w' k k' g h part less =
    record { cards = refl; crash_stands = λ q. crash_more c p q g h; suspects = λ q r. refl; items_leave = part; work_stays_below = less }

-- A suspicion.

pub suspect_more : (c : CardState) (q p a b : ℕ) → SoundCards c → q < c.count → p < c.count → suspects_in (with_suspicion c q p) a b ≡ ((eqb a q && eqb b p) || suspects_in c a b)
suspect_more c q p a b g hq hp =
    row_written c.suspicions q p a b true false (omega (arith, g.rows, g.few)) (omega (arith, g.row q (omega (arith, g.few)), g.few)) ∙ true_or (eqb a q && eqb b p) (suspects_in c a b)

pub suspect_sound : (c : CardState) (q p : ℕ) → SoundCards c → q < c.count → p < c.count → crashed_in c p ≡ true → SoundCards (with_suspicion c q p)
suspect_sound c q p g hq hp d =
    record {
      few = g.few;
      crashes = g.crashes;
      rows = simp length-set g.rows;
      row = rows_kept c.suspicions 6 6 q p true (omega (arith, g.rows, g.few)) g.row;
      crashed_cards = g.crashed_cards;
      suspecting_cards = λ a b e. ⊎_elim (λ s. subst (λ j. j < c.count) (sym (eqb-true a q (and_parts _ _ s).0)) hq) (λ s. g.suspecting_cards a b s) (or_cases _ _ (sym (suspect_more c q p a b g hq hp) ∙ e));
      suspected_crashed = λ a b e. ⊎_elim (λ s. subst (λ j. crashed_in c j ≡ true) (sym (eqb-true b p (and_parts _ _ s).1)) d) (λ s. g.suspected_crashed a b s) (or_cases _ _ (sym (suspect_more c q p a b g hq hp) ∙ e));
    }

pub net_suspected : (c : CardState) (q p : ℕ) (w w' : List ℕ) (k k' : ℕ) → SoundCards c → q < c.count → p < c.count → k' ≤ k → NetSuspected (net_of c w k) (net_of (with_suspicion c q p) w' k') q p
net_suspected c q p w w' k k' g hq hp less =
    record { cards = refl; crashed = λ r. refl; suspicion_stands = λ a b. suspect_more c q p a b g hq hp; work_stays_below = less }

-- What is certain of every state.

pub lawful_net : (c : CardState) (w : List ℕ) (k : ℕ) → SoundCards c → AllByRecursion (λ s. (s < c.count) ⊎ (s ≡ 7)) w → length w ≤ k → LawfulNet (net_of c w k)
lawful_net c w k g s l =
    record { few_cards = g.few; crashed_are_cards = g.crashed_cards; suspecting_are_cards = g.suspecting_cards; suspected_have_crashed = g.suspected_crashed; senders_are_cards_or_carrier = s; work_covers_wire = l }

-- Quiet is an empty wire and full suspicion.
pub quiet_when : (c : CardState) (w : List ℕ) (k : ℕ) → w ≡ [] → AllSuspected c → Quiet (net_of c w k)
quiet_when c w k e s = record { empty = e; known = λ q p r h d. s q p r.card h r.up d }

pub suspected_when : (c : CardState) (w : List ℕ) (k : ℕ) → Quiet (net_of c w k) → AllSuspected c
suspected_when c w k q a b ha hb u d = q.known a b (record { card = ha; up = u }) hb d
