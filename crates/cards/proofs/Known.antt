-- What is known of a card, written, in the list of the crashes and in that of the suspicions; and a question that is asked of every card.
use Rattle.std.proofs.Common.{◌≡◌, ℕ, zero, suc, ◌+◌, ◌<◌, ◌≤◌, Bool, true, false, List, [], map, get_or, set, replicate, sym, refl, ap, ◌∙◌, subst, ⊎_elim, arith, length-set}
use Rattle.std.specs.Bool.{Decides}
use Rattle.std.specs.List.{range_with_len, list_all}
use Rattle.std.proofs.Math.ListN.{get_or-map}
use Rattle.std.proofs.Math.Seq.{map-set_same}
use Rattle.std.proofs.lemmas.List.{map-set}
use Rattle.std.proofs.lemmas.Bool.{and_parts, and_from, or_left, or_right, not_from_false, cases_Bool, cases_lt}
use Rattle.std.proofs.lemmas.Bool.Decides.{nat_tests}
use Rattle.cards.specs.declared.Card.{Card}
use Rattle.cards.specs.Cards.{CardState, crashed_in, suspects_in, SixCards, known_of, with_crash, knows, knows_all, AllSuspected}
use Rattle.parts.proofs.Lists.{rows_kept, new_row}

pub crash_written : (xs : List Card) (i : ℕ) (b : Bool) (s : List Bool) → map (λ k. k.crashed) (set xs i (record { crashed = b; suspects = s })) ≡ set (map (λ k. k.crashed) xs) i b
crash_written xs i b s = map-set (λ k. k.crashed) xs i (record { crashed = b; suspects = s })

pub crash_apart : (xs : List Card) (i : ℕ) (b : Bool) (d : Card) → map (λ k. k.suspects) (set xs i (record { crashed = b; suspects = (get_or xs i d).suspects })) ≡ map (λ k. k.suspects) xs
crash_apart xs i b d = map-set_same (λ k. k.suspects) xs i (record { crashed = b; suspects = (get_or xs i d).suspects }) d refl

pub suspicion_written : (xs : List Card) (i p : ℕ) (a b : Bool)
    → map (λ k. k.suspects) (set xs i (record { crashed = a; suspects = set (get_or xs i (record { crashed = false; suspects = [] })).suspects p b }))
    ≡ set (map (λ k. k.suspects) xs) i (set (get_or (map (λ k. k.suspects) xs) i []) p b)
suspicion_written xs i p a b =
    let none : Card = record { crashed = false; suspects = [] } in
    map-set (λ k. k.suspects) xs i (record { crashed = a; suspects = set (get_or xs i none).suspects p b })
    ∙ ap (λ r. set (map (λ k. k.suspects) xs) i (set r p b)) (sym (get_or-map (λ k. k.suspects) xs i none))

pub suspicion_apart : (xs : List Card) (i : ℕ) (d : Card) (s : List Bool) → map (λ k. k.crashed) (set xs i (record { crashed = (get_or xs i d).crashed; suspects = s })) ≡ map (λ k. k.crashed) xs
suspicion_apart xs i d s = map-set_same (λ k. k.crashed) xs i (record { crashed = (get_or xs i d).crashed; suspects = s }) d refl

-- The lists stay of six cards.

pub new_six : (n : ℕ) → n ≤ 6 → SixCards (known_of n (replicate 6 (record { crashed = false; suspects = replicate 6 false })))
new_six n h = record { few = h; crashes = refl; rows = refl; row = λ q l. new_row 6 q (replicate 6 false) l }

pub crash_six : (c : CardState) (p : ℕ) → SixCards c → SixCards (with_crash c p)
crash_six c p g = record { few = g.few; crashes = simp length-set g.crashes; rows = g.rows; row = g.row }

pub suspicion_six : (n : ℕ) (xs : List Card) (i p : ℕ) (b : Bool) → i < n → SixCards (known_of n xs)
    → (let none : Card = record { crashed = false; suspects = [] } in SixCards (known_of n (set xs i (record { crashed = (get_or xs i none).crashed; suspects = set (get_or xs i none).suspects p b }))))
suspicion_six n xs i p b h g =
    let none : Card = record { crashed = false; suspects = [] } in
    rw (suspicion_apart xs i none (set (get_or xs i none).suspects p b), suspicion_written xs i p (get_or xs i none).crashed b)
    (record { few = g.few; crashes = g.crashes; rows = simp length-set g.rows; row = rows_kept (map (λ k. k.suspects) xs) 6 6 i p b (omega (arith, g.rows, g.few)) g.row })

-- A test that each of some numbers in a row passes.

all_from : (test : ℕ → Bool) (a n : ℕ) → list_all test (range_with_len a n) ≡ true → (k : ℕ) → a ≤ k → k < a + n → test k ≡ true
all_from test a zero h k l g = absurd (omega arith)
all_from test a (suc n) h k l g =
    let both = and_parts _ _ h in
    ⊎_elim (λ m. absurd (omega arith)) (λ m. ⊎_elim (λ o. all_from test (a + 1) n both.1 k (omega arith) (omega arith)) (λ o. let e : a ≡ k = omega arith in subst (λ j. test j ≡ true) e both.0) (cases_lt a k)) (cases_lt k a)

from_all : (test : ℕ → Bool) (a n : ℕ) → ((k : ℕ) → a ≤ k → k < a + n → test k ≡ true) → list_all test (range_with_len a n) ≡ true
from_all test a zero f = refl
from_all test a (suc n) f = and_from _ _ (f a (omega arith) (omega arith)) (from_all test (a + 1) n (λ k l g. f k (omega arith) (omega arith)))

all_below : (test : ℕ → Bool) (n : ℕ) → Decides (list_all test (range_with_len 0 n)) ((k : ℕ) → k < n → test k ≡ true)
all_below test n = (λ t k l. all_from test 0 n t k (omega arith) (omega arith), λ f. from_all test 0 n (λ k _ l. f k (omega arith)))

pub all_suspected : (c : CardState) (r : Bool) → r ≡ list_all (knows_all c) (range_with_len 0 c.count) → Decides r (AllSuspected c)
all_suspected c r e = (
  λ t q p hq hp u d.
      let k = (all_below (knows c q) c.count).0 ((all_below (knows_all c) c.count).0 (sym e ∙ t) q hq) p hp in
      grind (arith, nat_tests, k),
  λ f. e ∙ (all_below (knows_all c) c.count).1 (λ q hq. (all_below (knows c q) c.count).1 (λ p hp. known q p (f q p hq hp))),
)
  where
    known : (q p : ℕ) → (crashed_in c q ≡ false → crashed_in c p ≡ true → suspects_in c q p ≡ true) → knows c q p ≡ true
    known q p f =
        ⊎_elim
        (λ t. or_left _ _ (or_left _ _ t))
        (λ t. ⊎_elim (λ d. or_right _ _ (f t d)) (λ d. or_left _ _ (or_right _ _ (not_from_false _ d))) (cases_Bool (crashed_in c p)))
        (cases_Bool (crashed_in c q))
