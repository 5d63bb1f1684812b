-- Taking in one item more, and the rounds that hearing and taking in leave.
use Rattle.std.specs.Prelude.{◌≡◌, ℕ, List, [], ◌∷◌, ◌++◌, bit_or, refl}
use Rattle.std.proofs.Common.{◌∙◌}
use Rattle.std.proofs.lemmas.Bool.{cond_both}
use Rattle.notes.specs.Sets.{added}
use Rattle.cards.specs.Cards.{CardState, suspects_in}
use Rattle.wire.specs.declared.Item.{Item}
use Rattle.flooding.specs.Mail.{is_for, taking_one, taking_in}
use Rattle.flooding.specs.declared.mail.Load.{Load}
use Rattle.flooding.specs.Seats.{hearing}
use Rattle.flooding.specs.declared.seats.Seat.{Seat}

-- One item more is taken in.
pub taking_more : (c : CardState) (k q : ℕ) (s : Seat) (xs : List (Item Load)) (y : Item Load) → taking_in c k q s (xs ++ (y ∷ [])) ≡ taking_one c k q (taking_in c k q s xs) y
taking_more c k q s [] y = refl
taking_more c k q s (x ∷ xs) y = taking_more c k q (taking_one c k q s x) xs y

-- Hearing and taking in leave the round.
pub hearing_round : (c : CardState) (q from known : ℕ) (s : Seat) → (hearing c q from known s).round ≡ s.round
hearing_round c q from known s =
    cond_both (suspects_in c q from) s (record { round = s.round; counted = added s.counted from; known = bit_or s.known known }) (λ t. t.round ≡ s.round) (λ _. refl) (λ _. refl)

pub taking_one_round : (c : CardState) (k q : ℕ) (s : Seat) (y : Item Load) → (taking_one c k q s y).round ≡ s.round
taking_one_round c k q s y =
    cond_both (is_for k s.round q y) (hearing c q y.from y.load.known s) s (λ t. t.round ≡ s.round) (λ _. hearing_round c q y.from y.load.known s) (λ _. refl)

pub taking_round : (c : CardState) (k q : ℕ) (s : Seat) (xs : List (Item Load)) → (taking_in c k q s xs).round ≡ s.round
taking_round c k q s [] = refl
taking_round c k q s (y ∷ ys) = taking_round c k q (taking_one c k q s y) ys ∙ taking_one_round c k q s y
