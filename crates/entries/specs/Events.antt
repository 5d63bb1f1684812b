-- Which line says which event.
use Rattle.std.specs.Prelude.{ℕ, cond, List, [], ◌∷◌, Some, None, Option, ◌==◌}
use Rattle.std.specs.Option.{option_map}
use Rattle.text.specs.Parts.{Span}
use Rattle.text.specs.Fields.{Cut, cut_fields, number_in, letter_in}
use Rattle.entries.specs.declared.event.Event.{Event}
use Rattle.entries.specs.declared.event.Event.TheVariants.{Post, Propose, Take, Crash, Suspect, Carry, Lose, Settle}
use Rattle.parts.specs.declared.wires.Wire.{Wire}
use Rattle.parts.specs.declared.wires.Wire.TheVariants.{Broadcast, Consensus}
use Rattle.entries.specs.Chains.{bind, of_two}

-- one number up to 65,535
abbrev pub one_number : List Cut → Option ℕ
one_number [] = None
one_number (a ∷ []) = number_in 65535 a
one_number (a ∷ b ∷ cs) = None

abbrev pub two_numbers : List Cut → Option (ℕ × ℕ)
two_numbers = of_two (λ a b. bind (number_in 65535 a) (λ m. bind (number_in 65535 b) (λ n. Some (m, n))))

-- b is the wire of the broadcast, c that of the consensus
abbrev pub wire_of : ℕ → Option Wire
wire_of c = cond (c == 98) (Some Broadcast) (cond (c == 99) (Some Consensus) None)

abbrev pub wire_item : List Cut → Option (Wire × ℕ)
wire_item = of_two (λ a b. bind (letter_in a) (λ c. bind (wire_of c) (λ w. bind (number_in 65535 b) (λ n. Some (w, n)))))

-- The letter decides the event: b, p, t, x, s, c, l, r.
abbrev pub event_by : ℕ → List Cut → Option Event
event_by c fs =
    cond (c == 98) (option_map (λ (p : ℕ × ℕ). Post p.0 p.1) (two_numbers fs))
    (cond (c == 112) (option_map (λ (n : ℕ). Propose n) (one_number fs))
    (cond (c == 116) (option_map (λ (n : ℕ). Take n) (one_number fs))
    (cond (c == 120) (option_map (λ (n : ℕ). Crash n) (one_number fs))
    (cond (c == 115) (option_map (λ (p : ℕ × ℕ). Suspect p.0 p.1) (two_numbers fs))
    (cond (c == 99) (option_map (λ (p : Wire × ℕ). Carry p.0 p.1) (wire_item fs))
    (cond (c == 108) (option_map (λ (p : Wire × ℕ). Lose p.0 p.1) (wire_item fs))
    (cond (c == 114) (option_map (λ (n : ℕ). Settle n) (one_number fs)) None)))))))

abbrev pub event_from : List Cut → Option Event
event_from [] = None
event_from (f ∷ fs) = bind (letter_in f) (λ c. event_by c fs)

abbrev pub event_of : Span → Option Event
event_of line = bind (cut_fields 4 line) event_from
