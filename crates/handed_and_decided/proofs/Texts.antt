-- Texts one behind the other.
use Rattle.std.proofs.Common.{◌≡◌, ℕ, ◌+◌, List, ◌++◌, sym, ap, ◌∙◌, append_assoc, append-nil, add-one}
use Rattle.handed_and_decided.specs.Lines.{texts_below}

-- At first there is none.
pub none_yet : (start : List ℕ) (text : ℕ → List ℕ) → start ≡ start ++ texts_below text 0
unfolding texts_below
none_yet start text = sym (append-nil start)

-- One text more.
pub one_more : (start was now : List ℕ) (text : ℕ → List ℕ) (k : ℕ) → was ≡ start ++ texts_below text k → now ≡ was ++ text k → now ≡ start ++ texts_below text (k + 1)
unfolding texts_below
one_more start was now text k e f =
    f ∙ ap (λ z. z ++ text k) e ∙ append_assoc start (texts_below text k) (text k) ∙ ap (λ n. start ++ texts_below text n) (sym (add-one k))

-- The parts of a line.
pub in_line : (out a b c d : List ℕ) → (((out ++ a) ++ b) ++ c) ++ d ≡ out ++ (a ++ (b ++ (c ++ d)))
in_line out a b c d = simp append_assoc
