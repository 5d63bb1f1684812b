-- The bytes of lines.
use Rattle.std.proofs.Common.{◌≡◌, ℕ, Bool, Err, map, codes, decimal, List, [], ◌∷◌, ◌++◌, sym, refl, ap, ◌∙◌, append_assoc}
use Rattle.text.specs.Written.{spaced_after}
use Rattle.parts.specs.Refusals.{number}
use Rattle.parts.specs.declared.refusal.Refusal.{Refusal}
use Rattle.run_report.specs.Lines.{Line, lines_text, refusal_line, card_word, log_line, rest_word, steps_line}

-- Two words and what follows them in the line.
pub two_words : (a b more : List ℕ) → (a ++ (32 ∷ (b ++ more))) ++ (10 ∷ []) ≡ a ++ (32 ∷ (b ++ (more ++ (10 ∷ []))))
two_words a b more = append_assoc a (32 ∷ (b ++ more)) (10 ∷ []) ∙ ap (λ z. a ++ (32 ∷ z)) (append_assoc b more (10 ∷ []))

-- The same behind other bytes, in three parts.
pub in_three_parts : (out front a b more : List ℕ) → ((out ++ (front ++ (a ++ (32 ∷ b)))) ++ more) ++ (10 ∷ []) ≡ out ++ (front ++ ((a ++ (32 ∷ (b ++ more))) ++ (10 ∷ [])))
in_three_parts out front a b more = simp append_assoc

-- The words of each kind of line, from left to right.
pub refusal_words : (event : ℕ) (e : Refusal) → lines_text (refusal_line event (Err e)) ≡ codes "no " ++ (decimal event ++ (codes " " ++ (decimal (number e) ++ codes "\n")))
refusal_words event e = ap (λ z. codes "no " ++ z) (two_words (decimal event) (decimal (number e)) [])

pub steps_words : (steps : ℕ) (rest : Bool) → lines_text (steps_line steps rest ∷ []) ≡ codes "steps " ++ (decimal steps ++ (codes " " ++ (rest_word rest ++ codes "\n")))
steps_words steps rest = ap (λ z. codes "steps " ++ z) (two_words (decimal steps) (rest_word rest) [])

-- It is written in three parts.
pub log_words : (out : List ℕ) (card : ℕ) (crashed : Bool) (log : List ℕ)
    → ((out ++ (codes "log " ++ (decimal card ++ (codes " " ++ card_word crashed)))) ++ spaced_after (map decimal log)) ++ codes "\n" ≡ out ++ lines_text (log_line card crashed log ∷ [])
log_words out card crashed log = in_three_parts out (codes "log ") (decimal card) (card_word crashed) (spaced_after (map decimal log))

-- Lines after lines.
pub lines_append : (xs ys : List Line) → lines_text (xs ++ ys) ≡ lines_text xs ++ lines_text ys
lines_append [] ys = refl
lines_append (x ∷ xs) ys = simp (lines_append xs ys, append_assoc)

-- Lines behind other bytes, in three parts.
pub three_parts : (out : List ℕ) (xs ys zs : List Line) → ((out ++ lines_text xs) ++ lines_text ys) ++ lines_text zs ≡ out ++ lines_text (xs ++ (ys ++ zs))
three_parts out xs ys zs =
    append_assoc (out ++ lines_text xs) (lines_text ys) (lines_text zs)
    ∙ append_assoc out (lines_text xs) (lines_text ys ++ lines_text zs)
    ∙ ap (λ z. out ++ (lines_text xs ++ z)) (sym (lines_append ys zs))
    ∙ ap (λ z. out ++ z) (sym (lines_append xs (ys ++ zs)))

-- One line more.
pub one_line_more : (start was now : List ℕ) (lines more : List Line) (x : Line) → was ≡ start ++ lines_text lines → now ≡ was ++ lines_text (x ∷ []) → more ≡ lines ++ (x ∷ []) → now ≡ start ++ lines_text more
one_line_more start was now lines more x e f g =
    f
    ∙ ap (λ z. z ++ lines_text (x ∷ [])) e
    ∙ append_assoc start (lines_text lines) (lines_text (x ∷ []))
    ∙ ap (λ z. start ++ z) (sym (lines_append lines (x ∷ [])))
    ∙ ap (λ z. start ++ lines_text z) (sym g)
