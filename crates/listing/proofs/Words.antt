-- The words of the lines.
use Rattle.std.proofs.Common.{◌≡◌, ℕ, List, [], ◌∷◌, ◌++◌, codes, map, refl, ap, append-nil}
use Rattle.labels.specs.declared.Label.{Label}
use Rattle.labels.specs.Order.{label_of}
use Rattle.text.specs.Written.{spaced}
use Rattle.entries.specs.Written.{label_text, written_lines}
use Rattle.faults.specs.Faults.{fault_text}
use Rattle.faults.specs.declared.FileFault.{FileFault}
use Rattle.listing.specs.Listing.{fault_line}

pub fault_words : (f : FileFault) → written_lines spaced (fault_line f ∷ []) ≡ codes "bad " ++ (fault_text f ++ codes "\n")
fault_words f = ap (λ z. codes "bad " ++ (z ++ codes "\n")) (append-nil (fault_text f))

-- Labels are written as their bytes.
pub label_texts : (labels : List Label) → map (λ (l : List ℕ × ℕ). label_text l.0) (map label_of labels) ≡ map (λ l. label_text (label_of l).0) labels
label_texts [] = refl
label_texts (l ∷ ls) = ap (λ z. label_text (label_of l).0 ∷ z) (label_texts ls)
