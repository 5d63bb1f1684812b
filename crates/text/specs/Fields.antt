-- Fields: numbers, words and labels.
use Rattle.std.specs.Prelude.{◌≡◌, ℕ, zero, suc, ◌-◌, ◌≤◌, Bool, false, cond, List, [], ◌∷◌, length, Some, None, Option, nat_le}
use Rattle.std.specs.List.{AllByRecursion}
use Rattle.std.specs.Option.{option_map}
use Rattle.std.specs.Str.{bytes_eq}
use Rattle.labels.specs.Order.{label_of, is_label}
use Rattle.text.specs.declared.field.Field.{Field}
use Rattle.text.specs.declared.field.Field.TheVariants.{Number, Word, Label}
use Rattle.text.specs.declared.field.Fields.{Fields}
use Rattle.text.specs.declared.field.Fields.TheVariants.{One, Two, Three, Four, More}
use Rattle.text.specs.Numbers.{numeral}
use Rattle.text.specs.Parts.{Span, part_of, place_of, before, after}

-- What a field stands for: a word and a label are bytes and the place where they start.
pub data Cut : Type 0 where
  number : ℕ → Cut
  word : List ℕ → ℕ → Cut
  label : List ℕ → ℕ → Cut

abbrev pub field_of : Field → Cut
field_of (Number n) = number n
field_of (Word w) = word (part_of w).0 (place_of (part_of w))
field_of (Label l) = label (label_of l).0 (label_of l).1

-- up to four fields
abbrev pub fields_of : Fields → Option (List Cut)
fields_of (One a) = Some (field_of a ∷ [])
fields_of (Two a b) = Some (field_of a ∷ field_of b ∷ [])
fields_of (Three a b c) = Some (field_of a ∷ field_of b ∷ field_of c ∷ [])
fields_of (Four a b c d) = Some (field_of a ∷ field_of b ∷ field_of c ∷ field_of d ∷ [])
fields_of More = None

abbrev pub number_or : Span → Option ℕ → Cut
number_or p None = word p.0 (place_of p)
number_or p (Some n) = number n

-- Bytes that are a number's digits are that number; others are a word.
abbrev pub read_field : Span → Cut
read_field p = number_or p (numeral p.0)

-- Bytes that are not cut at their spaces are a label, if they can be one; others are a word.
abbrev pub read_uncut : Span → Cut
read_uncut p = cond (is_label p.0) (label p.0 (place_of p)) (word p.0 (place_of p))

-- one to eight bytes, each of 32 to 126
abbrev pub LabelBytes : List ℕ → Type 0
LabelBytes bs = (1 ≤ length bs) × (length bs ≤ 8) × AllByRecursion (λ b. (32 ≤ b) × (b ≤ 126)) bs

-- A field that is not cut is all the bytes of its part, and starts where they start. It is a label exactly if these
-- are the bytes of one.
unfoldable pub UncutSays : Span → Cut → Type 0
UncutSays p (number n) = ⊥
UncutSays p (word bs place) = (bs ≡ p.0) × (place ≡ p.1 - length p.0) × (LabelBytes p.0 → ⊥)
UncutSays p (label bs place) = (bs ≡ p.0) × (place ≡ p.1 - length p.0) × LabelBytes p.0

abbrev pub fields_after : Cut → (Span → Option (List Cut)) → Option Span → Option (List Cut)
fields_after f more None = Some (f ∷ [])
fields_after f more (Some rest) = option_map (λ fs. f ∷ fs) (more rest)

-- The fields that single spaces part, if they are not more than so many.
abbrev pub cut_fields : ℕ → Span → Option (List Cut)
cut_fields zero p = None
cut_fields (suc k) p = fields_after (read_field (before 32 p)) (cut_fields k) (after 32 p)

-- the number that a field is, up to a limit
abbrev pub number_in : ℕ → Cut → Option ℕ
number_in most (number n) = cond (nat_le n most) (Some n) None
number_in most (word w place) = None
number_in most (label w place) = None

abbrev pub only_byte : List ℕ → Option ℕ
only_byte [] = None
only_byte (b ∷ []) = Some b
only_byte (b ∷ c ∷ cs) = None

-- the letter that a field is
abbrev pub letter_in : Cut → Option ℕ
letter_in (number n) = None
letter_in (word w place) = only_byte w
letter_in (label w place) = None

abbrev pub is_word : List ℕ → Cut → Bool
is_word w (number n) = false
is_word w (word bs place) = bytes_eq bs w
is_word w (label bs place) = false

-- the label that a field is, as its bytes and the place where they start
abbrev pub label_in : Cut → Option (List ℕ × ℕ)
label_in (number n) = None
label_in (word bs place) = None
label_in (label bs place) = Some (bs, place)
