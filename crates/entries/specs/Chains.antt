-- One reading after another.
use Rattle.std.specs.Prelude.{List, [], ◌∷◌, Some, None, Ok, Err, Option, Result}

abbrev pub bind : {A B : Type 0} → Option A → (A → Option B) → Option B
bind None f = None
bind (Some x) f = f x

abbrev pub and_then : {A B E : Type 0} → Result A E → (A → Result B E) → Result B E
and_then (Ok x) f = f x
and_then (Err e) f = Err e

abbrev pub map_err : {A E F : Type 0} → (E → F) → Result A E → Result A F
map_err f (Ok x) = Ok x
map_err f (Err e) = Err (f e)

-- what two fields say, where there are two
abbrev pub of_two : {F A : Type 0} → (F → F → Option A) → List F → Option A
of_two rule [] = None
of_two rule (a ∷ []) = None
of_two rule (a ∷ b ∷ []) = rule a b
of_two rule (a ∷ b ∷ c ∷ ds) = None
