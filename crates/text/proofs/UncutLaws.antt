-- A label is read where its bytes are those of one.
use Rattle.std.proofs.Common.{◌≡◌, ℕ, ◌≤◌, true, cond, List, [], ◌∷◌, Some, None, Option, sym, refl, ap, ◌∙◌, subst, arith, ⊎_elim}
use Rattle.std.proofs.lemmas.Bool.Decides.{nat_tests}
use Rattle.std.proofs.lemmas.Bool.{cases_Bool, cond-true, cond-false}
use Rattle.std.specs.List.{AllByRecursion}
use Rattle.labels.specs.Order.{all_printable, is_label}
use Rattle.text.specs.Parts.{Span, place_of}
use Rattle.text.specs.Fields.{word, label, LabelBytes, UncutSays}

abbrev Printed : List ℕ → Type 0
Printed bs = AllByRecursion (λ b. (32 ≤ b) × (b ≤ 126)) bs

printed : (bs : List ℕ) → all_printable bs ≡ true → Printed bs
printed [] e = tt
printed (b ∷ bs) e =
    let low : 32 ≤ b = grind (arith, nat_tests) in
    let high : b ≤ 126 = grind (arith, nat_tests) in
    let rest : all_printable bs ≡ true = grind (arith, nat_tests) in
    ((low, high), printed bs rest)

printable : (bs : List ℕ) → Printed bs → all_printable bs ≡ true
printable [] h = refl
printable (b ∷ bs) h =
    let low = h.0.0 in
    let high = h.0.1 in
    let rest = printable bs h.1 in
    grind (arith, nat_tests)

label_bytes : (bs : List ℕ) → is_label bs ≡ true → LabelBytes bs
label_bytes bs e =
    let all : all_printable bs ≡ true = grind (arith, nat_tests) in
    (grind (arith, nat_tests), grind (arith, nat_tests), printed bs all)

is_one : (bs : List ℕ) → LabelBytes bs → is_label bs ≡ true
is_one bs h =
    let some = h.0 in
    let few = h.1 in
    let all = printable bs h.2 in
    grind (arith, nat_tests)

abbrev Made : List ℕ → ℕ → Option (List ℕ × ℕ)
Made bs place = cond (is_label bs) (Some (bs, place)) None

-- bytes of which a label was made
pub label_says : (p : Span) (b : List ℕ) (a : ℕ) (bs : List ℕ) (place : ℕ) → Some (b, a) ≡ Made bs place → bs ≡ p.0 → place ≡ place_of p → UncutSays p (label b a)
unfolding UncutSays
label_says p b a bs place made same at =
    ⊎_elim
    (λ yes.
    let q : Some (b, a) ≡ Some (bs, place) = made ∙ cond-true _ _ _ yes in
    let e : (b, a) ≡ (bs, place) = cc in
    (ap (λ (m : List ℕ × ℕ). m.0) e ∙ same, ap (λ (m : List ℕ × ℕ). m.1) e ∙ at, subst LabelBytes same (label_bytes bs yes)))
    (λ no. let z : Some (b, a) ≡ None = made ∙ cond-false _ _ _ no in absurd (grind arith))
    (cases_Bool (is_label bs))

-- bytes of which none was made
pub word_says : (p : Span) (bs : List ℕ) (place : ℕ) → None ≡ Made bs place → bs ≡ p.0 → UncutSays p (word p.0 (place_of p))
unfolding UncutSays
word_says p bs place none same = (
  refl,
  refl,
  λ h.
      let yes = is_one bs (subst LabelBytes (sym same) h) in
      let z : None ≡ Some (bs, place) = none ∙ cond-true _ _ _ yes in
      absurd (grind arith),
)
