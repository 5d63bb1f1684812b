-- Fields that are cut apart are those that are written with a space between each two.
use Rattle.std.proofs.Common.{◌≡◌, ℕ, zero, suc, ◌-◌, ◌<◌, List, [], ◌∷◌, ◌++◌, map, length, Some, None, Option, sym, refl, ap, ◌∙◌, subst, append-nil, arith}
use Rattle.std.specs.Option.{option_map}
use Rattle.std.specs.List.{AllByRecursion}
use Rattle.text.specs.Numbers.{numeral}
use Rattle.text.specs.Parts.{Span, before, after}
use Rattle.text.specs.Fields.{Cut, number_or, read_field, fields_after, cut_fields}
use Rattle.text.specs.Written.{Free, spaced, spaced_after, field_bytes}
use Rattle.text.proofs.DecimalLaws.{numeral_only}
use Rattle.text.proofs.LineLaws.{cut_only, uncut_only, cut_back, uncut_back}

pub read_bytes : (p : Span) → field_bytes (read_field p) ≡ p.0
read_bytes p =
    (elim (numeral p.0) as (λ o. numeral p.0 ≡ o → field_bytes (number_or p o) ≡ p.0)
    [ None ↦ λ e. refl | Some n ↦ λ e. sym (numeral_only p.0 n e).1 ]) refl

pub mapped_some : {A B : Type 0} (f : A → B) (o : Option A) (y : B) → option_map f o ≡ Some y → (x : A) × (o ≡ Some x) × (f x ≡ y)
mapped_some f None y e = absurd (grind arith)
mapped_some f (Some x) y e = (x, refl, cc)

spaced_more : (w : List ℕ) (fs : List (List ℕ)) (r : List ℕ) → 0 < length fs → r ≡ spaced fs → w ++ (32 ∷ r) ≡ spaced (w ∷ fs)
spaced_more w [] r h e = absurd (omega arith)
spaced_more w (v ∷ vs) r h e = ap (λ t. w ++ (32 ∷ t)) e

some_fields : (k : ℕ) (p : Span) (fs : List Cut) → cut_fields k p ≡ Some fs → 0 < length (map field_bytes fs)
some_fields zero p fs e = absurd (grind arith)
some_fields (suc k) p fs e =
    (elim (after 32 p) as (λ o. fields_after (read_field (before 32 p)) (cut_fields k) o ≡ Some fs → 0 < length (map field_bytes fs)) [
      | None ↦ λ b. let t : read_field (before 32 p) ∷ [] ≡ fs = cc in subst (λ gs. 0 < length (map field_bytes gs)) t (omega arith)
      | Some r ↦ λ b. let s = mapped_some (λ gs. read_field (before 32 p) ∷ gs) (cut_fields k r) fs b in subst (λ gs. 0 < length (map field_bytes gs)) s.2 (omega arith)
    ]) e

pub fields_only : (k : ℕ) (p : Span) (fs : List Cut) → cut_fields k p ≡ Some fs → p.0 ≡ spaced (map field_bytes fs)
fields_only zero p fs e = absurd (grind arith)
fields_only (suc k) p fs e =
    let first = read_bytes (before 32 p) in
    (elim (after 32 p) as (λ o. after 32 p ≡ o → fields_after (read_field (before 32 p)) (cut_fields k) o ≡ Some fs → p.0 ≡ spaced (map field_bytes fs)) [
      | None ↦ λ a b.
          let t : read_field (before 32 p) ∷ [] ≡ fs = cc in
          sym (uncut_only 32 p a) ∙ sym first ∙ sym (append-nil _) ∙ ap (λ gs. spaced (map field_bytes gs)) t
      | Some r ↦ λ a b.
          let s = mapped_some (λ gs. read_field (before 32 p) ∷ gs) (cut_fields k r) fs b in
          let ih = fields_only k r s.0 s.1 in
          (cut_only 32 p r a).0 ∙ ap (λ w. w ++ (32 ∷ r.0)) (sym first)
          ∙ spaced_more (field_bytes (read_field (before 32 p))) (map field_bytes s.0) r.0 (some_fields k r s.0 s.1) ih
          ∙ ap (λ gs. spaced (map field_bytes gs)) s.2
    ]) refl e

-- the fields of a line that ends at a place
abbrev pub placed : ℕ → List (List ℕ) → List Cut
placed e [] = []
placed e (w ∷ ws) = read_field (w, e - length (spaced_after ws)) ∷ placed e ws

pub fields_back : (k e : ℕ) (w : List ℕ) (ws : List (List ℕ)) → Free 32 w → AllByRecursion (Free 32) ws → length ws < k → cut_fields k (spaced (w ∷ ws), e) ≡ Some (placed e (w ∷ ws))
fields_back zero e w ws f g h = absurd (omega arith)
fields_back (suc k) e w [] f g h =
    let c = uncut_back 32 w e f in
    ap (λ t. cut_fields (suc k) (t, e)) (append-nil w)
    ∙ ap (fields_after (read_field (before 32 (w, e))) (cut_fields k)) c.1
    ∙ ap (λ b. Some (read_field b ∷ [])) c.0
fields_back (suc k) e w (v ∷ vs) f g h =
    let c = cut_back 32 w (spaced (v ∷ vs)) e f in
    ap (fields_after (read_field (before 32 (w ++ (32 ∷ spaced (v ∷ vs)), e))) (cut_fields k)) c.1
    ∙ ap (λ b. option_map (λ fs. read_field b ∷ fs) (cut_fields k (spaced (v ∷ vs), e))) c.0
    ∙ ap (option_map (λ fs. read_field (w, e - suc (length (spaced (v ∷ vs)))) ∷ fs)) (fields_back k e v vs g.0 g.1 (omega arith))
