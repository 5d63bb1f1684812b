-- Reading one line by a rule that reads what is written and nothing else.
use Rattle.std.proofs.Common.{◌≡◌, ℕ, suc, ◌-◌, ◌⊎◌, List, ◌∷◌, ◌++◌, length, Some, None, Ok, Err, Option, Result, sym, refl, ap, ◌∙◌, inl, inr, arith, length-append}
use Rattle.std.proofs.lemmas.Bool.{cond-false, ne_eqb}
use Rattle.text.specs.declared.fault.LineFault.{LineFault}
use Rattle.text.specs.declared.fault.LineFault.TheVariants.{Wrong}
use Rattle.text.specs.Parts.{Span, place_of, fault_at, line_of}
use Rattle.text.proofs.LineLaws.{line_only, line_back, line_fault}
use Rattle.entries.specs.Chains.{and_then}
use Rattle.entries.specs.Lines.{or_wrong, line_by}
use Rattle.entries.specs.Written.{ReadsWritten}

-- what a chain came from
pub then_ok : {A B E : Type 0} (r : Result A E) (f : A → Result B E) (y : B) → and_then r f ≡ Ok y → (x : A) × (r ≡ Ok x) × (f x ≡ Ok y)
then_ok (Ok x) f y e = (x, refl, e)
then_ok (Err z) f y e = absurd (grind arith)

pub then_err : {A B E : Type 0} (r : Result A E) (f : A → Result B E) (z : E) → and_then r f ≡ Err z → (r ≡ Err z) ⊎ ((x : A) × (r ≡ Ok x) × (f x ≡ Err z))
then_err (Ok x) f z e = inr (x, refl, e)
then_err (Err y) f z e = inl (let q : y ≡ z = cc in ap (λ w. Err w) q)

wrong_place : (p : Span) (l r : List ℕ) → p.0 ≡ l ++ (10 ∷ r) → Wrong (place_of p) ≡ fault_at p
wrong_place p l r e =
    let n = ap length e ∙ length-append l (10 ∷ r) in
    sym (cond-false _ _ _ (ne_eqb (length p.0) 0 (λ z. omega arith)))

read_by : {A : Type 0} (place : ℕ) (rest : Span) (o : Option A) (q : A × Span) → or_wrong place rest o ≡ Ok q → (o ≡ Some q.0) × (q.1 ≡ rest)
read_by place rest None q e = absurd (grind arith)
read_by place rest (Some x) q e = let t : (x, rest) ≡ q = cc in (ap (λ r. Some r.0) t, sym (ap (λ r. r.1) t))

wrong_by : {A : Type 0} (place : ℕ) (rest : Span) (o : Option A) (f : LineFault) → or_wrong place rest o ≡ Err f → f ≡ Wrong place
wrong_by place rest None f e = cc
wrong_by place rest (Some x) f e = absurd (grind arith)

module _ {A B : Type 0} (rule : Span → Option A) (put : ℕ → B → A) (text : B → List ℕ) (Allowed : B → Type 0) (w : ReadsWritten rule put text Allowed) where
  abbrev Reads : Span → A × Span → B → Type 0
  Reads p q b = (q.0 ≡ put (place_of p) b) × (p.0 ≡ text b ++ (10 ∷ q.1.0)) × (q.1.1 ≡ p.1) × Allowed b

  pub one_only : (p : Span) (q : A × Span) → line_by rule p ≡ Ok q → (b : B) × Reads p q b
  one_only p q e =
      let t = then_ok (line_of p) (λ l. or_wrong (place_of p) l.1 (rule l.0)) q e in
      let l = line_only p t.0 t.1 in
      let r = read_by (place_of p) t.0.1 (rule t.0.0) q t.2 in
      let o = w.only t.0.0 q.0 r.0 in
      let rest = r.1 in (
        o.0,
        (
          o.1 ∙ ap (λ n. put n o.0) l.2,
          l.0 ∙ (λ i. o.2 i ++ (10 ∷ (sym rest i).0)),
          ap (λ s. s.1) rest ∙ l.1,
          o.3,
        ),
      )

  pub one_back : (b : B) (r : List ℕ) (e : ℕ) → Allowed b → line_by rule (text b ++ (10 ∷ r), e) ≡ Ok (put (place_of (text b ++ (10 ∷ r), e)) b, (r, e))
  one_back b r e a =
      let n = length-append (text b) (10 ∷ r) in
      let same : place_of (text b, e - suc (length r)) ≡ place_of (text b ++ (10 ∷ r), e) = omega arith in
      ap (λ s. and_then s (λ l. or_wrong (place_of (text b ++ (10 ∷ r), e)) l.1 (rule l.0))) (line_back (text b) r e (w.clean b a))
      ∙ ap (or_wrong (place_of (text b ++ (10 ∷ r), e)) (r, e)) (w.back b (e - suc (length r)) a)
      ∙ ap (λ n. Ok (put n b, (r, e))) same

  pub one_fault : (p : Span) (f : LineFault) → line_by rule p ≡ Err f → f ≡ fault_at p
  one_fault p f e =
      elim (then_err (line_of p) (λ l. or_wrong (place_of p) l.1 (rule l.0)) f e) [
        | inl n ↦ line_fault p f n
        | inr t ↦
            wrong_by (place_of p) t.0.1 (rule t.0.0) f t.2 ∙ wrong_place p t.0.0.0 t.0.1.0 (line_only p t.0 t.1).0
      ]

  pub one_due : (p : Span) (f : LineFault) → line_by rule p ≡ Err f → (b : B) (more : List ℕ) → Allowed b → p.0 ≡ text b ++ (10 ∷ more) → ⊥
  one_due p f e b more a s =
      let z = sym e ∙ ap (λ t. line_by rule (t, p.1)) s ∙ one_back b more p.1 a in absurd (grind arith)
