-- The lines of a section are read one by one.
use Rattle.std.proofs.Common.{◌≡◌, ℕ, zero, suc, ◌+◌, ◌-◌, ◌<◌, ◌≤◌, List, [], ◌∷◌, ◌++◌, Ok, Err, Option, Result, sym, refl, ap, ◌∙◌, arith}
use Rattle.text.specs.Parts.{Span}
use Rattle.text.specs.declared.fault.LineFault.{LineFault}
use Rattle.entries.specs.Chains.{and_then}
use Rattle.entries.specs.Lines.{line_by, lines_after}
use Rattle.reader.specs.Sections.{end_of}

module _ {A : Type 0} (rule : Span → Option A) where
  -- where so many lines end
  abbrev pub skip_lines : ℕ → Span → Result Span LineFault
  skip_lines zero p = Ok p
  skip_lines (suc k) p = and_then (line_by rule p) (λ q. skip_lines k q.1)

  pub skip_ends : (sofar : List A) (k : ℕ) (p : Span) → end_of (lines_after rule sofar k p) ≡ skip_lines k p
  skip_ends sofar zero p = refl
  skip_ends sofar (suc k) p =
      elim (line_by rule p) as (λ r. end_of (and_then r (λ q. lines_after rule (sofar ++ (q.0 ∷ [])) k q.1)) ≡ and_then r (λ q. skip_lines k q.1))
      [ Ok q ↦ skip_ends (sofar ++ (q.0 ∷ [])) k q.1 | Err e ↦ refl ]

  module _ (n i : ℕ) (p : Span) (h : i < n) where
    step : (sofar : List A) → lines_after rule sofar (n - i) p ≡ and_then (line_by rule p) (λ q. lines_after rule (sofar ++ (q.0 ∷ [])) (n - (i + 1)) q.1)
    step sofar = let e : n - i ≡ suc (n - (i + 1)) = omega arith in ap (λ k. lines_after rule sofar k p) e

    skip_step : skip_lines (n - i) p ≡ and_then (line_by rule p) (λ q. skip_lines (n - (i + 1)) q.1)
    skip_step = let e : n - i ≡ suc (n - (i + 1)) = omega arith in ap (λ k. skip_lines k p) e

    pub line_more : (s : Result (List A × Span) LineFault) (sofar after : List A) (x : A) (q : Span)
        → s ≡ lines_after rule sofar (n - i) p → Ok (x, q) ≡ line_by rule p → after ≡ sofar ++ (x ∷ []) → s ≡ lines_after rule after (n - (i + 1)) q
    line_more s sofar after x q e l a =
        e ∙ step sofar ∙ ap (λ r. and_then r (λ q. lines_after rule (sofar ++ (q.0 ∷ [])) (n - (i + 1)) q.1)) (sym l)
        ∙ ap (λ xs. lines_after rule xs (n - (i + 1)) q) (sym a)

    pub line_wrong : (s : Result (List A × Span) LineFault) (sofar : List A) (f : LineFault)
        → s ≡ lines_after rule sofar (n - i) p → Err f ≡ line_by rule p → s ≡ Err f
    line_wrong s sofar f e l = e ∙ step sofar ∙ ap (λ r. and_then r (λ q. lines_after rule (sofar ++ (q.0 ∷ [])) (n - (i + 1)) q.1)) (sym l)

    pub skip_more : (s : Result Span LineFault) (x : A) (q : Span) → s ≡ skip_lines (n - i) p → Ok (x, q) ≡ line_by rule p → s ≡ skip_lines (n - (i + 1)) q
    skip_more s x q e l = e ∙ skip_step ∙ ap (λ r. and_then r (λ q. skip_lines (n - (i + 1)) q.1)) (sym l)

    pub skip_wrong : (s : Result Span LineFault) (f : LineFault) → s ≡ skip_lines (n - i) p → Err f ≡ line_by rule p → s ≡ Err f
    skip_wrong s f e l = e ∙ skip_step ∙ ap (λ r. and_then r (λ q. skip_lines (n - (i + 1)) q.1)) (sym l)

  pub no_more : (sofar : List A) (n i : ℕ) (p : Span) → n ≤ i → lines_after rule sofar (n - i) p ≡ Ok (sofar, p)
  no_more sofar n i p h = let e : n - i ≡ 0 = omega arith in ap (λ k. lines_after rule sofar k p) e

  pub skip_no_more : (n i : ℕ) (p : Span) → n ≤ i → skip_lines (n - i) p ≡ Ok p
  skip_no_more n i p h = let e : n - i ≡ 0 = omega arith in ap (λ k. skip_lines k p) e
