-- Where a line that is refused was due.
use Rattle.std.proofs.Common.{◌≡◌, ℕ, ◌≤◌, List, [], ◌∷◌, ◌++◌, length, Ok, sym, ap, ◌∙◌, subst, arith, length-append}
use Rattle.std.proofs.lemmas.Bool.{cond-false, ne_eqb}
use Rattle.text.specs.declared.fault.LineFault.{LineFault}
use Rattle.text.specs.declared.fault.LineFault.TheVariants.{Wrong}
use Rattle.text.specs.Faults.{DueIn}
use Rattle.text.specs.Parts.{Span, place_of, fault_at, line_of}
use Rattle.text.proofs.LineLaws.{line_only}

-- the line that is due at a tail of a part
tail_due : (p : Span) (tail : List ℕ) → length tail ≤ length p.0 → DueIn p (fault_at (tail, p.1))
unfolding DueIn
tail_due p [] h = (omega arith, omega arith, omega arith)
tail_due p (b ∷ bs) h =
    let some : length (b ∷ bs) ≡ 0 → ⊥ = λ z. absurd (omega arith) in
    let wrong : fault_at (b ∷ bs, p.1) ≡ Wrong (place_of (b ∷ bs, p.1)) = cond-false _ _ _ (ne_eqb (length (b ∷ bs)) 0 some) in
    subst (DueIn p) (sym wrong) (omega arith, omega arith, λ k. omega arith)

pub due_at : (p : Span) (sofar tail : List ℕ) (f : LineFault) → p.0 ≡ sofar ++ tail → f ≡ fault_at (tail, p.1) → DueIn p f
due_at p sofar tail f e fault =
    let n = ap length e ∙ length-append sofar tail in
    subst (DueIn p) (sym fault) (tail_due p tail (omega arith))

-- a line that ends, and says nothing
pub wrong_due : (p : Span) (place : ℕ) (q : Span × Span) → Ok q ≡ line_of p → place ≡ place_of p → DueIn p (Wrong place)
unfolding DueIn
wrong_due p place q e at =
    let s = (line_only p q (sym e)).0 in
    let n = ap length s ∙ length-append q.0.0 (10 ∷ q.1.0) in
    (omega arith, omega arith, λ k. omega arith)
