-- The lines that are read are those that stand there.
use Rattle.std.proofs.Common.{◌≡◌, ℕ, zero, suc, ◌+◌, ◌≤◌, List, [], ◌∷◌, ◌++◌, length, Ok, Err, Option, Result, sym, refl, ap, ◌∙◌, subst, inl, inr, append_assoc, append-nil, arith, length-append}
use Rattle.std.specs.List.{AllByRecursion}
use Rattle.text.specs.declared.fault.LineFault.{LineFault}
use Rattle.text.specs.Parts.{Span, place_of, fault_at}
use Rattle.entries.specs.Chains.{and_then}
use Rattle.entries.specs.Lines.{line_by, lines_after, lines_of}
use Rattle.entries.specs.Written.{ReadsWritten, anywhere, written_lines}
use Rattle.entries.proofs.RuleLaws.{then_ok, then_err, one_only, one_back, one_fault, one_due}
use Rattle.reader.specs.Sections.{end_of}
use Rattle.reader.specs.Written.{put_lines}
use Rattle.reader.specs.Says.{LinesStand, LinesStop, SectionSays}

pub put_anywhere : {B : Type 0} (text : B → List ℕ) (place : ℕ) (bs : List B) → put_lines anywhere text place bs ≡ bs
put_anywhere text place [] = refl
put_anywhere text place (b ∷ bs) = ap (λ cs. b ∷ cs) (put_anywhere text (place + length (text b) + 1) bs)

module _ {A B : Type 0} (rule : Span → Option A) (put : ℕ → B → A) (text : B → List ℕ) (Fit : B → Type 0) (w : ReadsWritten rule put text Fit) where
  abbrev Values : List A → ℕ → Span → List A × Span → List B → Type 0
  Values sofar k p r bs = length p.0 ≤ p.1 → r.0 ≡ sofar ++ put_lines put text (place_of p) bs

  pub lines_only : (sofar : List A) (k : ℕ) (p : Span) (r : List A × Span) → lines_after rule sofar k p ≡ Ok r → (bs : List B) × LinesStand text Fit k p r.1 bs × Values sofar k p r bs
  lines_only sofar zero p r e =
      let q : (sofar, p) ≡ r = cc in
      let P : List A × Span → Type 0 = λ r. (bs : List B) × LinesStand text Fit zero p r.1 bs × Values sofar zero p r bs in
      subst P q ([], record { many = refl; fine = tt; stands = refl; end = refl }, λ h. sym (append-nil sofar))
  lines_only sofar (suc k) p r e =
      let t = then_ok (line_by rule p) (λ q. lines_after rule (sofar ++ (q.0 ∷ [])) k q.1) r e in
      let x = t.0.0 in
      let q = t.0.1 in
      let o = one_only rule put text Fit w p t.0 t.1 in
      let b = o.0 in
      let ih = lines_only (sofar ++ (t.0.0 ∷ [])) k t.0.1 r t.2 in
      let s = ih.1 in
      let n = ap length o.1.1 ∙ length-append (text o.0) (10 ∷ t.0.1.0) in
      let end = o.1.2 in (
        o.0 ∷ ih.0,
        record {
          many = ap suc s.many;
          fine = (o.1.3, s.fine);
          stands = o.1.1 ∙ ap (λ u. text o.0 ++ (10 ∷ u)) s.stands ∙ sym (append_assoc (text o.0) (10 ∷ written_lines text ih.0) r.1.0);
          end = s.end ∙ o.1.2;
        },
        λ h.
            let place : place_of t.0.1 ≡ place_of p + length (text o.0) + 1 = omega arith in
            ih.2 (omega arith) ∙ append_assoc sofar (t.0.0 ∷ []) _
            ∙ (λ i. sofar ++ (o.1.0 i ∷ put_lines put text (place i) ih.0)),
      )

  pub lines_back : (sofar : List A) (bs : List B) (r : List ℕ) (e : ℕ) → AllByRecursion Fit bs → length (written_lines text bs ++ r) ≤ e
      → lines_after rule sofar (length bs) (written_lines text bs ++ r, e) ≡ Ok (sofar ++ put_lines put text (place_of (written_lines text bs ++ r, e)) bs, (r, e))
  lines_back sofar [] r e a h = ap (λ xs. Ok (xs, (r, e))) (sym (append-nil sofar))
  lines_back sofar (b ∷ bs) r e a h =
      let regroup = append_assoc (text b) (10 ∷ written_lines text bs) r in
      let rest = written_lines text bs ++ r in
      let n = ap length regroup ∙ length-append (text b) (10 ∷ (written_lines text bs ++ r)) in
      let first = place_of (written_lines text (b ∷ bs) ++ r, e) in
      let here : place_of (text b ++ (10 ∷ (written_lines text bs ++ r)), e) ≡ place_of (written_lines text (b ∷ bs) ++ r, e) = ap (λ u. place_of (u, e)) (sym regroup) in
      let next : place_of (written_lines text bs ++ r, e) ≡ place_of (written_lines text (b ∷ bs) ++ r, e) + length (text b) + 1 = omega arith in
      ap (λ u. lines_after rule sofar (suc (length bs)) (u, e)) regroup
      ∙ ap (λ s. and_then s (λ q. lines_after rule (sofar ++ (q.0 ∷ [])) (length bs) q.1)) (one_back rule put text Fit w b (written_lines text bs ++ r) e a.0)
      ∙ lines_back (sofar ++ (put (place_of (text b ++ (10 ∷ (written_lines text bs ++ r)), e)) b ∷ [])) bs r e a.1 (omega arith)
      ∙ ap (λ xs. Ok (xs, (r, e))) (append_assoc sofar (put (place_of (text b ++ (10 ∷ (written_lines text bs ++ r)), e)) b ∷ []) _ ∙ (λ i. sofar ++ (put (here i) b ∷ put_lines put text (next i) bs)))

  pub lines_stop : (sofar : List A) (k : ℕ) (p : Span) (f : LineFault) → lines_after rule sofar k p ≡ Err f → LinesStop text Fit k p f
  lines_stop sofar zero p f e = absurd (grind arith)
  lines_stop sofar (suc k) p f e =
      elim (then_err (line_by rule p) (λ q. lines_after rule (sofar ++ (q.0 ∷ [])) k q.1) f e) [
        | inl l ↦ record { sofar = []; few = omega arith; fine = tt; tail = p.0; stands = refl; fault = one_fault rule put text Fit w p f l; due = one_due rule put text Fit w p f l }
        | inr t ↦
            let o = one_only rule put text Fit w p t.0 t.1 in
            let s = lines_stop (sofar ++ (t.0.0 ∷ [])) k t.0.1 f t.2 in
            record {
              sofar = o.0 ∷ s.sofar;
              few = let few = s.few in omega arith;
              fine = (o.1.3, s.fine);
              tail = s.tail;
              stands = o.1.1 ∙ ap (λ u. text o.0 ++ (10 ∷ u)) s.stands ∙ sym (append_assoc (text o.0) (10 ∷ written_lines text s.sofar) s.tail);
              fault = s.fault ∙ ap (λ e. fault_at (s.tail, e)) o.1.2;
              due = s.due;
            }
      ]

  lines_some : (sofar : List A) (bs : List B) (r : List ℕ) (e : ℕ) → AllByRecursion Fit bs → (xs : List A) × (lines_after rule sofar (length bs) (written_lines text bs ++ r, e) ≡ Ok (xs, (r, e)))
  lines_some sofar [] r e a = (sofar, refl)
  lines_some sofar (b ∷ bs) r e a =
      let rest = written_lines text bs ++ r in
      let x = put (place_of (text b ++ (10 ∷ rest), e)) b in
      let ih = lines_some (sofar ++ (x ∷ [])) bs r e a.1 in (
        ih.0,
        ap (λ u. lines_after rule sofar (suc (length bs)) (u, e)) (append_assoc (text b) (10 ∷ written_lines text bs) r)
            ∙ ap (λ s. and_then s (λ q. lines_after rule (sofar ++ (q.0 ∷ [])) (length bs) q.1)) (one_back rule put text Fit w b rest e a.0)
            ∙ ih.1,
      )

  pub section_says : (count : ℕ) (p : Span) (s : Result (List A × Span) LineFault) (r : Result Span LineFault) → s ≡ lines_of rule count p → r ≡ end_of s → SectionSays text Fit count p r
  unfolding SectionSays
  section_says count p (Ok q) (Ok rest) e h =
      let o = lines_only [] count p q (sym e) in
      let same : q.1 ≡ rest = cc in
      (o.0, subst (λ t. LinesStand text Fit count p t o.0) same o.1)
  section_says count p (Ok q) (Err f) e h = absurd (grind arith)
  section_says count p (Err g) (Ok rest) e h = absurd (grind arith)
  section_says count p (Err g) (Err f) e h =
      let same : g ≡ f = cc in (
        subst (LinesStop text Fit count p) same (lines_stop [] count p g (sym e)),
        λ rest bs l.
            let o = lines_some [] bs rest.0 p.1 l.fine in
            let z = e ∙ ap (λ u. lines_of rule count (u, p.1)) l.stands ∙ ap (λ k. lines_of rule k (written_lines text bs ++ rest.0, p.1)) (sym l.many) ∙ o.1 in
            absurd (grind arith),
      )
