-- What cutting at a byte gives, and lines.
use Rattle.std.proofs.Common.{◌≡◌, ℕ, suc, ◌-◌, eqb, List, [], ◌∷◌, ◌++◌, length, take, drop, Some, None, Ok, Err, Option, sym, refl, ap, ◌∙◌, subst, ⊎_elim, append-nil, arith, length-append, take-append-drop}
use Rattle.std.proofs.lemmas.List.{take_at, drop_at}
use Rattle.std.proofs.lemmas.Bool.{cases_Bool, cond-true, cond-false, eqb-true, eq-eqb, ne_eqb}
use Rattle.std.specs.Option.{option_map}
use Rattle.text.specs.declared.fault.LineFault.{LineFault}
use Rattle.text.specs.Parts.{Span, place_of, up_to, before, tail_of, after, fault_at, line_ended, line_of}
use Rattle.text.specs.Written.{Free}

pub free_append : (stop : ℕ) (v w : List ℕ) → Free stop v → Free stop w → Free stop (v ++ w)
free_append stop [] w f g = g
free_append stop (b ∷ bs) w f g = (f.0, free_append stop bs w f.1 g)

-- the bytes before the first `stop`, counted
free_up_to : (stop : ℕ) (w r : List ℕ) → Free stop w → up_to stop (w ++ (stop ∷ r)) ≡ length w
free_up_to stop [] r f = cond-true _ _ _ (eq-eqb stop stop refl)
free_up_to stop (b ∷ bs) r f = cond-false _ _ _ (ne_eqb b stop f.0) ∙ ap suc (free_up_to stop bs r f.1)

free_all : (stop : ℕ) (w : List ℕ) → Free stop w → up_to stop w ≡ length w
free_all stop [] f = refl
free_all stop (b ∷ bs) f = cond-false _ _ _ (ne_eqb b stop f.0) ∙ ap suc (free_all stop bs f.1)

module _ (stop : ℕ) where
  found : (bs r : List ℕ) → tail_of (drop (up_to stop bs) bs) ≡ Some r → bs ≡ take (up_to stop bs) bs ++ (stop ∷ r)
  found [] r e = absurd (grind arith)
  found (b ∷ bs) r e =
      let P : ℕ → Type 0 = λ n. tail_of (drop n (b ∷ bs)) ≡ Some r → b ∷ bs ≡ take n (b ∷ bs) ++ (stop ∷ r) in
      ⊎_elim
      (λ yes. subst P (sym (cond-true (eqb b stop) 0 (suc (up_to stop bs)) yes)) (λ q. let t : bs ≡ r = cc in let s = eqb-true b stop yes in (λ i. s i ∷ t i)) e)
      (λ no. subst P (sym (cond-false (eqb b stop) 0 (suc (up_to stop bs)) no)) (λ q. ap (λ t. b ∷ t) (found bs r q)) e)
      (cases_Bool (eqb b stop))

  missing : (bs : List ℕ) → tail_of (drop (up_to stop bs) bs) ≡ None → take (up_to stop bs) bs ≡ bs
  missing [] e = refl
  missing (b ∷ bs) e =
      let P : ℕ → Type 0 = λ n. tail_of (drop n (b ∷ bs)) ≡ None → take n (b ∷ bs) ≡ b ∷ bs in
      ⊎_elim
      (λ yes. subst P (sym (cond-true (eqb b stop) 0 (suc (up_to stop bs)) yes)) (λ q. absurd (grind arith)) e)
      (λ no. subst P (sym (cond-false (eqb b stop) 0 (suc (up_to stop bs)) no)) (λ q. ap (λ t. b ∷ t) (missing bs q)) e)
      (cases_Bool (eqb b stop))

  unmapped : (e : ℕ) (o : Option (List ℕ)) (q : Span) → option_map (λ bs. (bs, e)) o ≡ Some q → (o ≡ Some q.0) × (q.1 ≡ e)
  unmapped e None q h = absurd (grind arith)
  unmapped e (Some r) q h = let t : (r, e) ≡ q = cc in (ap (λ (s : Span). Some s.0) t, sym (ap (λ (s : Span). s.1) t))

  not_mapped : (e : ℕ) (o : Option (List ℕ)) → option_map {U = Span} (λ bs. (bs, e)) o ≡ None → o ≡ None
  not_mapped e None h = refl
  not_mapped e (Some r) h = absurd (grind arith)

  -- a cut part is what stands before the byte, the byte and what follows
  pub cut_only : (p q : Span) → after stop p ≡ Some q → (p.0 ≡ (before stop p).0 ++ (stop ∷ q.0)) × (q.1 ≡ p.1)
  cut_only p q e = let u = unmapped p.1 (tail_of (drop (up_to stop p.0) p.0)) q e in (found p.0 q.0 u.0, u.1)

  pub uncut_only : (p : Span) → after stop p ≡ None → (before stop p).0 ≡ p.0
  uncut_only p e = missing p.0 (not_mapped p.1 (tail_of (drop (up_to stop p.0) p.0)) e)

  pub cut_back : (w r : List ℕ) (e : ℕ) → Free stop w → (before stop (w ++ (stop ∷ r), e) ≡ (w, e - suc (length r))) × (after stop (w ++ (stop ∷ r), e) ≡ Some (r, e))
  cut_back w r e f =
      let n = sym (free_up_to stop w r f) in
      let l : take (up_to stop (w ++ (stop ∷ r))) (w ++ (stop ∷ r)) ≡ w = take_at w _ _ n in
      let d : drop (up_to stop (w ++ (stop ∷ r))) (w ++ (stop ∷ r)) ≡ stop ∷ r = drop_at w _ _ n in
      ((λ i. (l i, e - length (d i))), ap (λ t. option_map (λ bs. (bs, e)) (tail_of t)) d)

  pub uncut_back : (w : List ℕ) (e : ℕ) → Free stop w → (before stop (w, e) ≡ (w, e - 0)) × (after stop (w, e) ≡ None)
  uncut_back w e f =
      let n : length w ≡ up_to stop w = sym (free_all stop w f) in
      let w' = append-nil w in
      let l : take (up_to stop w) w ≡ w = ap (take (up_to stop w)) (sym w') ∙ take_at w [] _ n in
      let d : drop (up_to stop w) w ≡ [] = ap (drop (up_to stop w)) (sym w') ∙ drop_at w [] _ n in
      ((λ i. (l i, e - length (d i))), ap (λ t. option_map (λ bs. (bs, e)) (tail_of t)) d)

before_place : (p : Span) → place_of (before 10 p) ≡ place_of p
before_place p =
    let n = up_to 10 p.0 in
    let s = sym (length-append (take (up_to 10 p.0) p.0) (drop (up_to 10 p.0) p.0)) ∙ ap length (take-append-drop (up_to 10 p.0) p.0) in
    omega arith

-- A line that is cut out stands first, with byte 10 after it, and starts where the part starts.
pub line_only : (p : Span) (q : Span × Span) → line_of p ≡ Ok q → (p.0 ≡ q.0.0 ++ (10 ∷ q.1.0)) × (q.1.1 ≡ p.1) × (place_of q.0 ≡ place_of p)
line_only p q e =
    (elim (after 10 p) as (λ o. after 10 p ≡ o → line_ended p o ≡ Ok q → (p.0 ≡ q.0.0 ++ (10 ∷ q.1.0)) × (q.1.1 ≡ p.1) × (place_of q.0 ≡ place_of p)) [
      | None ↦ λ a b. absurd (grind arith)
      | Some r ↦ λ a b.
          let t : (before 10 p, r) ≡ q = cc in
          let c = cut_only 10 p r a in
          let P : Span × Span → Type 0 = λ q. (p.0 ≡ q.0.0 ++ (10 ∷ q.1.0)) × (q.1.1 ≡ p.1) × (place_of q.0 ≡ place_of p) in
          subst P t (c.0, c.1, before_place p)
    ]) refl e

-- Bytes without byte 10, before a byte 10, are cut out as a line.
pub line_back : (l r : List ℕ) (e : ℕ) → Free 10 l → line_of (l ++ (10 ∷ r), e) ≡ Ok ((l, e - suc (length r)), (r, e))
line_back l r e f =
    let c = cut_back 10 l r e f in
    ap (line_ended (l ++ (10 ∷ r), e)) c.1 ∙ ap (λ b. Ok (b, (r, e))) c.0

pub line_fault : (p : Span) (f : LineFault) → line_of p ≡ Err f → f ≡ fault_at p
line_fault p f e =
    (elim (after 10 p) as (λ o. line_ended p o ≡ Err f → f ≡ fault_at p) [ None ↦ λ b. cc | Some r ↦ λ b. absurd (grind arith) ]) e
