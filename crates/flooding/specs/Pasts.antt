-- What a move of card q to stage r, or within it, leaves of a history: no more changes than what q knew on entering r, and whom it counts there.
use Rattle.std.specs.Prelude.{◌≡◌, ℕ, zero, suc, ◌<◌, ◌≤◌, Bool, true, false, ◌&&◌, ◌≢◌, nat_eq, refl}
use Rattle.std.proofs.Common.{sym, ap, subst, ◌∙◌, ⊎_elim, arith}
use Rattle.std.proofs.lemmas.Bool.{cases_Bool, cases_eq, and_left}
use Rattle.histories.specs.Histories.{Past, Fates, History}
use Rattle.histories.specs.Moves.{put, any, heard_of, proposing, counting, passing}
use Rattle.histories.proofs.Puts.{at_put, at_row, put_same, put_other, row_other}

pub record Further (h l : Past) (q r : ℕ) : Type 0 where
  pub now : l.round q ≡ r
  pub low : h.round q ≤ r
  pub high : r ≤ suc (h.round q)
  pub others : (p : ℕ) → (p ≢ q) → l.round p ≡ h.round p
  pub knew_stays : (p s z : ℕ) → s ≤ h.round p → l.knew p s z ≡ h.knew p s z
  pub counted_stays : (p s y : ℕ) → ((p ≡ q) × (s ≡ r) → ⊥) → l.counted p s y ≡ h.counted p s y
  pub counted_grows : (p s y : ℕ) → h.counted p s y ≡ true → l.counted p s y ≡ true

pub no_further : (h : Past) (q : ℕ) → Further h h q (h.round q)
no_further h q =
    record { now = refl; low = omega arith; high = omega arith; others = λ p d. refl; knew_stays = λ p s z b. refl; counted_stays = λ p s y d. refl; counted_grows = λ p s y e. e }

pub round_grows : (h l : Past) (q r p : ℕ) → Further h l q r → h.round p ≤ l.round p
round_grows h l q r p m =
    ⊎_elim
    (λ (e : p ≡ q). subst (λ a. h.round a ≤ l.round a) (sym e) (omega (arith, m.low, m.now)))
    (λ d. omega (arith, m.others p d))
    (cases_eq p q)

pub then_further : (h l m : Past) (q r : ℕ) → Further h l q r → Further l m q r → Further h m q r
then_further h l m q r a b =
    record {
      now = b.now;
      low = a.low;
      high = a.high;
      others = λ p d. b.others p d ∙ a.others p d;
      knew_stays = λ p s z e. b.knew_stays p s z (omega (arith, round_grows h l q r p a)) ∙ a.knew_stays p s z e;
      counted_stays = λ p s y d. b.counted_stays p s y d ∙ a.counted_stays p s y d;
      counted_grows = λ p s y e. b.counted_grows p s y (a.counted_grows p s y e);
    }

-- The moves.

module _ (h : Past) (q : ℕ) where
  -- It enters round r, the next: row says what it knows then.
  entering_further : (r : ℕ) (row : ℕ → Bool) → r ≡ suc (h.round q)
      → Further h (record { round = put h.round q r; knew = put h.knew q (put (h.knew q) r row); counted = h.counted }) q r
  entering_further r row e =
      record {
        now = put_same h.round q r;
        low = omega arith;
        high = omega arith;
        others = λ p d. put_other h.round q r p d;
        knew_stays = λ p s z b. at_row h.knew q r row p s (λ f. f z ≡ h.knew p s z) (λ a i. absurd (let j = ap h.round a in omega arith)) (λ _. refl);
        counted_stays = λ p s y d. refl;
        counted_grows = λ p s y c. c;
      }

  pub proposing_further : h.round q ≡ 0 → Further h (proposing h q) q 1
  proposing_further e = entering_further 1 (λ x. nat_eq x q) (omega arith)

  pub passing_further : (n : ℕ) → Further h (passing n h q) q (suc (h.round q))
  passing_further n = entering_further (suc (h.round q)) (heard_of n h q (h.round q)) refl

  pub counting_further : (y : ℕ) → Further h (counting h q y) q (h.round q)
  counting_further y =
      let r : ℕ = h.round q in
      let row : ℕ → Bool = put (h.counted q r) y true in
      record {
        now = refl;
        low = omega arith;
        high = omega arith;
        others = λ p d. refl;
        knew_stays = λ p s z b. refl;
        counted_stays = λ p s w d. ap (λ f. f w) (row_other h.counted q r row p s d);
        counted_grows = λ p s w c.
            at_row h.counted q r row p s (λ f. f w ≡ true)
            (λ a b. at_put (h.counted q r) y true w (λ v. v ≡ true) (λ _. refl) (λ _. subst (λ i. h.counted i r w ≡ true) a (subst (λ i. h.counted p i w ≡ true) b c)))
            (λ _. c);
      }

-- What has been heard elsewhere stays.

pub any_same : (n : ℕ) (f g : ℕ → Bool) → ((y : ℕ) → f y ≡ g y) → any n f ≡ any n g
any_same zero f g e = refl
any_same (suc n) f g e = cc (e n, any_same n f g e)

module _ (n : ℕ) (f : Fates) (h : Past) (i : History n f h) where
  pub heard_stays : (l : Past) (q r p s z : ℕ) → Further h l q r → ((p ≡ q) × (s ≡ r) → ⊥) → heard_of n l p s z ≡ heard_of n h p s z
  heard_stays l q r p s z m d =
      any_same n (λ y. l.counted p s y && l.knew y s z) (λ y. h.counted p s y && h.knew y s z)
      (λ y.
      let e = m.counted_stays p s y d in
      ⊎_elim
      (λ c. let k = m.knew_stays y s z (i.counted_met p s y c).there in cc)
      (λ c. and_left _ (l.knew y s z) (e ∙ c) ∙ sym (and_left _ (h.knew y s z) c))
      (cases_Bool (h.counted p s y)))

  -- Nobody is counted in a round that is still to come.
  pub none_beyond : (q r y : ℕ) → h.round q < r → h.counted q r y ≡ false
  none_beyond q r y l = ⊎_elim (λ c. absurd (omega (arith, (i.counted_met q r y c).here))) (λ c. c) (cases_Bool (h.counted q r y))
