-- Which notes count.
use Rattle.std.proofs.Common.{◌≡◌, ℕ, zero, suc, ◌^◌, ◌<◌, ◌≤◌, true, false, cond, not, ◌&&◌, ◌||◌, ltb, List, [], ◌∷◌, ◌++◌, length, sym, refl, ap, ◌∙◌, ⊎_elim, arith, pow_pos}
use Rattle.std.specs.Prelude.{◌==◌}
use Rattle.std.proofs.lemmas.List.{length_push}
use lib.Bits.{or_lt}
use lib.Pow.{pow-lt}
use Rattle.std.proofs.lemmas.Bool.{cases_Bool, cases_eq, or_cases, or_left, or_right, and_parts, and_from, eqb-true, eq-eqb, cond-true, cond-false, cond_both, both_ways, not-true, not_from_false, lt-ltb, ltb-true}
use Rattle.std.proofs.lemmas.Bool.Decides.{nat_tests}
use Rattle.notes.specs.Sets.{has, added}
use Rattle.notes.proofs.Bits.{has_none, has_added, same_sets}
use Rattle.inturn.specs.declared.post.Post.{Post}
use Rattle.inturn.specs.Pushed.{old_place, new_place}
use Rattle.inturn.specs.Turns.{post_of, post_at, blocked_by, counts, counted_of, in_turn}

-- Which cards are blocked by one post more.
blocked_next : (posts : List Post) (s k p : ℕ)
    → has (blocked_by posts s (suc k)) p
    ≡ (has (blocked_by posts s k) p || (not (has s (post_at posts k).note) && (ltb (post_at posts k).card 32 && p == (post_at posts k).card)))
blocked_next posts s k p =
    let x = post_at posts k in
    let b = blocked_by posts s k in
    let u = has_added b x.card p in
    ⊎_elim (λ t. let v = ap (λ z. has z p) (cond-true (has s x.note) b (added b x.card) t) in grind (arith, nat_tests, u, v, t))
    (λ t. let v = ap (λ z. has z p) (cond-false (has s x.note) b (added b x.card) t) in grind (arith, nat_tests, u, v, t))
    (cases_Bool (has s x.note))

-- By a greater set no more cards are blocked.
blocked_less : (posts : List Post) (s t p k : ℕ) → ((m : ℕ) → has s m ≡ true → has t m ≡ true) → has (blocked_by posts s k) p ≡ false → has (blocked_by posts t k) p ≡ false
blocked_less posts s t p zero f h = has_none p
blocked_less posts s t p (suc k) f h =
    let u = blocked_next posts s k p in
    let v = blocked_next posts t k p in
    let r = blocked_less posts s t p k f in
    let m = f (post_at posts k).note in
    grind (arith, nat_tests, h, u, v, r, m)

-- A card below 32 is not blocked exactly where the notes of all its posts so far are in the set.
free_each : (posts : List Post) (s p k : ℕ) → p < 32 → has (blocked_by posts s k) p ≡ false → (j : ℕ) → j < k → (post_at posts j).card ≡ p → has s (post_at posts j).note ≡ true
free_each posts s p zero l h j o e = absurd (omega arith)
free_each posts s p (suc k) l h j o e =
    let u = blocked_next posts s k p in
    ⊎_elim (λ q. let y : (post_at posts k).card ≡ p = ap (λ i. (post_at posts i).card) (sym q) ∙ e in ap (λ i. has s (post_at posts i).note) q ∙ grind (arith, nat_tests, h, u, y, l))
    (λ q. free_each posts s p k l (grind (arith, nat_tests, h, u)) j (omega (arith, q)) e)
    (cases_eq j k)

free_all : (posts : List Post) (s p k : ℕ) → ((j : ℕ) → j < k → (post_at posts j).card ≡ p → has s (post_at posts j).note ≡ true) → has (blocked_by posts s k) p ≡ false
free_all posts s p zero h = has_none p
free_all posts s p (suc k) h =
    let u = blocked_next posts s k p in
    let r = free_all posts s p k (λ j o e. h j (omega arith) e) in
    let m = h k (omega arith) in
    grind (arith, nat_tests, u, r, m)

-- A post counts where it and the earlier posts of its card are in the set.
clear_each : (posts : List Post) (s i : ℕ) → (post_at posts i).card < 32 → counts posts s i ≡ true → (j : ℕ) → j ≤ i → (post_at posts j).card ≡ (post_at posts i).card → has s (post_at posts j).note ≡ true
clear_each posts s i l h j o e =
    let t = and_parts _ _ h in
    ⊎_elim (λ q. ap (λ k. has s (post_at posts k).note) q ∙ t.0) (λ q. free_each posts s _ i l (not-true _ t.1) j (omega (arith, q)) e) (cases_eq j i)

pub clear_all : (posts : List Post) (s i : ℕ) → ((j : ℕ) → j ≤ i → (post_at posts j).card ≡ (post_at posts i).card → has s (post_at posts j).note ≡ true) → counts posts s i ≡ true
clear_all posts s i h = and_from _ _ (h i (omega arith) refl) (not_from_false _ (free_all posts s _ i (λ j o e. h j (omega arith) e)))

-- Where a note that counts stands in the table.
pub record Counted (posts : List Post) (s k m : ℕ) : Type 0 where
  pub place : ℕ
  pub below : place < k
  pub note : (post_at posts place).note ≡ m
  pub small : m < 32
  pub counts : counts posts s place ≡ true

more_counted : (posts : List Post) (s k m : ℕ) → Counted posts s k m → Counted posts s (suc k) m
more_counted posts s k m c = record { place = c.place; below = let l = c.below in omega arith; note = c.note; small = c.small; counts = c.counts }

pub counted_place : (posts : List Post) (s k m : ℕ) → has (counted_of posts s k) m ≡ true → Counted posts s k m
counted_place posts s zero m h = absurd (both_ways _ (has_none m) h)
counted_place posts s (suc k) m h =
    ⊎_elim
    (λ t.
    let e : has (added (counted_of posts s k) (post_at posts k).note) m ≡ true = sym (ap (λ z. has z m) (cond-true (counts posts s k) _ _ t)) ∙ h in
    ⊎_elim (λ y. more_counted posts s k m (counted_place posts s k m y))
    (λ y. let z = and_parts _ _ y in let q = eqb-true m _ z.1 in let l = ltb-true _ 32 z.0 in record { place = k; below = omega arith; note = sym q; small = omega arith; counts = t })
    (or_cases _ _ (sym (has_added (counted_of posts s k) (post_at posts k).note m) ∙ e)))
    (λ t. more_counted posts s k m (counted_place posts s k m (sym (ap (λ z. has z m) (cond-false (counts posts s k) _ _ t)) ∙ h)))
    (cases_Bool (counts posts s k))

pub place_counted : (posts : List Post) (s k m : ℕ) → Counted posts s k m → has (counted_of posts s k) m ≡ true
place_counted posts s zero m c = absurd (let l = c.below in omega arith)
place_counted posts s (suc k) m c =
    let n : ℕ = counted_of posts s k in
    let x : ℕ = (post_at posts k).note in
    ⊎_elim
    (λ e.
    let q : m ≡ x = sym c.note ∙ ap (λ i. (post_at posts i).note) e in
    ap (λ z. has z m) (cond-true (counts posts s k) (added n x) n (ap (counts posts s) (sym e) ∙ c.counts)) ∙ has_added n x m ∙ or_right _ _ (and_from _ _ (lt-ltb x 32 (let l = c.small in omega arith)) (eq-eqb m x q)))
    (λ e.
    let h : has n m ≡ true = place_counted posts s k m (record { place = c.place; below = let l = c.below in omega arith; note = c.note; small = c.small; counts = c.counts }) in
    cond_both (counts posts s k) (added n x) n (λ z. has z m ≡ true) (λ _. has_added n x m ∙ or_left _ _ h) (λ _. h))
    (cases_eq c.place k)

-- Two sets with the same notes, by two implications.
same_notes : (s t : ℕ) → ((m : ℕ) → has s m ≡ true → has t m ≡ true) → ((m : ℕ) → has t m ≡ true → has s m ≡ true) → s ≡ t
same_notes s t f g = same_sets s t (λ m. let a = f m in let b = g m in grind (arith, nat_tests, a, b))

-- What counts is in the set.
pub counted_held : (posts : List Post) (s m : ℕ) → has (in_turn posts s) m ≡ true → has s m ≡ true
counted_held posts s m h = let c = counted_place posts s (length posts) m h in ap (has s) (sym c.note) ∙ (and_parts _ _ c.counts).0

-- In a greater set no less counts.
pub in_turn_more : (posts : List Post) (s t : ℕ) → ((m : ℕ) → has s m ≡ true → has t m ≡ true) → (m : ℕ) → has (in_turn posts s) m ≡ true → has (in_turn posts t) m ≡ true
in_turn_more posts s t f m h =
    let c = counted_place posts s (length posts) m h in
    let y = and_parts _ _ c.counts in
    place_counted posts t (length posts) m
    (record { place = c.place; below = c.below; note = c.note; small = c.small; counts = and_from _ _ (f _ y.0) (not_from_false _ (blocked_less posts s t _ c.place f (not-true _ y.1))) })

-- The posts of a carrier: notes and cards are below 32.
pub record Small (posts : List Post) : Type 0 where
  pub notes : (i : ℕ) → i < length posts → (post_at posts i).note < 32
  pub cards : (i : ℕ) → i < length posts → (post_at posts i).card < 32

module _ (posts : List Post) (small : Small posts) (s m : ℕ) (c : Counted posts s (length posts) m) where
  -- Where a note counts, it and all earlier posts of its poster are in the set, and count.
  each_held : (j : ℕ) → j ≤ c.place → (post_at posts j).card ≡ (post_at posts c.place).card → has s (post_at posts j).note ≡ true
  each_held = clear_each posts s c.place (small.cards c.place c.below) c.counts

  pub earlier_counts : (j : ℕ) → j ≤ c.place → (post_at posts j).card ≡ (post_at posts c.place).card → has (in_turn posts s) (post_at posts j).note ≡ true
  earlier_counts j o e =
      let b = c.below in
      place_counted posts s (length posts) (post_at posts j).note
      (record { place = j; below = omega arith; note = refl; small = small.notes j (omega arith); counts = clear_all posts s j (λ i l f. each_held i (omega arith) (f ∙ e)) })

-- What counts among the notes that count: all of them.
pub in_turn_again : (posts : List Post) (s : ℕ) → Small posts → in_turn posts (in_turn posts s) ≡ in_turn posts s
in_turn_again posts s small =
    same_notes _ _ (counted_held posts (in_turn posts s))
    (λ m h.
    let c = counted_place posts s (length posts) m h in
    place_counted posts (in_turn posts s) (length posts) m
    (record { place = c.place; below = c.below; note = c.note; small = c.small; counts = clear_all posts (in_turn posts s) c.place (earlier_counts posts small s m c) }))

pub in_turn_none : (posts : List Post) → in_turn posts 0 ≡ 0
in_turn_none posts = same_notes _ _ (counted_held posts 0) (λ m h. absurd (both_ways _ (has_none m) h))

-- A post more makes no difference to the earlier ones.
module _ (posts : List Post) (x : Post) (s : ℕ) where
  abbrev more : List Post
  more = posts ++ (x ∷ [])

  blocked_before : (k : ℕ) → k ≤ length posts → blocked_by more s k ≡ blocked_by posts s k
  blocked_before zero l = refl
  blocked_before (suc k) l =
      let p : post_at more k ≡ post_at posts k = old_place posts x (post_of 0 0) k (omega arith) in
      rw (p, blocked_before k (omega arith)) refl

  counted_before : (k : ℕ) → k ≤ length posts → counted_of more s k ≡ counted_of posts s k
  counted_before zero l = refl
  counted_before (suc k) l =
      let p : post_at more k ≡ post_at posts k = old_place posts x (post_of 0 0) k (omega arith) in
      rw (p, blocked_before k (omega arith), counted_before k (omega arith)) refl

  pub in_turn_push : in_turn more s
      ≡ cond (has s x.note && not (has (blocked_by posts s (length posts)) x.card)) (added (in_turn posts s) x.note) (in_turn posts s)
  in_turn_push =
      let n : length more ≡ suc (length posts) = length_push posts x ∙ omega arith in
      let p : post_at more (length posts) ≡ x = new_place posts x (post_of 0 0) in
      ap (counted_of more s) n ∙ rw (p, blocked_before (length posts) (omega arith), counted_before (length posts) (omega arith)) refl

-- Sets of 32 bits.
counted_fits : (posts : List Post) (s k : ℕ) → counted_of posts s k < 2 ^ 32
counted_fits posts s zero = pow_pos 32
counted_fits posts s (suc k) =
    let n : ℕ = counted_of posts s k in
    let x : ℕ = (post_at posts k).note in
    let h : n < 2 ^ 32 = counted_fits posts s k in
    cond_both (counts posts s k) (added n x) n (λ z. z < 2 ^ 32) (λ _. cond_both (ltb x 32) _ n (λ z. z < 2 ^ 32) (λ t. or_lt 32 n (2 ^ x) h (pow-lt (ltb-true x 32 t))) (λ _. h)) (λ _. h)

pub in_turn_fits : (posts : List Post) (s : ℕ) → in_turn posts s < 2 ^ 32
in_turn_fits posts s = counted_fits posts s (length posts)
