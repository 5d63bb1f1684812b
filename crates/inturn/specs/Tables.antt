-- The table agrees with the posters below.
use Rattle.std.proofs.Common.{◌≡◌, ℕ, ◌<◌, true, false, cond, eqb, ltb, List, [], ◌∷◌, ◌++◌, length, is_some, Some, None, Option, sym, refl, ap, ◌∙◌, ⊎_elim, arith}
use Rattle.std.proofs.lemmas.List.{length_push}
use Rattle.std.proofs.lemmas.Bool.{cases_eq, eq-eqb, cond-true, cond-false, both_ways, ne_eqb, lt-ltb, or_left, and_left, cond_both}
use Rattle.notes.specs.Sets.{has, added}
use Rattle.notes.proofs.Bits.{has_added}
use Rattle.notes.proofs.Counting.{pigeonhole}
use Rattle.inturn.specs.declared.post.Post.{Post}
use Rattle.inturn.specs.Turns.{post_of, post_at, in_turn, written}
use Rattle.inturn.specs.Pushed.{old_place, new_place, each_place}
use Rattle.inturn.specs.Layers.{Agrees}
use Rattle.inturn.specs.Counts.{in_turn_more, in_turn_push}

pub agrees_none : (poster : ℕ → Option ℕ) → ((m : ℕ) → poster m ≡ None) → Agrees poster []
agrees_none poster none =
    record {
      listed = λ m p e. absurd (let z : ◌≡◌ {A = ℕ} 0 1 = cc (none m) in omega arith);
      posted = λ i l. absurd (omega arith);
      once = λ i j l _ _. absurd (omega arith);
    }

pub agrees_same : (posts : List Post) (poster after : ℕ → Option ℕ) → ((m : ℕ) → after m ≡ poster m) → Agrees poster posts → Agrees after posts
agrees_same posts poster after same a = record { listed = λ m p e. a.listed m p (sym (same m) ∙ e); posted = λ i l. same _ ∙ a.posted i l; once = a.once }

-- A table with a post more.
module _ (posts : List Post) (p m : ℕ) where
  abbrev more : List Post
  more = posts ++ (post_of p m ∷ [])

  abbrev each_post : (P : ℕ → Post → Type 0) → ((i : ℕ) → i < length posts → P i (post_at posts i)) → P (length posts) (post_of p m) → (i : ℕ) → i < length more → P i (post_at more i)
  each_post = each_place posts (post_of p m) (post_of 0 0)

  -- The new note was not posted before.
  module _ (poster : ℕ → Option ℕ) (a : Agrees poster posts) (free : is_some (poster m) ≡ false) where
    other_note : (i : ℕ) → i < length posts → (post_at posts i).note ≡ m → ⊥
    other_note i l e = both_ways (is_some (poster m)) free (ap (λ k. is_some (poster k)) (sym e) ∙ ap is_some (a.posted i l))

    still_once : (i j : ℕ) → i < length more → j < length more → (post_at more i).note ≡ (post_at more j).note → i ≡ j
    still_once i j k =
        each_post (λ i x. (j : ℕ) → j < length more → x.note ≡ (post_at more j).note → i ≡ j)
        (λ i k. each_post (λ j y. (post_at posts i).note ≡ y.note → i ≡ j) (λ j. a.once i j k) (λ e. absurd (other_note i k e)))
        (each_post (λ j y. m ≡ y.note → length posts ≡ j) (λ j l e. absurd (other_note j l (sym e))) (λ _. refl)) i k j

    module _ (after : ℕ → Option ℕ) (stands : (j : ℕ) → after j ≡ cond (eqb j m) (Some p) (poster j)) where
      stands_other : (j : ℕ) → (j ≡ m → ⊥) → after j ≡ poster j
      stands_other j n = stands j ∙ cond-false (eqb j m) (Some p) (poster j) (ne_eqb j m n)

      stands_new : after m ≡ Some p
      stands_new = stands m ∙ cond-true (eqb m m) (Some p) (poster m) (eq-eqb m m refl)

      pub agrees_more : Agrees after more
      agrees_more =
          record {
            listed = λ k q e.
                ⊎_elim
                (λ y. let s : p ≡ q = cc (stands_new, e, y) in (length posts, let n = length_push posts (post_of p m) in omega arith, new_place posts (post_of p m) (post_of 0 0) ∙ cc))
                (λ y. let o = a.listed k q (sym (stands_other k y) ∙ e) in (o.0, let n = length_push posts (post_of p m) in let l = o.1 in omega arith, old_place posts (post_of p m) (post_of 0 0) o.0 o.1 ∙ o.2))
                (cases_eq k m);
            posted = each_post (λ _ x. after x.note ≡ Some x.card) (λ i l. stands_other _ (other_note i l) ∙ a.posted i l) stands_new;
            once = still_once;
          }

      -- All notes are below 32, so there was room.
      pub room_for_more : ((j : ℕ) → is_some (after j) ≡ true → j < 32) → written posts p m ≡ more
      room_for_more small =
          let n = length_push posts (post_of p m) in
          let h = pigeonhole (length more) 32 (λ i. (post_at more i).note) (λ i l. small _ (ap is_some (agrees_more.posted i l))) still_once in
          cond-true (ltb (length posts) 32) _ _ (lt-ltb (length posts) 32 (omega arith))

  -- What counted goes on to count.
  pub in_turn_kept : (s t : ℕ) → ((k : ℕ) → has s k ≡ true → has t k ≡ true) → (k : ℕ) → has (in_turn posts s) k ≡ true → has (in_turn more t) k ≡ true
  in_turn_kept s t f k h =
      let still = in_turn_more posts s t f k h in
      ap (λ n. has n k) (in_turn_push posts (post_of p m) t)
      ∙ cond_both _ (added (in_turn posts t) m) (in_turn posts t) (λ n. has n k ≡ true) (λ _. has_added (in_turn posts t) m k ∙ or_left _ _ still) (λ _. still)

  -- A note that is not handed counts for nothing, and keeps back nothing.
  pub in_turn_new : (s : ℕ) → has s m ≡ false → in_turn more s ≡ in_turn posts s
  in_turn_new s lacks = in_turn_push posts (post_of p m) s ∙ cond-false _ _ _ (and_left _ _ lacks)
