-- What lists of calls make of one layer and of two.
use Rattle.std.proofs.Common.{◌≡◌, ℕ, Bool, true, false, cond, Ok, is_ok, List, [], ◌∷◌, ◌++◌, sym, refl, ap, ◌∙◌}
use Rattle.std.proofs.lemmas.List.{append-nil, append_assoc}
use Rattle.std.proofs.lemmas.Bool.{cond_both}
use Rattle.parts.specs.Refusals.{post_answer}
use Rattle.parts.proofs.Accepted.{is_accepted}
use Rattle.inturn.specs.declared.post.Post.{Post}
use Rattle.inturn.specs.Turns.{post_of, written}
use Rattle.inturn.specs.Layers.{Layered, layered}
use Rattle.inturn.specs.Calls.{Behaviour, in_turn_over, Call, post, carry, lose, crash, suspect, answer, accepted, next, after, answers, posts_in, accepted_posts, AsBelow, TwiceAsOnce}
use Rattle.inturn.specs.Counts.{in_turn_again}
use Rattle.inturn.specs.Means.{Means, small_posts, MadeOver, table_grows, means_in_turn}

-- Each call keeps what is made.
module _ {S : Type 0} (b : Behaviour S) (made : S → Type 0) (bound : ℕ) (means : Means b made bound) where
  accepted_made : (s : S) (c : Call) → made s → answer b s c ≡ Ok tt → made (accepted b s c)
  accepted_made s (post p m) = means.post_made s p m
  accepted_made s (carry i) = means.carry_made s i
  accepted_made s (lose i) = means.lose_made s i
  accepted_made s (crash p) = means.crash_made s p
  accepted_made s (suspect q p) = means.suspect_made s q p

  next_made : (s : S) (c : Call) → made s → made (next b s c)
  next_made s c g = cond_both (is_ok (answer b s c)) (accepted b s c) s made (λ t. accepted_made s c g (is_accepted (answer b s c) t)) (λ _. g)

  after_made : (s : S) (calls : List Call) → made s → made (after b s calls)
  after_made s [] g = g
  after_made s (c ∷ cs) g = after_made (next b s c) cs (next_made s c g)

-- What is read of a choice is chosen of what is read.
of_cond : {X Y : Type 0} (f : X → Y) (t : Bool) (x y : X) → f (cond t x y) ≡ cond t (f x) (f y)
of_cond f true x y = refl
of_cond f false x y = refl

-- If each call makes the same of two broadcasts, so do all in turn.
module _ {S T : Type 0} (b : Behaviour S) (d : Behaviour T) (f : S → T) (same : (s : S) (c : Call) → f (next b s c) ≡ next d (f s) c) where
  after_same : (s : S) (calls : List Call) → f (after b s calls) ≡ after d (f s) calls
  after_same s [] = refl
  after_same s (c ∷ cs) = after_same (next b s c) cs ∙ ap (λ z. after d z cs) (same s c)

-- One layer: all but the handed sets is as below.
module _ {S : Type 0} (b : Behaviour S) where
  answer_below : (s : Layered S) (c : Call) → answer (in_turn_over b) s c ≡ answer b s.below c
  answer_below s (post p m) = refl
  answer_below s (carry i) = refl
  answer_below s (lose i) = refl
  answer_below s (crash p) = refl
  answer_below s (suspect q p) = refl

  next_below : (s : Layered S) (c : Call) → (next (in_turn_over b) s c).below ≡ next b s.below c
  next_below s (post p m) = of_cond (λ z. z.below) _ ((in_turn_over b).posting s p m) s
  next_below s (carry i) = of_cond (λ z. z.below) _ ((in_turn_over b).carrying s i) s
  next_below s (lose i) = of_cond (λ z. z.below) _ ((in_turn_over b).losing s i) s
  next_below s (crash p) = of_cond (λ z. z.below) _ ((in_turn_over b).crashing s p) s
  next_below s (suspect q p) = of_cond (λ z. z.below) _ ((in_turn_over b).suspecting s q p) s

  answers_below : (s : Layered S) (calls : List Call) → answers (in_turn_over b) s calls ≡ answers b s.below calls
  answers_below s [] = refl
  answers_below s (c ∷ cs) =
      ap (λ z. z ∷ answers (in_turn_over b) (next (in_turn_over b) s c) cs) (answer_below s c)
      ∙ ap (λ z. answer b s.below c ∷ z) (answers_below (next (in_turn_over b) s c) cs ∙ ap (λ z. answers b z cs) (next_below s c))

-- The table: the accepted posts in their order.
posts_stay : {S : Type 0} (t : Bool) (s : Layered S) (x : S) → (cond t (layered x s.posts) s).posts ≡ s.posts ++ []
posts_stay true s x = sym (append-nil _)
posts_stay false s x = sym (append-nil _)

post_joins : {S : Type 0} (t : Bool) (s : Layered S) (x : S) (posts : List Post) (y : Post) → (t ≡ true → posts ≡ s.posts ++ (y ∷ [])) → (cond t (layered x posts) s).posts ≡ s.posts ++ cond t (y ∷ []) []
post_joins true s x posts y h = h refl
post_joins false s x posts y h = sym (append-nil _)

module _ {S : Type 0} (b : Behaviour S) (made : S → Type 0) (bound : ℕ) (means : Means b made bound) where
  abbrev Made : Layered S → Type 0
  Made = MadeOver b made bound means

  next_posts : (s : Layered S) (c : Call) → Made s → (next (in_turn_over b) s c).posts ≡ s.posts ++ posts_in b s.below c
  next_posts s (post p m) g =
      post_joins (is_ok (post_answer (b.view s.below) p m)) s (b.posting s.below p m) (written s.posts p m) (post_of p m) (λ t. table_grows b made bound means s p m g (is_accepted _ t))
  next_posts s (carry i) g = posts_stay _ s (b.carrying s.below i)
  next_posts s (lose i) g = posts_stay _ s (b.losing s.below i)
  next_posts s (crash p) g = posts_stay _ s (b.crashing s.below p)
  next_posts s (suspect q p) g = posts_stay _ s (b.suspecting s.below q p)

  after_posts : (s : Layered S) (calls : List Call) → Made s → (after (in_turn_over b) s calls).posts ≡ s.posts ++ accepted_posts b s.below calls
  after_posts s [] g = sym (append-nil _)
  after_posts s (c ∷ cs) g =
      after_posts (next (in_turn_over b) s c) cs (next_made (in_turn_over b) Made bound (means_in_turn b made bound means) s c g)
      ∙ ap (λ z. (next (in_turn_over b) s c).posts ++ accepted_posts b z cs) (next_below b s c)
      ∙ ap (λ z. z ++ accepted_posts b (next b s.below c) cs) (next_posts s c g)
      ∙ append_assoc s.posts (posts_in b s.below c) (accepted_posts b (next b s.below c) cs)

  pub as_below : AsBelow b
  as_below =
      record {
        same_answers = λ n calls. answers_below b ((in_turn_over b).start n) calls;
        same_below = λ n calls. after_same (in_turn_over b) b (λ z. z.below) (next_below b) ((in_turn_over b).start n) calls;
        posts_in_order = λ n calls. after_posts ((in_turn_over b).start n) calls ((means_in_turn b made bound means).new_made n);
      }

-- Two layers whose tables are the same.
abbrev doubled : {S : Type 0} → Layered S → Layered (Layered S)
doubled s = layered s s.posts

module _ {S : Type 0} (b : Behaviour S) where
  next_doubled : (s : Layered S) (c : Call) → doubled (next (in_turn_over b) s c) ≡ next (in_turn_over (in_turn_over b)) (doubled s) c
  next_doubled s (post p m) = of_cond doubled _ ((in_turn_over b).posting s p m) s
  next_doubled s (carry i) = of_cond doubled _ ((in_turn_over b).carrying s i) s
  next_doubled s (lose i) = of_cond doubled _ ((in_turn_over b).losing s i) s
  next_doubled s (crash p) = of_cond doubled _ ((in_turn_over b).crashing s p) s
  next_doubled s (suspect q p) = of_cond doubled _ ((in_turn_over b).suspecting s q p) s

module _ {S : Type 0} (b : Behaviour S) (made : S → Type 0) (bound : ℕ) (means : Means b made bound) where
  view_doubled : (s : Layered S) → MadeOver b made bound means s → (in_turn_over (in_turn_over b)).view (doubled s) ≡ (in_turn_over b).view s
  view_doubled s g =
      let v = b.view s.below in
      ap (λ sets. record { net = v.net; poster = v.poster; handed = sets })
      (λ i c. in_turn_again s.posts (v.handed c) (small_posts s.posts v (means.lawful s.below g.0) g.1) i)

  pub twice_as_once : TwiceAsOnce b
  twice_as_once =
      let once = means_in_turn b made bound means in
      record {
        same_answers = λ n calls. answers_below (in_turn_over b) ((in_turn_over (in_turn_over b)).start n) calls;
        same_view = λ n calls.
            ap (in_turn_over (in_turn_over b)).view (sym (after_same (in_turn_over b) (in_turn_over (in_turn_over b)) doubled (next_doubled b) ((in_turn_over b).start n) calls))
            ∙ view_doubled (after (in_turn_over b) ((in_turn_over b).start n) calls) (after_made (in_turn_over b) (MadeOver b made bound means) bound once ((in_turn_over b).start n) calls (once.new_made n));
      }
