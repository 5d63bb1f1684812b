-- From what the broadcast below means to what the layer means.
use Rattle.std.proofs.Common.{◌≡◌, ℕ, ◌<◌, true, false, List, [], ◌∷◌, ◌++◌, length, is_some, Some, sym, refl, ap, ◌∙◌, subst, ⊎_elim, arith, Ok}
use Rattle.std.proofs.lemmas.Bool.{cases_Bool, cases_eq, both_ways}
use Rattle.notes.specs.Sets.{has}
use Rattle.parts.specs.Views.{BroadcastView}
use Rattle.parts.specs.Broadcasting.{HandedMore, Lawful, UniformAgreement, Meaning}
use Rattle.parts.specs.Refusals.{post_answer}
use Rattle.parts.proofs.Accepted.{post_accepted}
use Rattle.parts.proofs.Options.{some_held}
use Rattle.inturn.specs.declared.post.Post.{Post}
use Rattle.inturn.specs.Turns.{post_of, post_at, in_turn, written}
use Rattle.inturn.specs.Layers.{Layered, shown_in_turn, Agrees, HeldInTurn, InOrder, MadeInTurn}
use Rattle.inturn.specs.Calls.{Behaviour, in_turn_over}
use Rattle.inturn.specs.Counts.{counted_place, place_counted, clear_all, Small, earlier_counts, counted_held, in_turn_more, in_turn_none, in_turn_fits}
use Rattle.inturn.specs.Tables.{agrees_none, agrees_same, agrees_more, room_for_more, in_turn_new, in_turn_kept}

-- What a behaviour means, with what is made and the bound.
abbrev pub Means : {S : Type 0} → Behaviour S → (S → Type 0) → ℕ → Type 0
Means b made bound = Meaning b.view made bound b.start b.posting b.carrying b.losing b.crashing b.suspecting

pub small_posts : (posts : List Post) (v : BroadcastView) → Lawful v → Agrees v.poster posts → Small posts
small_posts posts v law a =
    record {
      notes = λ i l. law.posted_notes_below_32 _ (ap is_some (a.posted i l));
      cards = λ i l. let p = law.posters_are_cards _ _ (a.posted i l) in let n = law.net.few_cards in omega arith;
    }

lawful_over : (posts : List Post) (v : BroadcastView) → Lawful v → Agrees v.poster posts → Lawful (shown_in_turn posts v)
lawful_over posts v law a =
    record {
      net = law.net;
      posters_are_cards = law.posters_are_cards;
      posted_notes_below_32 = law.posted_notes_below_32;
      only_posted_notes_handed = λ c m h. law.only_posted_notes_handed c m (counted_held posts (v.handed c) m h);
      sets_fit_32_bits = λ c. in_turn_fits posts (v.handed c);
      no_card_no_set = λ c h. ap (in_turn posts) (law.no_card_no_set c h) ∙ in_turn_none posts;
      quiet_sets_equal = λ quiet c d rc rd. ap (in_turn posts) (law.quiet_sets_equal quiet c d rc rd);
      quiet_sets_full = λ quiet p c m rp rc e.
          let o = a.listed m p e in
          let same : (j : ℕ) → j < length posts → (post_at posts j).card ≡ (post_at posts o.0).card → has (v.handed c) (post_at posts j).note ≡ true =
          λ j l f. law.quiet_sets_full quiet p c _ rp rc (a.posted j l ∙ ap Some (f ∙ ap (λ z. z.card) o.2))
          in
          place_counted posts (v.handed c) (length posts) m
          (record {
            place = o.0;
            below = o.1;
            note = ap (λ z. z.note) o.2;
            small = law.posted_notes_below_32 m (ap is_some e);
            counts = clear_all posts (v.handed c) o.0 (λ j k f. let l = o.1 in same j (omega arith) f);
          });
    }

pub agreement_over : (posts : List Post) (v : BroadcastView) → UniformAgreement v → UniformAgreement (shown_in_turn posts v)
agreement_over posts v agree c d m h r = in_turn_more posts (v.handed c) (v.handed d) (λ k g. agree c d k g r) m h

more_over : (posts : List Post) (v w : BroadcastView) → HandedMore v w → HandedMore (shown_in_turn posts v) (shown_in_turn posts w)
more_over posts v w g =
    record { nothing_taken_out = λ c. in_turn_more posts (v.handed c) (w.handed c) (g.nothing_taken_out c); crashed_sets_stay = λ c h. ap (in_turn posts) (g.crashed_sets_stay c h) }

-- A note that is posted only now is in no set yet.
more_after_post : (posts : List Post) (v w : BroadcastView) (p m : ℕ) → Lawful v → is_some (v.poster m) ≡ false → HandedMore v w → HandedMore (shown_in_turn posts v) (shown_in_turn (posts ++ (post_of p m ∷ [])) w)
more_after_post posts v w p m law free g =
    record {
      nothing_taken_out = λ c. in_turn_kept posts p m (v.handed c) (w.handed c) (g.nothing_taken_out c);
      crashed_sets_stay = λ c h.
          ap (in_turn (posts ++ (post_of p m ∷ []))) (g.crashed_sets_stay c h)
          ∙ in_turn_new posts p m (v.handed c) (⊎_elim (λ y. absurd (both_ways _ free (law.only_posted_notes_handed c m y))) (λ y. y) (cases_Bool (has (v.handed c) m)));
    }

-- A note counts exactly where it and all earlier posts of its card are in the set below.
module _ (posts : List Post) (v : BroadcastView) (law : Lawful v) (a : Agrees v.poster posts) where
  pub in_order : InOrder posts (λ c. in_turn posts (v.handed c))
  in_order c m k h b =
      let d = counted_place posts (v.handed c) (length posts) m h in
      let e : d.place ≡ b.later = a.once d.place b.later d.below b.in_table (d.note ∙ sym b.later_note) in
      let l = b.order in
      ap (has (in_turn posts (v.handed c))) (sym b.earlier_note)
      ∙ earlier_counts posts (small_posts posts v law a) (v.handed c) m d b.earlier (omega arith) (b.same_card ∙ ap (λ i. (post_at posts i).card) (sym e))

  pub counts_held : (c m : ℕ) → has (in_turn posts (v.handed c)) m ≡ true → HeldInTurn posts (v.handed c) m
  counts_held c m h =
      record { note = counted_held posts (v.handed c) m h; earlier_notes = λ k b. counted_held posts (v.handed c) k (in_order c m k h b) }

  pub held_counts : (c m : ℕ) → HeldInTurn posts (v.handed c) m → has (in_turn posts (v.handed c)) m ≡ true
  held_counts c m h =
      let some = law.only_posted_notes_handed c m h.note in
      let p = some_held (v.poster m) some in
      let o = a.listed m p.0 p.1 in
      let note : (post_at posts o.0).note ≡ m = ap (λ z. z.note) o.2 in
      let l = o.1 in
      place_counted posts (v.handed c) (length posts) m
      (record {
        place = o.0;
        below = o.1;
        note = note;
        small = law.posted_notes_below_32 m some;
        counts = clear_all posts (v.handed c) o.0 (λ j k e.
            ⊎_elim (λ q. ap (λ i. has (v.handed c) (post_at posts i).note) q ∙ ap (has (v.handed c)) note ∙ h.note)
            (λ q. h.earlier_notes _ (record { earlier = j; later = o.0; order = omega (arith, q); in_table = o.1; earlier_note = refl; later_note = note; same_card = e }))
            (cases_eq j o.0));
      })

-- The layer over any broadcast is a broadcast.
module _ {S : Type 0} (b : Behaviour S) (made : S → Type 0) (bound : ℕ) (means : Means b made bound) where
  abbrev pub MadeOver : Layered S → Type 0
  MadeOver = MadeInTurn made (λ s. (b.view s).poster)

  pub table_grows : (s : Layered S) (p m : ℕ) → MadeOver s → post_answer (b.view s.below) p m ≡ Ok tt → written s.posts p m ≡ s.posts ++ (post_of p m ∷ [])
  table_grows s p m g h =
      let t = post_accepted (b.view s.below) p m h in
      room_for_more s.posts p m (b.view s.below).poster g.1 t.3 (b.view (b.posting s.below p m)).poster (means.post_means s.below p m g.0 h).post_stands
      (means.lawful (b.posting s.below p m) (means.post_made s.below p m g.0 h)).posted_notes_below_32

  pub means_in_turn : Means (in_turn_over b) MadeOver bound
  means_in_turn =
      record {
        bound_fits_32_bits = means.bound_fits_32_bits;
        new_made = λ n. (means.new_made n, agrees_none _ (means.new_means n).nothing_posted);
        new_means = λ n. let d = means.new_means n in record { net = d.net; nothing_posted = d.nothing_posted; nothing_handed = λ _. refl };
        post_made = λ s p m g h.
            let t = post_accepted (b.view s.below) p m h in
            (means.post_made s.below p m g.0 h, subst (Agrees _) (sym (table_grows s p m g h)) (agrees_more s.posts p m _ g.1 t.3 _ (means.post_means s.below p m g.0 h).post_stands));
        post_means = λ s p m g h.
            let t = post_accepted (b.view s.below) p m h in
            let d = means.post_means s.below p m g.0 h in
            record {
              same_cards = d.same_cards;
              work_rises_by_bound = d.work_rises_by_bound;
              post_stands = d.post_stands;
              handed_more = subst (λ l. HandedMore (shown_in_turn s.posts (b.view s.below)) (shown_in_turn l (b.view (b.posting s.below p m)))) (sym (table_grows s p m g h)) (more_after_post s.posts _ _ p m (means.lawful s.below g.0) t.3 d.handed_more);
            };
        carry_made = λ s i g h. (means.carry_made s.below i g.0 h, agrees_same s.posts _ _ (means.carry_means s.below i g.0 h).posters_stay g.1);
        carry_means = λ s i g h. let d = means.carry_means s.below i g.0 h in record { net = d.net; posters_stay = d.posters_stay; handed_more = more_over s.posts _ _ d.handed_more };
        lose_made = λ s i g h. (means.lose_made s.below i g.0 h, agrees_same s.posts _ _ (means.lose_means s.below i g.0 h).posters_stay g.1);
        lose_means = λ s i g h. let d = means.lose_means s.below i g.0 h in record { net = d.net; posters_stay = d.posters_stay; sets_stay = λ c. ap (in_turn s.posts) (d.sets_stay c) };
        crash_made = λ s p g h. (means.crash_made s.below p g.0 h, agrees_same s.posts _ _ (means.crash_means s.below p g.0 h).posters_stay g.1);
        crash_means = λ s p g h. let d = means.crash_means s.below p g.0 h in record { net = d.net; posters_stay = d.posters_stay; sets_stay = λ c. ap (in_turn s.posts) (d.sets_stay c) };
        suspect_made = λ s q p g h. (means.suspect_made s.below q p g.0 h, agrees_same s.posts _ _ (means.suspect_means s.below q p g.0 h).posters_stay g.1);
        suspect_means = λ s q p g h. let d = means.suspect_means s.below q p g.0 h in record { net = d.net; posters_stay = d.posters_stay; handed_more = more_over s.posts _ _ d.handed_more };
        lawful = λ s g. lawful_over s.posts _ (means.lawful s.below g.0) g.1;
      }
