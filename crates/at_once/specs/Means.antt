-- `new` and the calls make such broadcasts, and mean what the interface says.
use Rattle.std.specs.Prelude.{◌≡◌, ℕ, ◌<◌, true, not, ◌&&◌, ◌||◌, [], length, is_some, Some, None, ◌==◌, nat_lt, slice_set, refl, Ok}
use Rattle.std.proofs.Common.{sym, ap, ◌∙◌, ⊎_elim, arith, length-set}
use Rattle.std.specs.Cmp.Derive.{one_truth}
use borrow.Author.Tests.{clash}
use Rattle.std.proofs.lemmas.Bool.{or_cases, or_left, or_right, and_parts, and_from, lt-ltb, not_from_false}
use Rattle.notes.specs.Sets.{has}
use Rattle.notes.proofs.Bits.{has_none, same_sets}
use Rattle.parts.specs.Views.{Runs, Quiet}
use Rattle.parts.specs.Nets.{PartOf}
use Rattle.parts.specs.Refusals.{post_answer, carry_answer, lose_answer, crash_answer, suspect_answer}
use Rattle.parts.specs.Broadcasting.{Started, Posted, Crashed, Suspected, Lawful, UniformAgreement}
use Rattle.parts.proofs.Accepted.{post_accepted, carry_accepted, lose_accepted, crash_accepted, suspect_accepted}
use Rattle.cards.specs.Cards.{crashed_in, AllSuspected}
use Rattle.parts.proofs.Lists.{get_or-set, same_all}
use Rattle.cards.proofs.Nets.{new_sound, new_net, same_cards, crash_sound, net_crashed, suspect_sound, net_suspected, lawful_net, quiet_when, suspected_when, up_before}
use Rattle.tables.specs.Tables.{poster_in, set_in}
use Rattle.tables.proofs.Changes.{posted_more, posted_below, poster_each}
use Rattle.at_once.specs.AtOnce.{AtOnceState, seen, new_at_once, hand_out, post_on, crash_on, suspect_on}
use Rattle.at_once.specs.Made.{MadeAtOnce}
use Rattle.at_once.specs.Changes.{length_out, handed_more, others_stay, out_fits}

-- A new one.

pub new_made : (n : ℕ) → MadeAtOnce (new_at_once n)
new_made n =
    record {
      sound = new_sound n;
      notes = refl;
      sets = refl;
      posters_cards = λ m p h. absurd (clash (ap is_some (sym (same_all 32 m None) ∙ h)));
      handed_posted = λ p m h. absurd (clash (sym (ap (λ s. has s m) (same_all 6 p 0) ∙ has_none m) ∙ h));
      outside = λ p h. same_all 6 p 0;
      fits = λ p. let z : set_in (new_at_once n).handed p ≡ 0 = same_all 6 p 0 in omega arith;
      all_handed = λ p m h u e. absurd (clash (sym (ap is_some (same_all 32 m None)) ∙ e));
    }

pub new_means : (n : ℕ) → Started n (seen (new_at_once n))
new_means n = record { net = new_net n; nothing_posted = λ m. same_all 32 m None; nothing_handed = λ p. same_all 6 p 0 }

-- A post.

pub post_made : (x : AtOnceState) (p m : ℕ) → MadeAtOnce x → post_answer (seen x) p m ≡ Ok tt → MadeAtOnce (post_on x p m)
post_made x p m g h =
    let f = post_accepted (seen x) p m h in
    let c = x.cards in
    let w : m < length x.posters = omega (arith, g.notes, f.2) in
    let more : (q j : ℕ) → has (set_in (hand_out c m x.handed c.count) q) j ≡ (has (set_in x.handed q) j || (nat_lt q c.count && (not (crashed_in c q) && j == m))) = λ q j. handed_more c m x.handed c.count q j g.sets g.sound.few f.2 in
    let old : (j : ℕ) → is_some (poster_in x.posters j) ≡ true → is_some (poster_in (slice_set x.posters m (Some p)) j) ≡ true = λ j e. posted_more x.posters m p j w ∙ or_right _ _ e in
    record {
      sound = g.sound;
      notes = simp length-set g.notes;
      sets = length_out c m x.handed c.count ∙ g.sets;
      posters_cards = poster_each (λ j q. q < c.count) x.posters m p w f.0 g.posters_cards;
      handed_posted = λ q j e. ⊎_elim (λ a. old j (g.handed_posted q j a)) (λ a. posted_more x.posters m p j w ∙ or_left (j == m) (is_some (poster_in x.posters j)) (and_parts (not (crashed_in c q)) (j == m) (and_parts (nat_lt q c.count) (not (crashed_in c q) && j == m) a).1).1) (or_cases _ _ (sym (more q j) ∙ e));
      outside = λ q l. others_stay c m x.handed c.count q (λ k. absurd (omega (arith, l, k))) ∙ g.outside q l;
      fits = out_fits c m x.handed c.count g.sets g.sound.few g.fits;
      all_handed = λ q j l u e.
          more q j
          ∙ ⊎_elim
          (λ s. or_right _ _ (and_from _ _ (lt-ltb q c.count l) (and_from _ _ (not_from_false _ u) s)))
          (λ s. or_left _ _ (g.all_handed q j l u s))
          (or_cases _ _ (sym (posted_more x.posters m p j w) ∙ e));
    }

pub post_means : (x : AtOnceState) (p m : ℕ) → MadeAtOnce x → post_answer (seen x) p m ≡ Ok tt → Posted 0 (seen x) (seen (post_on x p m)) p m
post_means x p m g h =
    let f = post_accepted (seen x) p m h in
    let c = x.cards in
    record {
      same_cards = same_cards c _ _ _ _;
      work_rises_by_bound = omega arith;
      post_stands = λ j. get_or-set x.posters m j (Some p) None (omega (arith, g.notes, f.2));
      handed_more = record {
        nothing_taken_out = λ q j e. handed_more c m x.handed c.count q j g.sets g.sound.few f.2 ∙ or_left _ _ e;
        crashed_sets_stay = λ q e. others_stay c m x.handed c.count q (λ l. e);
      };
    }

-- There is nothing to carry or to lose.

pub nothing_carried : (x : AtOnceState) (i : ℕ) → carry_answer (seen x).net i ≡ Ok tt → ⊥
nothing_carried x i h = let l = carry_accepted (seen x).net i h in omega (arith, l)

pub nothing_lost : (x : AtOnceState) (i : ℕ) → lose_answer (seen x).net i ≡ Ok tt → ⊥
nothing_lost x i h = let l = (lose_accepted (seen x).net i h).0 in omega (arith, l)

-- A crash and a suspicion.

pub crash_made : (x : AtOnceState) (p : ℕ) → MadeAtOnce x → crash_answer (seen x).net p ≡ Ok tt → MadeAtOnce (crash_on x p)
crash_made x p g h =
    let f = crash_accepted (seen x).net p h in
    record {
      sound = crash_sound x.cards p g.sound f.0;
      notes = g.notes;
      sets = g.sets;
      posters_cards = g.posters_cards;
      handed_posted = g.handed_posted;
      outside = g.outside;
      fits = g.fits;
      all_handed = λ q j l u e. g.all_handed q j l (up_before x.cards p q g.sound f.0 u).1 e;
    }

pub crash_means : (x : AtOnceState) (p : ℕ) → MadeAtOnce x → crash_answer (seen x).net p ≡ Ok tt → Crashed (seen x) (seen (crash_on x p)) p
crash_means x p g h =
    record {
      net = net_crashed x.cards p _ _ _ _ g.sound (crash_accepted (seen x).net p h).0 PartOf.none (omega arith);
      posters_stay = λ j. refl;
      sets_stay = λ q. refl;
    }

pub suspect_made : (x : AtOnceState) (q p : ℕ) → MadeAtOnce x → suspect_answer (seen x).net q p ≡ Ok tt → MadeAtOnce (suspect_on x q p)
suspect_made x q p g h =
    let f = suspect_accepted (seen x).net q p h in
    record {
      sound = suspect_sound x.cards q p g.sound f.0 f.1 f.3;
      notes = g.notes;
      sets = g.sets;
      posters_cards = g.posters_cards;
      handed_posted = g.handed_posted;
      outside = g.outside;
      fits = g.fits;
      all_handed = g.all_handed;
    }

pub suspect_means : (x : AtOnceState) (q p : ℕ) → MadeAtOnce x → suspect_answer (seen x).net q p ≡ Ok tt → Suspected (seen x) (seen (suspect_on x q p)) q p
suspect_means x q p g h =
    let f = suspect_accepted (seen x).net q p h in
    record {
      net = net_suspected x.cards q p _ _ _ _ g.sound f.0 f.1 (omega arith);
      posters_stay = λ j. refl;
      handed_more = record { nothing_taken_out = λ r m e. e; crashed_sets_stay = λ r e. refl };
    }

-- At rest, and before: each running card has just the posted notes.

has_posted : (x : AtOnceState) → MadeAtOnce x → (p m : ℕ) → Runs (seen x).net p → has (set_in x.handed p) m ≡ is_some (poster_in x.posters m)
has_posted x g p m r = one_truth _ _ (g.handed_posted p m) (λ h. g.all_handed p m r.card r.up h)

pub lawful : (x : AtOnceState) → MadeAtOnce x → Lawful (seen x)
lawful x g =
    record {
      net = lawful_net x.cards [] 0 g.sound tt (omega arith);
      posters_are_cards = g.posters_cards;
      posted_notes_below_32 = λ m h. posted_below x.posters 32 m g.notes h;
      only_posted_notes_handed = g.handed_posted;
      sets_fit_32_bits = g.fits;
      no_card_no_set = g.outside;
      quiet_sets_equal = λ q p r rp rr. same_sets _ _ (λ m. has_posted x g p m rp ∙ sym (has_posted x g r m rr));
      quiet_sets_full = λ q p r m rp rr e. has_posted x g r m rr ∙ ap is_some e;
    }

pub agreed : (x : AtOnceState) → MadeAtOnce x → UniformAgreement (seen x)
agreed x g p r m h rr = has_posted x g r m rr ∙ g.handed_posted p m h

-- The question.

pub quiet_when_suspected : (x : AtOnceState) → AllSuspected x.cards → Quiet (seen x).net
quiet_when_suspected x s = quiet_when x.cards [] 0 refl s

pub suspected_when_quiet : (x : AtOnceState) → Quiet (seen x).net → AllSuspected x.cards
suspected_when_quiet x q = suspected_when x.cards [] 0 q
