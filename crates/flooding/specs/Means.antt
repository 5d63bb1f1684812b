-- What `new` and each call make of a flooding is what the interface says.
use Rattle.std.specs.Prelude.{◌≡◌, ℕ, ◌+◌, ◌-◌, ◌*◌, ◌^◌, ◌<◌, ◌≤◌, false, cond, not, ◌&&◌, ◌==◌, ltb, length, Some, None, nat_lt, refl, Ok}
use Rattle.std.proofs.Common.{sym, ap, subst, ◌∙◌, ⊎_elim, mul-le-mul, arith}
use Rattle.std.specs.List.{slice_get}
use Rattle.std.proofs.lemmas.List.Edits.{length-remove}
use Rattle.std.proofs.lemmas.Bool.{cases_Bool, cond-false, and_left, and_right, not_from_true, both_ways}
use Rattle.notes.specs.Sets.{added, total}
use Rattle.notes.proofs.Counting.{total_le, total_none}
use Rattle.parts.specs.Nets.{SameCards, NetSuspected}
use Rattle.parts.specs.Refusals.{propose_answer, carry_answer, lose_answer, crash_answer, suspect_answer}
use Rattle.parts.specs.Deciding.{Started, DecidedMore, Proposed, Carried, Lost, Crashed, Suspected}
use Rattle.parts.proofs.Accepted.{propose_accepted, crash_accepted, suspect_accepted}
use Rattle.cards.specs.Cards.{CardState, crashed_in, new_cards, with_crash, net_of, SoundCards}
use Rattle.tables.specs.Tables.{ballot_in}
use Rattle.wire.specs.Wires.{senders, elsewhere}
use Rattle.wire.specs.declared.Item.{Item}
use Rattle.wire.proofs.Items.{all_nth, part_left, length_left}
use Rattle.parts.proofs.Lists.{same_all, same_rows}
use Rattle.cards.proofs.Nets.{same_cards, net_crashed, net_suspected, up_before}
use Rattle.wire.proofs.Taken.{carried_item, lost_item, senders_removed}
use Rattle.flooding.specs.Seats.{no_seat, new_seats, seat_in, entering}
use Rattle.flooding.specs.declared.seats.Seat.{Seat}
use Rattle.flooding.specs.declared.mail.Load.{Load}
use Rattle.flooding.specs.Flooding.{FloodingState, to_send, flooding_work, seen, new_flooding, enter_on, put_forward, propose_on, arrive_on, lose_on, carry_on, crash_on, doubt_on, suspect_on}
use Rattle.flooding.specs.Made.{Underway, MadeFlooding}
use Rattle.tables.proofs.Written.{place_written, shaped_after}
use Rattle.flooding.specs.Works.{enter_work}
use Rattle.flooding.specs.Changes.{DecidedBy, Placed, steps_moved, through_moved, arrive_moved}

pub new_means : (n : ℕ) → Started n (seen (new_flooding n))
new_means n =
    let c = new_cards n in
    let none : (k p : ℕ) → to_send c (seat_in new_seats k p) p ≡ 0 = λ k p. cond-false _ _ _ (and_right (not (crashed_in c p)) _ (ap (λ (s : Seat). ltb 0 s.round) (same_rows 32 6 k p no_seat))) in
    record {
      net = record {
        cards = refl;
        no_crash = λ p. same_all 6 p false;
        no_suspicion = λ q p. same_rows 6 6 q p false;
        no_item = refl;
        no_work = ap (λ m. 0 + m) (total_none (λ k. total (λ p. to_send c (seat_in new_seats k p) p) c.count) 32 (λ k. total_none (λ p. to_send c (seat_in new_seats k p) p) c.count (none k)));
      };
      nothing_proposed = λ k p. same_rows 32 6 k p None;
      nothing_decided = λ k p. same_rows 32 6 k p None;
    }

-- Running cards decide: card q does, and no other.
decides_more : (x y : FloodingState) (q : ℕ) → crashed_in x.cards q ≡ false → DecidedBy q x.decisions y.decisions → DecidedMore (seen x) (seen y)
decides_more x y q up d =
    record {
      decisions_stand = d.stand;
      crashed_decide_nothing = λ k p h. d.others k p (λ z. both_ways (crashed_in x.cards q) up (ap (crashed_in x.cards) (sym z) ∙ h));
    }

-- n - 1 items in each of n rounds, for at most 6 cards.
thirty : (n : ℕ) → n ≤ 6 → (n - 1) * (n - 1) + (n - 1) ≤ 30
thirty n l =
    let five : n - 1 ≤ 5 = omega arith in
    let square : (n - 1) * (n - 1) ≤ 5 * 5 = mul-le-mul five five in
    omega arith

pub propose_means : (x : FloodingState) (k p s : ℕ) → MadeFlooding x → s < 2 ^ 32 → propose_answer (seen x) k p s ≡ Ok tt → Proposed 30 (seen x) (seen (propose_on x k p s)) k p s
propose_means x k p s g fits h =
    let f = propose_accepted (seen x) k p s h in
    let n : ℕ = x.cards.count in
    let few : n ≤ 6 = g.whole.sound.few in
    let in-round-1 = enter_on (put_forward x k p s) k p 1 (added 0 p) in
    let placed : Placed in-round-1 p =
    record {
      seats_shaped = shaped_after _ k p _ (shaped_after x.seats k p (entering p 1 (added 0 p)) g.whole.seats_shaped f.3) f.3;
      decisions_shaped = g.whole.decisions_shaped;
      few = few;
      card = f.0;
      up = f.1;
    } in
    let enters : flooding_work in-round-1 ≤ flooding_work x + 30 = enter_work (put_forward x k p s) k p g.whole.seats_shaped f.3 few f.0 f.1 1 (added 0 p) 30 (omega arith) (omega (arith, thirty n few)) in
    let after = propose_on x k p s in
    let m = steps_moved in-round-1 k p n placed f.3 in
    record {
      same_cards = subst (λ c. SameCards (seen x).net (net_of c (senders after.wire) (flooding_work after))) (sym m.cards) (same_cards x.cards _ _ _ _);
      work_rises_by_bound = omega (arith, m.work);
      proposal_stands = λ j q.
          ap (λ t. ballot_in t j q) m.proposals
          ∙ place_written x.proposals k p j q (Some s) None g.whole.proposals_shaped f.3 (omega (arith, few, f.0));
      decided_more = decides_more x after p f.1 m.decided;
    }

arrived_means : (x : FloodingState) (i : ℕ) (y : Item Load) → MadeFlooding x → slice_get x.wire i ≡ Some y → i < length x.wire → Carried (seen x) (seen (arrive_on (lose_on x i) y))
arrived_means x i y g e l =
    let u = all_nth (Underway x.cards) x.wire i y g.whole.items e in
    let placed : Placed (lose_on x i) y.to = record { seats_shaped = g.whole.seats_shaped; decisions_shaped = g.whole.decisions_shaped; few = g.whole.sound.few; card = u.receiver; up = u.up } in
    let after = arrive_on (lose_on x i) y in
    let m = arrive_moved (lose_on x i) y placed u.instance_fits in
    record {
      net = record {
        same_cards = subst (λ c. SameCards (seen x).net (net_of c (senders after.wire) (flooding_work after))) (sym m.cards) (same_cards x.cards _ _ _ _);
        work_falls = omega (arith, m.work, length-remove x.wire i l);
      };
      proposals_stay = λ k p. ap (λ t. ballot_in t k p) m.proposals;
      decided_more = decides_more x after y.to u.up m.decided;
    }

pub carry_means : (x : FloodingState) (i : ℕ) → MadeFlooding x → carry_answer (seen x).net i ≡ Ok tt → Carried (seen x) (seen (carry_on x i))
carry_means x i g h =
    let t = carried_item x.cards x.wire (flooding_work x) i h in
    rw t.1 (arrived_means x i t.0 g t.1 t.2)

pub lose_means : (x : FloodingState) (i : ℕ) → MadeFlooding x → lose_answer (seen x).net i ≡ Ok tt → Lost (seen x) (seen (lose_on x i)) i
lose_means x i g h =
    let y = lost_item x.cards x.wire (flooding_work x) i h in
    record {
      net = record { same_cards = same_cards x.cards _ _ _ _; item_leaves = senders_removed x.wire i; work_falls = omega (arith, length-remove x.wire i y.2) };
      proposals_stay = λ k p. refl;
      decisions_stay = λ k p. refl;
    }

-- A crashed card sends no more.
less_to_send : (c : CardState) (p q : ℕ) (s : Seat) → SoundCards c → p < c.count → to_send (with_crash c p) s q ≤ to_send c s q
less_to_send c p q s g h =
    ⊎_elim
    (λ e. let z : to_send (with_crash c p) s q ≡ 0 = cond-false _ _ _ (and_left _ (nat_lt 0 s.round) (not_from_true _ e)) in omega arith)
    (λ e.
    let b : ((q == p) ≡ false) × (crashed_in c q ≡ false) = up_before c p q g h e in
    let z : to_send (with_crash c p) s q ≡ to_send c s q = ap (λ d. cond (not d && nat_lt 0 s.round) ((c.count - 1) * (c.count - s.round)) 0) (e ∙ sym b.1) in
    omega arith)
    (cases_Bool (crashed_in (with_crash c p) q))

pub crash_means : (x : FloodingState) (p : ℕ) → MadeFlooding x → crash_answer (seen x).net p ≡ Ok tt → Crashed (seen x) (seen (crash_on x p)) p
crash_means x p g h =
    let c = x.cards in
    let f = crash_accepted (seen x).net p h in
    let less = total_le (λ k. total (λ q. to_send (with_crash c p) (seat_in x.seats k q) q) c.count) (λ k. total (λ q. to_send c (seat_in x.seats k q) q) c.count) 32
    (λ k _. total_le (λ q. to_send (with_crash c p) (seat_in x.seats k q) q) (λ q. to_send c (seat_in x.seats k q) q) c.count (λ q _. less_to_send c p q (seat_in x.seats k q) g.whole.sound f.0)) in
    record {
      net = net_crashed c p _ _ _ _ g.whole.sound f.0 (part_left (λ y. y.from) (elsewhere p) x.wire) (omega (arith, less, length_left (elsewhere p) x.wire));
      proposals_stay = λ k q. refl;
      decisions_stay = λ k q. refl;
    }

pub suspect_means : (x : FloodingState) (q p : ℕ) → MadeFlooding x → suspect_answer (seen x).net q p ≡ Ok tt → Suspected (seen x) (seen (suspect_on x q p)) q p
suspect_means x q p g h =
    let f = suspect_accepted (seen x).net q p h in
    let placed : Placed (doubt_on x q p) q = record { seats_shaped = g.whole.seats_shaped; decisions_shaped = g.whole.decisions_shaped; few = g.whole.sound.few; card = f.0; up = f.2 } in
    let after = suspect_on x q p in
    let m = through_moved (doubt_on x q p) q 32 placed (omega arith) in
    record {
      net = subst (λ c. NetSuspected (seen x).net (net_of c (senders after.wire) (flooding_work after)) q p) (sym m.cards) (net_suspected x.cards q p _ _ _ _ g.whole.sound f.0 f.1 m.work);
      proposals_stay = λ k r. ap (λ t. ballot_in t k r) m.proposals;
      decided_more = decides_more x after q f.2 m.decided;
    }
