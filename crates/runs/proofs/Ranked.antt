-- The ranking of every book lists its notes, by the two laws of a kind.
use Rattle.std.proofs.Common.{◌≡◌, ℕ, ◌<◌, ◌≤◌, Bool, true, false, cond, ◌||◌, eqb, leb, List, [], map, length, get_or, sym, refl, ap, ◌∙◌, subst, arith}
use Rattle.std.specs.List.{range_with_len}
use Rattle.std.proofs.lemmas.List.FromFn.{length-map-range_with_len, get_or-map-range_with_len}
use Rattle.std.proofs.lemmas.Bool.{eq-eqb, eqb-true}
use Rattle.std.proofs.lemmas.Bool.Decides.{nat_tests}
use Rattle.notes.specs.Places.{place}
use Rattle.notes.proofs.Counting.{all_reached}
use Rattle.notes.proofs.Ranks.{below, apart}
use Rattle.logs.specs.Orders.{number_in, note_at, in_ranking_order}
use Rattle.logs.proofs.Lowest.{lowest_only}
use Rattle.order.specs.Words.{among}
use Rattle.runs.proofs.Batches.{Listed, among_at, apart_once}

module _ {K : Type 0} (precedes : K → K → Bool)
    (total : (a b : K) → (precedes a b || precedes b a) ≡ true)
    (transitive : (a b c : K) → precedes a b ≡ true → precedes b c ≡ true → precedes a c ≡ true) (book : List K) where
  abbrev notes : List ℕ
  notes = map (note_at precedes book) (range_with_len 0 (length book))

  long : length notes ≡ length book
  long = length-map-range_with_len (note_at precedes book) 0 (length book)

  -- At the place of a note stands that note.
  found : (m : ℕ) → m < length book → get_or notes (place precedes book m) 0 ≡ m
  found m l =
      let k = place precedes book m in
      get_or-map-range_with_len (note_at precedes book) 0 (length book) k k 0 (below precedes total transitive book m l) (omega arith)
      ∙ ap number_in (lowest_only (λ i. eqb (place precedes book i) k) (length book) m l (eq-eqb k k refl)
      (λ i h t. apart precedes total transitive book i m h l (eqb-true (place precedes book i) k t)))

  -- And each place is that of a note.
  back : (k : ℕ) → k < length book → place precedes book (get_or notes k 0) ≡ k
  back k l =
      let r = all_reached (length book) (place precedes book) (below precedes total transitive book) (apart precedes total transitive book) k l in
      ap (place precedes book) (ap (λ j. get_or notes j 0) (sym r.2) ∙ found r.0 r.1) ∙ r.2

  notes_listed : length book ≤ 32 → Listed notes
  notes_listed few = record {
    few = omega (arith, few, long);
    all = λ m l. let h : m < length book = omega (arith, l, long) in
        subst (λ x. among x notes ≡ true) (found m h) (among_at notes (place precedes book m) (omega (arith, below precedes total transitive book m h, long)));
    once = apart_once notes (λ j k l h e. sym (back j (omega (arith, l, long))) ∙ ap (place precedes book) e ∙ back k (omega (arith, h, long)));
  }

  none_listed : Listed []
  none_listed = record { few = omega arith; all = λ m l. absurd (omega arith); once = tt }

  -- A book above 32 notes has none.
  pub listed : Listed (in_ranking_order precedes book)
  unfolding in_ranking_order
  listed = go (leb (length book) 32) refl
    where
      go : (t : Bool) → leb (length book) 32 ≡ t → Listed (cond t notes [])
      go true e = notes_listed (grind (arith, nat_tests, e))
      go false e = none_listed
