-- Notes rank as what they stand for.
use Rattle.std.proofs.Common.{◌≡◌, ℕ, Bool, cond, eqb, leb, List, [], map, Some, None, Option, refl, ◌∙◌, ap₂}
use mathlib.Core.Path.{fun_ext}
use lib.ListN.{length-map}
use Rattle.std.specs.List.{slice_get, range_with_len}
use Rattle.std.specs.Option.{option_map}
use Rattle.std.proofs.lemmas.Option.{slice_get-map}
use Rattle.notes.specs.Sets.{how_many}
use Rattle.notes.specs.Places.{both_stand, earlier, place}
use Rattle.logs.specs.Orders.{lowest_that, number_in, in_ranking_order}
use Rattle.labels.specs.declared.Label.{Label}
use Rattle.labels.specs.Order.{label_of}
use Rattle.notes.specs.contracts.label.LabelKind.TheImpl.{ghosts as label_kind}
use Rattle.listing.specs.Listing.{bytes_before}

-- By what f makes of the notes.
module _ {A B : Type 0} (before : B → B → Bool) (f : A → B) where
  abbrev before_by : A → A → Bool
  before_by x y = before (f x) (f y)

  both_mapped : (a b : Option A) (i j : ℕ) → both_stand before (option_map f a) i (option_map f b) j ≡ both_stand before_by a i b j
  both_mapped None b i j = refl
  both_mapped (Some x) None i j = refl
  both_mapped (Some x) (Some y) i j = refl

  earlier_mapped : (xs : List A) (i j : ℕ) → earlier before (map f xs) i j ≡ earlier before_by xs i j
  earlier_mapped xs i j = ap₂ (λ a b. both_stand before a i b j) (slice_get-map f xs i) (slice_get-map f xs j) ∙ both_mapped (slice_get xs i) (slice_get xs j) i j

  place_mapped : (xs : List A) → place before (map f xs) ≡ place before_by xs
  unfolding place
  place_mapped xs = fun_ext (λ i. ap₂ how_many (fun_ext (λ j. earlier_mapped xs j i)) (length-map xs f))

  pub ranked_mapped : (xs : List A) → in_ranking_order before (map f xs) ≡ in_ranking_order before_by xs
  unfolding in_ranking_order
  ranked_mapped xs = ap₂ (λ places n. cond (leb n 32) (map (λ k. number_in (lowest_that (λ m. eqb (places m) k) n)) (range_with_len 0 n)) []) (place_mapped xs) (length-map xs f)

-- Labels rank by what they stand for: their bytes.
pub labels_rank_by_bytes : (labels : List Label) → in_ranking_order bytes_before (map label_of labels) ≡ in_ranking_order label_kind.precedes labels
labels_rank_by_bytes labels = ranked_mapped bytes_before label_of labels
