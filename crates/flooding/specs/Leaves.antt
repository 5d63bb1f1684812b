-- An item leaves the wire: it is accounted for where it was kept or counted, or nobody waits for it.
use Rattle.std.specs.Prelude.{◌≡◌, ℕ, ◌<◌, ◌≤◌, true, false, ◌&&◌, ◌⊎◌, List, Some, ◌==◌, refl}
use Rattle.std.proofs.Common.{sym, subst, ◌∙◌, inl, inr, ⊎_elim}
use Rattle.std.specs.List.{slice_get, remove, AllByRecursion, list_any}
use Rattle.std.proofs.lemmas.Bool.{and_parts, and_from, or_cases, eqb-true, eq-eqb}
use Rattle.cards.specs.Cards.{crashed_in}
use Rattle.wire.specs.declared.Item.{Item}
use Rattle.wire.proofs.Items.{all_removed, any_split}
use Rattle.flooding.specs.declared.mail.Load.{Load}
use Rattle.flooding.specs.Flooding.{FloodingState}
use Rattle.flooding.specs.Made.{brings, Underway, SaysIn, Tied, SoundFlooding}

-- Which item is asked for.
pub brings_parts : (k r p q : ℕ) (y : Item Load) → brings k r p q y ≡ true → (y.from ≡ p) × (y.to ≡ q) × (y.load.instance ≡ k) × (y.load.round ≡ r)
brings_parts k r p q y b =
    let e = and_parts (y.load.instance == k && y.load.round == r) (y.from == p && y.to == q) b in
    let i = and_parts (y.load.instance == k) (y.load.round == r) e.0 in
    let j = and_parts (y.from == p) (y.to == q) e.1 in
    (eqb-true _ _ j.0, eqb-true _ _ j.1, eqb-true _ _ i.0, eqb-true _ _ i.1)

pub brings_itself : (y : Item Load) → brings y.load.instance y.load.round y.from y.to y ≡ true
brings_itself y = and_from _ _ (and_from _ _ (eq-eqb y.load.instance _ refl) (eq-eqb y.load.round _ refl)) (and_from _ _ (eq-eqb y.from _ refl) (eq-eqb y.to _ refl))

-- The item of card p to card q in round r of instance k need not be under way.
abbrev pub Accounted : FloodingState → List (Item Load) → ℕ → ℕ → ℕ → ℕ → Type 0
Accounted x kept k r p q =
    (g : Tied x k) → crashed_in x.cards p ≡ false → crashed_in x.cards q ≡ false → g.past.round q ≤ r
    → ((g.past.round q < r) × (list_any (brings k r p q) kept ≡ true)) ⊎ (g.past.counted q r p ≡ true)

pub leave_whole : (x : FloodingState) (i : ℕ) (y : Item Load) (kept : List (Item Load)) → SoundFlooding x → slice_get x.wire i ≡ Some y
    → ((k : ℕ) (g : Tied x k) → AllByRecursion (SaysIn x.cards.count g.past k) kept)
    → ((k r p q : ℕ) → list_any (brings k r p q) x.kept ≡ true → list_any (brings k r p q) kept ≡ true)
    → Accounted x kept y.load.instance y.load.round y.from y.to
    → SoundFlooding (record { cards = x.cards; proposals = x.proposals; decisions = x.decisions; seats = x.seats; wire = remove x.wire i; kept = kept })
leave_whole x i y kept g e kept_says kept-stays accounted =
    let same : (k r p q : ℕ) → brings k r p q y ≡ true → Accounted x kept k r p q =
    λ k r p q b.
    let j = brings_parts k r p q y b in
    subst (λ v. Accounted x kept v r p q) j.2 (subst (λ v. Accounted x kept y.load.instance v p q) j.3
    (subst (λ v. Accounted x kept y.load.instance y.load.round v q) j.0 (subst (Accounted x kept y.load.instance y.load.round y.from) j.1 accounted))) in
    record {
      sound = g.sound;
      proposals_shaped = g.proposals_shaped;
      decisions_shaped = g.decisions_shaped;
      seats_shaped = g.seats_shaped;
      proposers = g.proposers;
      deciders = g.deciders;
      proposed_sets = g.proposed_sets;
      items = all_removed (Underway x.cards) x.wire i g.items;
      tied = λ k l.
          let t = g.tied k l in
          record {
            past = t.past;
            history = t.history;
            stands = t.stands;
            wire_says = all_removed (SaysIn x.cards.count t.past k) x.wire i t.wire_says;
            kept_says = kept_says k t;
            due = λ p q r bp bq d up uq o m hp hq.
                ⊎_elim
                (λ w. ⊎_elim (λ b. inr (same k r p q b t up uq hq)) (λ b. inl b) (or_cases _ _ (sym (any_split (brings k r p q) x.wire i y e) ∙ w)))
                (⊎_elim (λ w. inr (inl (w.0, kept-stays k r p q w.1))) (λ w. inr (inr w)))
                (t.due p q r bp bq d up uq o m hp hq);
          };
    }
