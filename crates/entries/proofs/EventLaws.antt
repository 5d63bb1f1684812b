-- The event reader reads what is written of events, and nothing else.
use Rattle.std.proofs.Common.{◌≡◌, ℕ, ◌≤◌, cond, eqb, List, [], ◌∷◌, map, Some, None, codes, decimal, sym, refl, ap, ◌∙◌, subst, ⊎_elim, arith}
use Rattle.std.proofs.lemmas.Bool.{cases_Bool, cond-true, cond-false, eqb-true}
use Rattle.std.specs.Option.{option_map}
use Rattle.text.specs.Fields.{Cut, read_field, number_in, letter_in}
use Rattle.text.specs.Written.{field_bytes}
use Rattle.text.proofs.FieldLaws.{mapped_some, placed}
use Rattle.entries.specs.declared.event.Event.{Event}
use Rattle.entries.specs.declared.event.Event.TheVariants.{Post, Propose, Take, Crash, Suspect, Carry, Lose, Settle}
use Rattle.parts.specs.declared.wires.Wire.{Wire}
use Rattle.parts.specs.declared.wires.Wire.TheVariants.{Broadcast, Consensus}
use Rattle.entries.specs.Chains.{bind}
use Rattle.entries.specs.Events.{one_number, two_numbers, wire_of, wire_item, event_by, event_from, event_of}
use Rattle.entries.specs.Written.{ReadsWritten, anywhere, wire_word, event_words, event_text, EventAllowed}
use Rattle.entries.proofs.WordLaws.{bind_some, literal_plain, decimal_plain, Plain, Wordy, by_words, letter_only, number_only, number_back}

-- What follows the letter
one_only : (fs : List Cut) (n : ℕ) → one_number fs ≡ Some n → (map field_bytes fs ≡ decimal n ∷ []) × (n ≤ 65535)
one_only [] n e = absurd (grind arith)
one_only (a ∷ []) n e = let o = number_only 65535 a n e in (ap (λ w. w ∷ []) o.0, o.1)
one_only (a ∷ b ∷ cs) n e = absurd (grind arith)

two_only : (fs : List Cut) (p : ℕ × ℕ) → two_numbers fs ≡ Some p → (map field_bytes fs ≡ decimal p.0 ∷ decimal p.1 ∷ []) × (p.0 ≤ 65535) × (p.1 ≤ 65535)
two_only [] p e = absurd (grind arith)
two_only (a ∷ []) p e = absurd (grind arith)
two_only (a ∷ b ∷ []) p e =
    let m = bind_some (number_in 65535 a) (λ m. bind (number_in 65535 b) (λ n. Some (m, n))) p e in
    let n = bind_some (number_in 65535 b) (λ n. Some (m.0, n)) p m.2 in
    let v = number_only 65535 a m.0 m.1 in
    let w = number_only 65535 b n.0 n.1 in
    let q : (m.0, n.0) ≡ p = cc n.2 in
    let P : ℕ × ℕ → Type 0 = λ p. (field_bytes a ∷ field_bytes b ∷ [] ≡ decimal p.0 ∷ decimal p.1 ∷ []) × (p.0 ≤ 65535) × (p.1 ≤ 65535) in
    subst P q ((λ i. v.0 i ∷ w.0 i ∷ []), v.1, w.1)
two_only (a ∷ b ∷ c ∷ ds) p e = absurd (grind arith)

wire_only : (c : ℕ) (w : Wire) → wire_of c ≡ Some w → c ∷ [] ≡ wire_word w
wire_only c w e =
    ⊎_elim
    (λ y. let e' : Some Broadcast ≡ Some w = sym (cond-true _ _ _ y) ∙ e in let q : Broadcast ≡ w = cc in ap (λ x. x ∷ []) (eqb-true c 98 y) ∙ ap wire_word q)
    (λ n.
    ⊎_elim
    (λ y. let e' : Some Consensus ≡ Some w = sym (cond-false _ _ _ n ∙ cond-true _ _ _ y) ∙ e in let q : Consensus ≡ w = cc in ap (λ x. x ∷ []) (eqb-true c 99 y) ∙ ap wire_word q)
    (λ m. let e' : None ≡ Some w = sym (cond-false _ _ _ n ∙ cond-false _ _ _ m) ∙ e in absurd (grind arith))
    (cases_Bool (eqb c 99)))
    (cases_Bool (eqb c 98))

item_only : (fs : List Cut) (p : Wire × ℕ) → wire_item fs ≡ Some p → (map field_bytes fs ≡ wire_word p.0 ∷ decimal p.1 ∷ []) × (p.1 ≤ 65535)
item_only [] p e = absurd (grind arith)
item_only (a ∷ []) p e = absurd (grind arith)
item_only (a ∷ b ∷ []) p e =
    let c = bind_some (letter_in a) (λ c. bind (wire_of c) (λ w. bind (number_in 65535 b) (λ n. Some (w, n)))) p e in
    let w = bind_some (wire_of c.0) (λ w. bind (number_in 65535 b) (λ n. Some (w, n))) p c.2 in
    let n = bind_some (number_in 65535 b) (λ n. Some (w.0, n)) p w.2 in
    let first = letter_only a c.0 c.1 ∙ wire_only c.0 w.0 w.1 in
    let v = number_only 65535 b n.0 n.1 in
    let q : (w.0, n.0) ≡ p = cc n.2 in
    let P : Wire × ℕ → Type 0 = λ p. (field_bytes a ∷ field_bytes b ∷ [] ≡ wire_word p.0 ∷ decimal p.1 ∷ []) × (p.1 ≤ 65535) in
    subst P q ((λ i. first i ∷ v.0 i ∷ []), v.1)
item_only (a ∷ b ∷ c ∷ ds) p e = absurd (grind arith)

-- one case of the letter
branch : {X : Type 0} (c k : ℕ) (x y z : X) (P : Type 0) → cond (eqb c k) x y ≡ z → (c ≡ k → x ≡ z → P) → (y ≡ z → P) → P
branch c k x y z P e f g =
    ⊎_elim (λ t. f (eqb-true c k t) (sym (cond-true _ x y t) ∙ e)) (λ n. g (sym (cond-false _ x y n) ∙ e)) (cases_Bool (eqb c k))

module _ (c : ℕ) (fs : List Cut) (e : Event) where
  abbrev Is : Event → Type 0
  Is e = ((c ∷ []) ∷ map field_bytes fs ≡ event_words e) × EventAllowed e

  by_one : (k : ℕ) (f : ℕ → Event) → ((n : ℕ) → (k ∷ []) ∷ decimal n ∷ [] ≡ event_words (f n)) → ((n : ℕ) → n ≤ 65535 → EventAllowed (f n)) → c ≡ k → option_map f (one_number fs) ≡ Some e → Is e
  by_one k f words ok is q =
      let t = mapped_some f (one_number fs) e q in
      let o = one_only fs t.0 t.1 in
      let body = o.0 in
      subst Is t.2 ((λ i. (is i ∷ []) ∷ body i) ∙ words t.0, ok t.0 o.1)

  by_two : (k : ℕ) (f : ℕ × ℕ → Event) → ((p : ℕ × ℕ) → (k ∷ []) ∷ decimal p.0 ∷ decimal p.1 ∷ [] ≡ event_words (f p)) → ((p : ℕ × ℕ) → p.0 ≤ 65535 → p.1 ≤ 65535 → EventAllowed (f p)) → c ≡ k → option_map f (two_numbers fs) ≡ Some e → Is e
  by_two k f words ok is q =
      let t = mapped_some f (two_numbers fs) e q in
      let o = two_only fs t.0 t.1 in
      let body = o.0 in
      subst Is t.2 ((λ i. (is i ∷ []) ∷ body i) ∙ words t.0, ok t.0 o.1 o.2)

  by_wire : (k : ℕ) (f : Wire × ℕ → Event) → ((p : Wire × ℕ) → (k ∷ []) ∷ wire_word p.0 ∷ decimal p.1 ∷ [] ≡ event_words (f p)) → ((p : Wire × ℕ) → p.1 ≤ 65535 → EventAllowed (f p)) → c ≡ k → option_map f (wire_item fs) ≡ Some e → Is e
  by_wire k f words ok is q =
      let t = mapped_some f (wire_item fs) e q in
      let o = item_only fs t.0 t.1 in
      let body = o.0 in
      subst Is t.2 ((λ i. (is i ∷ []) ∷ body i) ∙ words t.0, ok t.0 o.1)

  letter_decides : event_by c fs ≡ Some e → Is e
  letter_decides q =
      branch c 98 _ _ _ _ q (by_two 98 (λ (p : ℕ × ℕ). Post p.0 p.1) (λ p. refl) (λ p h k. (h, k))) (λ q.
      branch c 112 _ _ _ _ q (by_one 112 (λ (n : ℕ). Propose n) (λ n. refl) (λ n h. h)) (λ q.
      branch c 116 _ _ _ _ q (by_one 116 (λ (n : ℕ). Take n) (λ n. refl) (λ n h. h)) (λ q.
      branch c 120 _ _ _ _ q (by_one 120 (λ (n : ℕ). Crash n) (λ n. refl) (λ n h. h)) (λ q.
      branch c 115 _ _ _ _ q (by_two 115 (λ (p : ℕ × ℕ). Suspect p.0 p.1) (λ p. refl) (λ p h k. (h, k))) (λ q.
      branch c 99 _ _ _ _ q (by_wire 99 (λ (p : Wire × ℕ). Carry p.0 p.1) (λ p. refl) (λ p h. h)) (λ q.
      branch c 108 _ _ _ _ q (by_wire 108 (λ (p : Wire × ℕ). Lose p.0 p.1) (λ p. refl) (λ p h. h)) (λ q.
      branch c 114 _ _ _ _ q (by_one 114 (λ (n : ℕ). Settle n) (λ n. refl) (λ n h. h)) (λ q. absurd (grind arith)))))))))

event_only : (fs : List Cut) (e : Event) → event_from fs ≡ Some e → (map field_bytes fs ≡ event_words e) × EventAllowed e
event_only [] e q = absurd (grind arith)
event_only (f ∷ fs) e q =
    let l = bind_some (letter_in f) (λ c. event_by c fs) e q in
    let d = letter_decides l.0 fs e l.2 in
    (ap (λ w. w ∷ map field_bytes fs) (letter_only f l.0 l.1) ∙ d.0, d.1)

one_back : (e n : ℕ) → n ≤ 65535 → number_in 65535 (read_field (decimal n, e)) ≡ Some n
one_back e n h = number_back 65535 e n h (omega arith)

two_back : (d e m n : ℕ) → m ≤ 65535 → n ≤ 65535 → two_numbers (read_field (decimal m, d) ∷ read_field (decimal n, e) ∷ []) ≡ Some (m, n)
two_back d e m n h k =
    ap (λ o. bind o (λ m. bind (number_in 65535 (read_field (decimal n, e))) (λ n. Some (m, n)))) (one_back d m h)
    ∙ ap (λ o. bind o (λ n. Some (m, n))) (one_back e n k)

item_back : (d e : ℕ) (w : Wire) (n : ℕ) → n ≤ 65535 → wire_item (read_field (wire_word w, d) ∷ read_field (decimal n, e) ∷ []) ≡ Some (w, n)
item_back d e Broadcast n h = ap (λ o. bind o (λ n. Some (Broadcast, n))) (one_back e n h)
item_back d e Consensus n h = ap (λ o. bind o (λ n. Some (Consensus, n))) (one_back e n h)

event_back : (end : ℕ) (e : Event) → EventAllowed e → event_from (placed end (event_words e)) ≡ Some e
event_back end (Post card note) h = ap (option_map (λ (p : ℕ × ℕ). Post p.0 p.1)) (two_back _ _ card note h.0 h.1)
event_back end (Propose card) h = ap (option_map (λ (n : ℕ). Propose n)) (one_back _ card h)
event_back end (Take card) h = ap (option_map (λ (n : ℕ). Take n)) (one_back _ card h)
event_back end (Crash card) h = ap (option_map (λ (n : ℕ). Crash n)) (one_back _ card h)
event_back end (Suspect by card) h = ap (option_map (λ (p : ℕ × ℕ). Suspect p.0 p.1)) (two_back _ _ by card h.0 h.1)
event_back end (Carry wire item) h = ap (option_map (λ (p : Wire × ℕ). Carry p.0 p.1)) (item_back _ _ wire item h)
event_back end (Lose wire item) h = ap (option_map (λ (p : Wire × ℕ). Lose p.0 p.1)) (item_back _ _ wire item h)
event_back end (Settle limit) h = ap (option_map (λ (n : ℕ). Settle n)) (one_back _ limit h)

small_plain : (n : ℕ) → n ≤ 65535 → Plain (decimal n)
small_plain n h = decimal_plain n (omega arith)

wire_plain : (w : Wire) → Plain (wire_word w)
wire_plain Broadcast = literal_plain (codes "b") refl
wire_plain Consensus = literal_plain (codes "c") refl

event_wordy : (e : Event) → EventAllowed e → Wordy (event_words e)
event_wordy (Post card note) h = (omega arith, (literal_plain (codes "b") refl, (small_plain card h.0, (small_plain note h.1, tt))))
event_wordy (Propose card) h = (omega arith, (literal_plain (codes "p") refl, (small_plain card h, tt)))
event_wordy (Take card) h = (omega arith, (literal_plain (codes "t") refl, (small_plain card h, tt)))
event_wordy (Crash card) h = (omega arith, (literal_plain (codes "x") refl, (small_plain card h, tt)))
event_wordy (Suspect by card) h = (omega arith, (literal_plain (codes "s") refl, (small_plain by h.0, (small_plain card h.1, tt))))
event_wordy (Carry wire item) h = (omega arith, (literal_plain (codes "c") refl, (wire_plain wire, (small_plain item h, tt))))
event_wordy (Lose wire item) h = (omega arith, (literal_plain (codes "l") refl, (wire_plain wire, (small_plain item h, tt))))
event_wordy (Settle limit) h = (omega arith, (literal_plain (codes "r") refl, (small_plain limit h, tt)))

pub event_reads : ReadsWritten event_of anywhere event_text EventAllowed
event_reads = by_words event_from event_words EventAllowed event_only event_back event_wordy
