-- The readers of the contents' lines read what is written of them, and nothing else.
use Rattle.std.proofs.Common.{◌≡◌, ℕ, ◌^◌, ◌<◌, ◌≤◌, Bool, true, false, cond, ◌&&◌, leb, List, [], ◌∷◌, map, Some, None, codes, decimal, Option, sym, refl, ap, ◌∙◌, subst, ⊎_elim, arith}
use Rattle.std.proofs.lemmas.Bool.Decides.{nat_tests}
use Rattle.std.proofs.lemmas.Bool.{cases_Bool, cond-true, cond-false}
use Rattle.text.specs.Fields.{Cut, read_field, number_in, is_word}
use Rattle.text.specs.Written.{field_bytes}
use Rattle.text.proofs.FieldLaws.{placed}
use Rattle.schedule.specs.declared.contents.NoteKind.{NoteKind}
use Rattle.schedule.specs.declared.contents.NoteKind.TheVariants.{Wear, Label}
use Rattle.schedule.specs.declared.contents.BroadcastPart.{BroadcastPart}
use Rattle.schedule.specs.declared.contents.BroadcastPart.TheVariants.{Relay, AllAck, Board}
use Rattle.schedule.specs.declared.contents.ConsensusPart.{ConsensusPart}
use Rattle.schedule.specs.declared.contents.ConsensusPart.TheVariants.{Flood, Register}
use Rattle.schedule.specs.declared.contents.Pile.{Pile}
use Rattle.entries.specs.Chains.{bind}
use Rattle.schedule.specs.Contents.{kind_in, broadcast_in, consensus_in, pile_in, count_in, keyed, pile_from, kind_of, count_of, pile_of}
use Rattle.entries.specs.Written.{ReadsWritten, anywhere}
use Rattle.schedule.specs.Written.{Always, kind_word, kind_words, kind_text, broadcast_word, consensus_word, pile_words, pile_text, count_words, count_text, Between}
use Rattle.entries.proofs.WordLaws.{bind_some, cond_some, literal_plain, decimal_plain, Plain, Wordy, by_words, word_only, number_only, number_back}

-- one word among several
word_among : {A : Type 0} (f : Cut) (w : List ℕ) (v y : A) (o : Option A) (P : Type 0) → cond (is_word w f) (Some v) o ≡ Some y → (field_bytes f ≡ w → v ≡ y → P) → (o ≡ Some y → P) → P
word_among f w v y o P e this other =
    ⊎_elim
    (λ t. let e' : Some v ≡ Some y = sym (cond-true _ (Some v) o t) ∙ e in this (word_only w f t) (cc))
    (λ n. other (sym (cond-false _ (Some v) o n) ∙ e))
    (cases_Bool (is_word w f))

kind_only : (f : Cut) (k : NoteKind) → kind_in f ≡ Some k → field_bytes f ≡ kind_word k
kind_only f k e =
    word_among f (codes "wear") Wear k _ _ e (λ w q. w ∙ ap kind_word q) (λ e.
    word_among f (codes "label") Label k _ _ e (λ w q. w ∙ ap kind_word q) (λ e. absurd (grind arith)))

broadcast_only : (f : Cut) (b : BroadcastPart) → broadcast_in f ≡ Some b → field_bytes f ≡ broadcast_word b
broadcast_only f b e =
    word_among f (codes "relay") Relay b _ _ e (λ w q. w ∙ ap broadcast_word q) (λ e.
    word_among f (codes "allack") AllAck b _ _ e (λ w q. w ∙ ap broadcast_word q) (λ e.
    word_among f (codes "board") Board b _ _ e (λ w q. w ∙ ap broadcast_word q) (λ e. absurd (grind arith))))

consensus_only : (f : Cut) (c : ConsensusPart) → consensus_in f ≡ Some c → field_bytes f ≡ consensus_word c
consensus_only f c e =
    word_among f (codes "flood") Flood c _ _ e (λ w q. w ∙ ap consensus_word q) (λ e.
    word_among f (codes "register") Register c _ _ e (λ w q. w ∙ ap consensus_word q) (λ e. absurd (grind arith)))

-- a key word and its field
module _ {A : Type 0} (key : List ℕ) (rule : Cut → Option A) (value : A → List ℕ) (Allowed : A → Type 0) where
  keyed_only : ((f : Cut) (x : A) → rule f ≡ Some x → (field_bytes f ≡ value x) × Allowed x)
      → (fs : List Cut) (x : A) → keyed key rule fs ≡ Some x → (map field_bytes fs ≡ key ∷ value x ∷ []) × Allowed x
  keyed_only only [] x e = absurd (grind arith)
  keyed_only only (a ∷ []) x e = absurd (grind arith)
  keyed_only only (a ∷ b ∷ []) x e =
      let c = cond_some (is_word key a) (rule b) x e in
      let o = only b x c.1 in
      let w = word_only key a c.0 in
      let v = o.0 in
      ((λ i. w i ∷ v i ∷ []), o.1)
  keyed_only only (a ∷ b ∷ c ∷ ds) x e = absurd (grind arith)

pub kind_reads : ReadsWritten kind_of anywhere kind_text Always
kind_reads = by_words (keyed (codes "kind") kind_in) kind_words Always
    (keyed_only (codes "kind") kind_in kind_word Always (λ f k e. (kind_only f k e, tt))) back wordy
  where
    back : (end : ℕ) (k : NoteKind) → Always k → keyed (codes "kind") kind_in (placed end (kind_words k)) ≡ Some k
    back end Wear h = refl
    back end Label h = refl

    wordy : (k : NoteKind) → Always k → Wordy (kind_words k)
    wordy Wear h = (omega arith, (literal_plain (codes "kind") refl, (literal_plain (codes "wear") refl, tt)))
    wordy Label h = (omega arith, (literal_plain (codes "kind") refl, (literal_plain (codes "label") refl, tt)))

count_only : (least most : ℕ) (f : Cut) (n : ℕ) → count_in least most f ≡ Some n → (field_bytes f ≡ decimal n) × Between least most n
count_only least most f n e =
    let m = bind_some (number_in most f) (λ n. cond (leb least n) (Some n) None) n e in
    let o = number_only most f m.0 m.1 in
    let c = cond_some (leb least m.0) (Some m.0) n m.2 in
    let q : m.0 ≡ n = cc c.1 in
    let low : least ≤ m.0 = let yes = c.0 in grind (arith, nat_tests) in
    let P : ℕ → Type 0 = λ n. (field_bytes f ≡ decimal n) × Between least most n in
    subst P q (o.0, (low, o.1))

-- The key words are read as words.
module _ (key : List ℕ) (least most : ℕ) (small : most < 2 ^ 32) (plain : Plain key) (reads : (e : ℕ) → is_word key (read_field (key, e)) ≡ true) where
  count_back : (end n : ℕ) → Between least most n → keyed key (count_in least most) (placed end (count_words key n)) ≡ Some n
  count_back end n h =
      let low : leb least n ≡ true = let l = h.0 in grind (arith, nat_tests) in
      cond-true _ _ _ (reads _)
      ∙ ap (λ o. bind o (λ n. cond (leb least n) (Some n) None)) (number_back most _ n h.1 (omega (arith, h.1)))
      ∙ cond-true _ (Some n) None low

  pub count_reads : ReadsWritten (count_of key least most) anywhere (count_text key) (Between least most)
  count_reads = by_words (keyed key (count_in least most)) (count_words key) (Between least most)
      (keyed_only key (count_in least most) decimal (Between least most) (count_only least most)) count_back
      (λ n h. (omega arith, (plain, (decimal_plain n (omega (arith, h.1)), tt))))

pub cards_read : ReadsWritten (count_of (codes "cards") 1 6) anywhere (count_text (codes "cards")) (Between 1 6)
cards_read = count_reads (codes "cards") 1 6 (omega arith) (literal_plain (codes "cards") refl) (λ e. refl)

pub notes_read : ReadsWritten (count_of (codes "notes") 0 32) anywhere (count_text (codes "notes")) (Between 0 32)
notes_read = count_reads (codes "notes") 0 32 (omega arith) (literal_plain (codes "notes") refl) (λ e. refl)

pub events_read : ReadsWritten (count_of (codes "events") 0 4096) anywhere (count_text (codes "events")) (Between 0 4096)
events_read = count_reads (codes "events") 0 4096 (omega arith) (literal_plain (codes "events") refl) (λ e. refl)

pile_parts : (turn : Bool) (a b : Cut) (p : Pile) → pile_in turn a b ≡ Some p → (p.in_turn ≡ turn) × (field_bytes a ≡ broadcast_word p.broadcast) × (field_bytes b ≡ consensus_word p.consensus)
pile_parts turn a b p e =
    let x = bind_some (broadcast_in a) (λ b'. bind (consensus_in b) (λ c. Some (record { in_turn = turn; broadcast = b'; consensus = c }))) p e in
    let y = bind_some (consensus_in b) (λ c. Some (record { in_turn = turn; broadcast = x.0; consensus = c })) p x.2 in
    let q : record { in_turn = turn; broadcast = x.0; consensus = y.0 } ≡ p = cc y.2 in
    let P : Pile → Type 0 = λ p. (p.in_turn ≡ turn) × (field_bytes a ≡ broadcast_word p.broadcast) × (field_bytes b ≡ consensus_word p.consensus) in
    subst P q (refl, broadcast_only a x.0 x.1, consensus_only b y.0 y.1)

pile_only : (fs : List Cut) (p : Pile) → pile_from fs ≡ Some p → (map field_bytes fs ≡ pile_words p) × Always p
pile_only [] p e = absurd (grind arith)
pile_only (a ∷ []) p e = absurd (grind arith)
pile_only (a ∷ b ∷ []) p e = absurd (grind arith)
pile_only (a ∷ b ∷ c ∷ []) p e =
    let k = cond_some (is_word (codes "pile") a) (pile_in false b c) p e in
    let w = word_only (codes "pile") a k.0 in
    let h = pile_parts false b c p k.1 in
    let u = h.1 in
    let v = h.2 in
    ((λ i. w i ∷ u i ∷ v i ∷ []) ∙ sym (cond-false p.in_turn _ _ h.0), tt)
pile_only (a ∷ b ∷ c ∷ d ∷ []) p e =
    let k = cond_some (is_word (codes "pile") a && is_word (codes "inturn") b) (pile_in true c d) p e in
    let both = k.0 in
    let first : is_word (codes "pile") a ≡ true = grind (arith, nat_tests) in
    let second : is_word (codes "inturn") b ≡ true = grind (arith, nat_tests) in
    let w = word_only (codes "pile") a first in
    let t = word_only (codes "inturn") b second in
    let h = pile_parts true c d p k.1 in
    let u = h.1 in
    let v = h.2 in
    ((λ i. w i ∷ t i ∷ u i ∷ v i ∷ []) ∙ sym (cond-true p.in_turn _ _ h.0), tt)
pile_only (a ∷ b ∷ c ∷ d ∷ e ∷ fs) p q = absurd (grind arith)

-- There are twelve piles.
every_pile : (P : Pile → Type 0) → ((t : Bool) (b : BroadcastPart) (c : ConsensusPart) → P (record { in_turn = t; broadcast = b; consensus = c })) → (p : Pile) → P p
every_pile P h p = h p.in_turn p.broadcast p.consensus

pub pile_reads : ReadsWritten pile_of anywhere pile_text Always
pile_reads = by_words pile_from pile_words Always pile_only back wordy
  where
    back_at : (end : ℕ) (t : Bool) (b : BroadcastPart) (c : ConsensusPart) → pile_from (placed end (pile_words (record { in_turn = t; broadcast = b; consensus = c }))) ≡ Some (record { in_turn = t; broadcast = b; consensus = c })
    back_at end true Relay Flood = refl
    back_at end true Relay Register = refl
    back_at end true AllAck Flood = refl
    back_at end true AllAck Register = refl
    back_at end true Board Flood = refl
    back_at end true Board Register = refl
    back_at end false Relay Flood = refl
    back_at end false Relay Register = refl
    back_at end false AllAck Flood = refl
    back_at end false AllAck Register = refl
    back_at end false Board Flood = refl
    back_at end false Board Register = refl

    back : (end : ℕ) (p : Pile) → Always p → pile_from (placed end (pile_words p)) ≡ Some p
    back end p h = every_pile (λ p. pile_from (placed end (pile_words p)) ≡ Some p) (back_at end) p

    broadcast_plain : (b : BroadcastPart) → Plain (broadcast_word b)
    broadcast_plain Relay = literal_plain (codes "relay") refl
    broadcast_plain AllAck = literal_plain (codes "allack") refl
    broadcast_plain Board = literal_plain (codes "board") refl

    consensus_plain : (c : ConsensusPart) → Plain (consensus_word c)
    consensus_plain Flood = literal_plain (codes "flood") refl
    consensus_plain Register = literal_plain (codes "register") refl

    wordy_at : (t : Bool) (b : BroadcastPart) (c : ConsensusPart) → Wordy (pile_words (record { in_turn = t; broadcast = b; consensus = c }))
    wordy_at true b c = (omega arith, (literal_plain (codes "pile") refl, (literal_plain (codes "inturn") refl, (broadcast_plain b, (consensus_plain c, tt)))))
    wordy_at false b c = (omega arith, (literal_plain (codes "pile") refl, (broadcast_plain b, (consensus_plain c, tt))))

    wordy : (p : Pile) → Always p → Wordy (pile_words p)
    wordy p h = every_pile (λ p. Wordy (pile_words p)) wordy_at p
