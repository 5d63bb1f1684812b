-- Rules over the fields of a line, and the words that they are written as.
use Rattle.std.proofs.Common.{◌≡◌, ℕ, ◌^◌, ◌<◌, ◌≤◌, Bool, true, false, cond, not, ◌&&◌, eqb, leb, List, [], ◌∷◌, map, length, Some, None, decimal, Option, refl, ap, ◌∙◌, arith}
use Rattle.std.proofs.lemmas.Bool.Decides.{nat_tests}
use Rattle.std.proofs.lemmas.Bool.{cond-true}
use Rattle.std.proofs.lemmas.Slice.Eq.{bytes_eq-Decides}
use Rattle.std.specs.List.{AllByRecursion}
use Rattle.text.specs.Fields.{Cut, number, word, label, number_or, read_field, cut_fields, number_in, only_byte, letter_in, is_word}
use Rattle.text.specs.Written.{Free, spaced, spaced_after, field_bytes}
use Rattle.text.proofs.DecimalLaws.{Digits, decimal_digits, numeral_back}
use Rattle.text.proofs.LineLaws.{free_append}
use Rattle.text.proofs.FieldLaws.{placed, fields_only, fields_back}
use Rattle.entries.specs.Chains.{bind}
use Rattle.entries.specs.Written.{ReadsWritten, anywhere}

-- what a chain that gives something came from
pub bind_some : {A B : Type 0} (o : Option A) (f : A → Option B) (y : B) → bind o f ≡ Some y → (x : A) × (o ≡ Some x) × (f x ≡ Some y)
bind_some None f y e = absurd (grind arith)
bind_some (Some x) f y e = (x, refl, e)

pub cond_some : {A : Type 0} (b : Bool) (o : Option A) (y : A) → cond b o None ≡ Some y → (b ≡ true) × (o ≡ Some y)
cond_some true o y e = (refl, e)
cond_some false o y e = absurd (grind arith)

-- Words without a space or a line's end
abbrev pub Plain : List ℕ → Type 0
Plain w = Free 32 w × Free 10 w

abbrev plain_test : List ℕ → Bool
plain_test [] = true
plain_test (b ∷ bs) = (not (eqb b 32) && not (eqb b 10)) && plain_test bs

pub literal_plain : (w : List ℕ) → plain_test w ≡ true → Plain w
literal_plain [] e = (tt, tt)
literal_plain (b ∷ bs) e =
    let rest : plain_test bs ≡ true = grind (arith, nat_tests) in
    let ih = literal_plain bs rest in
    ((λ q. grind (arith, nat_tests), ih.0), (λ q. grind (arith, nat_tests), ih.1))

digits_free : (stop : ℕ) (ds : List ℕ) → stop < 48 → Digits ds → Free stop ds
digits_free stop [] h d = tt
digits_free stop (c ∷ cs) h d = let low = d.0 in (λ q. omega arith, digits_free stop cs h d.2)

pub decimal_plain : (v : ℕ) → v < 2 ^ 32 → Plain (decimal v)
decimal_plain v h = (digits_free 32 (decimal v) (omega arith) (decimal_digits v h), digits_free 10 (decimal v) (omega arith) (decimal_digits v h))

-- one to four plain words
abbrev pub Wordy : List (List ℕ) → Type 0
Wordy [] = ⊥
Wordy (w ∷ ws) = (length ws < 4) × AllByRecursion Plain (w ∷ ws)

spaces_free : (ws : List (List ℕ)) → AllByRecursion Plain ws → AllByRecursion (Free 32) ws
spaces_free [] a = tt
spaces_free (w ∷ ws) a = (a.0.0, spaces_free ws a.1)

after_clean : (ws : List (List ℕ)) → AllByRecursion Plain ws → Free 10 (spaced_after ws)
after_clean [] a = tt
after_clean (w ∷ ws) a = (λ q. omega arith, free_append 10 w (spaced_after ws) a.0.1 (after_clean ws a.1))

words_clean : (ws : List (List ℕ)) → Wordy ws → Free 10 (spaced ws)
words_clean [] a = absurd a
words_clean (w ∷ ws) a = free_append 10 w (spaced_after ws) a.1.0.1 (after_clean ws a.1.1)

words_back : (e : ℕ) (ws : List (List ℕ)) → Wordy ws → cut_fields 4 (spaced ws, e) ≡ Some (placed e ws)
words_back e [] a = absurd a
words_back e (w ∷ ws) a = fields_back 4 e w ws a.1.0.0 (spaces_free ws a.1.1) a.0

-- A rule over fields reads what is written, if it does so field by field.
pub by_words : {A : Type 0} (from : List Cut → Option A) (words : A → List (List ℕ)) (Allowed : A → Type 0)
    → ((fs : List Cut) (x : A) → from fs ≡ Some x → (map field_bytes fs ≡ words x) × Allowed x)
    → ((e : ℕ) (x : A) → Allowed x → from (placed e (words x)) ≡ Some x)
    → ((x : A) → Allowed x → Wordy (words x))
    → ReadsWritten (λ line. bind (cut_fields 4 line) from) anywhere (λ x. spaced (words x)) Allowed
by_words from words Allowed only back wordy = record {
  only = λ line x e.
      let b = bind_some (cut_fields 4 line) from x e in
      let o = only b.0 x b.2 in
      (x, refl, fields_only 4 line b.0 b.1 ∙ ap spaced o.0, o.1);
  back = λ x e a. ap (λ o. bind o from) (words_back e (words x) (wordy x a)) ∙ back e x a;
  clean = λ x a. words_clean (words x) (wordy x a);
}

-- Fields and their bytes
byte_only : (bs : List ℕ) (c : ℕ) → only_byte bs ≡ Some c → bs ≡ c ∷ []
byte_only [] c e = absurd (grind arith)
byte_only (b ∷ []) c e = let q : b ≡ c = cc in ap (λ x. x ∷ []) q
byte_only (b ∷ d ∷ ds) c e = absurd (grind arith)

pub letter_only : (f : Cut) (c : ℕ) → letter_in f ≡ Some c → field_bytes f ≡ c ∷ []
letter_only (number n) c e = absurd (grind arith)
letter_only (word bs place) c e = byte_only bs c e
letter_only (label bs place) c e = absurd (grind arith)

pub number_only : (most : ℕ) (f : Cut) (n : ℕ) → number_in most f ≡ Some n → (field_bytes f ≡ decimal n) × (n ≤ most)
number_only most (number m) n e =
    let c = cond_some (leb m most) (Some m) n e in
    let yes = c.0 in
    let q : m ≡ n = cc c.1 in
    (ap decimal q, grind (arith, nat_tests))
number_only most (word bs place) n e = absurd (grind arith)
number_only most (label bs place) n e = absurd (grind arith)

pub word_only : (w : List ℕ) (f : Cut) → is_word w f ≡ true → field_bytes f ≡ w
word_only w (number n) e = absurd (grind arith)
word_only w (word bs place) e = (bytes_eq-Decides bs w).0 e
word_only w (label bs place) e = absurd (grind arith)

pub number_back : (most e n : ℕ) → n ≤ most → n < 2 ^ 32 → number_in most (read_field (decimal n, e)) ≡ Some n
number_back most e n h small =
    let yes : leb n most ≡ true = grind (arith, nat_tests) in
    ap (λ o. number_in most (number_or (decimal n, e) o)) (numeral_back n small) ∙ cond-true _ _ _ yes
