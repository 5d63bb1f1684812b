-- The note readers read what is written of notes, and nothing else.
use Rattle.std.proofs.Common.{◌≡◌, ℕ, true, List, [], ◌∷◌, map, Some, None, decimal, sym, refl, ap, ◌∙◌, subst, ⊎_elim, arith}
use Rattle.std.proofs.lemmas.Bool.Decides.{nat_tests}
use Rattle.std.proofs.lemmas.Bool.{cases_Bool, cond-true, cond-false}
use Rattle.labels.specs.Order.{all_printable, is_label}
use Rattle.notes.specs.declared.wear.Wear.{Wear}
use Rattle.text.specs.Parts.{Span, place_of}
use Rattle.text.specs.Fields.{Cut, word, label, read_field, number_in, label_in}
use Rattle.text.specs.Written.{Free, field_bytes}
use Rattle.text.proofs.FieldLaws.{placed}
use Rattle.entries.specs.Chains.{bind}
use Rattle.entries.specs.Notes.{wear_from, wear_of, label_at}
use Rattle.entries.specs.Written.{ReadsWritten, anywhere, wear_words, wear_text, WearAllowed, label_put, label_text, LabelAllowed}
use Rattle.entries.proofs.WordLaws.{bind_some, decimal_plain, Wordy, by_words, number_only, number_back}

wear_only : (fs : List Cut) (w : Wear) → wear_from fs ≡ Some w → (map field_bytes fs ≡ wear_words w) × WearAllowed w
wear_only [] w e = absurd (grind arith)
wear_only (a ∷ []) w e = absurd (grind arith)
wear_only (a ∷ b ∷ []) w e =
    let m = bind_some (number_in 4294967295 a) (λ m. bind (number_in 4294967295 b) (λ n. Some (record { block = m; erases = n }))) w e in
    let n = bind_some (number_in 4294967295 b) (λ n. Some (record { block = m.0; erases = n })) w m.2 in
    let u = number_only 4294967295 a m.0 m.1 in
    let v = number_only 4294967295 b n.0 n.1 in
    let q : record { block = m.0; erases = n.0 } ≡ w = cc n.2 in
    let P : Wear → Type 0 = λ w. (field_bytes a ∷ field_bytes b ∷ [] ≡ wear_words w) × WearAllowed w in
    subst P q ((λ i. u.0 i ∷ v.0 i ∷ []), (omega (arith, u.1), omega (arith, v.1)))
wear_only (a ∷ b ∷ c ∷ ds) w e = absurd (grind arith)

wear_fields : (d e : ℕ) (w : Wear) → WearAllowed w → wear_from (read_field (decimal w.block, d) ∷ read_field (decimal w.erases, e) ∷ []) ≡ Some w
wear_fields d e w h =
    ap (λ o. bind o (λ m. bind (number_in 4294967295 (read_field (decimal w.erases, e))) (λ n. Some (record { block = m; erases = n })))) (number_back 4294967295 d w.block (omega (arith, h.0)) h.0)
    ∙ ap (λ o. bind o (λ n. Some (record { block = w.block; erases = n }))) (number_back 4294967295 e w.erases (omega (arith, h.1)) h.1)

wear_back : (end : ℕ) (w : Wear) → WearAllowed w → wear_from (placed end (wear_words w)) ≡ Some w
wear_back end w h = wear_fields _ _ w h

wear_wordy : (w : Wear) → WearAllowed w → Wordy (wear_words w)
wear_wordy w h = (omega arith, (decimal_plain w.block h.0, (decimal_plain w.erases h.1, tt)))

pub wear_reads : ReadsWritten wear_of anywhere wear_text WearAllowed
wear_reads = by_words wear_from wear_words WearAllowed wear_only wear_back wear_wordy

printable_clean : (bs : List ℕ) → all_printable bs ≡ true → Free 10 bs
printable_clean [] e = tt
printable_clean (b ∷ bs) e =
    let rest : all_printable bs ≡ true = grind (arith, nat_tests) in
    (λ q. grind (arith, nat_tests), printable_clean bs rest)

label_only : (line : Span) (x : List ℕ × ℕ) → label_at line ≡ Some x → (bs : List ℕ) × (x ≡ label_put (place_of line) bs) × (line.0 ≡ bs) × LabelAllowed bs
label_only line x e =
    ⊎_elim
    (λ yes.
    let t : Some (line.0, place_of line) ≡ Some x = sym (ap label_in (cond-true (is_label line.0) (label line.0 (place_of line)) (word line.0 (place_of line)) yes)) ∙ e in
    (line.0, sym (cc t), refl, yes))
    (λ no. let z : None ≡ Some x = sym (ap label_in (cond-false (is_label line.0) (label line.0 (place_of line)) (word line.0 (place_of line)) no)) ∙ e in absurd (grind arith))
    (cases_Bool (is_label line.0))

label_clean : (bs : List ℕ) → LabelAllowed bs → Free 10 bs
label_clean bs h = let p : all_printable bs ≡ true = grind (arith, nat_tests) in printable_clean bs p

pub label_reads : ReadsWritten label_at label_put label_text LabelAllowed
label_reads = record {
  only = label_only;
  back = λ bs end h. ap label_in (cond-true (is_label bs) (label bs (place_of (bs, end))) (word bs (place_of (bs, end))) h);
  clean = label_clean;
}
