-- The lines of a string: each spelling is read, and each line that is read is a spelling.
use Rattle.std.proofs.Common.{◌≡◌, ℕ, ◌^◌, ◌<◌, List, [], ◌∷◌, map, length, Bool, true, false, ◌&&◌, cond, ◌==◌, nat_lt, Option, Some, None, refl, sym, ap, ◌∙◌, subst, arith, codes, ⊎_elim}
use Rattle.std.proofs.lemmas.Bool.{and_parts}
use mathlib.Core.Path.{ap₂}
use Rattle.std.specs.List.{list_all}
use Rattle.std.specs.Option.{option_map}
use Rattle.std.specs.Fmt.{decimal}
use Rattle.std.specs.Str.{bytes_eq}
use Rattle.std.proofs.lemmas.Bool.Decides.{nat_tests}
use Rattle.kat_model.specs.Steps.{Atom}
use Rattle.kat_model.specs.Strings.{Move}
use Rattle.line_format.proofs.Words.{IsWord, AreWords, AreLineWords, words_back, line_back, line_lacks, decimals_words}
use Rattle.line_format.specs.Lines.{line_of, words_of}
use Rattle.line_format.specs.Numerals.{is_numeral, value_of}
use Rattle.certificate.specs.Texts.{atom_bits, bit_words, atom_words, move_words}
use Rattle.certificate.specs.Forms.{is_bit, bits_of, atom_of_words, first_of_words, first_of, move_after, move_of_words, move_of}
use Rattle.line_format.proofs.Splits.{LacksByte}
use Rattle.line_format.proofs.NumeralValues.{numeral_decimal, decimal_numeral}
use Rattle.line_format.proofs.LineSteps.{named}

bits_word : (atom : Atom) → IsWord (atom_bits atom)
bits_word [] = refl
bits_word (true ∷ bs) = bits_word bs
bits_word (false ∷ bs) = bits_word bs

all_are_bits : (atom : Atom) → list_all is_bit (atom_bits atom) ≡ true
all_are_bits [] = refl
all_are_bits (true ∷ bs) = all_are_bits bs
all_are_bits (false ∷ bs) = all_are_bits bs

bits_back : (atom : Atom) → map (λ c. c == 49) (atom_bits atom) ≡ atom
bits_back [] = refl
bits_back (true ∷ bs) = ap (λ l. true ∷ l) (bits_back bs)
bits_back (false ∷ bs) = ap (λ l. false ∷ l) (bits_back bs)

some_bits : (b : Bool) (bs : Atom) → nat_lt 0 (length (atom_bits (b ∷ bs))) ≡ true
some_bits true bs = grind (arith, nat_tests)
some_bits false bs = grind (arith, nat_tests)

atom_read : (atom : Atom) → atom_of_words (bit_words atom) ≡ Some atom
atom_read [] = refl
atom_read (b ∷ bs) = rw (some_bits b bs, all_are_bits (b ∷ bs)) (ap (λ (l : Atom). Some l) (bits_back (b ∷ bs)))

bit_are_words : (atom : Atom) → AreWords (bit_words atom)
bit_are_words [] = tt
bit_are_words (b ∷ bs) = (bits_word (b ∷ bs), tt)

-- ---- a word of bits is the word of its values

bit_back : (c : ℕ) → is_bit c ≡ true → cond (c == 49) 49 48 ≡ c
bit_back c e = grind (arith, nat_tests)

word_back : (w : List ℕ) → list_all is_bit w ≡ true → atom_bits (map (λ c. c == 49) w) ≡ w
word_back [] all = refl
word_back (c ∷ w) all =
    let parts = and_parts (is_bit c) (list_all is_bit w) all in
    ap₂ (λ x l. x ∷ l) (bit_back c parts.0) (word_back w parts.1)

bits_given : (w : List ℕ) (atom : Atom) → bits_of w ≡ Some atom → w ∷ [] ≡ bit_words atom
bits_given w atom e = by_test (nat_lt 0 (length w) && list_all is_bit w) refl e
  where
    words_at : (v : List ℕ) → nat_lt 0 (length v) ≡ true → list_all is_bit v ≡ true → v ∷ [] ≡ bit_words (map (λ c. c == 49) v)
    words_at [] some all = cc
    words_at (c ∷ v) some all = ap (λ l. l ∷ []) (sym (word_back (c ∷ v) all))

    by_test : (b : Bool) → (nat_lt 0 (length w) && list_all is_bit w) ≡ b → cond b (Some (map (λ c. c == 49) w)) None ≡ Some atom → w ∷ [] ≡ bit_words atom
    by_test true is f =
        let parts = and_parts (nat_lt 0 (length w)) (list_all is_bit w) is in
        let same : map (λ c. c == 49) w ≡ atom = cc in
        words_at w parts.0 parts.1 ∙ ap bit_words same
    by_test false is f = cc

atom_given : (ws : List (List ℕ)) (atom : Atom) → atom_of_words ws ≡ Some atom → ws ≡ bit_words atom
atom_given [] atom e = let same : [] ≡ atom = cc in ap bit_words same
atom_given (w ∷ []) atom e = bits_given w atom e
atom_given (w ∷ v ∷ ws) atom e = cc

-- ---- the first atom

first_are_words : (atom : Atom) → AreLineWords (atom_words atom)
first_are_words atom = (refl, bit_are_words atom)

pub first_back : (atom : Atom) → first_of (line_of (atom_words atom)) ≡ Some atom
first_back atom = ap first_of_words (words_back (atom_words atom) (first_are_words atom)) ∙ atom_read atom

pub first_lacks : (atom : Atom) → LacksByte 10 (line_of (atom_words atom))
first_lacks atom = line_lacks (atom_words atom) (first_are_words atom)

first_words_given : (ws : List (List ℕ)) (atom : Atom) → first_of_words ws ≡ Some atom → ws ≡ atom_words atom
first_words_given [] atom e = cc
first_words_given (kind ∷ ws) atom e = by_kind (bytes_eq kind (codes "A")) refl e
  where
    by_kind : (b : Bool) → bytes_eq kind (codes "A") ≡ b → cond b (atom_of_words ws) None ≡ Some atom → kind ∷ ws ≡ atom_words atom
    by_kind true is f = ap₂ (λ k l. k ∷ l) (named kind (codes "A") is) (atom_given ws atom f)
    by_kind false is f = cc

pub first_given : (line : List ℕ) (atom : Atom) → first_of line ≡ Some atom → line ≡ line_of (atom_words atom)
first_given line atom e = sym (line_back line) ∙ ap line_of (first_words_given (words_of line) atom e)

-- ---- moves

move_are_words : (m : Move) → m.act < 2 ^ 64 → AreLineWords (move_words m)
move_are_words m small =
    let act = decimals_words (m.act ∷ []) (λ k h. ⊎_elim (λ p. subst (λ n. n < 2 ^ 64) p small) absurd h) in
    (refl, (act.0, bit_are_words m.atom))

pub move_back : (m : Move) → m.act < 2 ^ 64 → move_of (line_of (move_words m)) ≡ Some m
move_back m small =
    let numeral = decimal_numeral m.act small in
    let after : move_after (decimal m.act) (bit_words m.atom) ≡ Some m =
    rw (numeral.0, atom_read m.atom) (ap (λ (k : ℕ). Some (record { act = k; atom = m.atom })) numeral.1) in
    ap move_of_words (words_back (move_words m) (move_are_words m small)) ∙ after

pub move_lacks : (m : Move) → m.act < 2 ^ 64 → LacksByte 10 (line_of (move_words m))
move_lacks m small = line_lacks (move_words m) (move_are_words m small)

pub move_not_end : (m : Move) → bytes_eq (line_of (move_words m)) (codes "end") ≡ false
move_not_end m = refl

move_after_given : (act : List ℕ) (ws : List (List ℕ)) (m : Move) → m.act < 2 ^ 64 → move_after act ws ≡ Some m → act ∷ ws ≡ decimal m.act ∷ bit_words m.atom
move_after_given act ws m small e = by_test (is_numeral act) refl e
  where
    made : (o : Option Atom) → option_map (λ (atom : Atom). record { act = value_of act; atom = atom }) o ≡ Some m → (o ≡ Some m.atom) × (value_of act ≡ m.act)
    made None f = cc
    made (Some atom) f =
        let same : record { act = value_of act; atom = atom } ≡ m = cc in
        (ap (λ (n : Move). Some n.atom) same, ap (λ (n : Move). n.act) same)

    by_test : (b : Bool) → is_numeral act ≡ b → cond b (option_map (λ (atom : Atom). record { act = value_of act; atom = atom }) (atom_of_words ws)) None ≡ Some m → act ∷ ws ≡ decimal m.act ∷ bit_words m.atom
    by_test true is f =
        let parts = made (atom_of_words ws) f in
        let spelled : act ≡ decimal m.act = sym (numeral_decimal act is (subst (λ k. k < 2 ^ 64) (sym parts.1) small)) ∙ ap decimal parts.1 in
        ap₂ (λ k l. k ∷ l) spelled (atom_given ws m.atom parts.0)
    by_test false is f = cc

move_words_given : (ws : List (List ℕ)) (m : Move) → m.act < 2 ^ 64 → move_of_words ws ≡ Some m → ws ≡ move_words m
move_words_given [] m small e = cc
move_words_given (kind ∷ []) m small e = cc
move_words_given (kind ∷ act ∷ ws) m small e = by_kind (bytes_eq kind (codes "M")) refl e
  where
    by_kind : (b : Bool) → bytes_eq kind (codes "M") ≡ b → cond b (move_after act ws) None ≡ Some m → kind ∷ act ∷ ws ≡ move_words m
    by_kind true is f = ap₂ (λ k l. k ∷ l) (named kind (codes "M") is) (move_after_given act ws m small f)
    by_kind false is f = cc

pub move_given : (line : List ℕ) (m : Move) → m.act < 2 ^ 64 → move_of line ≡ Some m → line ≡ line_of (move_words m)
move_given line m small e = sym (line_back line) ∙ ap line_of (move_words_given (words_of line) m small e)
