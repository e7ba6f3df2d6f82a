-- The text of evidence consists of letters, digits, blanks, bars and line feeds.
use Rattle.std.proofs.Common.{◌≡◌, ◌<◌, ◌/◌, ◌%◌, ℕ, zero, suc, List, [], ◌∷◌, ◌++◌, map, Bool, true, false, if◌then◌else◌, ◌==◌, Option, None, Some, refl, sym, subst, ◌∙◌, codes, arith}
use Rattle.std.specs.List.{join_with_byte}
use Rattle.std.specs.Fmt.{digits_onto, digits, digit_glyph, decimal}
use Rattle.std.specs.Cmp.Derive.{both_true}
use Rattle.std.proofs.lemmas.List.Folds.{list_all-append}
use Rattle.std.proofs.lemmas.Bool.Decides.{nat_tests}
use Rattle.kat_model.specs.Steps.{Atom}
use Rattle.kat_model.specs.Strings.{Move}
use Rattle.term_nodes.specs.declared.TestNode.{TestNode}
use Rattle.term_nodes.specs.declared.TestNode.TheVariants.{False, True, Prim, Not, And, Or}
use Rattle.term_nodes.specs.declared.TermNode.{TermNode}
use Rattle.term_nodes.specs.declared.TermNode.TheVariants.{Zero, One, Test, Act, Sum, Seq, Star}
use Rattle.certificate.specs.declared.nodes.Style.{Style}
use Rattle.certificate.specs.declared.nodes.Style.TheVariants.{Plain, UpTo, Under}
use Rattle.certificate.specs.declared.entry.Entry.{Entry}
use Rattle.certificate.specs.declared.entry.Entry.TheVariants.{TestLine, TermLine, PairLine}
use Rattle.certificate.specs.declared.evidence.Evidence.{Evidence}
use Rattle.certificate.specs.declared.evidence.Evidence.TheVariants.{Equal, Different}
use Rattle.certificate.specs.Texts.{test_name, test_numbers, term_name, term_numbers, last_words, entry_words, atom_bits, bit_words, atom_words, move_words, heading, entries_of, lines_before_end, lines_of, text_of}
use Rattle.certificate.specs.Laws.{is_plain, IsPlain}
use Rattle.line_format.specs.Lines.{line_of, text_of_lines}
use Rattle.line_format.proofs.TextParts.{text-cons}

append_plain : (xs ys : List ℕ) → IsPlain xs → IsPlain ys → IsPlain (xs ++ ys)
append_plain xs ys x y = list_all-append is_plain xs ys ∙ both_true x y

-- ---- numerals

glyph_plain : (d : ℕ) → d < 10 → is_plain (digit_glyph false d) ≡ true
glyph_plain d small = grind (arith, nat_tests)

chosen_plain : (b : Bool) (xs ys : List ℕ) → IsPlain xs → IsPlain ys → IsPlain (if b then xs else ys)
chosen_plain true xs ys x y = x
chosen_plain false xs ys x y = y

onto_plain : (k n : ℕ) (acc : List ℕ) → IsPlain acc → IsPlain (digits_onto k 10 false n acc)
onto_plain zero n acc p = p
onto_plain (suc k) n acc p =
    let more : IsPlain (digit_glyph false (n % 10) ∷ acc) = both_true (glyph_plain (n % 10) (omega arith)) p in
    chosen_plain (n / 10 == 0) (digit_glyph false (n % 10) ∷ acc) (digits_onto k 10 false (n / 10) (digit_glyph false (n % 10) ∷ acc)) more
    (onto_plain k (n / 10) (digit_glyph false (n % 10) ∷ acc) more)

decimal_plain : (n : ℕ) → IsPlain (decimal n)
unfolding digits
decimal_plain n = onto_plain 64 n [] refl

-- ---- words and lines

abbrev ArePlain : List (List ℕ) → Type 0
ArePlain [] = Unit {0}
ArePlain (w ∷ ws) = IsPlain w × ArePlain ws

appended : (us ws : List (List ℕ)) → ArePlain us → ArePlain ws → ArePlain (us ++ ws)
appended [] ws u w = w
appended (x ∷ us) ws u w = (u.0, appended us ws u.1 w)

decimals_plain : (ks : List ℕ) → ArePlain (map decimal ks)
decimals_plain [] = tt
decimals_plain (k ∷ ks) = (decimal_plain k, decimals_plain ks)

line_plain : (ws : List (List ℕ)) → ArePlain ws → IsPlain (line_of ws)
line_plain [] t = refl
line_plain (w ∷ []) t = t.0
line_plain (w ∷ v ∷ ws) t = append_plain w (32 ∷ join_with_byte 32 (v ∷ ws)) t.0 (line_plain (v ∷ ws) t.1)

lines_plain : (ls : List (List ℕ)) → ArePlain ls → IsPlain (text_of_lines ls)
lines_plain [] t = refl
lines_plain (l ∷ ls) t = subst IsPlain (sym (text-cons l ls)) (append_plain l (10 ∷ text_of_lines ls) t.0 (lines_plain ls t.1))

-- ---- the lines of evidence

test_name_plain : (n : TestNode ℕ) → IsPlain (test_name n)
test_name_plain False = refl
test_name_plain True = refl
test_name_plain (Prim k) = refl
test_name_plain (Not x) = refl
test_name_plain (And x y) = refl
test_name_plain (Or x y) = refl

term_name_plain : (n : TermNode ℕ ℕ) → IsPlain (term_name n)
term_name_plain Zero = refl
term_name_plain One = refl
term_name_plain (Test x) = refl
term_name_plain (Act a) = refl
term_name_plain (Sum x y) = refl
term_name_plain (Seq x y) = refl
term_name_plain (Star x) = refl

last_plain : (t : Option ℕ) → ArePlain (last_words t)
last_plain None = tt
last_plain (Some k) = (refl, (decimal_plain k, tt))

entry_plain : (e : Entry) → ArePlain (entry_words e)
entry_plain (TestLine n) = (refl, (test_name_plain n, decimals_plain (test_numbers n)))
entry_plain (TermLine n) = (refl, (term_name_plain n, decimals_plain (term_numbers n)))
entry_plain (PairLine p) = (
  refl,
  appended (map decimal p.left) (codes "|" ∷ (map decimal p.right ++ last_words p.test)) (decimals_plain p.left)
      (refl, appended (map decimal p.right) (last_words p.test) (decimals_plain p.right) (last_plain p.test)),
)

bits_plain : (atom : Atom) → IsPlain (atom_bits atom)
bits_plain [] = refl
bits_plain (true ∷ bs) = bits_plain bs
bits_plain (false ∷ bs) = bits_plain bs

bit_words_plain : (atom : Atom) → ArePlain (bit_words atom)
bit_words_plain [] = tt
bit_words_plain (b ∷ bs) = (bits_plain (b ∷ bs), tt)

atom_plain : (atom : Atom) → ArePlain (atom_words atom)
atom_plain atom = (refl, bit_words_plain atom)

move_plain : (m : Move) → ArePlain (move_words m)
move_plain m = (refl, (decimal_plain m.act, bit_words_plain m.atom))

heading_plain : (s : Style) → IsPlain (heading s)
heading_plain Plain = refl
heading_plain UpTo = refl
heading_plain Under = refl

entry_lines_plain : (es : List Entry) → ArePlain (map (λ e. line_of (entry_words e)) es)
entry_lines_plain [] = tt
entry_lines_plain (e ∷ es) = (line_plain (entry_words e) (entry_plain e), entry_lines_plain es)

move_lines_plain : (ms : List Move) → ArePlain (map (λ m. line_of (move_words m)) ms)
move_lines_plain [] = tt
move_lines_plain (m ∷ ms) = (line_plain (move_words m) (move_plain m), move_lines_plain ms)

before_end_plain : (e : Evidence) → ArePlain (lines_before_end e)
before_end_plain (Equal c) = (heading_plain c.style, entry_lines_plain (entries_of c))
before_end_plain (Different x) = (refl, (line_plain (atom_words x.first) (atom_plain x.first), move_lines_plain x.rest))

pub text_plain : (e : Evidence) → IsPlain (text_of e)
text_plain e = lines_plain (lines_of e) (appended (lines_before_end e) (codes "end" ∷ []) (before_end_plain e) (refl, tt))
