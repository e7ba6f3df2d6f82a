-- Lines as their first word and the other words after blanks, and texts as their lines.
use Rattle.std.proofs.Common.{◌≡◌, ◌<◌, ◌≤◌, ◌+◌, ◌==◌, ℕ, List, [], ◌∷◌, ◌++◌, map, length, take, get_or, Bool, false, if◌then◌else◌, Option, sym, ap, ◌∙◌, append_assoc, codes}
use Rattle.std.specs.Fmt.{decimal}
use Rattle.std.specs.List.{flat_map}
use Rattle.std.proofs.lemmas.Grind.{flat_map-append}
use Rattle.std.proofs.lemmas.List.{append-nil, map-append, take_all, take_more}
use Rattle.kat_model.specs.Steps.{Atom}
use Rattle.kat_model.specs.Strings.{Move, GuardedString}
use Rattle.line_format.specs.Lines.{line_of, with_feed, after_blanks}
use Rattle.line_format.proofs.LineForms.{line_of-cons, lines_then_end}
use Rattle.certificate.specs.declared.entry.Entry.{Entry}
use Rattle.certificate.specs.declared.entry.Entry.TheVariants.{PairLine}
use Rattle.certificate.specs.declared.evidence.Evidence.{Evidence}
use Rattle.certificate.specs.declared.evidence.Evidence.TheVariants.{Equal, Different}
use Rattle.certificate.specs.PairParts.{PairParts}
use Rattle.certificate.specs.Texts.{last_words, entry_words, atom_words, atom_bits, bit_words, move_words, heading, string_heading, entries_of, text_of}
use Rattle.certificate.specs.Working.Writings.{entry_lines, move_lines, string_lines, body_of}

-- the line of a pair
pub pair_line : (p : PairParts) → line_of (entry_words (PairLine p)) ≡ codes "P" ++ (after_blanks (map decimal p.left) ++ (codes " |" ++ (after_blanks (map decimal p.right) ++ after_blanks (last_words p.test))))
pair_line p =
    let rights : List (List ℕ) = map decimal p.right ++ last_words p.test in
    line_of-cons (codes "P") (map decimal p.left ++ codes "|" ∷ rights)
    ∙ ap (λ l. codes "P" ++ l) (flat_map-append (λ w. 32 ∷ w) (map decimal p.left) (codes "|" ∷ rights))
    ∙ ap (λ l. codes "P" ++ (after_blanks (map decimal p.left) ++ (codes " |" ++ l))) (flat_map-append (λ w. 32 ∷ w) (map decimal p.right) (last_words p.test))

-- all lines but the last, and then the last
pub text_of-body : (e : Evidence) → text_of e ≡ body_of e ++ with_feed (codes "end")
text_of-body (Equal c) =
    ap (λ l. with_feed (heading c.style) ++ l) (lines_then_end (λ e. line_of (entry_words e)) (entries_of c)) ∙ sym (append_assoc (with_feed (heading c.style)) (entry_lines (entries_of c)) (with_feed (codes "end")))
text_of-body (Different x) =
    let first : List ℕ = with_feed (line_of (atom_words x.first)) in
    ap (λ l. with_feed string_heading ++ (first ++ l)) (lines_then_end (λ m. line_of (move_words m)) x.rest)
    ∙ ap (λ l. with_feed string_heading ++ l) (sym (append_assoc first (move_lines x.rest) (with_feed (codes "end"))))
    ∙ sym (append_assoc (with_feed string_heading) (first ++ move_lines x.rest) (with_feed (codes "end")))

-- the output after three steps
pub three_written : (out first second third a b c : List ℕ) → first ≡ out ++ a → second ≡ first ++ b → third ≡ second ++ c → third ≡ out ++ (a ++ (b ++ c))
three_written out first second third a b c ea eb ec =
    ec ∙ ap (λ l. l ++ c) (eb ∙ ap (λ l. l ++ b) ea) ∙ append_assoc (out ++ a) b c ∙ append_assoc out a (b ++ c)

-- the output after an additional step
pub then_written : (out before after a b : List ℕ) → before ≡ out ++ a → after ≡ before ++ b → after ≡ out ++ (a ++ b)
then_written out before after a b ea eb = eb ∙ ap (λ l. l ++ b) ea ∙ append_assoc out a b

pub pair_written : (out kind lefts bar rights all left right : List ℕ) (last : Option ℕ) (p : PairParts) → left ≡ p.left → right ≡ p.right → last ≡ p.test → kind ≡ out ++ codes "P" → lefts ≡ kind ++ after_blanks (map decimal left) → bar ≡ lefts ++ codes " |" → rights ≡ bar ++ after_blanks (map decimal right) → all ≡ rights ++ with_feed (after_blanks (last_words last)) → all ≡ out ++ with_feed (line_of (entry_words (PairLine p)))
pair_written out kind lefts bar rights all left right last p el er et ek els eb ers ea =
    let l : List ℕ = after_blanks (map decimal p.left) in
    let r : List ℕ = after_blanks (map decimal p.right) in
    let t : List ℕ = after_blanks (last_words p.test) in
    let first = three_written out kind lefts bar (codes "P") l (codes " |") ek (els ∙ ap (λ ks. kind ++ after_blanks (map decimal ks)) el) eb in
    let second = then_written out bar rights (codes "P" ++ (l ++ codes " |")) r first (ers ∙ ap (λ ks. bar ++ after_blanks (map decimal ks)) er) in
    let third = then_written out rights all ((codes "P" ++ (l ++ codes " |")) ++ r) (with_feed t) second (ea ∙ ap (λ o. rights ++ with_feed (after_blanks (last_words o))) et) in
    third
    ∙ ap (λ m. out ++ (codes "P" ++ m)) (sym (append_assoc ((l ++ codes " |") ++ r) t (10 ∷ [])))
    ∙ ap (λ m. out ++ (codes "P" ++ (m ++ 10 ∷ []))) (append_assoc (l ++ codes " |") r t ∙ append_assoc l (codes " |") (r ++ t))
    ∙ ap (λ m. out ++ with_feed m) (sym (pair_line p))

pub string_written : (out first second third : List ℕ) (atom : Atom) (moves : List Move) (x : GuardedString) → atom ≡ x.first → moves ≡ x.rest → first ≡ out ++ with_feed string_heading → second ≡ first ++ with_feed (line_of (atom_words atom)) → third ≡ second ++ move_lines moves → third ≡ out ++ string_lines x
string_written out first second third atom moves x ea em e f g =
    three_written out first second third (with_feed string_heading) (with_feed (line_of (atom_words x.first))) (move_lines x.rest) e
    (f ∙ ap (λ a. first ++ with_feed (line_of (atom_words a))) ea)
    (g ∙ ap (λ ms. second ++ move_lines ms) em)

-- ---- the output of a list, an element after the other

-- `all` gives the output of a list, and `one` of an element
pub more_written : {X : Type 0} (all : List X → List ℕ) (one : X → List ℕ) → ((xs : List X) (x : X) → all (xs ++ x ∷ []) ≡ all xs ++ one x) → (out before after : List ℕ) (xs : List X) (i : ℕ) (d : X) → i < length xs → before ≡ out ++ all (take i xs) → after ≡ before ++ one (get_or xs i d) → after ≡ out ++ all (take (i + 1) xs)
more_written all one adds out before after xs i d within was now =
    then_written out before after (all (take i xs)) (one (get_or xs i d)) was now
    ∙ ap (λ l. out ++ l) (sym (ap all (take_more xs i d within) ∙ adds (take i xs) (get_or xs i d)))

lines_push : {X : Type 0} (line : X → List ℕ) (xs : List X) (x : X) → flat_map line (xs ++ x ∷ []) ≡ flat_map line xs ++ line x
lines_push line xs x = flat_map-append line xs (x ∷ []) ∙ ap (λ l. flat_map line xs ++ l) (append-nil (line x))

pub more_moves : (out before after : List ℕ) (ms : List Move) (i : ℕ) (d : Move) → i < length ms → before ≡ out ++ move_lines (take i ms) → after ≡ before ++ with_feed (line_of (move_words (get_or ms i d))) → after ≡ out ++ move_lines (take (i + 1) ms)
more_moves = more_written move_lines (λ m. with_feed (line_of (move_words m))) (lines_push (λ m. with_feed (line_of (move_words m))))

pub more_entries : {X : Type 0} (made : X → Entry) (out before after : List ℕ) (xs : List X) (i : ℕ) (d : X) → i < length xs → before ≡ out ++ entry_lines (map made (take i xs)) → after ≡ before ++ with_feed (line_of (entry_words (made (get_or xs i d)))) → after ≡ out ++ entry_lines (map made (take (i + 1) xs))
more_entries made =
    more_written (λ xs. entry_lines (map made xs)) (λ x. with_feed (line_of (entry_words (made x))))
    (λ xs x. ap entry_lines (map-append made xs (x ∷ [])) ∙ lines_push (λ e. with_feed (line_of (entry_words e))) (map made xs) (made x))

pub more_bits : (out before after : List ℕ) (atom : Atom) (i : ℕ) (d : Bool) → i < length atom → before ≡ out ++ atom_bits (take i atom) → after ≡ before ++ (if get_or atom i d then 49 else 48) ∷ [] → after ≡ out ++ atom_bits (take (i + 1) atom)
more_bits = more_written atom_bits (λ b. (if b then 49 else 48) ∷ []) (λ xs b. map-append (λ c. if c then 49 else 48) xs (b ∷ []))

-- the bits of an atom with tests, after a blank
pub bits_written : (out blank all : List ℕ) (atom : Atom) (i : ℕ) → (length atom == 0) ≡ false → length atom ≤ i → blank ≡ out ++ 32 ∷ [] → all ≡ blank ++ atom_bits (take i atom) → all ≡ out ++ after_blanks (bit_words atom)
bits_written out blank all [] i some whole pushed bits = cc
bits_written out blank all (b ∷ bs) i some whole pushed bits =
    then_written out blank all (32 ∷ []) (atom_bits (b ∷ bs)) pushed (bits ∙ ap (λ l. blank ++ atom_bits l) (take_all i (b ∷ bs) whole))
    ∙ ap (λ l. out ++ 32 ∷ l) (sym (append-nil (atom_bits (b ∷ bs))))
