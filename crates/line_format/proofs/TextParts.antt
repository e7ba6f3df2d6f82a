-- The parts of a text are its lines, followed by an empty part.
use Rattle.std.proofs.Common.{◌≡◌, ℕ, List, [], ◌∷◌, ◌++◌, refl, sym, ap, ◌∙◌, append_assoc, append-nil}
use Rattle.std.specs.List.{join_with_byte}
use Rattle.std.proofs.lemmas.List.Splits.{join_with_byte-slice_split}
use Rattle.line_format.specs.Lines.{parts_of, text_of_lines}
use Rattle.line_format.proofs.Splits.{LacksByte, split_at}

abbrev pub LackFeeds : List (List ℕ) → Type 0
LackFeeds [] = Unit {0}
LackFeeds (l ∷ ls) = LacksByte 10 l × LackFeeds ls

-- the parts with an empty part at the end
abbrev pub with_last : List (List ℕ) → List (List ℕ)
with_last ls = ls ++ [] ∷ []

pub text-cons : (l : List ℕ) (ls : List (List ℕ)) → text_of_lines (l ∷ ls) ≡ l ++ 10 ∷ text_of_lines ls
text-cons l ls = append_assoc l (10 ∷ []) (text_of_lines ls)

-- the parts of lines followed by a rest
pub parts_after : (ls : List (List ℕ)) (rest : List ℕ) → LackFeeds ls → parts_of (text_of_lines ls ++ rest) ≡ ls ++ parts_of rest
parts_after [] rest lacks = refl
parts_after (l ∷ ls) rest lacks =
    ap (λ t. parts_of (t ++ rest)) (text-cons l ls)
    ∙ ap parts_of (append_assoc l (10 ∷ text_of_lines ls) rest)
    ∙ split_at 10 l (text_of_lines ls ++ rest) lacks.0
    ∙ ap (λ ps. l ∷ ps) (parts_after ls rest lacks.1)

joined : (ls : List (List ℕ)) → join_with_byte 10 (with_last ls) ≡ text_of_lines ls
joined [] = refl
joined (l ∷ []) = sym (append-nil (l ++ 10 ∷ []))
joined (l ∷ m ∷ ls) = ap (λ t. l ++ 10 ∷ t) (joined (m ∷ ls)) ∙ sym (text-cons l (m ∷ ls))

pub text_back : (bytes : List ℕ) (ls : List (List ℕ)) → parts_of bytes ≡ with_last ls → bytes ≡ text_of_lines ls
text_back bytes ls e = sym (join_with_byte-slice_split 10 bytes) ∙ ap (join_with_byte 10) e ∙ joined ls
