-- Loops that write the members of a list, each with its number: the text so far, with the text of another member.
use Rattle.std.proofs.Common.{◌≡◌, ◌<◌, ◌≤◌, ◌+◌, ℕ, suc, Bool, List, [], ◌∷◌, ◌++◌, length, get_or, drop, codes, refl, sym, ap, ◌∙◌, append_assoc, add-one}
use Rattle.std.specs.Fmt.{decimal}
use Rattle.std.proofs.lemmas.List.{append-nil, drop_more, drop_all}
use Rattle.kat_model.specs.Strings.{Move}
use Rattle.text_parser.specs.declared.meaning.Meaning.TheVariants.{Var}
use Rattle.text_parser.specs.ScopeParts.{ScopeParts}
use Rattle.text_print.specs.Printing.{name_of}
use Rattle.kat_report.specs.Replays.{literal_text, literals_text, position_line, move_line, moves_text}

module _ {X : Type 0} (one : ℕ → X → List ℕ) (text : ℕ → List X → List ℕ) where
  pub member_written : ((n : ℕ) (x : X) (xs : List X) → text n (x ∷ xs) ≡ one n x ++ text (n + 1) xs)
      → (xs : List X) (i : ℕ) (x d : X) (start out written : List ℕ) → i < length xs → x ≡ get_or xs i d → written ≡ out ++ one i x
      → out ++ text i (drop i xs) ≡ start → written ++ text (i + 1) (drop (i + 1) xs) ≡ start
  member_written each xs i x d start out written within is with_member so_far =
      let rest : List ℕ = text (i + 1) (drop (i + 1) xs) in
      ap (λ (l : List ℕ). l ++ rest) with_member
      ∙ append_assoc out (one i x) rest
      ∙ ap (λ (l : List ℕ). out ++ l) (sym (each i x (drop (i + 1) xs)))
      ∙ ap (λ (y : X). out ++ text i (y ∷ drop (i + 1) xs)) is
      ∙ ap (λ (l : List X). out ++ text i l) (sym (drop_more xs i d within))
      ∙ so_far

  pub members_written : ((n : ℕ) → text n [] ≡ []) → (xs : List X) (i : ℕ) (start out : List ℕ) → length xs ≤ i → out ++ text i (drop i xs) ≡ start → out ≡ start
  members_written none xs i start out past so_far =
      sym (append-nil out)
      ∙ ap (λ (l : List ℕ). out ++ l) (sym (none i))
      ∙ ap (λ (l : List X). out ++ text i l) (sym (drop_all i xs past))
      ∙ so_far

-- the text of a member, and of the members after it

pub literals-cons : (n : ℕ) (b : Bool) (bs : List Bool) → literals_text n (b ∷ bs) ≡ literal_text n b ++ literals_text (n + 1) bs
literals-cons n b bs = rw add-one refl

pub moves-cons : (n : ℕ) (m : Move) (ms : List Move) → moves_text (suc n) (m ∷ ms) ≡ (move_line m.act ++ position_line (n + 1) m.atom) ++ moves_text (suc (n + 1)) ms
moves-cons n m ms = rw add-one refl

abbrev pub value_text : ScopeParts → ℕ → ℕ → List ℕ
value_text w n v = codes " " ++ name_of w (Var n) ++ codes "=" ++ decimal v
