-- Tests, changes and moves are written one by one.
use Rattle.std.proofs.Common.{◌≡◌, ◌<◌, ◌≤◌, ◌+◌, ℕ, suc, List, [], ◌∷◌, ◌++◌, length, min, get_or, drop, Bool, true, false, ◌&&◌, refl, sym, ap, ◌∙◌, append_assoc, ⊎_elim, add-one, drop-cons, arith}
use Rattle.std.proofs.lemmas.Bool.{cases_lt}
use Rattle.std.proofs.lemmas.List.{append-nil, nil_from_length, drop_more, drop_all}
use Rattle.kat_model.specs.Steps.{Atom}
use Rattle.kat_model.specs.Strings.{Move}
use Rattle.text_parser.specs.declared.meaning.Meaning.{Meaning}
use Rattle.abstraction.specs.Abstracts.{AbstractParts}
use Rattle.abstraction.specs.declared.rows.TestRow.{TestRow}
use Rattle.tool_explain.specs.Signed.{is_same, literal_text}
use Rattle.tool_explain.specs.Differences.{comma_text, literals_text, change_text, changes_text, state_line, action_line, moves_text}

module _ (m : ℕ) (names : Meaning → List ℕ) where
  -- ---- the tests of the first state

  pub literal_written : (first : Bool) (row : TestRow) (all rows : List TestRow) (b : Bool) (atom bs : Atom) (start old comma written : List ℕ)
      → all ≡ row ∷ rows → atom ≡ b ∷ bs → comma ≡ old ++ comma_text first → written ≡ comma ++ literal_text m names b row
      → old ++ literals_text m names first all atom ≡ start
      → written ++ literals_text m names false rows bs ≡ start
  literal_written first row all rows b atom bs start old comma written is_row is_value with_comma with_literal so_far =
      let before : List ℕ = comma_text first in
      let literal : List ℕ = literal_text m names b row in
      let rest : List ℕ = literals_text m names false rows bs in
      rw (with_literal, with_comma)
      (append_assoc (old ++ before) literal rest ∙ append_assoc old before (literal ++ rest) ∙ ap (λ (l : List ℕ). old ++ l) (sym (append_assoc before literal rest)) ∙ (rw (is_row, is_value) at so_far))

  literals-nothing : (first : Bool) (all : List TestRow) → literals_text m names first all [] ≡ []
  literals-nothing first [] = refl
  literals-nothing first (row ∷ rows) = refl

  -- all tests are written when no row is left, or no value
  pub no_row_left : (first : Bool) (all : List TestRow) (atom : Atom) (start out : List ℕ) → length all ≡ 0 → out ++ literals_text m names first all atom ≡ start → out ≡ start
  no_row_left first all atom start out none so_far =
      sym (append-nil out) ∙ ap (λ (rows : List TestRow). out ++ literals_text m names first rows atom) (sym (nil_from_length all none)) ∙ so_far

  pub no_value_left : (first : Bool) (all : List TestRow) (atom : Atom) (start out : List ℕ) → length atom ≡ 0 → out ++ literals_text m names first all atom ≡ start → out ≡ start
  no_value_left first all atom start out none so_far =
      sym (append-nil out) ∙ ap (λ (l : List ℕ). out ++ l) (sym (literals-nothing first all)) ∙ ap (λ (bs : Atom). out ++ literals_text m names first all bs) (sym (nil_from_length atom none)) ∙ so_far

  -- ---- the changes of a later state

  pub change_written : (first : Bool) (rows : List TestRow) (olds news : Atom) (k : ℕ) (row : TestRow) (start old written : List ℕ)
      → k < length rows → k < length olds → k < length news → row ≡ get_or rows k row
      → written ≡ old ++ change_text m names first (get_or olds k false) (get_or news k false) row
      → old ++ changes_text m names first (drop k rows) (drop k olds) (drop k news) ≡ start
      → written ++ changes_text m names (first && is_same (get_or olds k false) (get_or news k false)) (drop (k + 1) rows) (drop (k + 1) olds) (drop (k + 1) news) ≡ start
  change_written first rows olds news k row start old written in_rows in_olds in_news is with_change so_far =
      let a : Bool = get_or olds k false in
      let b : Bool = get_or news k false in
      let next_row : drop k rows ≡ row ∷ drop (k + 1) rows = drop_more rows k row in_rows ∙ ap (λ (r : TestRow). r ∷ drop (k + 1) rows) (sym is) in
      let next_old : drop k olds ≡ a ∷ drop (k + 1) olds = drop_more olds k false in_olds in
      let next_new : drop k news ≡ b ∷ drop (k + 1) news = drop_more news k false in_news in
      rw with_change
      (append_assoc old (change_text m names first a b row) (changes_text m names (first && is_same a b) (drop (k + 1) rows) (drop (k + 1) olds) (drop (k + 1) news))
      ∙ (rw (next_row, next_old, next_new) at so_far))

  changes-no_olds : (first : Bool) (rows : List TestRow) (news : Atom) → changes_text m names first rows [] news ≡ []
  changes-no_olds first [] news = refl
  changes-no_olds first (row ∷ rows) news = refl

  changes-no_news : (first : Bool) (rows : List TestRow) (olds : Atom) → changes_text m names first rows olds [] ≡ []
  changes-no_news first [] olds = refl
  changes-no_news first (row ∷ rows) [] = refl
  changes-no_news first (row ∷ rows) (a ∷ olds) = refl

  nothing_left : (first : Bool) (rows : List TestRow) (olds news : Atom) (k : ℕ) → min (min (length rows) (length olds)) (length news) ≤ k → changes_text m names first (drop k rows) (drop k olds) (drop k news) ≡ []
  nothing_left first rows olds news k past =
      ⊎_elim
      (λ in_rows. ⊎_elim
      (λ in_olds. ap (λ (bs : Atom). changes_text m names first (drop k rows) (drop k olds) bs) (drop_all k news (omega (arith, past, in_rows, in_olds))) ∙ changes-no_news first (drop k rows) (drop k olds))
      (λ no_olds. ap (λ (bs : Atom). changes_text m names first (drop k rows) bs (drop k news)) (drop_all k olds no_olds) ∙ changes-no_olds first (drop k rows) (drop k news))
      (cases_lt k (length olds)))
      (λ no_rows. ap (λ (rs : List TestRow). changes_text m names first rs (drop k olds) (drop k news)) (drop_all k rows no_rows))
      (cases_lt k (length rows))

  -- all changes are written
  pub no_change_left : (first : Bool) (rows : List TestRow) (olds news : Atom) (k : ℕ) (start out : List ℕ) → min (min (length rows) (length olds)) (length news) ≤ k
      → out ++ changes_text m names first (drop k rows) (drop k olds) (drop k news) ≡ start → out ≡ start
  no_change_left first rows olds news k start out past so_far =
      sym (append-nil out) ∙ ap (λ (l : List ℕ). out ++ l) (sym (nothing_left first rows olds news k past)) ∙ so_far

  -- ---- the moves

  pub move_written : (a : AbstractParts) (k : ℕ) (atom : Atom) (v : Move) (ms : List Move) (start old written : List ℕ)
      → k < length ms → v ≡ get_or ms k v
      → written ≡ old ++ (action_line m names a.actions v.act ++ state_line (k + 1) (changes_text m names true a.tests atom v.atom))
      → old ++ moves_text m names a k atom (drop k ms) ≡ start
      → written ++ moves_text m names a (k + 1) v.atom (drop (k + 1) ms) ≡ start
  move_written a k atom v ms start old written in_moves is with_move so_far =
      let cons : drop k ms ≡ v ∷ drop (suc k) ms = drop-cons ms k v in_moves ∙ ap (λ (u : Move). u ∷ drop (suc k) ms) (sym is) in
      rw (with_move, add-one)
      (append_assoc old (action_line m names a.actions v.act ++ state_line (suc k) (changes_text m names true a.tests atom v.atom)) (moves_text m names a (suc k) v.atom (drop (suc k) ms))
      ∙ (rw cons at so_far))

  pub no_move_left : (a : AbstractParts) (k : ℕ) (atom : Atom) (ms : List Move) (start out : List ℕ) → length ms ≤ k → out ++ moves_text m names a k atom (drop k ms) ≡ start → out ≡ start
  no_move_left a k atom ms start out past so_far =
      sym (append-nil out) ∙ ap (λ (vs : List Move). out ++ moves_text m names a k atom vs) (sym (drop_all k ms past)) ∙ so_far
