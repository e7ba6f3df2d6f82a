-- What is read from lines is spelled by these lines.
use Rattle.std.proofs.Common.{◌≡◌, ℕ, ◌+◌, ⊎_elim, List, [], ◌∷◌, ◌++◌, map, Bool, true, false, cond, Option, Some, None, Ok, Err, refl, sym, ap, ◌∙◌, subst, codes, append_assoc, append-nil, unwrap_or}
use mathlib.Core.Path.{ap₂}
use Rattle.std.specs.Option.{option_map}
use Rattle.std.specs.Str.{bytes_eq}
use Rattle.kat_model.specs.Members.{Has}
use Rattle.kat_model.proofs.Lists.{has_pushed}
use Rattle.line_format.specs.NumberedLines.{LineFormat, spelling, IsNarrow, AllNarrow, fault_of, ended, after_line, lines_from}
use Rattle.line_format.proofs.TextParts.{with_last}
use Rattle.line_format.proofs.Words.{are_narrow}
use Rattle.line_format.proofs.LineSteps.{named, ended_given}
use Rattle.line_format.proofs.LineTests.{Passes, faultless_passes}
use Rattle.line_format.proofs.FormatLaws.{IsLineFormat, GrowsFrom}

-- the last two parts of a text
abbrev pub ending : List (List ℕ)
ending = codes "end" ∷ [] ∷ []

-- `v` is the result of reading `parts` after the lines of d: it has the lines of `whole`
pub record LinesGiven {L D V F : Type 0} (f : LineFormat L D V F) (Keeps : D → Type 0) (d : D) (parts : List (List ℕ)) (v : V) : Type 0 where
  pub whole : D
  pub is : f.value whole ≡ v
  pub keeps : Keeps whole
  pub narrow : AllNarrow f whole
  pub more : List L
  pub all : f.lines whole ≡ f.lines d ++ more
  pub lines : parts ≡ map (spelling f) more ++ ending

-- the same for all lines of a text after the first
pub record BodyGiven {L D V F : Type 0} (f : LineFormat L D V F) (Keeps : D → Type 0) (parts : List (List ℕ)) (v : V) : Type 0 where
  pub whole : D
  pub is : f.value whole ≡ v
  pub keeps : Keeps whole
  pub narrow : AllNarrow f whole
  pub lines : parts ≡ with_last (map (spelling f) (f.lines whole) ++ codes "end" ∷ [])

module _ {L D V F : Type 0} (f : LineFormat L D V F) (laws : IsLineFormat f) (start : D) (Keeps : D → Type 0) (grows : GrowsFrom f start Keeps) where
  module _ (d : D) (n : ℕ) (v : V) (line : List ℕ) (rest : List (List ℕ)) (keeps : Keeps d) (narrow : AllNarrow f d)
      (more : (e : D) → lines_from f e (n + 1) rest ≡ Ok v → Keeps e → AllNarrow f e → LinesGiven f Keeps e rest v) where
    line_added : (l : L) → f.read line ≡ Some l → Passes f d l → lines_from f (f.with_line d l) (n + 1) rest ≡ Ok v → LinesGiven f Keeps d (line ∷ rest) v
    line_added l read passes h =
        let small : IsNarrow f l = are_narrow (f.numbers l) passes.narrow in
        let grown = laws.lines_grown d l passes.allowed in
        let all : AllNarrow f (f.with_line d l) = λ g k. ⊎_elim (narrow g) (λ p. subst (IsNarrow f) p small) (has_pushed (f.lines d) l g (subst (λ ls. Has ls g) grown k)) in
        let given = more (f.with_line d l) h (grows.grown d l keeps passes) all in
        record {
          whole = given.whole;
          is = given.is;
          keeps = given.keeps;
          narrow = given.narrow;
          more = l ∷ given.more;
          all = given.all ∙ ap (λ ls. ls ++ given.more) grown ∙ append_assoc (f.lines d) (l ∷ []) given.more;
          lines = ap₂ (λ m ls. m ∷ ls) (laws.read_given line l small read) given.lines;
        }

    line_or_fault : (l : L) → f.read line ≡ Some l → (o : Option F) → fault_of f d n l ≡ o → unwrap_or (option_map Err o) (lines_from f (f.with_line d l) (n + 1) rest) ≡ Ok v → LinesGiven f Keeps d (line ∷ rest) v
    line_or_fault l read None right h = line_added l read (faultless_passes f d n l right) h
    line_or_fault l read (Some fault) wrong h = cc

    line_or_none : (o : Option L) → f.read line ≡ o → after_line f d n o (λ e. lines_from f e (n + 1) rest) ≡ Ok v → LinesGiven f Keeps d (line ∷ rest) v
    line_or_none None read h = cc
    line_or_none (Some l) read h = line_or_fault l read (fault_of f d n l) refl h

    end_or_line : (b : Bool) → bytes_eq line (codes "end") ≡ b → cond b (ended f.faults (f.value d) (n + 1) rest) (after_line f d n (f.read line) (λ e. lines_from f e (n + 1) rest)) ≡ Ok v → LinesGiven f Keeps d (line ∷ rest) v
    end_or_line true is h =
        let end = ended_given f.faults (f.value d) v (n + 1) rest h in
        record {
          whole = d;
          is = end.0;
          keeps = keeps;
          narrow = narrow;
          more = [];
          all = sym (append-nil (f.lines d));
          lines = ap₂ (λ l ls. l ∷ ls) (named line (codes "end") is) end.1;
        }
    end_or_line false is h = line_or_none (f.read line) refl h

  lines_given : (parts : List (List ℕ)) (d : D) (n : ℕ) (v : V) → lines_from f d n parts ≡ Ok v → Keeps d → AllNarrow f d → LinesGiven f Keeps d parts v
  lines_given [] d n v h keeps narrow = cc
  lines_given (line ∷ []) d n v h keeps narrow = cc
  lines_given (line ∷ part ∷ parts) d n v h keeps narrow =
      end_or_line d n v line (part ∷ parts) keeps narrow (λ e. lines_given (part ∷ parts) e (n + 1) v) (bytes_eq line (codes "end")) refl h

  regroup : (xs : List (List ℕ)) → xs ++ ending ≡ with_last (xs ++ codes "end" ∷ [])
  regroup xs = sym (append_assoc xs (codes "end" ∷ []) ([] ∷ []))

  pub body_given : (parts : List (List ℕ)) (n : ℕ) (v : V) → lines_from f start n parts ≡ Ok v → BodyGiven f Keeps parts v
  body_given parts n v h =
      let given = lines_given parts start n v h grows.begins (λ l m. absurd (subst (λ ls. Has ls l) grows.empty m)) in
      let all : given.more ≡ f.lines given.whole = sym (given.all ∙ ap (λ ls. ls ++ given.more) grows.empty) in
      record {
        whole = given.whole;
        is = given.is;
        keeps = given.keeps;
        narrow = given.narrow;
        lines = given.lines ∙ ap (λ ls. map (spelling f) ls ++ ending) all ∙ regroup (map (spelling f) (f.lines given.whole));
      }
