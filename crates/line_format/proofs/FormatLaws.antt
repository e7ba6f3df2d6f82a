-- The laws of a format of numbered lines, from which the theorems on its texts follow.
use Rattle.std.proofs.Common.{◌≡◌, ℕ, List, [], ◌∷◌, ◌++◌, map, false, true, Some, codes, refl, sym, ap, ◌∙◌, subst, append_assoc, append-nil}
use Rattle.std.specs.Str.{bytes_eq}
use Rattle.line_format.specs.NumberedLines.{LineFormat, spelling, IsNarrow, AllNarrow}
use Rattle.line_format.proofs.Splits.{LacksByte}
use Rattle.line_format.proofs.LineTests.{Passes}

-- each line is read from its one spelling, which is not the line `end`; and a line that is allowed is added at the end
pub record IsLineFormat {L D V F : Type 0} (f : LineFormat L D V F) : Type 0 where
  pub read_back : (l : L) → IsNarrow f l → f.read (spelling f l) ≡ Some l
  pub read_given : (line : List ℕ) (l : L) → IsNarrow f l → f.read line ≡ Some l → line ≡ spelling f l
  pub lacks_feed : (l : L) → IsNarrow f l → LacksByte 10 (spelling f l)
  pub not_end : (l : L) → bytes_eq (spelling f l) (codes "end") ≡ false
  pub lines_grown : (d : D) (l : L) → f.is_allowed d l ≡ true → f.lines (f.with_line d l) ≡ f.lines d ++ l ∷ []

-- lines that pass one after another
abbrev pub with_lines : {L D V F : Type 0} → LineFormat L D V F → D → List L → D
with_lines f d [] = d
with_lines f d (l ∷ ls) = with_lines f (f.with_line d l) ls

abbrev pub PassAll : {L D V F : Type 0} → LineFormat L D V F → D → List L → Type 0
PassAll f d [] = Unit {0}
PassAll f d (l ∷ ls) = Passes f d l × PassAll f (f.with_line d l) ls

-- after the lines of d, these lines pass, and lead to e
pub record Reaches {L D V F : Type 0} (f : LineFormat L D V F) (d : D) (ls : List L) (e : D) : Type 0 where
  pub pass : PassAll f d ls
  pub all : with_lines f d ls ≡ e

-- `Keeps` holds at the start, where there are no lines, and after each line that passes; and all lines that keep it are
-- reached from the start
pub record GrowsFrom {L D V F : Type 0} (f : LineFormat L D V F) (start : D) (Keeps : D → Type 0) : Type 0 where
  pub begins : Keeps start
  pub empty : f.lines start ≡ []
  pub grown : (d : D) (l : L) → Keeps d → Passes f d l → Keeps (f.with_line d l)
  pub reached : (d : D) → Keeps d → AllNarrow f d → Reaches f start (f.lines d) d

-- ---- sections of lines

-- The lines of a section are made from the members of a list, and `part` has the first of them.
module _ {L D V F X : Type 0} (f : LineFormat L D V F) (made : X → L) (part : List X → D) (all : List X)
    (adds : (done : List X) (x : X) → f.with_line (part done) (made x) ≡ part (done ++ x ∷ []))
    (passes : (done : List X) (x : X) (left : List X) → all ≡ done ++ x ∷ left → Passes f (part done) (made x))
    (rest : List L) (end : D) (after : Reaches f (part all) rest end) where
  section_from : (left done : List X) → all ≡ done ++ left → Reaches f (part done) (map made left ++ rest) end
  section_from [] done e = subst (λ l. Reaches f (part l) rest end) (e ∙ append-nil done) after
  section_from (x ∷ left) done e =
      let more = section_from left (done ++ x ∷ []) (e ∙ sym (append_assoc done (x ∷ []) left)) in
      record {
        pass = (passes done x left e, subst (λ d. PassAll f d (map made left ++ rest)) (sym (adds done x)) more.pass);
        all = ap (λ d. with_lines f d (map made left ++ rest)) (adds done x) ∙ more.all;
      }

  -- if the lines after a section are reached from its end, then they are reached from its beginning
  pub section_reached : Reaches f (part []) (map made all ++ rest) end
  section_reached = section_from all [] refl

pub nothing_reached : {L D V F : Type 0} (f : LineFormat L D V F) (d : D) → Reaches f d [] d
nothing_reached f d = record { pass = tt; all = refl }
