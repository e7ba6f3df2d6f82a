-- Scanning the lines that a format spells continues after them.
use Rattle.std.proofs.Common.{◌≡◌, ℕ, ◌+◌, inl, inr, List, [], ◌∷◌, ◌++◌, map, length, refl, ap, ◌∙◌, arith}
use Rattle.kat_model.specs.Members.{Has}
use Rattle.line_format.specs.NumberedLines.{LineFormat, spelling, IsNarrow, AllNarrow, lines_from}
use Rattle.line_format.proofs.TextParts.{LackFeeds}
use Rattle.line_format.proofs.Words.{are_narrow}
use Rattle.line_format.proofs.LineSteps.{complete}
use Rattle.line_format.proofs.LineTests.{passes_faultless}
use Rattle.line_format.proofs.FormatLaws.{IsLineFormat, with_lines, PassAll, GrowsFrom}

module _ {L D V F : Type 0} (f : LineFormat L D V F) (laws : IsLineFormat f) where
  -- scanning lines that pass adds them and continues at the next part
  pub passing_scanned : (ls : List L) (d : D) (n i : ℕ) (part : List ℕ) (parts : List (List ℕ)) → PassAll f d ls → i ≡ n + length ls → lines_from f d n (map (spelling f) ls ++ part ∷ parts) ≡ lines_from f (with_lines f d ls) i (part ∷ parts)
  passing_scanned [] d n i part parts pass e = let same : n ≡ i = omega (arith, e) in ap (λ k. lines_from f d k (part ∷ parts)) same
  passing_scanned (l ∷ ls) d n i part parts pass place =
      complete f.faults (map (spelling f) ls) part parts _
      ∙ rw (laws.not_end l, laws.read_back l (are_narrow (f.numbers l) pass.0.narrow), passes_faultless f d n l pass.0) (passing_scanned ls (f.with_line d l) (n + 1) i part parts pass.1 (omega (arith, place)))

  pub lines_lack : (ls : List L) → ((l : L) → Has ls l → IsNarrow f l) → LackFeeds (map (spelling f) ls)
  lines_lack [] each = tt
  lines_lack (l ∷ ls) each = (laws.lacks_feed l (each l (inl refl)), lines_lack ls (λ m h. each m (inr h)))

  pub lines_scanned : (start : D) (Keeps : D → Type 0) → GrowsFrom f start Keeps → (d : D) → Keeps d → AllNarrow f d → (n i : ℕ) (part : List ℕ) (parts : List (List ℕ)) → i ≡ n + length (f.lines d) → lines_from f start n (map (spelling f) (f.lines d) ++ part ∷ parts) ≡ lines_from f d i (part ∷ parts)
  lines_scanned start Keeps grows d keeps narrow n i part parts place =
      let reached = grows.reached d keeps narrow in
      passing_scanned (f.lines d) start n i part parts reached.pass place ∙ ap (λ e. lines_from f e i (part ∷ parts)) reached.all
