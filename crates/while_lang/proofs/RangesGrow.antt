-- Numbers stay in range when the ranges grow, and those of a program that a name stands for are in range.
use Rattle.std.proofs.Common.{◌≡◌, ◌≤◌, ℕ, zero, suc, List, [], ◌∷◌, slice_get, Option, Some, None, sym, subst, ◌∙◌, arith}
use Rattle.std.proofs.lemmas.Option.{slice_get_past, none-some}
use Rattle.kat_model.specs.Trees.{TestTree, bottom, top, prim, complement, meet, join, Term, zero as nothing, one, test, act, sum, product, star}
use Rattle.kat_model.specs.Problems.{IsTestInRange, IsInRange}
use Rattle.text_parser.specs.declared.meaning.Meaning.{Meaning}
use Rattle.text_parser.specs.declared.meaning.Meaning.TheVariants.{Test, Action, Var, Term as TermName, Prog}
use Rattle.while_lang.specs.NamedProgs.{ProgParts}
use Rattle.while_lang.specs.Files.{prog_meant}
use Rattle.while_lang.specs.Ranges.{IsProgInRange, AreProgsInRange}

module _ (t a u b : ℕ) (tests : t ≤ u) (actions : a ≤ b) where
  pub IsTestInRange-more : (e : TestTree) → IsTestInRange t e → IsTestInRange u e
  IsTestInRange-more bottom h = tt
  IsTestInRange-more top h = tt
  IsTestInRange-more (prim k) h = omega arith
  IsTestInRange-more (complement e) h = IsTestInRange-more e h
  IsTestInRange-more (meet e f) h = (IsTestInRange-more e h.0, IsTestInRange-more f h.1)
  IsTestInRange-more (join e f) h = (IsTestInRange-more e h.0, IsTestInRange-more f h.1)

  pub IsInRange-more : (e : Term) → IsInRange t a e → IsInRange u b e
  IsInRange-more nothing h = tt
  IsInRange-more one h = tt
  IsInRange-more (test e) h = IsTestInRange-more e h
  IsInRange-more (act k) h = omega arith
  IsInRange-more (sum e f) h = (IsInRange-more e h.0, IsInRange-more f h.1)
  IsInRange-more (product e f) h = (IsInRange-more e h.0, IsInRange-more f h.1)
  IsInRange-more (star e) h = IsInRange-more e h

module _ (t a v : ℕ) where
  pub progs_at : (ps : List ProgParts) → AreProgsInRange t a v ps → (i : ℕ) (p : ProgParts) → slice_get ps i ≡ Some p → IsProgInRange t a v p.tree
  progs_at [] h i p e = let none : slice_get [] i ≡ None = slice_get_past [] i (omega arith) in absurd (none-some p (sym none ∙ e))
  progs_at (q ∷ ps) h zero p e = let same : q ≡ p = cc in subst (λ (x : ProgParts). IsProgInRange t a v x.tree) same h.0
  progs_at (q ∷ ps) h (suc i) p e = progs_at ps h.1 i p e

  -- the numbers in a program that a name stands for are below the bounds
  pub meant_in : (ps : List ProgParts) (o : Option Meaning) (d : ProgParts) → AreProgsInRange t a v ps → prog_meant ps o ≡ Some d → IsProgInRange t a v d.tree
  meant_in ps None d h e = absurd cc
  meant_in ps (Some (Test k)) d h e = absurd cc
  meant_in ps (Some (Action k)) d h e = absurd cc
  meant_in ps (Some (Var k)) d h e = absurd cc
  meant_in ps (Some (TermName k)) d h e = absurd cc
  meant_in ps (Some (Prog i)) d h e = progs_at ps h i d e
