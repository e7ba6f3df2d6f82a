-- The program that a word names is concrete, and has only the variables of its file.
use Rattle.std.proofs.Common.{◌≡◌, ℕ, List, Bool, true, false, cond, Option, None, Some, refl, subst}
use Rattle.std.proofs.lemmas.Option.{same_Some, none-some}
use Rattle.std.specs.Option.{option_map}
use Rattle.kat_model.specs.Expressions.{CondTree, always, never, named, compared, negation, both, either}
use Rattle.text_parser.specs.declared.meaning.Meaning.{Meaning}
use Rattle.text_parser.specs.ScopeParts.{meaning}
use Rattle.while_lang.specs.Programs.{ProgTree, empty, skip_then, abort_then, assert_then, act_then, assign_then, branch_then, loop_then, is_concrete}
use Rattle.while_lang.specs.NamedProgs.{ProgParts}
use Rattle.one_loop.specs.Variables.{CondHasVarsBelow, HasVarsBelow}
use Rattle.while_lang.specs.Files.{FileParts, prog_meant, prog_named}
use Rattle.while_lang.specs.Ranges.{IsCondInRange, IsProgInRange, AreProgsInRange, IsNumbered}
use Rattle.while_lang.proofs.RangesGrow.{meant_in}
use Rattle.tool_commands.specs.ProgramWords.{where_concrete, program_of}

-- ---- it is concrete

concrete_where : (o : Option ProgTree) (p : ProgTree) → where_concrete o ≡ Some p → is_concrete p ≡ true
concrete_where None p e = absurd (none-some p e)
concrete_where (Some q) p e = chosen (is_concrete q) refl e
  where
    chosen : (b : Bool) → is_concrete q ≡ b → cond b (Some q) None ≡ Some p → is_concrete p ≡ true
    chosen true is e = subst (λ r. is_concrete r ≡ true) (same_Some q p e) is
    chosen false is e = absurd (none-some p e)

pub fit_concrete : (f : FileParts) (prog : List ℕ) (p : ProgTree) → program_of f prog ≡ Some p → is_concrete p ≡ true
fit_concrete f prog p e = concrete_where (option_map (λ p. p.tree) (prog_named f.scope f.progs prog)) p e

-- ---- its variables

module _ (v : ℕ) where
  module _ (t a : ℕ) where
    cond_below : (b : CondTree) → IsCondInRange t v b → CondHasVarsBelow v b
    cond_below always h = tt
    cond_below never h = tt
    cond_below (named k) h = tt
    cond_below (compared r e f) h = h
    cond_below (negation b) h = cond_below b h
    cond_below (both b c) h = (cond_below b h.0, cond_below c h.1)
    cond_below (either b c) h = (cond_below b h.0, cond_below c h.1)

    prog_below : (p : ProgTree) → IsProgInRange t a v p → HasVarsBelow v p
    prog_below empty h = tt
    prog_below (skip_then rest) h = prog_below rest h
    prog_below (abort_then rest) h = prog_below rest h
    prog_below (assert_then b rest) h = (cond_below b h.0, prog_below rest h.1)
    prog_below (act_then a rest) h = (tt, prog_below rest h.1)
    prog_below (assign_then x e rest) h = (h.0, h.1, prog_below rest h.2)
    prog_below (branch_then b p q rest) h = (cond_below b h.0, prog_below p h.1, prog_below q h.2, prog_below rest h.3)
    prog_below (loop_then b p rest) h = (cond_below b h.0, prog_below p h.1, prog_below rest h.2)

    meant_below : (ps : List ProgParts) (o : Option Meaning) (d : ProgParts) → AreProgsInRange t a v ps → prog_meant ps o ≡ Some d → HasVarsBelow v d.tree
    meant_below ps o d h e = prog_below d.tree (meant_in t a v ps o d h e)

    where_below : (o : Option ProgParts) (p : ProgTree) → ((d : ProgParts) → o ≡ Some d → HasVarsBelow v d.tree) → where_concrete (option_map (λ d. d.tree) o) ≡ Some p → HasVarsBelow v p
    where_below None p h e = absurd (none-some p e)
    where_below (Some d) p h e = chosen (is_concrete d.tree) e
      where
        chosen : (b : Bool) → cond b (Some d.tree) None ≡ Some p → HasVarsBelow v p
        chosen true e = subst (HasVarsBelow v) (same_Some d.tree p e) (h d refl)
        chosen false e = absurd (none-some p e)

pub named_below : (f : FileParts) → IsNumbered f → (name : List ℕ) (p : ProgTree) → program_of f name ≡ Some p → HasVarsBelow f.vars p
named_below f numbered name p e =
    where_below f.vars f.tests f.actions (prog_named f.scope f.progs name) p
    (λ d is. meant_below f.vars f.tests f.actions f.progs (meaning f.scope name) d numbered.progs is)
    e
