-- The names in a printed form: each variable has its own name, and no variable has the name of the program.
use Rattle.std.proofs.Common.{◌≡◌, ◌<◌, ◌+◌, ◌⊎◌, ℕ, List, Option, Some, None, inl, inr, ⊎_elim, refl, sym, ap, ◌∙◌, subst, arith}
use Rattle.std.proofs.lemmas.Bool.{cases_lt}
use Rattle.std.proofs.lemmas.Option.{none-some, same_Some}
use Rattle.std.specs.Option.{is_some, option_map}
use Rattle.text_parser.specs.declared.meaning.Meaning.{Meaning}
use Rattle.text_parser.specs.declared.meaning.Meaning.TheVariants.{Test, Action, Var, Term, Prog}
use Rattle.text_parser.specs.ScopeParts.{ScopeParts, meaning, Means, IsDeclared, IsUnnamed, IsIdentifier, IsWellFormed, IsNameOf, declared}
use Rattle.text_parser.proofs.Inverse.{insert_extends}
use Rattle.text_print.proofs.NameOf.{name_is}
use Rattle.while_lang.specs.Programs.{ProgTree}
use Rattle.while_lang.specs.NamedProgs.{ProgParts}
use Rattle.while_lang.specs.Files.{FileParts, prog_meant, prog_named}
use Rattle.while_lang.specs.Ranges.{IsNumbered}
use Rattle.problem_file.proofs.Numbering.{new_or_old, same_var}
use Rattle.problem_file.specs.ProgramTexts.{AreVarNames}
use Rattle.tool_commands.specs.ProgramWords.{where_concrete, program_of}
use Rattle.tool_programs.specs.OneLoop.{IsCounterName, names_with}
use Rattle.tool_programs.specs.Working.Counters.{counter_identifier}

-- a name of a program means the program, so it does not mean a variable
module _ (ps : List ProgParts) where
  prog_is_meant : (o : Option Meaning) (d : ProgParts) → prog_meant ps o ≡ Some d → (i : ℕ) × (o ≡ Some (Prog i))
  prog_is_meant None d e = absurd (none-some d e)
  prog_is_meant (Some (Test k)) d e = absurd (none-some d e)
  prog_is_meant (Some (Action k)) d e = absurd (none-some d e)
  prog_is_meant (Some (Var k)) d e = absurd (none-some d e)
  prog_is_meant (Some (Term k)) d e = absurd (none-some d e)
  prog_is_meant (Some (Prog i)) d e = (i, refl)

some_from : (o : Option ProgParts) (p : ProgTree) → where_concrete (option_map (λ d. d.tree) o) ≡ Some p → (d : ProgParts) × (o ≡ Some d)
some_from None p e = absurd (none-some p e)
some_from (Some d) p e = (d, refl)

named_prog : (f : FileParts) (name : List ℕ) (p : ProgTree) → program_of f name ≡ Some p → (i : ℕ) × Means f.scope name (Prog i)
named_prog f name p e =
    let d = some_from (prog_named f.scope f.progs name) p e in
    prog_is_meant f.progs (meaning f.scope name) d.0 d.1

module _ (f : FileParts) (numbered : IsNumbered f) (unnamed : IsUnnamed f.scope (Var f.vars)) (well : IsWellFormed f.scope) (counter : List ℕ) (is : IsCounterName f.scope counter) where
  abbrev with_counter : ScopeParts
  with_counter = declared f.scope counter (Var f.vars)

  -- a name of the file keeps its meaning
  still : (name : List ℕ) (m : Meaning) → Means f.scope name m → Means with_counter name m
  still name m e =
      ⊎_elim
      (λ (p : name ≡ counter). absurd (none-some m (sym is.is_new ∙ ap (meaning f.scope) (sym p) ∙ e)))
      (λ (q : meaning with_counter name ≡ meaning f.scope name). q ∙ e)
      ((insert_extends (f.scope).meanings counter (Var f.vars)).others name)

  counter_named : IsNameOf with_counter counter (Var f.vars)
  counter_named = record {
    means = (insert_extends (f.scope).meanings counter (Var f.vars)).here;
    identifier = counter_identifier f.scope counter is;
    only = λ other e. ⊎_elim
        (λ (p : other ≡ counter). p)
        (λ (q : meaning with_counter other ≡ meaning f.scope other). absurd (unnamed other (sym q ∙ e)))
        ((insert_extends (f.scope).meanings counter (Var f.vars)).others other);
  }

  old_named : (k : ℕ) → k < f.vars → (name : List ℕ) × IsNameOf with_counter name (Var k)
  old_named k below =
      let old = numbered.named_vars k below in (
        old.0,
        record {
          means = still old.0 (Var k) old.1;
          identifier = well.identifiers old.0 (Var k) old.1;
          only = λ other e. ⊎_elim
              (λ (p : Var f.vars ≡ Var k). absurd (let same : f.vars ≡ k = same_var f.vars k p in omega (arith, same, below)))
              (λ (q : Means f.scope other (Var k)). well.one_name old.0 other (Var k) old.1 q)
              (new_or_old f.scope counter (Var f.vars) other (Var k) e);
        },
      )

  some_named : (k : ℕ) → k < f.vars + 1 → (name : List ℕ) × IsNameOf with_counter name (Var k)
  some_named k below =
      elim (cases_lt k f.vars) [
        | inl less ↦ old_named k less
        | inr last ↦ let same : f.vars ≡ k = omega (arith, last, below) in (counter, subst (λ (j : ℕ). IsNameOf with_counter counter (Var j)) same counter_named)
      ]

  -- the printed name means the variable
  var_named : (k : ℕ) → k < f.vars + 1 → IsNameOf with_counter (names_with f counter (Var k)) (Var k)
  var_named k below =
      let some = some_named k below in
      subst (λ (name : List ℕ). IsNameOf with_counter name (Var k)) (name_is with_counter (Var k) some.0 some.1) some.1

  pub names_are : AreVarNames (names_with f counter) (f.vars + 1)
  names_are = record {
    identifiers = λ k below. (var_named k below).identifier;
    apart = λ j k lj lk e.
        same_var j k
        (same_Some (Var j) (Var k)
        (sym (var_named j lj).means ∙ ap (meaning with_counter) e ∙ (var_named k lk).means));
  }

  -- the printed name of a variable is the counter or a name of the file
  pub counter_or_declared : (k : ℕ) → k < f.vars + 1 → (names_with f counter (Var k) ≡ counter) ⊎ IsDeclared f.scope (names_with f counter (Var k))
  counter_or_declared k below =
      let name = names_with f counter (Var k) in
      ⊎_elim
      (λ (p : name ≡ counter). inl p)
      (λ (q : meaning with_counter name ≡ meaning f.scope name). inr (ap is_some (sym q ∙ (var_named k below).means)))
      ((insert_extends (f.scope).meanings counter (Var f.vars)).others name)

  module _ (name : List ℕ) (p : ProgTree) (named : program_of f name ≡ Some p) where
    pub name_identifier : IsIdentifier name
    name_identifier = let i = named_prog f name p named in well.identifiers name (Prog i.0) i.1

    pub name_no_var : (k : ℕ) → k < f.vars + 1 → names_with f counter (Var k) ≡ name → ⊥
    name_no_var k below e =
        let i = named_prog f name p named in
        let both : Var k ≡ Prog i.0 = same_Some (Var k) (Prog i.0) (sym (var_named k below).means ∙ ap (meaning with_counter) e ∙ still name (Prog i.0) i.1) in
        absurd cc

    pub name_declared : IsDeclared f.scope name
    name_declared = let i = named_prog f name p named in ap is_some i.1
