-- The name of the first program of a file that has a tree.
use Rattle.std.proofs.Common.{◌≡◌, ◌+◌, ◌<◌, ◌≤◌, ℕ, List, length, get_or, map, slice_get, Option, Some, refl, sym, ap, ◌∙◌, ⊎_elim, below_more, arith}
use Rattle.std.specs.Option.{option_map}
use Rattle.std.proofs.lemmas.Bool.{cases_lt}
use Rattle.std.proofs.lemmas.List.{length-map}
use Rattle.std.proofs.lemmas.Option.{same_Some, none-some, slice_get_read, slice_get_past, slice_get-map}
use Rattle.while_lang.specs.Programs.{ProgTree}
use Rattle.while_lang.specs.NamedProgs.{ProgParts, prog_parts, parts_of_progs}
use Rattle.while_lang.specs.declared.named.NamedProg.{NamedProg}
use Rattle.while_lang.specs.Trees.{names_of_progs}
use Rattle.while_lang.specs.Files.{FileParts}
use Rattle.tool_explain.specs.Differences.{IsListed, IsNameOfProg}

module _ (ns : List NamedProg) where
  abbrev pub tree_at : ℕ → Option ProgTree
  tree_at i = slice_get (map (λ (n : ProgParts). n.tree) (parts_of_progs ns)) i

  module _ (i : ℕ) (n : NamedProg) (lt : i < length ns) (is : n ≡ get_or ns i n) where
    here : slice_get ns i ≡ Some n
    here = slice_get_read ns (length ns) i n refl lt is

    pub tree_here : tree_at i ≡ Some n.prog
    tree_here = slice_get-map (λ (m : ProgParts). m.tree) (parts_of_progs ns) i ∙ ap (option_map (λ (m : ProgParts). m.tree)) (slice_get-map prog_parts ns i ∙ ap (option_map prog_parts) here)

    pub name_here : slice_get (names_of_progs ns) i ≡ Some n.name
    name_here = slice_get-map (λ (m : NamedProg). m.name) ns i ∙ ap (option_map (λ (m : NamedProg). m.name)) here

    -- a further program that is not this one
    pub none_more : (p : ProgTree) → ((j : ℕ) → j < i → tree_at j ≡ Some p → ⊥) → (n.prog ≡ p → ⊥) → (j : ℕ) → j < i + 1 → tree_at j ≡ Some p → ⊥
    none_more p before other = below_more (λ j. tree_at j ≡ Some p → ⊥) i before (λ e. other (same_Some n.prog p (sym tree_here ∙ e)))

  -- no further program
  pub none_listed : (p : ProgTree) (i : ℕ) → length ns ≤ i → ((j : ℕ) → j < i → tree_at j ≡ Some p → ⊥) → (j : ℕ) → tree_at j ≡ Some p → ⊥
  none_listed p i past before j e = ⊎_elim (λ lt. before j lt e) (λ le. after (omega (arith, le))) (cases_lt j i)
    where
      after : i ≤ j → ⊥
      after le = none-some p (sym (slice_get_past (map (λ (n : ProgParts). n.tree) (parts_of_progs ns)) j (omega (arith, le, past, length-map (parts_of_progs ns) (λ (n : ProgParts). n.tree), length-map ns prog_parts))) ∙ e)

-- the file's name of a program, found in the list of its programs; `items` are those of the list
module _ (f : FileParts) (ns items : List NamedProg) (p : ProgTree) (progs : parts_of_progs ns ≡ f.progs) (names : names_of_progs ns ≡ f.prog_names) (same : items ≡ ns) where
  listed_here : (i : ℕ) → slice_get (map (λ (n : ProgParts). n.tree) f.progs) i ≡ tree_at items i
  listed_here i = ap (λ (ps : List ProgParts). slice_get (map (λ (n : ProgParts). n.tree) ps) i) (sym (ap parts_of_progs same ∙ progs))

  named_here : (i : ℕ) → slice_get f.prog_names i ≡ slice_get (names_of_progs items) i
  named_here i = ap (λ (ls : List (List ℕ)). slice_get ls i) (sym (ap names_of_progs same ∙ names))

  pub first_named : (i : ℕ) (n : NamedProg) (name : List ℕ) → i < length items → n ≡ get_or items i n → ((j : ℕ) → j < i → tree_at items j ≡ Some p → ⊥) → n.prog ≡ p → name ≡ n.name → IsNameOfProg f p name
  first_named i n name lt is before is_prog is_name = record {
    position = i;
    listed = listed_here i ∙ tree_here items i n lt is ∙ ap Some is_prog;
    first = λ j below e. before j below (sym (listed_here j) ∙ e);
    named = named_here i ∙ name_here items i n lt is ∙ ap Some (sym is_name);
  }

  pub not_listed : (k : ℕ) → length items ≤ k → ((j : ℕ) → j < k → tree_at items j ≡ Some p → ⊥) → (i : ℕ) → IsListed f p i → ⊥
  not_listed k past before i e = none_listed items p k past before i (sym (listed_here i) ∙ e)
