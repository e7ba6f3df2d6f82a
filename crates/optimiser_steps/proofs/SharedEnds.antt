-- The last statement that two programs share.
use Rattle.std.proofs.Common.{◌≡◌, List, [], ◌∷◌, ◌++◌, length, map, refl, sym, ap, ◌∙◌, arith}
use Rattle.std.proofs.lemmas.List.{map-append}
use Rattle.kat_model.specs.Expressions.{CondTree}
use Rattle.while_lang.specs.Programs.{ProgTree, StmtTree, branch, prog_of, stmts_of}
use Rattle.while_lang.specs.ProgramViews.{stmt_tree, list_tree}
use Rattle.while_lang.specs.declared.prog.Stmt.{Stmt}
use Rattle.optimiser_steps.proofs.OneFirstStep.{last_same}
use Rattle.while_lang.proofs.BlockMeasures.{prog_of-stmts_of}
use Rattle.optimiser_steps.specs.Working.Found.{EndAlike}
use Rattle.optimiser_steps.proofs.ListedPrograms.{listed}

nothing_before : (ss : List StmtTree) (r : StmtTree) → [] ≡ ss ++ r ∷ [] → ⊥
nothing_before [] r e = cc
nothing_before (s ∷ ss) r e = cc

-- an empty program has no last statement
pub no_end : (items : List Stmt) (p : ProgTree) (ps : List StmtTree) (r : StmtTree) → list_tree items ≡ p → length items ≡ 0 → stmts_of p ≡ ps ++ r ∷ [] → ⊥
no_end [] p ps r view none e = nothing_before ps r (sym (listed [] p view) ∙ e)
no_end (s ∷ items) p ps r view none e = absurd (omega arith)

-- a program ends with its last statement
pub ends_with : (items front : List Stmt) (last : Stmt) (p : ProgTree) → list_tree items ≡ p → items ≡ front ++ last ∷ [] → stmts_of p ≡ map stmt_tree front ++ stmt_tree last ∷ []
ends_with items front last p view is = listed items p view ∙ ap (map stmt_tree) is ∙ map-append stmt_tree front (last ∷ [])

module _ (xs ys front other_front : List Stmt) (last other : Stmt) (p q : ProgTree) (first : list_tree xs ≡ p) (second : list_tree ys ≡ q) (xs_is : xs ≡ front ++ last ∷ []) (ys_is : ys ≡ other_front ++ other ∷ []) where
  -- programs with different last statements share none
  pub end_unlike : (stmt_tree last ≡ stmt_tree other → ⊥) → (ps qs : List StmtTree) (r : StmtTree) → EndAlike p q ps qs r → ⊥
  end_unlike differ ps qs r alike =
      let one = last_same (map stmt_tree front) ps (stmt_tree last) r (sym (ends_with xs front last p first xs_is) ∙ alike.0) in
      let two = last_same (map stmt_tree other_front) qs (stmt_tree other) r (sym (ends_with ys other_front other q second ys_is) ∙ alike.1) in
      differ (one.1 ∙ sym two.1)

  -- programs with the same last statement share it
  pub end_alike : stmt_tree last ≡ stmt_tree other → (copies other_copies : ProgTree) (copy : StmtTree) → stmts_of copies ≡ map stmt_tree front → stmts_of other_copies ≡ map stmt_tree other_front →
      copy ≡ stmt_tree last → EndAlike p q (stmts_of copies) (stmts_of other_copies) copy
  end_alike same copies other_copies copy copied others kept = (
    ends_with xs front last p first xs_is ∙ rw (copied, kept) refl,
    ends_with ys other_front other q second ys_is ∙ rw (others, kept, same) refl,
  )

-- the shared statement follows the `if` of the remaining blocks
pub shared_list : (b : CondTree) (p q : ProgTree) (s r : StmtTree) (all rest : List StmtTree) → s ≡ branch b p q → all ≡ s ∷ r ∷ rest → all ≡ branch b (prog_of (stmts_of p)) (prog_of (stmts_of q)) ∷ r ∷ rest
shared_list b p q s r all rest is whole = whole ∙ rw (is, prog_of-stmts_of p, prog_of-stmts_of q) refl
