-- Finite tables, relational models and guarded strings have one theory.
use Rattle.std.proofs.Common.{◌≡◌, ◌≢◌, ℕ, ◌<◌, [], refl, Bool, true, false, ◌&&◌}
use Rattle.std.proofs.Math.Dec.{ltb}
use Rattle.std.specs.Bool.{IsTrue}
use Rattle.std.proofs.lemmas.Bool.{true≢false, false≢true, ltb-true, lt-ltb, and_parts, and_from}
use Rattle.kat_model.specs.Trees.{Term, act}
use Rattle.kat_model.specs.Members.{Has}
use Rattle.kat_model.specs.Problems.{ProblemParts}
use Rattle.kat_model.specs.Relations.{Table, atom_at, IsTable, frame_of, Relates, RelatesIn, Keeps, Same}
use Rattle.kat_model.specs.Strings.{GuardedString}
use Rattle.kat_model.specs.Closed.{closed}
use Rattle.kat_model.specs.Working.Decided.{computes_relation}
use Rattle.kat_model.proofs.AllowedPaths.{kept_allowed}
use Rattle.kat_model.proofs.Decided.{relates_now_decides}
use Rattle.kat_model.proofs.Sameness.{AcceptAlike, alike_relates, closed_relates}
use Rattle.string_tables.specs.Tables.{Refutes}
use Rattle.string_tables.proofs.Counterexamples.{refuted_not_same}
use Rattle.string_tables.proofs.Elimination.{differ_refuted}
use Rattle.kat_model.proofs.PathTables.{same_in_frame}
use Rattle.kat_laws.specs.Models.{Model, frame_of_model, IsModel, SameInModels}
use Rattle.kat_laws.specs.Laws.{HasOneTheory}
use Rattle.kat_laws.proofs.Frames.{relates_too}

-- ---- tables and models

same_models : (q : ProblemParts) → Same q → SameInModels q
same_models q same m is i j si sj =
    same_in_frame (frame_of_model m) q (record { wide = is.wide; acts = is.actions; keeps = is.keeps }) same i j si sj

-- a table as a model
abbrev model_of : Table → Model
model_of t = record {
  is_state = λ i. ltb i t.states;
  atom = atom_at t;
  relates = λ a i j. ltb i t.states && (ltb j t.states && computes_relation t (act a) i j);
}

module _ (t : Table) where
  related_moves : (a i j : ℕ) → IsTrue ((model_of t).relates a i j) → Has t.moves (record { from = i; act = a; to = j })
  related_moves a i j h =
      let p = and_parts (ltb i t.states) _ h in
      let r = and_parts (ltb j t.states) _ p.1 in
      (relates_now_decides t (act a) i j (ltb-true i t.states p.0) (ltb-true j t.states r.0)).0 r.1

  moves_related : (a i j : ℕ) → i < t.states → j < t.states → Has t.moves (record { from = i; act = a; to = j }) → IsTrue ((model_of t).relates a i j)
  moves_related a i j li lj h =
      and_from (ltb i t.states) _ (lt-ltb i t.states li) (and_from (ltb j t.states) _ (lt-ltb j t.states lj) ((relates_now_decides t (act a) i j li lj).1 h))

  -- a term relates the same states of both
  table_relates : (e : Term) (i j : ℕ) → i < t.states → j < t.states → RelatesIn (frame_of_model (model_of t)) e i j → Relates t e i j
  table_relates e i j li lj r =
      relates_too (frame_of_model (model_of t)) (frame_of t) (λ k s. ltb-true k t.states s) (λ k. refl) (λ a k l sk sl h. related_moves a k l h)
      e i j (lt-ltb i t.states li) (lt-ltb j t.states lj) r

  model_relates : (e : Term) (i j : ℕ) → i < t.states → j < t.states → Relates t e i j → RelatesIn (frame_of_model (model_of t)) e i j
  model_relates e i j li lj r =
      relates_too (frame_of t) (frame_of_model (model_of t)) (λ k lk. lt-ltb k t.states lk) (λ k. refl) (λ a k l lk ll h. moves_related a k l lk ll h)
      e i j li lj r

  table_is_model : (q : ProblemParts) → IsTable q.tests q.actions t → Keeps t q.hyps → IsModel q (model_of t)
  table_is_model q is_table keeps = record {
    wide = λ i s. is_table.wide i (ltb-true i t.states s);
    actions = λ a i j h. (is_table.moves (record { from = i; act = a; to = j }) (related_moves a i j h)).1;
    keeps = λ h has i j si sj r.
        let li = ltb-true i t.states si in
        let lj = ltb-true j t.states sj in
        keeps h has i j li lj (table_relates h i j li lj r);
  }

models_same : (q : ProblemParts) → SameInModels q → Same q
models_same q each t is_table keeps i j li lj =
    let sides = each (model_of t) (table_is_model t q is_table keeps) i j (lt-ltb i t.states li) (lt-ltb j t.states lj) in (
      (λ r. table_relates t q.right i j li lj (sides.0 (model_relates t q.left i j li lj r))),
      (λ r. table_relates t q.left i j li lj (sides.1 (model_relates t q.right i j li lj r))),
    )

-- ---- guarded strings

alike_if_not_differ : (a b : Bool) → (a ≢ b → ⊥) → a ≡ b
alike_if_not_differ true true none = refl
alike_if_not_differ true false none = absurd (none true≢false)
alike_if_not_differ false true none = absurd (none false≢true)
alike_if_not_differ false false none = refl

-- if no string refutes the question, the closed sides accept the same strings, so both sides are the same
pub unrefuted_same : (q : ProblemParts) → ((x : GuardedString) → Refutes q x → ⊥) → Same q
unrefuted_same q none t is_table keeps i j li lj =
    closed_relates q.actions q.hyps q.left q.right t i j keeps
    (alike_relates q.tests q.actions t is_table [] (kept_allowed t [] (λ h has. absurd has)) (closed q).left (closed q).right i j li lj alike)
  where
    alike : AcceptAlike [] q.tests q.actions (closed q).left (closed q).right
    alike atom ms wide are all =
        alike_if_not_differ _ _ (λ differ.
        let x : GuardedString = record { first = atom; rest = ms } in
        none x (differ_refuted q x (record { first = wide; rest = are }) differ))

pub has_one_theory : (q : ProblemParts) → HasOneTheory q
has_one_theory q = record {
  models = (same_models q, models_same q);
  strings = ((λ same x refutes. refuted_not_same q x refutes same), unrefuted_same q);
}
