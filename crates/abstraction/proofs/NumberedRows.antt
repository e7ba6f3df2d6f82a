-- Rows with their numbers, and an additional row at the end.
use Rattle.std.proofs.Common.{◌≡◌, ℕ, ◌+◌, ◌<◌, List, [], ◌∷◌, ◌++◌, length, take, map, get_or, refl, sym, ap, ◌∙◌, arith}
use Rattle.std.proofs.lemmas.List.{take_more, map_more, length-map, length-take-le}
use Rattle.std.specs.List.{enumerate_from}
use Rattle.kat_model.specs.Trees.{Term, kat_tree}
use Rattle.kat_model.specs.declared.tree.Kat.{Kat}
use Rattle.abstraction.specs.declared.rule.Rule.TheVariants.{Stated}
use Rattle.abstraction.specs.Facts.{Hypothesis}
use Rattle.abstraction.specs.Derived.{stated_from}

pub enumerate_from-push : {X : Type 0} (n : ℕ) (xs : List X) (x : X) → enumerate_from n (xs ++ x ∷ []) ≡ enumerate_from n xs ++ (n + length xs, x) ∷ []
enumerate_from-push n [] x = let e : n ≡ n + 0 = omega arith in ap (λ k. (k, x) ∷ []) e
enumerate_from-push n (y ∷ xs) x =
    let e : n + 1 + length xs ≡ n + length (y ∷ xs) = omega arith in
    ap (λ l. (n, y) ∷ l) (enumerate_from-push (n + 1) xs x ∙ ap (λ k. enumerate_from (n + 1) xs ++ (k, x) ∷ []) e)

pub stated_from-push : (n : ℕ) (hs : List Term) (h : Term) → stated_from n (hs ++ h ∷ []) ≡ stated_from n hs ++ record { rule = Stated (n + length hs); term = h } ∷ []
stated_from-push n [] h = let e : n ≡ n + 0 = omega arith in ap (λ k. let s : Hypothesis = record { rule = Stated k; term = h } in s ∷ []) e
stated_from-push n (g ∷ hs) h =
    let e : n + 1 + length hs ≡ n + length (g ∷ hs) = omega arith in
    let first : Hypothesis = record { rule = Stated n; term = g } in
    ap (λ l. first ∷ l) (stated_from-push (n + 1) hs h ∙ ap (λ k. stated_from (n + 1) hs ++ record { rule = Stated k; term = h } ∷ []) e)

-- one step of a loop that numbers a list
pub enumerate_from-more : {X : Type 0} (n : ℕ) (xs : List X) (i : ℕ) (x : X) → i < length xs → x ≡ get_or xs i x → enumerate_from n (take i xs) ++ (n + i, x) ∷ [] ≡ enumerate_from n (take (i + 1) xs)
enumerate_from-more n xs i x lt e =
    let len : length (take i xs) ≡ i = length-take-le i xs (omega arith) in
    ap (λ k. enumerate_from n (take i xs) ++ (n + k, x) ∷ []) (sym len) ∙ sym (enumerate_from-push n (take i xs) x)
    ∙ ap (λ y. enumerate_from n (take i xs ++ y ∷ [])) e ∙ ap (enumerate_from n) (sym (take_more xs i x lt))

pub stated_from-more : (hs : List Kat) (i : ℕ) (h : Kat) (e : Term) → i < length hs → h ≡ get_or hs i h → e ≡ kat_tree h →
    stated_from 0 (map kat_tree (take i hs)) ++ record { rule = Stated i; term = e } ∷ [] ≡ stated_from 0 (map kat_tree (take (i + 1) hs))
stated_from-more hs i h e lt at same =
    let front = map kat_tree (take i hs) in
    let len : length front ≡ i = length-map (take i hs) kat_tree ∙ length-take-le i hs (omega arith) in
    let place : i ≡ 0 + length front = omega arith in
    ap (λ k. stated_from 0 front ++ record { rule = Stated k; term = e } ∷ []) place ∙ sym (stated_from-push 0 front e)
    ∙ ap (λ x. stated_from 0 (front ++ x ∷ [])) (same ∙ ap kat_tree at) ∙ ap (stated_from 0) (sym (map_more kat_tree hs i h lt))

-- the terms of the stated hypotheses are the hypotheses
pub stated_terms : (k : ℕ) (hs : List Term) → map (λ h. h.term) (stated_from k hs) ≡ hs
stated_terms k [] = refl
stated_terms k (h ∷ hs) = ap (λ (l : List Term). h ∷ l) (stated_terms (k + 1) hs)
