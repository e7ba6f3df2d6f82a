-- Lists of blocks that grow by each new one, and the marks of the blocks in them.
use Rattle.std.proofs.Common.{◌≡◌, ◌⊎◌, inl, inr, ◌<◌, ◌≤◌, ℕ, ◌+◌, Bool, true, false, ◌||◌, cond, nat_eq, List, [], ◌∷◌, ◌++◌, length, map, flat_map, take, get_or, set, replicate, Some, option_map, refl, sym, ap, ◌∙◌, slice_index_or, arith}
use Rattle.std.specs.List.{list_any, filter}
use Rattle.std.proofs.lemmas.Bool.{eq-eqb, ne_eqb, cases_eq, cases_lt, or_right}
use Rattle.std.proofs.lemmas.List.{take_more, map-append, append-nil, get_or-set_same, get_or-set_other, get_or-replicate, get_or_past, length-replicate}
use Rattle.std.proofs.lemmas.Option.{slice_get-map, slice_get-get_or, slice_get_past}
use Rattle.std.proofs.lemmas.List.Concat.{flat_map-append}
use Rattle.std.proofs.lemmas.List.Elements.{filter-append}
use Rattle.std.proofs.lemmas.List.Folds.{list_any-append}
use Rattle.kat_model.specs.UniqueRows.{with_new, with_all_new}
use Rattle.flow_model.specs.declared.graph.Block.{Block as ABlock}
use Rattle.flow_model.specs.Polish.{jump_of, block_of, graph_of}
use Rattle.flow_ways.specs.Liveness.{jump_targets}
use Rattle.flow_places.specs.Loops.{targets_of, targets}
use Rattle.flow_pieces.specs.PieceGraphs.{arrivals_of, has_block}
use Rattle.flow_matches.specs.Tables.{AreMarks}
use Rattle.flow_matches.specs.Working.ExitViews.{with_arrivals}

nat_eq_turned : (k l : ℕ) → nat_eq k l ≡ nat_eq l k
nat_eq_turned k l = by_case (cases_eq k l)
  where
    by_case : (k ≡ l) ⊎ (k ≡ l → ⊥) → nat_eq k l ≡ nat_eq l k
    by_case (inl e) = eq-eqb k l e ∙ sym (eq-eqb l k (sym e))
    by_case (inr other) = ne_eqb k l other ∙ sym (ne_eqb l k (λ e. other (sym e)))

any_turned : (ks : List ℕ) (k : ℕ) → list_any (nat_eq k) ks ≡ has_block ks k
any_turned [] k = refl
any_turned (l ∷ ks) k =
    ap (λ b. b || list_any (nat_eq k) ks) (nat_eq_turned k l) ∙ ap (λ b. nat_eq l k || b) (any_turned ks k)

all_new-append : (xs ys zs : List ℕ) → with_all_new nat_eq xs (ys ++ zs) ≡ with_all_new nat_eq (with_all_new nat_eq xs ys) zs
all_new-append xs [] zs = refl
all_new-append xs (y ∷ ys) zs = all_new-append (with_new nat_eq xs y) ys zs

-- numbers of the members that pass, each once
module _ {X : Type 0} (p : X → Bool) (f : X → ℕ) where
  abbrev pub collected : List X → List ℕ
  collected xs = with_all_new nat_eq [] (map f (filter p xs))

  last : (b : Bool) (ks : List ℕ) (x : X) → with_all_new nat_eq ks (map f (cond b (x ∷ []) [])) ≡ cond b (with_new nat_eq ks (f x)) ks
  last true ks x = refl
  last false ks x = refl

  collected_next : (xs : List X) (x : X) → collected (xs ++ x ∷ []) ≡ cond (p x) (with_new nat_eq (collected xs) (f x)) (collected xs)
  collected_next xs x =
      ap (λ ys. with_all_new nat_eq [] (map f ys)) (filter-append p xs (x ∷ []))
      ∙ ap (with_all_new nat_eq []) (map-append f (filter p xs) (filter p (x ∷ [])))
      ∙ all_new-append [] (map f (filter p xs)) (map f (filter p (x ∷ [])))
      ∙ last (p x) (collected xs) x

  pub collected_more : (xs : List X) (x : X) (old new : List ℕ) → old ≡ collected xs → p x ≡ true → new ≡ with_new nat_eq old (f x) → new ≡ collected (xs ++ x ∷ [])
  collected_more xs x old new so_far passes is =
      is ∙ ap (λ ks. with_new nat_eq ks (f x)) so_far
      ∙ sym (collected_next xs x ∙ ap (λ b. cond b (with_new nat_eq (collected xs) (f x)) (collected xs)) passes)

  pub collected_kept : (xs : List X) (x : X) (old : List ℕ) → old ≡ collected xs → p x ≡ false → old ≡ collected (xs ++ x ∷ [])
  collected_kept xs x old so_far fails =
      so_far ∙ sym (collected_next xs x ∙ ap (λ b. cond b (with_new nat_eq (collected xs) (f x)) (collected xs)) fails)

-- matched blocks that are new
module _ (is_matched : ℕ → Bool) where
  pub no_arrival : (found : List ℕ) (k : ℕ) → is_matched k ≡ false → found ≡ with_arrivals is_matched found (k ∷ [])
  no_arrival found k fails = sym (ap (λ b. with_all_new nat_eq found (cond b (k ∷ []) [])) fails)

  matched_new : (found : List ℕ) (k : ℕ) → is_matched k ≡ true → with_arrivals is_matched found (k ∷ []) ≡ (cond (has_block found k) found (found ++ k ∷ []))
  matched_new found k passes =
      ap (λ b. with_all_new nat_eq found (cond b (k ∷ []) [])) passes ∙ ap (λ b. cond b found (found ++ k ∷ [])) (any_turned found k)

  pub old_arrival : (found : List ℕ) (k : ℕ) → is_matched k ≡ true → has_block found k ≡ true → found ≡ with_arrivals is_matched found (k ∷ [])
  old_arrival found k passes there = sym (matched_new found k passes ∙ ap (λ b. cond b found (found ++ k ∷ [])) there)

  pub new_arrival : (found : List ℕ) (k : ℕ) → is_matched k ≡ true → has_block found k ≡ false → found ++ k ∷ [] ≡ with_arrivals is_matched found (k ∷ [])
  new_arrival found k passes new = sym (matched_new found k passes ∙ ap (λ b. cond b found (found ++ k ∷ [])) new)

  pub arrivals-append : (found ks ls : List ℕ) → with_arrivals is_matched found (ks ++ ls) ≡ with_arrivals is_matched (with_arrivals is_matched found ks) ls
  arrivals-append found ks ls =
      ap (with_all_new nat_eq found) (filter-append is_matched ks ls) ∙ all_new-append found (filter is_matched ks) (filter is_matched ls)

  -- the targets of a further block
  pub arrivals_more : (targets : ℕ → List ℕ) (ks : List ℕ) (i : ℕ) → i < length ks →
      with_arrivals is_matched [] (flat_map targets (take (i + 1) ks)) ≡ with_arrivals is_matched (with_arrivals is_matched [] (flat_map targets (take i ks))) (targets (get_or ks i 0))
  arrivals_more targets ks i lt =
      ap (λ ls. with_arrivals is_matched [] (flat_map targets ls)) (take_more ks i 0 lt)
      ∙ ap (with_arrivals is_matched []) (flat_map-append targets (take i ks) (get_or ks i 0 ∷ []) ∙ ap (λ ls. flat_map targets (take i ks) ++ ls) (append-nil (targets (get_or ks i 0))))
      ∙ arrivals-append [] (flat_map targets (take i ks)) (targets (get_or ks i 0))

-- a block that is marked and put into the list
pub marked_more : (marks : List Bool) (blocks : List ℕ) (k : ℕ) → AreMarks marks (has_block blocks) → k < length marks → AreMarks (set marks k true) (has_block (blocks ++ k ∷ []))
marked_more marks blocks k so_far lt j = by_block (cases_eq j k)
  where
    either : has_block (blocks ++ k ∷ []) j ≡ (has_block blocks j || (nat_eq k j || false))
    either = list_any-append (λ l. nat_eq l j) blocks (k ∷ [])

    nothing_more : (b : Bool) → (b || false) ≡ b
    nothing_more true = refl
    nothing_more false = refl

    by_block : (j ≡ k) ⊎ (j ≡ k → ⊥) → slice_index_or (set marks k true) j false ≡ has_block (blocks ++ k ∷ []) j
    by_block (inl e) =
        ap (λ i. slice_index_or (set marks k true) i false) e ∙ get_or-set_same marks k true false lt
        ∙ sym (either ∙ or_right (has_block blocks j) (nat_eq k j || false) (ap (λ b. b || false) (eq-eqb k j (sym e))))
    by_block (inr other) =
        get_or-set_other marks k j true false other ∙ so_far j
        ∙ sym (either ∙ ap (λ b. has_block blocks j || (b || false)) (ne_eqb k j (λ e. other (sym e))) ∙ nothing_more (has_block blocks j))

pub no_marks : (marks : List Bool) (n : ℕ) → marks ≡ replicate n false → AreMarks marks (has_block [])
no_marks marks n is k = ap (λ l. slice_index_or l k false) is ∙ by_place (cases_lt k n)
  where
    by_place : (k < n) ⊎ (n ≤ k) → slice_index_or (replicate n false) k false ≡ false
    by_place (inl lt) = get_or-replicate n k false false lt
    by_place (inr le) = get_or_past (replicate n false) k false (let long = length-replicate n false in omega (arith, le, long))

-- the targets of a block that is there, and of one that is not
module _ (is_matched : ℕ → Bool) (bs : List ABlock) (ks : List ℕ) (i : ℕ) (lt : i < length ks) (old : List ℕ) (so_far : old ≡ arrivals_of (graph_of bs) is_matched (take i ks)) where
  met_more : (ls : List ℕ) → targets (graph_of bs) (get_or ks i 0) ≡ ls → with_arrivals is_matched old ls ≡ arrivals_of (graph_of bs) is_matched (take (i + 1) ks)
  met_more ls is =
      ap (λ found. with_arrivals is_matched found ls) so_far
      ∙ ap (with_arrivals is_matched (arrivals_of (graph_of bs) is_matched (take i ks))) (sym is)
      ∙ sym (arrivals_more is_matched (targets (graph_of bs)) ks i lt)

  pub targets_met : (block : ABlock) (new : List ℕ) → get_or ks i 0 < length bs → block ≡ get_or bs (get_or ks i 0) block → new ≡ with_arrivals is_matched old (jump_targets (jump_of block.jump)) → new ≡ arrivals_of (graph_of bs) is_matched (take (i + 1) ks)
  targets_met block new there is added =
      added
      ∙ met_more (jump_targets (jump_of block.jump))
      (ap targets_of (slice_get-map block_of bs (get_or ks i 0) ∙ ap (option_map block_of) (slice_get-get_or bs (get_or ks i 0) block there) ∙ ap (λ b. Some (block_of b)) (sym is)))

  pub nothing_met : length bs ≤ get_or ks i 0 → old ≡ arrivals_of (graph_of bs) is_matched (take (i + 1) ks)
  nothing_met past =
      met_more []
      (ap targets_of (slice_get-map block_of bs (get_or ks i 0) ∙ ap (option_map block_of) (slice_get_past bs (get_or ks i 0) past)))
