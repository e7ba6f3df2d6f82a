-- The exits of a piece are exits: their rows and columns are matched, and they have what is live at each column.
use Rattle.std.proofs.Common.{◌≡◌, inl, inr, ⊎_elim, ℕ, ◌+◌, ◌≤◌, Bool, true, false, ◌&&◌, nat_eq, List, [], ◌∷◌, ◌++◌, length, map, filter, if◌then◌else◌, refl, sym, subst, arith}
use Rattle.std.specs.List.{list_any, list_all, range_with_len}
use Rattle.std.proofs.lemmas.Bool.{and_parts, eqb-true, eq-eqb}
use Rattle.std.proofs.lemmas.List.{length-append}
use Rattle.std.specs.Cmp.Lexicographic.{pointwise}
use Rattle.kat_model.specs.Members.{Has}
use Rattle.kat_model.proofs.Filters.{has_filter, filter_has}
use Rattle.kat_model.proofs.Lists.{has_any, has_all, has_append, map_has}
use Rattle.kat_model.proofs.RowMembers.{with_all_new_has}
use Rattle.flow_model.specs.Graphs.{Pair}
use Rattle.flow_ways.specs.Liveness.{IsLive}
use Rattle.flow_ways.specs.Sorted.{IsSortedGraph}
use Rattle.flow_places.specs.Live.{live}
use Rattle.flow_places.proofs.Walked.{in_range}
use Rattle.flow_places.proofs.LiveTests.{live_exactly}
use Rattle.flow_model.specs.Matches.{Match}
use Rattle.flow_pieces.specs.PieceGraphs.{Exit, has_block}
use Rattle.flow_pieces.specs.PieceQuestions.{matched_at, IsExit}
use Rattle.flow_pieces.specs.SameTrees.{is_same_bool}
use Rattle.flow_pieces.specs.Exits.{arrivals_before, arrivals_after, candidates, live_after, have_same_parts, are_like, rows_with, columns_with, is_rectangle, exit_of, has_match, exits_from, piece_exits}
use Rattle.flow_pieces.proofs.SameTrees.{numbers_same, parts_same}
use Rattle.flow_pieces.proofs.SortedReads.{live_has_sort}

-- the exits were there already, or are those of matches
pub exits_all : (P : Exit → Type 0) (p : Pair) (cs rest : List Match) (es : List Exit) → ((c : Match) → Has rest c → P (exit_of p cs c)) → ((e : Exit) → Has es e → P e) → (e : Exit) → Has (exits_from p cs rest es) e → P e
exits_all P p cs [] es f g e h = g e h
exits_all P p cs (c ∷ rest) es f g e h =
    by_test (list_any (λ d. has_match d c) es) (λ next there i. exits_all P p cs rest next (λ d k. f d (inr k)) there e i) h
  where
    by_test : (b : Bool) → ((next : List Exit) → ((d : Exit) → Has next d → P d) → Has (exits_from p cs rest next) e → P e) → Has (exits_from p cs rest (if b then es else es ++ exit_of p cs c ∷ [])) e → P e
    by_test true later i = later es g i
    by_test false later i =
        later (es ++ exit_of p cs c ∷ []) (λ d k. ⊎_elim (g d) (λ q. ⊎_elim (λ r. subst P r (f c (inl refl))) absurd q) (has_append es (exit_of p cs c ∷ []) d k)) i

exits_length : (p : Pair) (cs rest : List Match) (es : List Exit) → length (exits_from p cs rest es) ≤ length es + length rest
exits_length p cs [] es = omega arith
exits_length p cs (c ∷ rest) es = by_test (list_any (λ d. has_match d c) es) (exits_length p cs rest)
  where
    by_test : (b : Bool) → ((next : List Exit) → length (exits_from p cs rest next) ≤ length next + length rest) →
        length (exits_from p cs rest (if b then es else es ++ exit_of p cs c ∷ [])) ≤ length es + length (c ∷ rest)
    by_test true later = omega (arith, later es)
    by_test false later = omega (arith, later (es ++ exit_of p cs c ∷ []), length-append es (exit_of p cs c ∷ []))

filter_length : {X : Type 0} (test : X → Bool) (xs : List X) → length (filter test xs) ≤ length xs
filter_length test [] = omega arith
filter_length test (x ∷ xs) = by_test (test x) (filter_length test xs)
  where
    by_test : (b : Bool) → length (filter test xs) ≤ length xs → length (if b then x ∷ filter test xs else filter test xs) ≤ length (x ∷ xs)
    by_test true later = omega (arith, later)
    by_test false later = omega (arith, later)

-- no piece has more exits than there are matches
pub few_exits : (p : Pair) (ms : List Match) (m : Match) → length (piece_exits p ms m) ≤ length ms
few_exits p ms m =
    omega (arith, exits_length p (candidates p ms m) (candidates p ms m) [], filter_length (λ c. has_block (arrivals_before p ms m) c.before && has_block (arrivals_after p ms m) c.after) ms)

module _ (p : Pair) (sorted : IsSortedGraph p.sorts p.after) where
  -- what is live at a block of the second graph is listed there
  live_listed : (l x : ℕ) → IsLive p.after x l → Has (live_after p l) x
  live_listed l x h =
      filter_has (live p.after l) (range_with_len 0 (length p.sorts)) x
      (in_range 0 (length p.sorts) x (omega arith) (let within = live_has_sort p.sorts x p.after l sorted h in omega (arith, within)))
      ((live_exactly p.after l x).1 h)

  module _ (ms cs : List Match) (among : (c : Match) → Has cs c → Has ms c) (c : Match) (member : Has cs c) where
    -- the match's own block is a row
    own_row : Has (rows_with cs c) c.before
    own_row =
        with_all_new_has nat_eq (λ k l. eqb-true k l) [] (map (λ d. d.before) (filter (λ d. nat_eq d.after c.after) cs)) c.before
        (map_has (λ d. d.before) (filter (λ d. nat_eq d.after c.after) cs) c (filter_has (λ d. nat_eq d.after c.after) cs c member (eq-eqb c.after c.after refl)))

    -- a match of two blocks that is like this one
    record IsLike (k l : ℕ) : Type 0 where
      pub matched : Has ms (matched_at k l c)
      pub live : live_after p c.after ≡ live_after p l

    is_like : (k l : ℕ) → list_any (λ d. nat_eq d.before k && nat_eq d.after l && are_like p c d) cs ≡ true → IsLike k l
    is_like k l e =
        let found = has_any (λ d. nat_eq d.before k && nat_eq d.after l && are_like p c d) cs e in
        let d = found.0 in
        let tests = and_parts (nat_eq d.before k && nat_eq d.after l) (are_like p c d) found.2 in
        let blocks = and_parts (nat_eq d.before k) (nat_eq d.after l) tests.0 in
        let like = and_parts (have_same_parts c d) (pointwise nat_eq (live_after p c.after) (live_after p d.after)) tests.1 in
        subst (λ i. IsLike i l) (eqb-true d.before k blocks.0)
        (subst (λ j. IsLike d.before j) (eqb-true d.after l blocks.1)
        (record {
          matched = subst (Has ms) (sym (parts_same c d like.0)) (among d found.1);
          live = numbers_same (live_after p c.after) (live_after p d.after) like.1;
        }))

    all_like : is_rectangle p cs c ≡ true → (k l : ℕ) → Has (rows_with cs c) k → Has (columns_with cs c) l → IsLike k l
    all_like e k l row column =
        let pairs = and_parts (list_all (λ i. list_all (λ j. list_any (λ d. nat_eq d.before i && nat_eq d.after j && are_like p c d) cs) (columns_with cs c)) (rows_with cs c)) (list_all (λ d. is_same_bool (has_block (rows_with cs c) d.before) (has_block (columns_with cs c) d.after)) cs) e in
        is_like k l
        (has_all (λ j. list_any (λ d. nat_eq d.before k && nat_eq d.after j && are_like p c d) cs) (columns_with cs c)
        (has_all (λ i. list_all (λ j. list_any (λ d. nat_eq d.before i && nat_eq d.after j && are_like p c d) cs) (columns_with cs c)) (rows_with cs c) pairs.0 k row) l column)

    exit_is : IsExit p ms (exit_of p cs c)
    exit_is = by_shape (is_rectangle p cs c) refl
      where
        only_pair : (k l : ℕ) → c.before ≡ k → c.after ≡ l → Has ms (matched_at k l c)
        only_pair k l first second = subst (λ i. Has ms (matched_at i l c)) first (subst (λ j. Has ms (matched_at c.before j c)) second (among c member))

        by_shape : (b : Bool) → is_rectangle p cs c ≡ b →
            IsExit p ms (if b then record { rows = rows_with cs c; columns = columns_with cs c; match = c; live = live_after p c.after } else record { rows = c.before ∷ []; columns = c.after ∷ []; match = c; live = live_after p c.after })
        by_shape true e = record {
          matched = λ k l row column. (all_like e k l row column).matched;
          live = λ l x column h. subst (λ xs. Has xs x) (sym (all_like e c.before l own_row column).live) (live_listed l x h);
        }
        by_shape false e = record {
          matched = λ k l row column. only_pair k l (⊎_elim (λ q. q) absurd row) (⊎_elim (λ q. q) absurd column);
          live = λ l x column h. subst (λ j. Has (live_after p j) x) (sym (⊎_elim (λ q. q) absurd column)) (live_listed l x h);
        }

  pub exits_are : (ms : List Match) (m : Match) (e : Exit) → Has (piece_exits p ms m) e → IsExit p ms e
  exits_are ms m =
      exits_all (IsExit p ms) p (candidates p ms m) (candidates p ms m) [] (λ c h. exit_is ms (candidates p ms m) (λ d k. (has_filter (λ a. has_block (arrivals_before p ms m) a.before && has_block (arrivals_after p ms m) a.after) ms d k).0) c h)
      (λ e h. absurd h)
