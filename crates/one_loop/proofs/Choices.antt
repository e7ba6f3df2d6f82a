-- A choice among the last blocks of a list, which are removed from the list.
use Rattle.std.proofs.Common.{◌≡◌, ℕ, ◌+◌, ◌-◌, ◌<◌, ◌≤◌, List, [], ◌∷◌, ◌++◌, length, take, drop, sym, ap, ◌∙◌, subst, arith}
use Rattle.std.proofs.lemmas.List.{drop_all, drop_at, drop-take, drop-drop, length-take, length-drop, length_push}
use Rattle.while_lang.specs.Programs.{ProgTree, empty, branch_then}
use Rattle.one_loop.specs.Working.Blocks.{IsHalf, Chooses, no_block, one_block, two_parts, is_below}

module _ (v : ℕ) where
  -- the choice of no block
  pub none_chosen : (blocks : List ProgTree) (len count : ℕ) (p : ProgTree) → len ≡ length blocks → count ≡ 0 → p ≡ empty →
      Chooses v (len - count + 1) (drop (len - count) blocks) p
  none_chosen blocks len count p n none is =
      let past : drop (len - count) blocks ≡ [] = drop_all (len - count) blocks (omega (arith, n, none)) in
      rw (past, is) (no_block (len - count + 1))

  -- the choice of only the last block
  pub one_chosen : (blocks rest : List ProgTree) (len count : ℕ) (p : ProgTree) → len ≡ length blocks → count ≡ 1 → blocks ≡ rest ++ p ∷ [] →
      Chooses v (len - count + 1) (drop (len - count) blocks) p
  one_chosen blocks rest len count p n one is =
      let m : length rest ≡ len - count = omega (arith, ap length is, length_push rest p, n, one) in
      let last : drop (len - count) blocks ≡ p ∷ [] = ap (drop (len - count)) is ∙ drop_at rest (p ∷ []) (len - count) m in
      rw (last) (one_block (len - count + 1) p)

  -- the choice of two parts; the second part is removed first
  pub two_chosen : (blocks rest : List ProgTree) (len left count half : ℕ) (p q r : ProgTree) → len ≡ length blocks → left ≡ length rest → count ≤ len → half < count → IsHalf half count →
      rest ≡ take (len - (count - half)) blocks →
      Chooses v (len - (count - half) + 1) (drop (len - (count - half)) blocks) q → Chooses v (left - half + 1) (drop (left - half) rest) p →
      r ≡ branch_then (is_below v (left + 1)) p q empty → Chooses v (len - count + 1) (drop (len - count) blocks) r
  two_chosen blocks rest len left count half p q r n m within small halves cut later earlier is =
      let low = len - count in
      let mid : len - (count - half) ≡ low + half = omega arith in
      let first : rest ≡ take (low + half) blocks = cut ∙ ap (λ i. take i blocks) mid in
      let size : left ≡ low + half = omega (arith, m, ap length first, length-take (low + half) blocks, n) in
      let start : left - half ≡ low = omega (arith, size) in
      let front : drop (left - half) rest ≡ take half (drop low blocks) = rw (start, first) (drop-take low half blocks) in
      let back : drop (len - (count - half)) blocks ≡ drop half (drop low blocks) = ap (λ i. drop i blocks) mid ∙ sym (drop-drop half low blocks) in
      let one : low + 1 + half ≡ len - (count - half) + 1 = omega (arith, mid) in
      let two : left + 1 ≡ low + 1 + half = omega (arith, size) in
      let a : Chooses v (low + 1) (take half (drop low blocks)) p = subst (λ xs. Chooses v (low + 1) xs p) front (subst (λ i. Chooses v (i + 1) (drop (left - half) rest) p) start earlier) in
      let b : Chooses v (low + 1 + half) (drop half (drop low blocks)) q = subst (λ xs. Chooses v (low + 1 + half) xs q) back (subst (λ i. Chooses v i (drop (len - (count - half)) blocks) q) (sym one) later) in
      let all : count ≡ length (drop low blocks) = omega (arith, length-drop low blocks, n) in
      let fits : half < length (drop low blocks) = omega (arith, all) in
      rw (is, two) (two_parts (low + 1) half (drop low blocks) p q fits (subst (IsHalf half) all halves) a b)
