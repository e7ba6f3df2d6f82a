-- The results of blocks and statements by the results of their parts.
use Rattle.std.proofs.Common.{◌≡◌, ℕ, ◌+◌, ◌<◌, ◌≤◌, List, ◌∷◌, true, false, drop, Result, Ok, Err, refl, sym, subst, ap, ◌∙◌, arith}
use Rattle.std.specs.Prelude.{IfOk}
use Rattle.std.specs.Result.{IsErrAnd, result_and}
use Rattle.text_parser.specs.declared.fault.TextFault.{TextFault}
use Rattle.text_parser.specs.declared.fault.TextFault.TheVariants.{NoMemory}
use Rattle.text_parser.specs.declared.terminal.Terminal.{Terminal}
use Rattle.text_parser.specs.declared.terminal.Terminal.TheVariants.{Name, Keyword, Separator}
use Rattle.text_parser.specs.declared.terminal.Keyword.{Keyword as KeywordOf}
use Rattle.text_parser.specs.declared.terminal.Keyword.TheVariants as word
use Rattle.text_parser.specs.declared.terminal.Separator.TheVariants.{Semicolon, CurlyOpen, CurlyClose, Becomes}
use Rattle.text_parser.specs.Lexemes.{Lexeme, lexeme, heads, is_terminal}
use Rattle.text_parser.specs.Parsed.{Parsed, ◌>>=◌, before, change, expects, place_of, Makes, Expects, Goes}
use Rattle.text_parser.proofs.NamedFaults.{IsNamed, expects_named}
use Rattle.text_parser.proofs.TokenPlaces.{next_drop}
use Rattle.while_lang.specs.BlockActions.{BlockActions}
use Rattle.while_lang.specs.Blocks.{enter, block, stmts_after, stmt_after, branch_after, cond_by, expr_by, then_semicolon, assign_by, named_by, loop_by, else_by, parse_block}
use Rattle.while_lang.specs.Working.Appending.{Appends, EndsAfter}
use Rattle.while_lang.proofs.BlockSteps.{block_aim_step, stmts_after_step, stmt_after_step, branch_after_step}

abbrev ok_of : {A : Type 0} → A → Result A TextFault
ok_of x = Ok x

made_same : {A : Type 0} {x y : A} → ok_of x ≡ Ok y → x ≡ y
made_same h = cc

-- a change of the value before a semicolon
change_ended : {V W : Type 0} (f : V → W) (x : V) (m : Result (List Lexeme) TextFault) → change f (m >>= λ r. Ok (x, r)) ≡ (m >>= λ r. Ok (f x, r))
change_ended f x (Ok r) = refl
change_ended f x (Err e) = refl

-- the index after two tokens
pub next_two : {A : Type 0} (n : ℕ) (xs : List A) → drop 1 (drop (n + 1) xs) ≡ drop (n + 2) xs
next_two n xs = let two : n + 1 + 1 ≡ n + 2 = omega arith in next_drop (n + 1) xs ∙ ap (λ (k : ℕ). drop k xs) two

module _ {E B L T M S : Type 0} (g : BlockActions E B L T M S) (d : ℕ) (ts : List Lexeme) where
  -- ---- a block

  pub block_closed : (e : TextFault) → expects (is_terminal (Separator CurlyOpen)) ts ≡ Err e → parse_block g block d ts ≡ Err e
  block_closed e h = block_aim_step g d ts ∙ rw (h) refl

  module _ (us : List Lexeme) (opens : expects (is_terminal (Separator CurlyOpen)) ts ≡ Ok us) where
    pub block_deep : (e : TextFault) → enter d (place_of ts) ≡ Err e → parse_block g block d ts ≡ Err e
    block_deep e h = block_aim_step g d ts ∙ rw (opens, h) refl

    module _ (n : ℕ) (inside : enter d (place_of ts) ≡ Ok n) where
      pub block_fails : (e : TextFault) → parse_block g (stmts_after g.none) n us ≡ Err e → parse_block g block d ts ≡ Err e
      block_fails e h = block_aim_step g d ts ∙ rw (opens, inside, h) refl

      pub block_made : (x : S × List Lexeme) → parse_block g (stmts_after g.none) n us ≡ Ok x → parse_block g block d ts ≡ Ok (g.braced x.0, x.1)
      block_made x h = block_aim_step g d ts ∙ rw (opens, inside, h) refl

  -- ---- statements

  -- `m` is the result of all statements
  module _ (s : S) (m : Parsed S) (rest : parse_block g (stmts_after s) d ts ≡ m) where
    pub stmts_end : heads (is_terminal (Separator CurlyClose)) ts ≡ true → (us : List Lexeme) → drop 1 ts ≡ us → m ≡ Ok (s, us)
    stmts_end h us next = sym rest ∙ stmts_after_step g s d ts ∙ rw (h, next) refl

    module _ (more : heads (is_terminal (Separator CurlyClose)) ts ≡ false) where
      pub stmts_fail : (e : TextFault) → parse_block g (stmt_after s) d ts ≡ Err e → m ≡ Err e
      stmts_fail e h = sym rest ∙ stmts_after_step g s d ts ∙ rw (more, h) refl

      pub stmts_go : (x : S × List Lexeme) → parse_block g (stmt_after s) d ts ≡ Ok x → parse_block g (stmts_after x.0) d x.1 ≡ m
      stmts_go x h = sym (stmts_after_step g s d ts ∙ rw (more, h) refl) ∙ rest

  -- ---- a statement, by its first token

  module _ (s : S) (at : ℕ) (text : List ℕ) (us : List Lexeme) (t : Terminal) (seen : ts ≡ lexeme t at text ∷ us) where
    module _ (k : KeywordOf) (is : t ≡ Keyword k) where
      pub skip_seen : k ≡ word.Skip → parse_block g (stmt_after s) d ts ≡ then_semicolon (Ok (g.skip s, us))
      skip_seen h = rw (seen, is, h) (stmt_after_step g s d (lexeme (Keyword word.Skip) at text ∷ us))

      pub abort_seen : k ≡ word.Abort → parse_block g (stmt_after s) d ts ≡ then_semicolon (Ok (g.abort s, us))
      abort_seen h = rw (seen, is, h) (stmt_after_step g s d (lexeme (Keyword word.Abort) at text ∷ us))

      pub assert_seen : k ≡ word.Assert → parse_block g (stmt_after s) d ts ≡ change (g.assert s) (then_semicolon (cond_by g d us))
      assert_seen h = rw (seen, is, h) (stmt_after_step g s d (lexeme (Keyword word.Assert) at text ∷ us))

      pub if_seen : k ≡ word.If → parse_block g (stmt_after s) d ts ≡ parse_block g (branch_after s) d us
      if_seen h = rw (seen, is, h) (stmt_after_step g s d (lexeme (Keyword word.If) at text ∷ us))

      pub while_seen : k ≡ word.While → parse_block g (stmt_after s) d ts ≡ loop_by g (parse_block g) s d us
      while_seen h = rw (seen, is, h) (stmt_after_step g s d (lexeme (Keyword word.While) at text ∷ us))

    pub name_seen : t ≡ Name → (name : List ℕ) → name ≡ text → parse_block g (stmt_after s) d ts ≡ named_by g s d at name us
    name_seen is name same = rw (seen, is, same) (stmt_after_step g s d (lexeme Name at text ∷ us))

  -- ---- `if`

  module _ (s : S) where
    pub branch_unread : (e : TextFault) → cond_by g d ts ≡ Err e → parse_block g (branch_after s) d ts ≡ Err e
    branch_unread e h = branch_after_step g s d ts ∙ rw (h) refl

    module _ (b : B × List Lexeme) (holds : cond_by g d ts ≡ Ok b) where
      pub branch_first : (e : TextFault) → parse_block g block d b.1 ≡ Err e → parse_block g (branch_after s) d ts ≡ Err e
      branch_first e h = branch_after_step g s d ts ∙ rw (holds, h) refl

      module _ (p : S × List Lexeme) (first : parse_block g block d b.1 ≡ Ok p) where
        pub branch_second : (e : TextFault) → else_by g (parse_block g) d p.1 ≡ Err e → parse_block g (branch_after s) d ts ≡ Err e
        branch_second e h = branch_after_step g s d ts ∙ rw (holds, first, h) refl

        pub branch_made : (q : S × List Lexeme) → else_by g (parse_block g) d p.1 ≡ Ok q → parse_block g (branch_after s) d ts ≡ Ok (g.branch s b.0 p.0 q.0, q.1)
        branch_made q h = branch_after_step g s d ts ∙ rw (holds, first, h) refl

  pub else_none : heads (is_terminal (Keyword word.Else)) ts ≡ false → else_by g (parse_block g) d ts ≡ Ok (g.none, ts)
  else_none h = rw (h) refl

  module _ (is : heads (is_terminal (Keyword word.Else)) ts ≡ true) (us : List Lexeme) (next : drop 1 ts ≡ us) where
    pub else_block : heads (is_terminal (Keyword word.If)) us ≡ false → else_by g (parse_block g) d ts ≡ parse_block g block d us
    else_block h = rw (is, next, h) refl

    module _ (again : heads (is_terminal (Keyword word.If)) us ≡ true) where
      pub else_deep : (e : TextFault) → enter d (place_of us) ≡ Err e → else_by g (parse_block g) d ts ≡ Err e
      else_deep e h = rw (is, next, again, h) refl

      module _ (n : ℕ) (inside : enter d (place_of us) ≡ Ok n) (vs : List Lexeme) (after : drop 1 us ≡ vs) (s : S) (none : s ≡ g.none) where
        pub else_fails : (e : TextFault) → parse_block g (branch_after s) n vs ≡ Err e → else_by g (parse_block g) d ts ≡ Err e
        else_fails e h =
            let k : parse_block g (branch_after g.none) n vs ≡ Err e = subst (λ (x : S). parse_block g (branch_after x) n vs ≡ Err e) none h in
            rw (is, next, again, inside, after, k) refl

        pub else_made : (x : S × List Lexeme) → parse_block g (branch_after s) n vs ≡ Ok x → else_by g (parse_block g) d ts ≡ Ok (g.chained x.0, x.1)
        else_made x h =
            let k : parse_block g (branch_after g.none) n vs ≡ Ok x = subst (λ (y : S). parse_block g (branch_after y) n vs ≡ Ok x) none h in
            rw (is, next, again, inside, after, k) refl

  -- ---- `while`

  module _ (s : S) where
    pub loop_unread : (e : TextFault) → cond_by g d ts ≡ Err e → loop_by g (parse_block g) s d ts ≡ Err e
    loop_unread e h = rw (h) refl

    module _ (b : B × List Lexeme) (holds : cond_by g d ts ≡ Ok b) where
      pub loop_fails : (e : TextFault) → parse_block g block d b.1 ≡ Err e → loop_by g (parse_block g) s d ts ≡ Err e
      loop_fails e h = rw (holds, h) refl

      pub loop_made : (x : S × List Lexeme) → parse_block g block d b.1 ≡ Ok x → loop_by g (parse_block g) s d ts ≡ Ok (g.turn s b.0 x.0, x.1)
      loop_made x h = rw (holds, h) refl

  -- ---- statements that begin with a name

  module _ (s : S) (at : ℕ) (name : List ℕ) where
    pub assign_target : (e : TextFault) → g.target at name ≡ Err e → assign_by g s d at name ts ≡ Err e
    assign_target e h = rw (h) refl

    module _ (u : Unit {0}) (target : g.target at name ≡ Ok u) where
      pub assign_unread : (e : TextFault) → expr_by g d ts ≡ Err e → assign_by g s d at name ts ≡ Err e
      assign_unread e h = rw (target, h) refl

      pub assign_ended : (x : E × List Lexeme) → expr_by g d ts ≡ Ok x → assign_by g s d at name ts ≡ then_semicolon (Ok (g.assign s name x.0, x.1))
      assign_ended x h = rw (target, h) (change_ended (g.assign s name) x.0 (expects (is_terminal (Separator Semicolon)) x.1))

    pub named_assign : heads (is_terminal (Separator Becomes)) ts ≡ true → (us : List Lexeme) → drop 1 ts ≡ us → named_by g s d at name ts ≡ assign_by g s d at name us
    named_assign h us next = rw (h, next) refl

    pub named_ended : heads (is_terminal (Separator Becomes)) ts ≡ false → named_by g s d at name ts ≡ then_semicolon (before ts (g.named d at name s))
    named_ended h = rw (h) refl

  -- ---- assertions

  module _ (s : S) where
    pub assert_unread : (e : TextFault) → cond_by g d ts ≡ Err e → change (g.assert s) (then_semicolon (cond_by g d ts)) ≡ Err e
    assert_unread e h = rw (h) refl

    pub assert_ended : (b : B × List Lexeme) → cond_by g d ts ≡ Ok b → change (g.assert s) (then_semicolon (cond_by g d ts)) ≡ then_semicolon (Ok (g.assert s b.0, b.1))
    assert_ended b h = rw (h) (change_ended (g.assert s) b.0 (expects (is_terminal (Separator Semicolon)) b.1))

-- ---- what an action made, and what follows it

-- the fault of the action remains
pub passed : (P : ℕ → Type 0) (made : Result (Unit {0}) TextFault) (rest r : Result ℕ TextFault) → r ≡ result_and made rest → IfOk rest P → IfOk r P
passed P (Ok u) rest r is h = rw (is) h
passed P (Err e) rest r is h = rw (is) tt

-- a fault comes with no index
pub no_index : {A : Type 0} (P : A → Type 0) (r : Result A TextFault) (e : TextFault) → IsErrAnd r (λ y. y ≡ e) → IfOk r P
no_index P (Ok x) e h = elim h [ ]
no_index P (Err f) e h = tt

pub no_end : {V : Type 0} (from count : ℕ) (r : Result (V × ℕ) TextFault) (e : TextFault) → IsErrAnd r (λ y. y ≡ e) → Goes from count r
no_end from count (Ok x) e h = elim h [ ]
no_end from count (Err f) e h = tt

-- a part begins after the first token
pub goes_before : (a b n : ℕ) (r : Result ℕ TextFault) → a ≤ b → IfOk r (λ e. (b < e) × (e ≤ n)) → IfOk r (λ e. (a < e) × (e ≤ n))
goes_before a b n (Ok x) le h = (omega (arith, h.0), h.1)
goes_before a b n (Err e) le h = tt

pub ends_before : (a b n : ℕ) (r : Result ℕ TextFault) → a ≤ b → IfOk r (λ e. (e ≡ b + 1) × (b < n)) → IfOk r (λ e. (a < e) × (e ≤ n))
ends_before a b n (Ok x) le h = (omega (arith, h.0), omega (arith, h.0, h.1))
ends_before a b n (Err e) le h = tt

-- a block is the last part of the statement
pub made_appends : {S : Type 0} (memory : Type 0) (list v : S) (all : List Lexeme) (end : ℕ) (made : Result (Unit {0}) TextFault) (r : Result ℕ TextFault) (whole : Parsed S) →
    r ≡ result_and made (Ok end) → Makes memory (λ (u : Unit {0}). list) made (Ok v) → whole ≡ Ok (v, drop end all) → Appends memory list all r whole
made_appends memory list v all end (Ok u) r whole is h same = rw (is, same, made_same h) refl
made_appends memory list v all end (Err NoMemory) r whole is h same = rw (is) h
made_appends memory list v all end (Err e) r whole is h same = absurd cc

-- a semicolon follows
pub ends_after : (all us : List Lexeme) (made : Result (Unit {0}) TextFault) (rest r : Result ℕ TextFault) → r ≡ result_and made rest → Expects all rest (expects (is_terminal (Separator Semicolon)) us) → EndsAfter all made r us
ends_after all us (Ok u) rest r is h = rw (is) h
ends_after all us (Err e) rest r is h = is

semicolon_appends : {S : Type 0} (memory : Type 0) (list : S) (all us : List Lexeme) (r : Result ℕ TextFault) → IsNamed (expects (is_terminal (Separator Semicolon)) us) → Expects all r (expects (is_terminal (Separator Semicolon)) us) → Appends memory list all r (then_semicolon (Ok (list, us)))
semicolon_appends memory list all us (Ok x) named h = rw (h) refl
semicolon_appends memory list all us (Err NoMemory) named h = elim (subst IsNamed h named) [ ]
semicolon_appends memory list all us (Err e) named h = rw (h) refl

pub ended_appends : {S : Type 0} (memory : Type 0) (list : S) (all us : List Lexeme) (made : Result (Unit {0}) TextFault) (m : Result S TextFault) (r : Result ℕ TextFault) (whole : Parsed S) →
    EndsAfter all made r us → Makes memory (λ (u : Unit {0}). list) made m → whole ≡ then_semicolon (before us m) → Appends memory list all r whole
ended_appends memory list all us (Ok u) m r whole ends h is = rw (is, h) (semicolon_appends memory list all us r (expects_named (is_terminal (Separator Semicolon)) us) ends)
ended_appends memory list all us (Err NoMemory) m r whole ends h is = rw (ends) h
ended_appends memory list all us (Err e) m r whole ends h is = rw (ends, is, h) refl
