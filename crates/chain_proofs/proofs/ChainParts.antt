-- The results of chains, lines and inner chains by the results of their parts.
use Rattle.std.proofs.Common.{◌≡◌, ℕ, List, Bool, true, false, drop, codes, Option, Some, Result, Ok, Err, refl, sym, subst, ap, ◌∙◌}
use Rattle.std.specs.Result.{IsErrAnd}
use Rattle.text_parser.specs.declared.fault.TextFault.{TextFault}
use Rattle.text_parser.specs.declared.fault.TextFault.TheVariants.{NoMemory, Syntax}
use Rattle.text_parser.specs.declared.terminal.Terminal.TheVariants.{Dot, Separator}
use Rattle.text_parser.specs.declared.terminal.Separator.TheVariants.{Semicolon, CurlyOpen, CurlyClose, Equals}
use Rattle.text_parser.specs.Lexemes.{Lexeme, heads, is_terminal}
use Rattle.text_parser.specs.Parsed.{Parsed, Makes, Reads, expects, place_of}
use Rattle.text_parser.proofs.NamedFaults.{IsNamed, if_named}
use Rattle.while_lang.specs.Blocks.{enter}
use Rattle.while_lang.proofs.BlockFaults.{returned, check_fails}
use Rattle.problem_file.specs.Items.{number_at}
use Rattle.problem_file.proofs.NamedItems.{number_at_named}
use Rattle.chain_proofs.specs.ChainActions.{ChainActions}
use Rattle.chain_proofs.specs.ChainWalks.{Reason, is_word, expects_word, rule_name, has_number, has_inner, argument, parts_by, path_by, rule_by, ChainParser, whole_chain, lines_after, braces_by, inner_by, line_by, parse_chain}
use Rattle.chain_proofs.proofs.PathSteps.{parts_step}
use Rattle.chain_proofs.proofs.ChainSteps.{whole_chain_step, lines_after_step}

abbrev ok_of : {A : Type 0} → A → Result A TextFault
ok_of x = Ok x

-- the two parts of a value in the terms of the specification
abbrev pub both_of : {A B C D : Type 0} → (A → C) → (B → D) → A × B → C × D
both_of first second x = (first x.0, second x.1)

pub word_named : (w : List ℕ) (ts : List Lexeme) → IsNamed (expects_word w ts)
word_named w ts = if_named (is_word w ts) (Ok (drop 1 ts)) (Err (Syntax (place_of ts))) (λ e. tt) (λ e. tt)

module _ {V W : Type 0} (memory : Type 0) (means : V → W) (ts : List Lexeme) (whole : Parsed W) (e : TextFault) (r : Result (V × ℕ) TextFault) (same : IsErrAnd r (λ y. y ≡ e)) where
  -- an action fails; `other` holds if it is out of memory
  pub action_fails : {A B : Type 0} (other : Type 0) → (other → memory) → (of : A → B) (m : Result B TextFault) → Makes other of (Err e) m → (m ≡ Err e → whole ≡ Err e) → Reads memory means ts r whole
  action_fails other so of m h k = subst (λ y. Reads memory means ts y whole) (sym (returned r e same)) (ends e h k)
    where
      ends : (f : TextFault) → Makes other of (Err f) m → (m ≡ Err f → whole ≡ Err f) → Reads memory means ts (Err f) whole
      ends NoMemory h k = so h
      ends f h k = k h

  -- an action that accepts each part fails only when out of memory
  pub accepted_fails : {A B : Type 0} (of : A → B) (x : B) → Makes memory of (Err e) (Ok x) → Reads memory means ts r whole
  accepted_fails of x h = action_fails memory (λ y. y) of (Ok x) h (λ other. absurd cc)

  -- a parser that takes no memory fails
  pub parser_fails : {A B : Type 0} (of : A → B) (part : Parsed B) → Reads ⊥ of ts (Err e) part → (part ≡ Err e → whole ≡ Err e) → Reads memory means ts r whole
  parser_fails of part h k = subst (λ y. Reads memory means ts y whole) (sym (returned r e same)) (ends e h k)
    where
      ends : (f : TextFault) → Reads ⊥ of ts (Err f) part → (part ≡ Err f → whole ≡ Err f) → Reads memory means ts (Err f) whole
      ends NoMemory h k = absurd h
      ends f h k = k h

  -- a token is not a number
  pub number_fails : (us : List Lexeme) → Err e ≡ number_at us → whole ≡ Err e → Reads memory means ts r whole
  number_fails us h k = check_fails memory means ts whole e r same (number_at us) (number_at_named us) (sym h) k

-- ---- a rule and its path

module _ (name : List ℕ) (ts : List Lexeme) where
  pub argument_none : false ≡ has_number name → argument name ts ≡ Ok (0, ts)
  argument_none h = rw (← h) refl

  module _ (has : true ≡ has_number name) where
    pub argument_fails : (e : TextFault) → Err e ≡ number_at ts → argument name ts ≡ Err e
    argument_fails e h = rw (← has, ← h) refl

    pub argument_made : (n : ℕ) → Ok n ≡ number_at ts → (us : List Lexeme) → drop 1 ts ≡ us → argument name ts ≡ Ok (n, us)
    argument_made n h us next = rw (← has, ← h, next) refl

module _ {Z T R P V : Type 0} (g : ChainActions Z T R P V) (ts : List Lexeme) where
  -- the parts that continue a path
  module _ (p : P) where
    pub parts_end : false ≡ heads (is_terminal Dot) ts → (m : Parsed P) → parts_by g p ts ≡ m → m ≡ Ok (p, ts)
    parts_end h m whole = sym whole ∙ parts_step g p ts ∙ rw (← h) refl

    module _ (dot : true ≡ heads (is_terminal Dot) ts) (us : List Lexeme) (next : drop 1 ts ≡ us) where
      pub parts_fail : (e : TextFault) → Err e ≡ number_at us → (m : Parsed P) → parts_by g p ts ≡ m → m ≡ Err e
      parts_fail e h m whole = sym whole ∙ parts_step g p ts ∙ rw (← dot, next, ← h) refl

      pub parts_go : (n : ℕ) → Ok n ≡ number_at us → (rest : List Lexeme) → drop 2 ts ≡ rest → (q : P) → ok_of (g.part p n) ≡ Ok q → (m : Parsed P) → parts_by g p ts ≡ m → parts_by g q rest ≡ m
      parts_go n h rest after q made m whole =
          let same : g.part p n ≡ q = cc in
          sym (parts_step g p ts ∙ rw (← dot, next, ← h, after, same) refl) ∙ whole

  pub path_none : false ≡ is_word (codes "at") ts → (p : P) → p ≡ g.whole → path_by g ts ≡ Ok (p, ts)
  path_none h p is = rw (← h, is) refl

  module _ (has : true ≡ is_word (codes "at") ts) (us : List Lexeme) (next : drop 1 ts ≡ us) where
    pub path_fails : (e : TextFault) → Err e ≡ number_at us → path_by g ts ≡ Err e
    path_fails e h = rw (← has, next, ← h) refl

    pub path_goes : (n : ℕ) → Ok n ≡ number_at us → (rest : List Lexeme) → drop 2 ts ≡ rest → (whole p : P) → whole ≡ g.whole → ok_of (g.part whole n) ≡ Ok p → parts_by g p rest ≡ path_by g ts
    path_goes n h rest after whole p is made =
        let same : g.part whole n ≡ p = cc in
        rw (← has, next, ← h, after, ← is, same) refl

  pub rule_unnamed : (e : TextFault) → rule_name ts ≡ Err e → rule_by g ts ≡ Err e
  rule_unnamed e h = rw (h) refl

  module _ (w : ℕ × List ℕ) (named : rule_name ts ≡ Ok w) (us : List Lexeme) (next : drop 1 ts ≡ us) where
    pub rule_unnumbered : (e : TextFault) → argument w.1 us ≡ Err e → rule_by g ts ≡ Err e
    rule_unnumbered e h = rw (named, next, h) refl

    module _ (n : ℕ × List Lexeme) (numbered : argument w.1 us ≡ Ok n) where
      pub rule_unknown : (e : TextFault) → g.rule w.0 w.1 n.0 ≡ Err e → rule_by g ts ≡ Err e
      rule_unknown e h = rw (named, next, numbered, h) refl

      module _ (r : R) (known : g.rule w.0 w.1 n.0 ≡ Ok r) where
        pub rule_unplaced : (e : TextFault) → path_by g n.1 ≡ Err e → rule_by g ts ≡ Err e
        rule_unplaced e h = rw (named, next, numbered, known, h) refl

        pub rule_made : (p : P × List Lexeme) → path_by g n.1 ≡ Ok p → (inner : Bool) → inner ≡ has_inner w.1 → rule_by g ts ≡ Ok (record { rule = r; path = p.0; inner = inner }, p.1)
        rule_made p h inner is = rw (named, next, numbered, known, h, is) refl

module _ {Z T R P V : Type 0} (g : ChainActions Z T R P V) (d : ℕ) (ts : List Lexeme) where
  -- ---- a chain

  module _ (z : Z) where
    pub chain_unread : (e : TextFault) → g.term d z ts ≡ Err e → parse_chain g (whole_chain z) d ts ≡ Err e
    chain_unread e h = whole_chain_step g z d ts ∙ rw (h) refl

    -- `v` is the chain of the first term, and `m` the result of all lines
    pub chain_begun : (t : (T × Z) × List Lexeme) → g.term d z ts ≡ Ok t → (v : V) → v ≡ g.first (t.0).0 → (m : Parsed (V × Z)) → m ≡ parse_chain g (lines_after v (t.0).1) d t.1 → (r : Parsed (V × Z)) → m ≡ r → parse_chain g (whole_chain z) d ts ≡ r
    chain_begun t h v is m lines r ends = whole_chain_step g z d ts ∙ rw (h) (ap (λ (w : V). parse_chain g (lines_after w (t.0).1) d t.1) (sym is) ∙ sym lines ∙ ends)

  -- the lines that continue a chain
  module _ (v : V) (z : Z) where
    pub lines_end : false ≡ heads (is_terminal (Separator Equals)) ts → parse_chain g (lines_after v z) d ts ≡ Ok ((v, z), ts)
    lines_end h = lines_after_step g v z d ts ∙ rw (← h) refl

    module _ (more : true ≡ heads (is_terminal (Separator Equals)) ts) (us : List Lexeme) (next : drop 1 ts ≡ us) where
      pub lines_fail : (e : TextFault) → line_by g (parse_chain g) v z d us ≡ Err e → parse_chain g (lines_after v z) d ts ≡ Err e
      lines_fail e h = lines_after_step g v z d ts ∙ rw (← more, next, h) refl

      pub lines_go : (x : (V × Z) × List Lexeme) → line_by g (parse_chain g) v z d us ≡ Ok x → (r : Parsed (V × Z)) → parse_chain g (lines_after v z) d ts ≡ r → parse_chain g (lines_after (x.0).0 (x.0).1) d x.1 ≡ r
      lines_go x h r whole = sym (lines_after_step g v z d ts ∙ rw (← more, next, h) refl) ∙ whole

  -- ---- a line

  module _ (f : ChainParser Z V) (v : V) (z : Z) where
    pub line_unread : (e : TextFault) → g.term d z ts ≡ Err e → line_by g f v z d ts ≡ Err e
    line_unread e h = rw (h) refl

    module _ (t : (T × Z) × List Lexeme) (read : g.term d z ts ≡ Ok t) where
      pub line_stopped : (e : TextFault) → expects_word (codes "by") t.1 ≡ Err e → line_by g f v z d ts ≡ Err e
      line_stopped e h = rw (read, h) refl

      module _ (b : List Lexeme) (goes : expects_word (codes "by") t.1 ≡ Ok b) where
        pub line_unruled : (e : TextFault) → rule_by g b ≡ Err e → line_by g f v z d ts ≡ Err e
        line_unruled e h = rw (read, goes, h) refl

        module _ (r : Reason R P × List Lexeme) (ruled : rule_by g b ≡ Ok r) where
          pub line_unfilled : (e : TextFault) → inner_by f (r.0).inner (t.0).1 d r.1 ≡ Err e → line_by g f v z d ts ≡ Err e
          line_unfilled e h = rw (read, goes, ruled, h) refl

          module _ (i : (Option V × Z) × List Lexeme) (filled : inner_by f (r.0).inner (t.0).1 d r.1 ≡ Ok i) where
            pub line_unended : (e : TextFault) → expects (is_terminal (Separator Semicolon)) i.1 ≡ Err e → line_by g f v z d ts ≡ Err e
            line_unended e h = rw (read, goes, ruled, filled, h) refl

            pub line_made : (us : List Lexeme) → expects (is_terminal (Separator Semicolon)) i.1 ≡ Ok us → (c : V) → ok_of (g.line v (t.0).0 (r.0).rule (r.0).path (i.0).0) ≡ Ok c
                → line_by g f v z d ts ≡ Ok ((c, (i.0).1), us)
            line_made us h c made =
                let same : g.line v (t.0).0 (r.0).rule (r.0).path (i.0).0 ≡ c = cc in
                rw (read, goes, ruled, filled, h, same) refl

-- ---- an inner chain, and a chain in braces

module _ {Z V : Type 0} (f : ChainParser Z V) (z : Z) (d : ℕ) (ts : List Lexeme) where
  module _ (follows : Bool) (is : follows ≡ true) where
    pub inner_fails : (e : TextFault) → braces_by f z d ts ≡ Err e → inner_by f follows z d ts ≡ Err e
    inner_fails e h = rw (is, h) refl

    pub inner_made : (x : (V × Z) × List Lexeme) → braces_by f z d ts ≡ Ok x → inner_by f follows z d ts ≡ Ok ((Some (x.0).0, (x.0).1), x.1)
    inner_made x h = rw (is, h) refl

  pub braces_unopened : (e : TextFault) → expects (is_terminal (Separator CurlyOpen)) ts ≡ Err e → braces_by f z d ts ≡ Err e
  braces_unopened e h = rw (h) refl

  module _ (us : List Lexeme) (opens : expects (is_terminal (Separator CurlyOpen)) ts ≡ Ok us) where
    pub braces_deep : (e : TextFault) → enter d (place_of ts) ≡ Err e → braces_by f z d ts ≡ Err e
    braces_deep e h = rw (opens, h) refl

    module _ (n : ℕ) (inside : enter d (place_of ts) ≡ Ok n) where
      pub braces_fail : (e : TextFault) → f (whole_chain z) n us ≡ Err e → braces_by f z d ts ≡ Err e
      braces_fail e h = rw (opens, inside, h) refl

      module _ (x : (V × Z) × List Lexeme) (chain : f (whole_chain z) n us ≡ Ok x) where
        pub braces_unclosed : (e : TextFault) → expects (is_terminal (Separator CurlyClose)) x.1 ≡ Err e → braces_by f z d ts ≡ Err e
        braces_unclosed e h = rw (opens, inside, chain, h) refl

        pub braces_made : (rest : List Lexeme) → expects (is_terminal (Separator CurlyClose)) x.1 ≡ Ok rest → braces_by f z d ts ≡ Ok (x.0, rest)
        braces_made rest h = rw (opens, inside, chain, h) refl
