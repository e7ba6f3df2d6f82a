-- What is read as items is a list of items.
use Rattle.std.proofs.Common.{◌≡◌, ℕ, zero, suc, List, [], ◌∷◌, length, Ok, refl, ap, subst, ◌∙◌}
use Rattle.text_parser.specs.declared.terminal.Terminal.TheVariants.{Keyword, Separator}
use Rattle.text_parser.specs.declared.terminal.Keyword.TheVariants as word
use Rattle.text_parser.specs.declared.terminal.Separator.TheVariants.{Comma, Semicolon}
use Rattle.text_parser.specs.Lexemes.{Lexeme, lexeme, is_terminal}
use Rattle.text_parser.specs.Parsed.{◌>>=◌, before, then_expects}
use Rattle.text_parser.specs.Phrases.{cons_token}
use Rattle.text_parser.proofs.ParserSoundness.{leaf, bind_ok, before_ok, expected_ok}
use Rattle.while_lang.proofs.BlockSoundness.{rest_of}
use Rattle.problem_file.specs.Phrases.{ended}
use Rattle.problem_file.specs.Items.{items_within}
use Rattle.problem_file.proofs.NameWalks.{declaration_found}
use Rattle.gkat_front.specs.GkatPhrases.{expr, gkat_onto, IsGkatPhrase}
use Rattle.gkat_front.specs.FileActions.{FileActions}
use Rattle.gkat_front.specs.Items.{sides_by, equal_by, item_by, items_by}
use Rattle.gkat_front.specs.FilePhrases.{GkatItem, tests, actions, equal, item_onto, ItemObeys, ItemFits, AreSpelledBy}

-- ---- items

-- the tokens begin with an item
record ItemFound (ts rest : List Lexeme) : Type 0 where
  item : GkatItem
  spelled : ts ≡ item_onto item rest
  obeys : ItemObeys item rest
  fits : ItemFits item

module _ {S V : Type 0} (g : FileActions S V) (expr_is : (s : S) (ts : List Lexeme) (y : V × List Lexeme) → g.expr s ts ≡ Ok y → IsGkatPhrase expr 0 ts y.1) where
  equal_found : (s : S) (at : ℕ) (text : List ℕ) (ts : List Lexeme) (y : S × List Lexeme) → equal_by g s at ts ≡ Ok y → ItemFound (lexeme (Keyword word.Equal) at text ∷ ts) y.1
  equal_found s at text ts y e =
      let a = bind_ok (g.begin_equal s at) _ y e in
      let b = bind_ok (then_expects (is_terminal (Separator Semicolon)) (sides_by g s ts)) (λ x. before x.1 (g.pose s at (x.0).0 (x.0).1)) y a.2 in
      let same : (b.0).1 ≡ y.1 = before_ok (b.0).1 (g.pose s at ((b.0).0).0 ((b.0).0).1) y.0 y.1 b.2 in
      let c = expected_ok (Separator Semicolon) (sides_by g s ts) b.0 b.1 in
      let d = bind_ok (then_expects (is_terminal (Separator Comma)) (g.expr s ts)) (λ x. g.expr s x.1 >>= λ y. Ok ((x.0, y.0), y.1)) ((b.0).0, ended c.0 (b.0).1) c.1 in
      let l = expected_ok (Separator Comma) (g.expr s ts) d.0 d.1 in
      let r = bind_ok (g.expr s (d.0).1) (λ y. Ok (((d.0).0, y.0), y.1)) ((b.0).0, ended c.0 (b.0).1) d.2 in
      let last : (r.0).1 ≡ ended c.0 y.1 = ap rest_of r.2 ∙ ap (ended c.0) same in
      let q : IsGkatPhrase expr 0 (d.0).1 (ended c.0 y.1) = subst (IsGkatPhrase expr 0 (d.0).1) last (expr_is s (d.0).1 r.0 r.1) in
      let p : IsGkatPhrase expr 0 ts (cons_token (Separator Comma) l.0 (gkat_onto q.phrase (ended c.0 y.1))) =
      subst (IsGkatPhrase expr 0 ts) (ap (cons_token (Separator Comma) l.0) q.spelled) (expr_is s ts ((d.0).0, cons_token (Separator Comma) l.0 (d.0).1) l.1) in
      record {
        item = equal (leaf at text) p.phrase l.0 q.phrase c.0;
        spelled = ap (λ (us : List Lexeme). lexeme (Keyword word.Equal) at text ∷ us) p.spelled;
        obeys = (p.obeys, q.obeys);
        fits = (p.fits, q.fits);
      }

  item_found : (s : S) (ts : List Lexeme) (y : S × List Lexeme) → item_by g s ts ≡ Ok y → ItemFound ts y.1
  item_found s [] y e = absurd cc
  item_found s (lexeme (Keyword word.Test) at text ∷ ts) y e =
      let a = declaration_found g.declare_test s ts y e in
      record { item = tests (leaf at text) a.0 a.1; spelled = ap (λ (us : List Lexeme). lexeme (Keyword word.Test) at text ∷ us) a.2; obeys = tt; fits = tt }
  item_found s (lexeme (Keyword word.Action) at text ∷ ts) y e =
      let a = declaration_found g.declare_action s ts y e in
      record { item = actions (leaf at text) a.0 a.1; spelled = ap (λ (us : List Lexeme). lexeme (Keyword word.Action) at text ∷ us) a.2; obeys = tt; fits = tt }
  item_found s (lexeme (Keyword word.Equal) at text ∷ ts) y e = equal_found s at text ts y e
  item_found s (lexeme _ at text ∷ ts) y e = absurd cc

  within_found : (n : ℕ) (s t : S) (ts : List Lexeme) → items_within (item_by g) n s ts ≡ Ok t → (items : List GkatItem) × AreSpelledBy items ts
  within_found zero s t ts e = absurd cc
  within_found (suc n) s t [] e = ([], record { spells = refl; obey = tt; fit = tt })
  within_found (suc n) s t (l ∷ ts) e =
      let a = bind_ok (item_by g s (l ∷ ts)) (λ x. items_within (item_by g) n x.0 x.1) t e in
      let more = within_found n (a.0).0 t (a.0).1 a.2 in
      let found = subst (λ (r : List Lexeme). ItemFound (l ∷ ts) r) (more.1).spells (item_found s (l ∷ ts) a.0 a.1) in
      (found.item ∷ more.0, record { spells = found.spelled; obey = (found.obeys, (more.1).obey); fit = (found.fits, (more.1).fit) })

  pub items_found : (s t : S) (ts : List Lexeme) → items_by g s ts ≡ Ok t → (items : List GkatItem) × AreSpelledBy items ts
  items_found s t ts e = within_found (suc (length ts)) s t ts e
