-- The chain that bytes spell is the result of both passes over their tokens.
use Rattle.std.proofs.Common.{◌≡◌, ℕ, List, [], map, Result, Ok, sym, ap, ◌∙◌}
use Rattle.text_parser.specs.declared.fault.TextFault.{TextFault}
use Rattle.text_parser.specs.declared.token.Token.{Token}
use Rattle.text_parser.specs.TokenParts.{TokenParts, parts_of_tokens}
use Rattle.text_parser.specs.Lex.{Lexes}
use Rattle.text_parser.specs.Lexemes.{lexeme_of, lexemes}
use Rattle.text_parser.specs.Parsed.{◌>>=◌}
use Rattle.text_parser.proofs.ParserSoundness.{bind_ok}
use Rattle.text_parser.specs.ScopeParts.{ScopeParts}
use Rattle.chain_rules.specs.Chains.{ChainTree}
use Rattle.chain_proofs.specs.ChainPhrases.{chain_onto}
use Rattle.chain_proofs.specs.ChainScans.{scan_chain}
use Rattle.chain_proofs.specs.ChainMaking.{make_chain}
use Rattle.problem_file.specs.NumberedScopes.{numbered_scope}
use Rattle.chain_proofs.specs.Reads.{Reads, tested}
use Rattle.chain_proofs.proofs.ScannedChains.{chains_are_scanned}
use Rattle.chain_proofs.proofs.MadeChains.{chains_are_made}

module _ (tests actions : ℕ) where
  abbrev w : ScopeParts
  w = numbered_scope tests actions

  pub read_given : (bytes : List ℕ) (ms : List TokenParts) (c : ChainTree) → Lexes bytes ms → tested w (map lexeme_of ms) ≡ Ok c → Reads tests actions bytes c
  read_given bytes ms c lexes e =
      let ts = map lexeme_of ms in
      let a = bind_ok (scan_chain ts) (λ u. make_chain w ts) c e in
      let i = (chains_are_scanned ts).0 a.1 in
      let made : make_chain w (chain_onto i.phrase []) ≡ Ok c = ap (make_chain w) (sym i.spelled) ∙ a.2 in
      record { parts_of_tokens = ms; lexes = lexes; spells = i; chain = sym (chains_are_made w i.phrase i.first_obeys i.obey) ∙ made }

  pub tests_pass : (bytes : List ℕ) (c : ChainTree) (x : Reads tests actions bytes c) → tested w (map lexeme_of x.parts_of_tokens) ≡ Ok c
  tests_pass bytes c x =
      let ts = map lexeme_of x.parts_of_tokens in
      let i = x.spells in
      let scanned : scan_chain ts ≡ Ok tt = (chains_are_scanned ts).1 i in
      let made : make_chain w ts ≡ Ok c = ap (make_chain w) i.spelled ∙ chains_are_made w i.phrase i.first_obeys i.obey ∙ x.chain in
      ap (λ (m : Result (Unit {0}) TextFault). m >>= λ u. make_chain w ts) scanned ∙ made

  -- the same for the tokens as the program reports them
  pub chain_given : (scope : ScopeParts) (text : List ℕ) (ts : List Token) (c : ChainTree) → scope ≡ w → Lexes text (parts_of_tokens ts) → tested scope (lexemes ts) ≡ Ok c → Reads tests actions text c
  chain_given scope text ts c same lexes e = read_given text (parts_of_tokens ts) c lexes (ap (λ (v : ScopeParts). tested v (lexemes ts)) (sym same) ∙ e)
