-- The chain made from tokens is the chain of their phrase.
use Rattle.std.proofs.Common.{◌≡◌, ℕ, List, [], ◌∷◌, false, Result, Ok, Err, refl}
use Rattle.kat_model.specs.Trees.{Term}
use Rattle.text_parser.specs.declared.fault.TextFault.{TextFault}
use Rattle.text_parser.specs.declared.terminal.Terminal.TheVariants.{And, Compares, Dot, Or, Plus, Star}
use Rattle.text_parser.specs.Lexemes.{Lexeme}
use Rattle.text_parser.specs.Parsed.{◌>>=◌, before, change, place_of}
use Rattle.text_parser.specs.Actions.{context}
use Rattle.text_parser.specs.Phrases.{Symbol, term, Phrase, cons_token, sum_terminal, yield_before, MeetsLookahead}
use Rattle.text_parser.specs.Phrases.{one_prod, more_prods, one_star, more_stars, bare, starred, zero_unit, one_unit, name_unit, not_unit, square_unit, round_unit, one_conj, more_conjs, one_lit, more_lits, true_lit, false_lit, name_lit, not_lit, round_lit, relation_lit, one_mul, more_muls, one_fac, more_facs, zero_fac, one_fac_number, number_fac, wide_fac, name_fac, round_fac}
use Rattle.text_parser.specs.Folds.{fold}
use Rattle.text_parser.specs.Ends.{Ends}
use Rattle.text_parser.proofs.ParserCompleteness.{term_parsed}
use Rattle.text_parser.proofs.Longest.{longest}
use Rattle.text_parser.specs.declared.extent.Extent.{Extent}
use Rattle.text_parser.specs.ScopeParts.{ScopeParts}
use Rattle.text_parser.specs.Measuring.{extents}
use Rattle.text_parser.specs.Building.{trees}
use Rattle.chain_rules.specs.Chains.{ChainTree}
use Rattle.chain_proofs.specs.ChainMaking.{total_with, sized_term, making_chain}
use Rattle.chain_proofs.specs.ChainFolds.{sized_fold, fold_chain}
use Rattle.chain_proofs.specs.Laws.{ChainsAreMade}
use Rattle.chain_proofs.proofs.ChainCompleteness.{chain_read}

-- a phrase begins at the same place whatever follows it
first_place : {x : Symbol} (p : Phrase x) (ts us : List Lexeme) → place_of (yield_before p ts) ≡ place_of (yield_before p us)
first_place (one_prod p) ts us = first_place p ts us
first_place (more_prods p l t) ts us = first_place p (cons_token Plus l (yield_before t ts)) (cons_token Plus l (yield_before t us))
first_place (one_star s) ts us = first_place s ts us
first_place (more_stars s l p) ts us = first_place s (cons_token Dot l (yield_before p ts)) (cons_token Dot l (yield_before p us))
first_place (bare u) ts us = first_place u ts us
first_place (starred u l) ts us = first_place u (cons_token Star l ts) (cons_token Star l us)
first_place (zero_unit l) ts us = refl
first_place (one_unit l) ts us = refl
first_place (name_unit l) ts us = refl
first_place (not_unit l u) ts us = refl
first_place (square_unit l c r) ts us = refl
first_place (round_unit l t r) ts us = refl
first_place (one_conj c) ts us = first_place c ts us
first_place (more_conjs c l d) ts us = first_place c (cons_token Or l (yield_before d ts)) (cons_token Or l (yield_before d us))
first_place (one_lit x) ts us = first_place x ts us
first_place (more_lits x l c) ts us = first_place x (cons_token And l (yield_before c ts)) (cons_token And l (yield_before c us))
first_place (true_lit l) ts us = refl
first_place (false_lit l) ts us = refl
first_place (name_lit l) ts us = refl
first_place (not_lit l x) ts us = refl
first_place (round_lit l c r) ts us = refl
first_place (relation_lit e l r f) ts us = first_place e (cons_token (Compares r) l (yield_before f ts)) (cons_token (Compares r) l (yield_before f us))
first_place (one_mul m) ts us = first_place m ts us
first_place (more_muls m l minus e) ts us = first_place m (cons_token (sum_terminal minus) l (yield_before e ts)) (cons_token (sum_terminal minus) l (yield_before e us))
first_place (one_fac x) ts us = first_place x ts us
first_place (more_facs x l m) ts us = first_place x (cons_token Star l (yield_before m ts)) (cons_token Star l (yield_before m us))
first_place (zero_fac l) ts us = refl
first_place (one_fac_number l) ts us = refl
first_place (number_fac l n) ts us = refl
first_place (wide_fac l) ts us = refl
first_place (name_fac l) ts us = refl
first_place (round_fac l e r) ts us = refl

-- measuring a term and then building it
sized_same : (ts : List Lexeme) (m : Result Extent TextFault) (n : ℕ → Result ℕ TextFault) (t : Result Term TextFault) →
    (before ts m >>= λ m. n (m.0).nodes >>= λ all. change {W = Term × ℕ} (λ (e : Term). (e, all)) (before ts t)) ≡ before ts (m >>= λ m. n m.nodes >>= λ all. t >>= λ e. Ok (e, all))
sized_same ts (Err e) n t = refl
sized_same ts (Ok m) n t = by_total (n m.nodes) where
  by_tree : (all : ℕ) (t' : Result Term TextFault) → change {W = Term × ℕ} (λ (e : Term). (e, all)) (before ts t') ≡ before ts (t' >>= λ e. Ok (e, all))
  by_tree all (Ok e) = refl
  by_tree all (Err f) = refl

  by_total : (r : Result ℕ TextFault) → (r >>= λ all. change {W = Term × ℕ} (λ (e : Term). (e, all)) (before ts t)) ≡ before ts (r >>= λ all. t >>= λ e. Ok (e, all))
  by_total (Ok all) = by_tree all t
  by_total (Err f) = refl

module _ (w : ScopeParts) where
  reads : (d total : ℕ) (p : Phrase term) (ts : List Lexeme) → MeetsLookahead p ts → Ends term ts → sized_term w d total (yield_before p ts) ≡ before ts (sized_fold w d total p)
  reads d total p ts o last =
      let c = context d false false in
      rw (term_parsed (extents w) p c ts o (longest p ts last), term_parsed (trees w) p c ts o (longest p ts last), first_place p ts [])
      (sized_same ts (fold (extents w) c p (λ m. m)) (total_with (place_of (yield_before p [])) total) (fold (trees w) c p (λ e. e ∷ [])))

  taken : (r : Result (ChainTree × ℕ) TextFault) → (before [] r >>= λ x. Ok (x.0).0) ≡ (r >>= λ x. Ok x.0)
  taken (Ok x) = refl
  taken (Err e) = refl

pub chains_are_made : ChainsAreMade
chains_are_made w p o obey =
    rw (chain_read (making_chain w) (sized_fold w) (reads w) p 0 0 [] refl refl o obey) (taken w (fold_chain (making_chain w) (sized_fold w) 0 0 p))
