-- The chain of a text, or the first fault of its names and sizes.
use Rattle.std.specs.Prelude.{ℕ, ◌+◌, List, [], ◌∷◌, ◌++◌, length, false, ◌||◌, if◌then◌else◌, nat_lt, codes, Option, None, Some, Result, Ok, Err}
use Rattle.std.specs.Str.{bytes_eq}
use Rattle.std.proofs.Common.{arith}
use Rattle.kat_model.specs.declared.limits.TheConstants.{MAX_TERM_NODES, MAX_TEXT_NODES}
use Rattle.kat_model.specs.Trees.{Term}
use Rattle.text_parser.specs.declared.fault.TextFault.{TextFault}
use Rattle.text_parser.specs.declared.fault.TextFault.TheVariants.{UnknownName, TooLarge}
use Rattle.text_parser.specs.Lexemes.{Lexeme}
use Rattle.text_parser.specs.Parsed.{Parsed, ◌>>=◌, change, place_of}
use Rattle.text_parser.specs.Actions.{context}
use Rattle.text_parser.specs.Terms.{parse_term, choice}
use Rattle.text_parser.proofs.Within.{Within}
use Rattle.text_parser.proofs.TermSteps.{term_read_short}
use Rattle.text_parser.specs.declared.extent.Extent.{Extent}
use Rattle.text_parser.specs.ScopeParts.{ScopeParts}
use Rattle.text_parser.specs.Measuring.{extents}
use Rattle.text_parser.specs.Building.{trees}
use Rattle.chain_rules.specs.declared.chain.Axiom.{Axiom}
use Rattle.chain_rules.specs.declared.chain.Axiom.TheVariants.{Assoc, Comm, Idem, Zero, SeqAssoc, OneLeft, OneRight, ZeroLeft, ZeroRight, DistLeft, DistRight, UnfoldLeft, UnfoldRight, Bool as BoolRule, Hyp, Lfp, Rfp}
use Rattle.chain_rules.specs.Chains.{ChainTree, alone, equal_by, equal_by_inner}
use Rattle.chain_rules.specs.ChainViews.{with_line}
use Rattle.chain_proofs.specs.ChainActions.{LeavesFewer, ChainActions}
use Rattle.chain_proofs.specs.ChainWalks.{whole_chain, parse_chain}

-- the axiom with this name; the number selects the hypothesis of `hyp`
abbrev pub axiom_named : List ℕ → ℕ → Option Axiom
axiom_named name n =
    if bytes_eq name (codes "assoc") then Some Assoc
    else if bytes_eq name (codes "comm") then Some Comm
    else if bytes_eq name (codes "idem") then Some Idem
    else if bytes_eq name (codes "zero") then Some Zero
    else if bytes_eq name (codes "seqassoc") then Some SeqAssoc
    else if bytes_eq name (codes "oneleft") then Some OneLeft
    else if bytes_eq name (codes "oneright") then Some OneRight
    else if bytes_eq name (codes "zeroleft") then Some ZeroLeft
    else if bytes_eq name (codes "zeroright") then Some ZeroRight
    else if bytes_eq name (codes "distleft") then Some DistLeft
    else if bytes_eq name (codes "distright") then Some DistRight
    else if bytes_eq name (codes "unfoldleft") then Some UnfoldLeft
    else if bytes_eq name (codes "unfoldright") then Some UnfoldRight
    else if bytes_eq name (codes "bool") then Some BoolRule
    else if bytes_eq name (codes "hyp") then Some (Hyp n)
    else if bytes_eq name (codes "lfp") then Some Lfp
    else if bytes_eq name (codes "rfp") then Some Rfp
    else None

-- fails with `UnknownName` if the name is not a rule
abbrev pub known_axiom : ℕ → Option Axiom → Result Axiom TextFault
known_axiom at None = Err (UnknownName at)
known_axiom at (Some rule) = Ok rule

-- the number of nodes of all terms so far; a term may have `MAX_TERM_NODES` nodes, and all terms together
-- `MAX_TEXT_NODES`
abbrev pub total_with : ℕ → ℕ → ℕ → Result ℕ TextFault
total_with at total nodes = if nat_lt MAX_TERM_NODES nodes || nat_lt MAX_TEXT_NODES (total + nodes) then Err (TooLarge at) else Ok (total + nodes)

-- the term at the start, and the number of nodes of all terms so far
abbrev pub sized_term : ScopeParts → ℕ → ℕ → List Lexeme → Parsed (Term × ℕ)
sized_term w d total ts =
    parse_term (extents w) choice (context d false false) ts
    >>= λ m. total_with (place_of ts) total (m.0).nodes
    >>= λ all. change (λ e. (e, all)) (parse_term (trees w) choice (context d false false) ts)

pub sized_shorter : (w : ScopeParts) (d total : ℕ) (ts : List Lexeme) → LeavesFewer ts (sized_term w d total ts)
sized_shorter w d total ts = by_extent (parse_term (extents w) choice (context d false false) ts) where
  by_tree : (all : ℕ) (t : Parsed Term) → Within (length ts + 0) t → LeavesFewer {V = Term × ℕ} ts (change (λ e. (e, all)) t)
  by_tree all (Ok x) h = omega arith
  by_tree all (Err e) h = tt

  by_total : (n : Result ℕ TextFault) → LeavesFewer {V = Term × ℕ} ts (n >>= λ all. change (λ e. (e, all)) (parse_term (trees w) choice (context d false false) ts))
  by_total (Ok all) = by_tree all (parse_term (trees w) choice (context d false false) ts) (term_read_short (trees w) choice (context d false false) ts)
  by_total (Err e) = tt

  by_extent : (m : Parsed Extent) → LeavesFewer {V = Term × ℕ} ts (m >>= λ m. total_with (place_of ts) total (m.0).nodes >>= λ all. change (λ e. (e, all)) (parse_term (trees w) choice (context d false false) ts))
  by_extent (Ok m) = by_total (total_with (place_of ts) total (m.0).nodes)
  by_extent (Err e) = tt

-- the chain extended by a line at its end
abbrev pub extended : ChainTree → Term → Axiom → List ℕ → Option ChainTree → ChainTree
extended (alone e) f rule path inner = with_line e rule path inner (alone f)
extended (equal_by e r p rest) f rule path inner = equal_by e r p (extended rest f rule path inner)
extended (equal_by_inner e r p c rest) f rule path inner = equal_by_inner e r p c (extended rest f rule path inner)

-- makes the chain from its parts, with the names of a scope
abbrev pub making_chain : ScopeParts → ChainActions ℕ Term Axiom (List ℕ) ChainTree
making_chain w = record {
  term = sized_term w;
  shorter = sized_shorter w;
  rule = λ at name n. known_axiom at (axiom_named name n);
  whole = [];
  part = λ p n. p ++ n ∷ [];
  first = alone;
  line = extended;
}

-- builds the chain from tokens that passed the syntax test
abbrev pub make_chain : ScopeParts → List Lexeme → Result ChainTree TextFault
make_chain w ts = parse_chain (making_chain w) (whole_chain 0) 0 ts >>= λ x. Ok (x.0).0
