-- What fits the parts of a derivation, where each rule keeps it.
use Rattle.std.proofs.Common.{◌≡◌, ℕ, suc, List, [], ◌∷◌, ◌++◌, length, Some, slice_get, arith}
use Rattle.text_parser.specs.TokenParts.{TokenParts}
use Rattle.flow_syntax.specs.declared.rule.TheConstants.{OPEN_ROUND}
use Rattle.flow_syntax.specs.declared.rule.Mark.{Mark}
use Rattle.flow_syntax.specs.declared.rule.Part.{Part}
use Rattle.flow_syntax.specs.declared.rule.Part.TheVariants.{Token, Opening, Closing, Phrase}
use Rattle.flow_syntax.specs.declared.rule.Start.{Start}
use Rattle.flow_syntax.specs.declared.rule.Start.TheVariants.{Take, Open, Group, Otherwise}
use Rattle.flow_syntax.specs.declared.rule.Step.{Step}
use Rattle.flow_syntax.specs.declared.rule.Step.TheVariants.{Shift, Apply, Match, Close}
use Rattle.flow_syntax.specs.Rules.{RuleParts, rule_parts}
use Rattle.flow_syntax.specs.Derivations.{MayStart, IsLeftmost}
use Rattle.flow_syntax.specs.Values.{Actions, values}

-- the first token of a rule before other parts
abbrev pub started : Start → List Part → List Part
started (Take t) ps = Token t ∷ ps
started (Open t) ps = Opening t ∷ ps
started (Group g) ps = Opening OPEN_ROUND ∷ ps
started Otherwise ps = ps

-- values fit the parts that they are of, with another first step
pub record Keeps {V : Type 0} (rules : List RuleParts) (g : Actions V) (Fits : List Part → List V → Type 0) : Type 0 where
  pub nothing : Fits [] []
  pub token : (t : ℕ) (ps : List Part) (x : TokenParts) (vs : List V) → Fits ps vs → Fits (Token t ∷ ps) (g.leaf x ∷ vs)
  pub opening : (t : ℕ) (ps : List Part) (x : TokenParts) (vs : List V) → Fits ps vs → Fits (Opening t ∷ ps) (g.leaf x ∷ vs)
  pub closing : (ps : List Part) (vs : List V) → Fits ps vs → Fits (Closing ∷ ps) vs
  pub rule : (k n : ℕ) (start : Start) (parts ps : List Part) (vs : List V) → slice_get rules k ≡ Some (rule_parts n start parts) → Fits (started start (parts ++ ps)) vs → Fits (Phrase n ∷ ps) (g.apply k vs)

first_fits : {V : Type 0} (rules : List RuleParts) (g : Actions V) (Fits : List Part → List V → Type 0) → Keeps rules g Fits → (start : Start) (t : ℕ) (ps : List Part) (x : TokenParts) (vs : List V) → MayStart start t → Fits ps vs → Fits (started start ps) (g.leaf x ∷ vs)
first_fits rules g Fits k (Take u) t ps x vs m h = k.token u ps x vs h
first_fits rules g Fits k (Open u) t ps x vs m h = k.opening u ps x vs h
first_fits rules g Fits k (Group n) t ps x vs m h = k.opening OPEN_ROUND ps x vs h
first_fits rules g Fits k Otherwise t ps x vs m h = absurd m

one_less : (m n : ℕ) → suc m ≡ suc n → m ≡ n
one_less m n e = omega (arith, e)

pub values_fit : {V : Type 0} (rules : List RuleParts) (g : Actions V) (Fits : List Part → List V → Type 0) → Keeps rules g Fits → (ps : List Part) (steps : List Step) (ms : List Mark) (ts : List TokenParts) → length ms ≡ length ts → IsLeftmost rules ps steps ms → Fits ps (values g steps ts)
values_fit rules g Fits k [] [] [] [] e l = k.nothing
values_fit rules g Fits k [] [] [] (x ∷ ts) e l = absurd (omega (arith, e))
values_fit rules g Fits k (Token t ∷ ps) (Match ∷ steps) (m ∷ ms) (x ∷ ts) e (same, l) = k.token t ps x (values g steps ts) (values_fit rules g Fits k ps steps ms ts (one_less _ _ e) l)
values_fit rules g Fits k (Token t ∷ ps) (Match ∷ steps) (m ∷ ms) [] e l = absurd (omega (arith, e))
values_fit rules g Fits k (Opening t ∷ ps) (Match ∷ steps) (m ∷ ms) (x ∷ ts) e (same, l) = k.opening t ps x (values g steps ts) (values_fit rules g Fits k ps steps ms ts (one_less _ _ e) l)
values_fit rules g Fits k (Opening t ∷ ps) (Match ∷ steps) (m ∷ ms) [] e l = absurd (omega (arith, e))
values_fit rules g Fits k (Closing ∷ ps) (Close ∷ steps) ms ts e l = k.closing ps (values g steps ts) (values_fit rules g Fits k ps steps ms ts e l)
values_fit rules g Fits k (Phrase n ∷ ps) (Shift i ∷ steps) (m ∷ ms) (x ∷ ts) e (start, parts, is, may, l) =
    k.rule i n start parts ps _ is (first_fits rules g Fits k start _ (parts ++ ps) x (values g steps ts) may (values_fit rules g Fits k (parts ++ ps) steps ms ts (one_less _ _ e) l))
values_fit rules g Fits k (Phrase n ∷ ps) (Shift i ∷ steps) (m ∷ ms) [] e l = absurd (omega (arith, e))
values_fit rules g Fits k (Phrase n ∷ ps) (Apply i ∷ steps) ms ts e (parts, is, l) =
    k.rule i n Otherwise parts ps (values g steps ts) is (values_fit rules g Fits k (parts ++ ps) steps ms ts e l)
values_fit rules g Fits k ps steps ms ts e l = absurd l
