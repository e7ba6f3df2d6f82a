use Rattle.std.proofs.Common.{sym, ap, ◌∙◌, Option, ℕ}
use Rattle.std.specs.Option.{unwrap_or}
use Rattle.walk_pairs.proofs.KeySets.{found_there}
use Rattle.walk_pairs.proofs.cert.term_number.Goals as goal

pub unwrap-requires : goal.unwrap-requires
unwrap-requires c = c.get_index_of.ensures.found ∙ found_there c.args.term c.args.terms.now.keys c.requires

pub returns : goal.returns
returns c = ap (λ (o : Option ℕ). unwrap_or o 0) (sym c.unwrap.ensures ∙ c.get_index_of.ensures.index)
