use Rattle.kat_model.specs.Relations.{frame_of}
use Rattle.kat_model.proofs.BalancedSums.{sum_of_relations}
use Rattle.kat_model.proofs.ProductRelations.{product_of_relations}
use Rattle.kat_model.proofs.laws.product_relates_in_turn.Goals as goal

pub returns : goal.returns
returns c t es i j = record { of_product = product_of_relations (frame_of t) es i j; of_sum = sum_of_relations (frame_of t) i j es }
