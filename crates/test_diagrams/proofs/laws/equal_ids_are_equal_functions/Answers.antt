use Rattle.test_diagrams.proofs.Apart.{same_id_same_function, same_function_same_id, different_apart}
use Rattle.test_diagrams.proofs.laws.equal_ids_are_equal_functions.Goals as goal

pub returns : goal.returns
returns c d r = record {
  same = λ i j h k. (same_id_same_function d i j, same_function_same_id d r i j h k);
  apart = different_apart d r;
}
