use Rattle.gkat_front.proofs.products.+product_of_last.Given as goal

abbrev pub decreases-product_of_last : goal.decreases-product_of_last
decreases-product_of_last l = l.count
