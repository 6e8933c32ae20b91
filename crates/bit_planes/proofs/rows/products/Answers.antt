use Rattle.bit_planes.proofs.Numbers.{row_multiplied}
use Rattle.bit_planes.proofs.rows.products.Goals as goal

pub returns : goal.returns
returns c = row_multiplied c.args.x c.args.y c.product_of_halves.result c.product_of_halves-2.result c.product_of_halves-3.result c.product_of_halves-4.result c.product_of_halves-5.result c.product_of_halves-6.result c.product_of_halves-7.result c.product_of_halves-8.result
    c.product_of_halves.ensures c.product_of_halves-2.ensures c.product_of_halves-3.ensures c.product_of_halves-4.ensures c.product_of_halves-5.ensures c.product_of_halves-6.ensures c.product_of_halves-7.ensures c.product_of_halves-8.ensures
