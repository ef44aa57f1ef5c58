use Rattle.tableau_laws.proofs.Orders.{first_law, order_law}
use Rattle.tableau_laws.proofs.rules.places_are_in_order.Goals as goal

pub returns : goal.returns
returns c = record { first = first_law; order = order_law }
