-- Demand 2, proved. Assumes nothing.
use Rattle.orders.specs.Does.{Claim}
use Rattle.orders.proofs.Cases.{by_case}

pub order_does : Claim
order_does Q places g start here o h s a c = by_case Q places g start here s o h a c
