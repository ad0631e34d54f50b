-- an order's instructions, and what stands behind them
pub mod Parts
-- what the private writers leave
pub mod Wrote
