-- the cells of a deck by its line 1
pub mod Count
-- preserved float registers of a mask, and their stack cells
pub mod Mask
-- when the numbers of line 1 hold
pub mod Counts
-- constants: bits, numbers and labels
pub mod Constant
-- what each order uses: registers, cells, constants, labels
pub mod Uses
-- stack sizes
pub mod Align
