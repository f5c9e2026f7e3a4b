-- A page that grows by the rules of the console is a layout of its document.
pub mod State
pub mod Back
pub mod Margin
pub mod Bound
pub mod Pads
pub mod Alone
pub mod Split
pub mod Blank
pub mod Kept
pub mod Reach
pub mod Needed
pub mod Room
pub mod AtMargin
pub mod Cuts
pub mod Turned
pub mod Whole
pub mod Stretches
