-- The balance of any chain, scale and rates: flow, rounding, order.
pub mod Inflow
pub mod Origin
pub mod Flow
pub mod MemberOrder
pub mod Reported
pub mod Numerators
pub mod Equations
pub mod Rounding
pub mod AlongChain
pub mod Order
pub mod Bounds
pub mod Monotone
pub mod SoundFactors
