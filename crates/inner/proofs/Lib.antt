pub mod laws
mod Order
