-- What the contracts cite: how arrays and numbers stand for the definitions, and what single steps of the code leave.
pub mod Reaching
