-- What the contracts cite: how the words of the edge table tell users, and what single steps of the code leave.
pub mod Users
