pub mod held
