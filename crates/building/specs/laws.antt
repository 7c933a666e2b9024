-- What is proved of the definitions.
pub mod Accepted
pub mod Agree
pub mod Beside
pub mod Findings
pub mod History
pub mod Lists
pub mod Load
pub mod Loadable
pub mod Rings
pub mod Sound
pub mod Thirteen
