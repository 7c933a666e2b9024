-- What is proved of the definitions.
pub mod Adequate
pub mod Agree
pub mod Closure
pub mod EdgedLaws
pub mod SoundLaws
pub mod Tabs
pub mod Across
pub mod Corner
pub mod Fans
pub mod Keys
pub mod Pairs
pub mod Uses
pub mod Fixed
